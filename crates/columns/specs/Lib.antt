pub mod Bracket
pub mod Column
pub mod ColumnAtMost
pub mod ExactColumn
pub mod SizeColumn
pub mod SizeColumnPromise
