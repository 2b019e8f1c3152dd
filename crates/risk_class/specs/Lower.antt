-- A lower column, a lower row or controlled ground loses no class and raises none. The proofs are in proofs/LowerHolds.antt.
use Rattle.std.specs.Prelude.{◌≡◌, true, ℕ, ◌≤◌, ◌≤ℤ◌}
use Rattle.risk_class.specs.ClassTable.{intrinsic_class_of}
use Rattle.risk_class.specs.Mitigation.{is_entry, final_class_of}

pub record LowerInTable (column row controlled column' row' controlled' : ℕ) : Type 0 where
  pub column_ge : 1 ≤ column'
  pub column_le : column' ≤ column
  pub row_ge : 2 ≤ row'
  pub row_le : row' ≤ row
  pub controlled_ge : controlled ≤ controlled'
  pub controlled_le : controlled' ≤ 1

-- it loses no intrinsic class, and raises none
abbrev pub IntrinsicLower : Type 0
IntrinsicLower = (column row controlled column' row' controlled' : ℕ) → LowerInTable column row controlled column' row' controlled'
    → (intrinsic_class_of column row controlled).refusal ≡ 0
    → ((intrinsic_class_of column' row' controlled').refusal ≡ 0)
    × ((intrinsic_class_of column' row' controlled').class ≤ (intrinsic_class_of column row controlled).class)

pub record LowerEntry (column class column' class' : ℕ) : Type 0 where
  pub column_ge : 1 ≤ column'
  pub column_le : column' ≤ column
  pub entry : is_entry column' class' ≡ true
  pub class_le : class' ≤ class

-- a lower column with an entry that isn't higher loses no final class, and raises none
abbrev pub FinalLower : Type 0
FinalLower = (column class column' class' word : ℕ) → LowerEntry column class column' class'
    → (final_class_of column class word).refusal ≡ 0
    → ((final_class_of column' class' word).refusal ≡ 0)
    × ((final_class_of column' class' word).class ≤ℤ (final_class_of column class word).class)

-- the two together: the class table, and then the mitigation word over the class that it gave
abbrev pub WorkingLower : Type 0
WorkingLower = (column row controlled column' row' controlled' word : ℕ) → LowerInTable column row controlled column' row' controlled'
    → (intrinsic_class_of column row controlled).refusal ≡ 0
    → (final_class_of column (intrinsic_class_of column row controlled).class word).refusal ≡ 0
    → ((final_class_of column' (intrinsic_class_of column' row' controlled').class word).refusal ≡ 0)
    × ((final_class_of column' (intrinsic_class_of column' row' controlled').class word).class
    ≤ℤ (final_class_of column (intrinsic_class_of column row controlled).class word).class)
