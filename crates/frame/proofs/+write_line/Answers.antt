use Rattle.std.proofs.Common.{arith, rules}
use Rattle.frame.proofs.LineLaws.{first_long, first_written, end_written}
use Rattle.frame.proofs.+write_line.Goals as goal

pub split_at_mut-part-requires : goal.split_at_mut-part-requires
split_at_mut-part-requires t c = omega (arith, first_long _ c.in-Some.ensures.cases)

pub write_line-requires : goal.write_line-requires
write_line-requires t c = (search rules, omega (arith, first_long _ c.in-Some.ensures.cases))

pub returns-in_default : goal.returns-in_default
returns-in_default t c = end_written _ _ c.in_default.ensures.cases (omega arith)

pub returns : goal.returns
returns t c =
    let parts = c.split_at_mut-part.ensures in
    first_written _ c.in-Some.ensures.cases _ (rw parts.front_len at c.write_digits.ensures) (rw parts.back at c.write_line.ensures)
