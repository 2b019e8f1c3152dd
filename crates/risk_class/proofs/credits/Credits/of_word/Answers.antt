use native.Mathlib.Omega.{arith}
use Rattle.risk_class.proofs.CreditLaws.{credit_small}
use Rattle.risk_class.proofs.credits.Credits.of_word.Goals as goal

-- `Credits::of_word` meets its contract.

pub overflow_add-result : goal.overflow_add-result
overflow_add-result c =
    omega (arith, credit_small c.args.word 0 (omega arith) c.in_ok-a.ensures, credit_small c.args.word 1 (omega arith) c.in_ok-b.ensures)

pub overflow_add-result-2 : goal.overflow_add-result-2
overflow_add-result-2 c =
    omega (arith, credit_small c.args.word 0 (omega arith) c.in_ok-a.ensures, credit_small c.args.word 1 (omega arith) c.in_ok-b.ensures, credit_small c.args.word 2 (omega arith) c.in_ok-c.ensures)
