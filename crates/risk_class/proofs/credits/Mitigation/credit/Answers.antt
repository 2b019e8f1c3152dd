use mathlib.Core.Path.{sym, ap, ap₂, ◌∙◌}
use mathlib.Core.Bool.{Bool, cond}
use mathlib.Core.List.{[]}
use Prim.Native.Nat.{ℕ, ◌<◌}
use native.Mathlib.Omega.{arith}
use borrow.Author.Tests.{lt-ltb, le-ltb}
use lib.ListN.{get_or}
use Rattle.std.proofs.Common.{None}
use Rattle.risk_class.specs.Mitigation.{not_offered, credit_table, credit_at, digit_at}
use Rattle.risk_class.specs.PrivateOptions.{unless, place_of}
use Rattle.risk_class.specs.declared.credits.TheConstants.{CREDITS}
use Rattle.risk_class.proofs.CreditLaws.{digit_is, credit_is}
use Rattle.risk_class.proofs.credits.Mitigation.credit.Goals as goal

-- `Mitigation::credit` meets its contract.

pub returns-then-digit-lt4 : goal.returns-then-digit-lt4
unfolding credit_at
returns-then-digit-lt4 c =
    let place = place_of c.args.self in
    let digit = digit_at c.args.word place in
    let e = digit_is c.args.self c.args.word c.place-place.ensures in
    let l : digit < 4 = omega (arith, e, c.if-digit-lt4.true) in
    let entry = get_or (get_or credit_table place []) digit 0 in
    ap₂ (λ (p d : ℕ). get_or (get_or CREDITS p []) d None) c.place-place.ensures e
    ∙ credit_is c.args.self digit l
    ∙ sym (ap (λ (t : Bool). unless not_offered (cond t entry not_offered)) (lt-ltb digit 4 l))

pub returns-else-digit-lt4 : goal.returns-else-digit-lt4
unfolding credit_at
returns-else-digit-lt4 c =
    let place = place_of c.args.self in
    let digit = digit_at c.args.word place in
    let e = digit_is c.args.self c.args.word c.place-place.ensures in
    let entry = get_or (get_or credit_table place []) digit 0 in
    sym (ap (λ (t : Bool). unless not_offered (cond t entry not_offered)) (le-ltb digit 4 (omega (arith, e, c.if-digit-lt4.false))))
