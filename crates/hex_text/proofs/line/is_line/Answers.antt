use Rattle.std.proofs.Common.{◌≡◌, ℕ, Bool, ◌&&◌, eqb, leb, length, get_or, sym, refl, ap, ◌∙◌, ap₂, arith}
use Rattle.arithmetic.specs.Lists.{every}
use Rattle.arithmetic.proofs.ListLaws.{every_one}
use Rattle.hex_text.specs.Digits.{is_digit}
use Rattle.hex_text.proofs.LineLaws.{empty_no_line, line_is, max_within}
use Rattle.hex_text.proofs.line.is_line.Goals as goal

pub returns-in_default : goal.returns-in_default
returns-in_default c = sym (empty_no_line _ c.in_default.ensures.cases)

pub loop-digit-init : goal.loop-digit-init
unfolding every
loop-digit-init c = refl

pub loop-digit-preserved : goal.loop-digit-preserved
loop-digit-preserved c =
    ap (λ (x : ℕ). leb x 5) c.max-largest.ensures ∙ max_within c.loop-digit.largest c.digit_offset.result 5
    ∙ ap₂ ◌&&◌ c.loop-digit.invariant c.digit_offset.ensures ∙ sym (every_one (λ k. is_digit (get_or c.in-Some.digits.now k 0)) c.loop-digit.digit-index)

pub returns : goal.returns
returns c =
    let past : c.loop-digit.digit-index ≡ length c.in-Some.digits.now = omega arith in
    ap (λ (good : Bool). good && eqb c.in-Some.last.now 10) (rw past at c.loop-digit.invariant)
    ∙ sym (line_is _ _ _ c.in-Some.ensures.cases)
