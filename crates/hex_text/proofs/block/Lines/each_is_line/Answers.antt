use Rattle.std.proofs.Common.{ℕ, ◌+◌, ◌*◌, Bool, ◌&&◌, sym, refl, ◌∙◌, ap₂}
use Rattle.arithmetic.specs.Lists.{every, part}
use Rattle.arithmetic.proofs.ListLaws.{every_one}
use Rattle.hex_text.specs.Digits.{is_line}
use Rattle.hex_text.specs.Blocks.{each_is_line}
use Rattle.hex_text.proofs.block.Lines.each_is_line.Goals as goal

pub loop-k-init : goal.loop-k-init
unfolding each_is_line every
loop-k-init c = refl

pub loop-k-preserved : goal.loop-k-preserved
unfolding each_is_line
loop-k-preserved c =
    let self = c.args.self in
    let is_line_at : ℕ → Bool = λ k. is_line (part c.args.s.now (self.start + self.each * k) (self.start + self.each * k + self.each)) in
    ap₂ (λ (x y : Bool). x && y) c.loop-k.invariant c.is_line-good.ensures ∙ sym (every_one is_line_at c.loop-k.k)
