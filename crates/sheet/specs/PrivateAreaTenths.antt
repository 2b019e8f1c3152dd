-- The total that the code takes the tenths of. Only private functions are stated by it.
use Rattle.std.specs.Prelude.{ℕ}
use Rattle.columns.specs.declared.Bracket.{Bracket}
use Rattle.sheet.specs.Lines.{total_of}
use Rattle.sheet.specs.declared.Formula.{Formula}
use Rattle.sheet.specs.declared.Formula.TheVariants.{Whole, SixTenths, GlideOnly}

-- of the full width, line 1 and line 5
abbrev pub total_taken : Formula → ℕ → Bracket → Bracket → Bracket
total_taken Whole a glide line5 = line5
total_taken SixTenths a glide line5 = line5
total_taken GlideOnly a glide line5 = total_of a glide glide
