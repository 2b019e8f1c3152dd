use mathlib.Core.Path.{sym, ap, ◌∙◌}
use Prim.Native.Nat.{ℕ}
use native.Mathlib.Omega.{arith}
use borrow.Author.Tests.{ne_eqb}
use Rattle.std.proofs.Common.{Some}
use Rattle.map.specs.TableRow.{table_row, table_row_or_zero}
use Rattle.map.proofs.TableRowLaws.{row_ge}
use Rattle.map.proofs.density.table_row.Goals as goal

-- `map::density::table_row` meets its contract.

pub returns-then-people-area : goal.returns-then-people-area
unfolding table_row_or_zero
returns-then-people-area c = simp c.if-people-area.true

pub returns : goal.returns
unfolding table_row_or_zero
returns c =
    let row = table_row c.args.people c.args.area in
    let some = ne_eqb row 0 (λ e. omega (arith, row_ge c.args.area c.args.people)) in
    ap (λ (r : ℕ). Some r) c.row_of.ensures ∙ sym (simp (c.if-people-area.false, some))
