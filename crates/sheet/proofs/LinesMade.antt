-- The lines as the code makes them, each from those before it: their bounds, and the answer that they make.
use mathlib.Core.Path.{◌≡◌, refl, sym}
use mathlib.Core.Bool.{cond}
use Prim.Native.Nat.{ℕ, ◌≤◌, ◌<◌}
use borrow.Author.Tests.{lt-ltb, le-ltb}
use lib.Dec.{eqb}
use Rattle.refusal.proofs.RefusalLaws.{FollowsFrom, way_out_after}
use Rattle.std.proofs.Common.{Some, None}
use Rattle.columns.specs.Column.{last_limit, column_and_flag_of, column_found}
use Rattle.columns.proofs.ColumnLaws.{found, not_found}
use Rattle.columns.specs.declared.Bracket.{Bracket}
use Rattle.columns.specs.declared.ColumnAndFlag.{ColumnAndFlag}
use Rattle.sheet.specs.Ranges.{dimension_max, speed_max, InRange}
use Rattle.sheet.specs.PrivateBounds.{slide_max, total_max, AtMost}
use Rattle.sheet.specs.Lines.{full_width, glide_of, run_of, saving_of, slide_of, total_of, formula_of, area_of}
use Rattle.sheet.specs.declared.Sheet.{Sheet}
use Rattle.sheet.specs.Sheet.{with_lines, lines_with_size_column, lines_of, refused_sheet, accepted_sheet, range_tests, area_tests, sheet_with_size_column}
use Rattle.sheet.proofs.LineBounds.{slide_max_lem, total_max_lem}
use Rattle.sheet.proofs.RangeLaws.{range_passed}

-- the area's test, after those of the ranges
module _ (w m v size : ℕ) (ranges : InRange w m v) where
  way_out : (n : ℕ) → FollowsFrom (area_tests (lines_of w m v)) n (cond (eqb n 0) (accepted_sheet (lines_with_size_column w m v size)) (refused_sheet n) ≡ sheet_with_size_column w m v size)
  unfolding sheet_with_size_column
  way_out = way_out_after _ _ (range_tests w m v) (area_tests (lines_of w m v)) refl (sym (range_passed w m v ranges)) refl refl

  area_refused : {area : Bracket} → area ≡ (lines_of w m v).area → last_limit < area.high → refused_sheet 4 ≡ sheet_with_size_column w m v size
  area_refused e h = way_out 4 (rw e at (lt-ltb _ _ h))

  area_accepted : {s : Sheet} → s ≡ lines_with_size_column w m v size → s.area.high ≤ last_limit → accepted_sheet s ≡ sheet_with_size_column w m v size
  unfolding lines_with_size_column with_lines
  area_accepted e h = rw e (way_out 0 (rw e at (le-ltb _ _ h)))

module _ (m v : ℕ) {run saving slide : Bracket} (r : run ≡ run_of v) (k : saving ≡ saving_of m) (s : slide ≡ slide_of run saving) where
  pub slide_fits : v ≤ speed_max → AtMost slide slide_max
  slide_fits h = rw (s, r, k) (slide_max_lem m v h)

  module _ (w : ℕ) {total : Bracket} (t : total ≡ total_of (full_width w) glide_of slide) where
    pub total_fits : w ≤ dimension_max → v ≤ speed_max → AtMost total total_max
    total_fits hw hv = rw (t, s, r, k) (total_max_lem w m v hw hv)

    module _ {area : Bracket} (a : area ≡ area_of (formula_of w) (full_width w) glide_of total) (size : ℕ) (ranges : InRange w m v) where
      pub refused_4 : column_found (column_and_flag_of area) ≡ None → refused_sheet 4 ≡ sheet_with_size_column w m v size
      unfolding lines_with_size_column with_lines
      refused_4 e = area_refused w m v size ranges {area = area} (cc) (not_found area e)

      pub accepted : {columns : ColumnAndFlag} → column_found (column_and_flag_of area) ≡ Some columns →
          accepted_sheet (record { glide = glide_of; run = run; saving = saving; slide = slide; total = total; area = area; column = columns.column; flag = columns.flag; size_column = size }) ≡ sheet_with_size_column w m v size
      unfolding lines_with_size_column with_lines
      accepted e = let f = found area e in area_accepted w m v size ranges (made f.0) f.1
        where
          made : {columns : ColumnAndFlag} → columns ≡ column_and_flag_of area → record { glide = glide_of; run = run; saving = saving; slide = slide; total = total; area = area; column = columns.column; flag = columns.flag; size_column = size } ≡ lines_with_size_column w m v size
          made f = cc
