use mathlib.Core.Path.{refl, ◌∙◌}
use Rattle.refusal.proofs.NumberLaws.{passed_on, number_nonzero}
use Rattle.refusal.proofs.RefusalLaws.{refused_by, accepted_by}
use Rattle.map.specs.GroundMap.{map_of}
use Rattle.map.specs.Refusals.{map_tests}
use Rattle.footprint.specs.Footprint.{refused_footprint, accepted_cells, accepted_footprint, footprint_of}
use Rattle.footprint.proofs.footprint_on_map.Goals as goal

-- `footprint_on_map` meets its contract.

pub returns-in_err-check : goal.returns-in_err-check
unfolding footprint_of
returns-in_err-check c =
    let map = map_of c.args.map in
    let marks = c.args.marks.now in
    passed_on accepted_cells refused_footprint _ _ c.from_residual.ensures.1
    ∙ refused_by (accepted_footprint map marks) refused_footprint (map_tests map marks) refl c.in_err-check.ensures (number_nonzero _)

pub returns : goal.returns
unfolding footprint_of
returns c =
    let map = map_of c.args.map in
    let marks = c.args.marks.now in
    c.marked_cells.ensures ∙ accepted_by (accepted_footprint map marks) refused_footprint (map_tests map marks) refl c.in_ok-check.ensures refl
