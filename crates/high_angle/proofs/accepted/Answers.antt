-- `accepted` gives the values of a dimension and a mass.
use mathlib.Core.Path.{◌∙◌}
use native.Mathlib.Omega.{arith}
use Rattle.columns.proofs.ColumnLaws.{found_within}
use Rattle.high_angle.proofs.AnswerMade.{frontal_fits, joules_fit, factor_fits, area_fits, answer_made}
use Rattle.high_angle.proofs.accepted.Goals as goal

pub joules-joules-requires : goal.joules-joules-requires
joules-joules-requires c =
    let fits = frontal_fits c.args.dimension c.args.mass c.frontal_area-frontal_area.ensures in
    (fits.0, fits.1, omega arith)

pub factor-factor-requires : goal.factor-factor-requires
factor-factor-requires c =
    joules_fit c.args.dimension c.args.mass c.frontal_area-frontal_area.ensures c.joules-joules.ensures

pub area-area-requires : goal.area-area-requires
area-area-requires c =
    let fits = factor_fits c.args.dimension c.args.mass c.frontal_area-frontal_area.ensures c.joules-joules.ensures c.factor-factor.ensures in
    (omega arith, fits.0, fits.1)

pub returns : goal.returns
returns c =
    let fits = area_fits c.args.dimension c.args.mass c.frontal_area-frontal_area.ensures c.joules-joules.ensures c.factor-factor.ensures (omega arith) c.area-area.ensures in
    let known = c.column_and_flag.ensures ∙ found_within c.area-area.result fits in
    answer_made c.args.dimension c.args.mass c.frontal_area-frontal_area.ensures c.joules-joules.ensures c.factor-factor.ensures c.area-area.ensures (rw known at c.unwrap_or_default-found.ensures)
