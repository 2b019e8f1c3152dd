-- `high_angle_of` gives the values, or the refusal.
use mathlib.Core.Path.{refl, ◌∙◌}
use Rattle.refusal.proofs.NumberLaws.{passed_on, number_nonzero}
use Rattle.refusal.proofs.RefusalLaws.{refused_by, accepted_by}
use Rattle.frontal_area.specs.FrontalArea.{multirotor_tests}
use Rattle.high_angle.specs.HighAngle.{accepted_answer, accepted_high_angle, refused_high_angle, high_angle_of}
use Rattle.high_angle.proofs.high_angle_of.Goals as goal

pub returns-in_err-check_multirotor : goal.returns-in_err-check_multirotor
unfolding high_angle_of
returns-in_err-check_multirotor c =
    let a = c.args.aircraft in
    passed_on accepted_answer refused_high_angle _ _ c.from_residual.ensures.1
    ∙ refused_by (accepted_high_angle a.dimension a.mass) refused_high_angle (multirotor_tests a.dimension a.mass a.speed) refl c.in_err-check_multirotor.ensures (number_nonzero _)

pub returns : goal.returns
unfolding high_angle_of
returns c =
    let a = c.args.aircraft in
    c.accepted.ensures
    ∙ accepted_by (accepted_high_angle a.dimension a.mass) refused_high_angle (multirotor_tests a.dimension a.mass a.speed) refl c.in_ok-check_multirotor.ensures refl
