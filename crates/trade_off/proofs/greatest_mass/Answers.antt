-- `greatest_mass` gives the greatest mass, or the first refusal.
use mathlib.Core.Path.{◌≡◌, refl, sym, ap, ◌∙◌}
use Rattle.std.proofs.Common.{None}
use Rattle.std.specs.Option.{ok_or}
use Rattle.std.specs.Result.{result_ok}
use Rattle.refusal.specs.Numbers.{number_in}
use Rattle.refusal.specs.declared.Refusal.TheVariants.{NoneForColumn}
use Rattle.refusal.proofs.NumberLaws.{passed_on, number_nonzero}
use Rattle.sheet.specs.Ranges.{mass_min}
use Rattle.trade_off.specs.TradeOff.{accepted_mass, refused_mass}
use Rattle.trade_off.proofs.AnswerLaws.{given, no_mass_keeps, mass_found, mass_too_small, mass_refused, mass_way_out}
use Rattle.trade_off.proofs.greatest_mass.Goals as goal

pub returns-in_err-limit : goal.returns-in_err-limit
returns-in_err-limit c =
    passed_on accepted_mass refused_mass _ _ c.from_residual.ensures.1
    ∙ mass_refused c.args.dimension c.args.speed c.args.column c.in_err-limit.ensures.refusal (number_nonzero _)

pub returns-in_err-slide : goal.returns-in_err-slide
returns-in_err-slide c =
    let column = (given c.args.dimension mass_min c.args.speed c.args.column (sym c.in_ok-limit.ensures.refusal)).1 in
    let none : c.greatest_slide.result ≡ None = c.ok_or.ensures.ok_part ∙ ap result_ok c.in_err-slide.was in
    let twenty_one = ap number_in (sym c.in_err-slide.was ∙ c.ok_or.ensures.value ∙ ap (λ o. ok_or o NoneForColumn) none) in
    passed_on accepted_mass refused_mass _ _ c.from_residual-in_err-slide.ensures.1
    ∙ ap refused_mass twenty_one
    ∙ mass_way_out c.args.dimension c.args.speed c.args.column c.in_ok-limit.ensures.refusal refl 21
    (no_mass_keeps c.args.dimension c.args.column column c.in_ok-limit.ensures.limit (rw none at c.greatest_slide.ensures) c.args.speed)

pub returns-then-too_light : goal.returns-then-too_light
returns-then-too_light c =
    let column = (given c.args.dimension mass_min c.args.speed c.args.column (sym c.in_ok-limit.ensures.refusal)).1 in
    let slide = c.ok_or.ensures.ok_part ∙ ap result_ok c.in_ok-slide.was in
    mass_way_out c.args.dimension c.args.speed c.args.column c.in_ok-limit.ensures.refusal refl 21
    (mass_too_small c.args.dimension c.args.column column c.in_ok-limit.ensures.limit (rw slide at c.greatest_slide.ensures) c.args.speed c.mass_within-mass.ensures c.if-too_light.true)

pub returns : goal.returns
returns c =
    let given = given c.args.dimension mass_min c.args.speed c.args.column (sym c.in_ok-limit.ensures.refusal) in
    let slide = c.ok_or.ensures.ok_part ∙ ap result_ok c.in_ok-slide.was in
    let found = mass_found c.args.dimension c.args.column given.1 c.in_ok-limit.ensures.limit (rw slide at c.greatest_slide.ensures) c.args.speed c.mass_within-mass.ensures given.0 c.if-too_light.false in
    ap accepted_mass (sym found.1) ∙ mass_way_out c.args.dimension c.args.speed c.args.column c.in_ok-limit.ensures.refusal refl 0 found.0
