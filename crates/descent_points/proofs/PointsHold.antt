-- The worked falls, by computation.
use mathlib.Core.Path.{◌≡◌, refl, ap, subst, ◌∙◌}
use mathlib.Core.Bool.{false}
use mathlib.Core.List.{List, [], ◌∷◌, map, take, drop}
use lib.Count.{count_trailing_zeros}
use lib.Ieee.{Float, of_bits, of_int, add, sub, mul, div, lt, le, eq, round, size, span, climb, units, odd, sum, neg, of_fields}
use Rattle.arithmetic.specs.Each.{Each}
use Rattle.arithmetic.proofs.EachLaws.{each_append, each_equal}
use Rattle.frontal_area.specs.FrontalArea.{frontal_area_of}
use Rattle.fall.specs.Numbers.{decimal, divided_by, in_metres}
use Rattle.fall.specs.Step.{drag_factor_of, state_after}
use Rattle.descent.specs.Descent.{body_of, first_state}
use Rattle.fall.specs.declared.Fall.{Fall}
use Rattle.descent.specs.declared.Descent.{Descent}
use Rattle.fall.specs.declared.Body.{Body}
use Rattle.descent_points.specs.DescentPoint.{DescentPoint, fall, refused}
use Rattle.descent_points.specs.Points.{Every200, PointHolds}
use Rattle.descent_points.specs.PointTable.{points}
use Rattle.descent_points.proofs.Stretches.{walk, answer_by, computed, computed_is, to, stretch, more, more_made, walked_over, stretched, computed_next, state_of_drag, speed_in, rounds_of}

-- ---- falls with no state on the way, one computation for several

record Short : Type 0 where
  answer : Descent
  on_the_way : List Fall

abbrev short_of : DescentPoint → Short
short_of p = record { answer = computed p.w p.m p.v p.height p.budget; on_the_way = [] }

abbrev shown : DescentPoint → Short
shown p = record { answer = p.answer; on_the_way = p.on_the_way }

short_holds : (p : DescentPoint) → short_of p ≡ shown p → PointHolds p
short_holds p e =
    record {
      answer = computed_is p.w p.m p.v p.height p.budget ∙ ap (λ (x : Short). x.answer) e;
      on_the_way = subst (λ (l : List Fall). Every200 (body_of p.w p.m) (first_state p.v) l) (ap (λ (x : Short). x.on_the_way) e) tt;
    }

each_short : (ps : List DescentPoint) → Each (λ p. short_of p ≡ shown p) ps → Each PointHolds ps
each_short [] h = tt
each_short (p ∷ ps) h = (short_holds p h.0, each_short ps h.1)

few_steps : map short_of (take 2 points) ≡ map shown (take 2 points)
unfolding answer_by walk computed_next state_of_drag speed_in rounds_of frontal_area_of drag_factor_of decimal divided_by of_bits of_int add sub mul div lt le eq round size span climb units odd sum neg of_fields count_trailing_zeros
few_steps = refl

-- from the light and wide ones to the verdict at exactly 60 degrees, and the rest
middle : map short_of (take 7 (drop 4 points)) ≡ map shown (take 7 (drop 4 points))
unfolding answer_by walk computed_next state_of_drag speed_in rounds_of frontal_area_of drag_factor_of decimal divided_by of_bits of_int add sub mul div lt le eq round size span climb units odd sum neg of_fields count_trailing_zeros
middle = refl

rest : map short_of (drop 11 points) ≡ map shown (drop 11 points)
unfolding answer_by walk computed_next state_of_drag speed_in rounds_of frontal_area_of drag_factor_of decimal divided_by of_bits of_int add sub mul div lt le eq round size span climb units odd sum neg of_fields count_trailing_zeros
rest = refl

-- ---- falls with states on the way, a computation for each stretch

abbrev entry : List DescentPoint → DescentPoint
entry [] = refused 0 0 0 0 0 0
entry (p ∷ ps) = p

abbrev state_in : List Fall → Fall
state_in [] = fall 0 0 0
state_in (s ∷ ss) = s

module _ (p : DescentPoint) where
  abbrev body_in : Body
  body_in = body_of p.w p.m

  abbrev height_in : Float
  height_in = in_metres p.height

  abbrev start_in : Fall
  start_in = first_state p.v

  abbrev first_on_the_way : Fall
  first_on_the_way = state_in p.on_the_way

  abbrev second_on_the_way : Fall
  second_on_the_way = state_in (drop 1 p.on_the_way)

abbrev from_120_m : DescentPoint
from_120_m = entry (drop 2 points)

abbrev from_30_m : DescentPoint
from_30_m = entry (drop 3 points)

first_200 : stretch (body_in from_120_m) (height_in from_120_m) 200 false false (start_in from_120_m) ≡ to (first_on_the_way from_120_m)
unfolding stretch computed_next state_of_drag speed_in rounds_of frontal_area_of drag_factor_of decimal divided_by of_bits of_int add sub mul div lt le eq round size span climb units odd sum neg of_fields count_trailing_zeros
first_200 = refl

second_200 : stretch (body_in from_120_m) (height_in from_120_m) 200 false false (first_on_the_way from_120_m) ≡ to (second_on_the_way from_120_m)
unfolding stretch computed_next state_of_drag speed_in rounds_of frontal_area_of drag_factor_of decimal divided_by of_bits of_int add sub mul div lt le eq round size span climb units odd sum neg of_fields count_trailing_zeros
second_200 = refl

to_the_ground : walk (body_in from_120_m) (height_in from_120_m) 19600 false false 400 (second_on_the_way from_120_m) ≡ from_120_m.answer
unfolding walk computed_next state_of_drag speed_in rounds_of frontal_area_of drag_factor_of decimal divided_by of_bits of_int add sub mul div lt le eq round size span climb units odd sum neg of_fields count_trailing_zeros
to_the_ground = refl

first_200_of_30_m : stretch (body_in from_30_m) (height_in from_30_m) 200 false false (start_in from_30_m) ≡ to (first_on_the_way from_30_m)
unfolding stretch computed_next state_of_drag speed_in rounds_of frontal_area_of drag_factor_of decimal divided_by of_bits of_int add sub mul div lt le eq round size span climb units odd sum neg of_fields count_trailing_zeros
first_200_of_30_m = refl

to_the_ground_of_30_m : walk (body_in from_30_m) (height_in from_30_m) 19800 false false 200 (first_on_the_way from_30_m) ≡ from_30_m.answer
unfolding walk computed_next state_of_drag speed_in rounds_of frontal_area_of drag_factor_of decimal divided_by of_bits of_int add sub mul div lt le eq round size span climb units odd sum neg of_fields count_trailing_zeros
to_the_ground_of_30_m = refl

module _ (b : Body) (h : Float) (s t : Fall) (e : stretch b h 200 false false s ≡ to t) where
  over_first : walk b h 20000 false false 0 s ≡ walk b h 19800 false false 200 t
  unfolding more more_made
  over_first = walked_over b h 19800 200 false false 0 s t e

  over_second : walk b h 19800 false false 200 s ≡ walk b h 19600 false false 400 t
  unfolding more more_made
  over_second = walked_over b h 19600 200 false false 200 s t e

  after_200 : state_after b s 200 ≡ t
  after_200 = stretched b h 200 false false s t e

from_120_m_holds : PointHolds from_120_m
unfolding answer_by
from_120_m_holds =
    record {
      answer = computed_is _ _ _ _ _ ∙ (over_first _ _ _ _ first_200 ∙ (over_second _ _ _ _ second_200 ∙ to_the_ground));
      on_the_way = (after_200 _ (height_in from_120_m) _ _ first_200, (after_200 _ (height_in from_120_m) _ _ second_200, tt));
    }

from_30_m_holds : PointHolds from_30_m
unfolding answer_by
from_30_m_holds =
    record {
      answer = computed_is _ _ _ _ _ ∙ (over_first _ _ _ _ first_200_of_30_m ∙ to_the_ground_of_30_m);
      on_the_way = (after_200 _ (height_in from_30_m) _ _ first_200_of_30_m, tt);
    }

-- ---- all of them

short : (ps : List DescentPoint) → map short_of ps ≡ map shown ps → Each PointHolds ps
short ps e = each_short ps (each_equal short_of shown ps e)

pub points_hold : Each PointHolds points
points_hold =
    each_append PointHolds (take 2 points) (drop 2 points) (short (take 2 points) few_steps) (
      from_120_m_holds,
      (
        from_30_m_holds,
        each_append PointHolds (take 7 (drop 4 points)) (drop 11 points) (short (take 7 (drop 4 points)) middle) (short (drop 11 points) rest),
      ),
    )
