-- A number of the code is in the machine's form its bits: each is the decimal, or the whole number, that the definitions name.
use mathlib.Core.Path.{◌≡◌, refl}
use lib.Count.{count_trailing_zeros}
use lib.Ieee.{binary64, of_bits, of_fields, of_int, round, size, span, climb, units, odd}
use Rattle.arithmetic.specs.Fraction.{◌over◌}
use Rattle.fall.specs.Numbers.{decimal, whole}
use Rattle.fall.specs.Step.{time_step, half, air_density, drag_coefficient, gravity}

pub zero_is : of_bits binary64 0 ≡ whole 0
unfolding of_bits of_fields of_int round size span climb units odd count_trailing_zeros
zero_is = refl

pub three_is : of_bits binary64 0x4008_0000_0000_0000 ≡ whole 3
unfolding of_bits of_fields of_int round size span climb units odd count_trailing_zeros
three_is = refl

pub hundred_is : of_bits binary64 0x4059_0000_0000_0000 ≡ whole 100
unfolding of_bits of_fields of_int round size span climb units odd count_trailing_zeros
hundred_is = refl

pub thousand_is : of_bits binary64 0x408f_4000_0000_0000 ≡ whole 1000
unfolding of_bits of_fields of_int round size span climb units odd count_trailing_zeros
thousand_is = refl

pub million_is : of_bits binary64 0x412e_8480_0000_0000 ≡ whole 1000000
unfolding of_bits of_fields of_int round size span climb units odd count_trailing_zeros
million_is = refl

pub half_is : of_bits binary64 0x3fe0_0000_0000_0000 ≡ half
unfolding decimal of_bits of_fields of_int round size span climb units odd count_trailing_zeros
half_is = refl

pub time_step_is : of_bits binary64 0x3f84_7ae1_47ae_147b ≡ time_step
unfolding decimal of_bits of_fields of_int round size span climb units odd count_trailing_zeros
time_step_is = refl

pub gravity_is : of_bits binary64 0x4023_9eb8_51eb_851f ≡ gravity
unfolding decimal of_bits of_fields of_int round size span climb units odd count_trailing_zeros
gravity_is = refl

pub air_density_is : of_bits binary64 0x3ff3_9999_9999_999a ≡ air_density
unfolding decimal of_bits of_fields of_int round size span climb units odd count_trailing_zeros
air_density_is = refl

pub drag_coefficient_is : of_bits binary64 0x3fe9_9999_9999_999a ≡ drag_coefficient
unfolding decimal of_bits of_fields of_int round size span climb units odd count_trailing_zeros
drag_coefficient_is = refl

pub billion_is : of_bits binary64 0x41cd_cd65_0000_0000 ≡ whole 1000000000
unfolding of_bits of_fields of_int round size span climb units odd count_trailing_zeros
billion_is = refl

pub thousandth_is : of_bits binary64 0x3f50_624d_d2f1_a9fc ≡ decimal (1 over 1000)
unfolding decimal of_bits of_fields of_int round size span climb units odd count_trailing_zeros
thousandth_is = refl
