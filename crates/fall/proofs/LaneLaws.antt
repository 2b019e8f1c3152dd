-- Tests in the lanes of a vector: a comparison makes a mask of ones or zeros in each lane, and all lanes together are asked.
use mathlib.Core.Path.{◌≡◌, refl}
use mathlib.Core.Bool.{Bool, true, false, cond, ◌&&◌}
use Prim.Native.Nat.{ℕ, ◌+◌, ◌*◌, ◌%◌}
use lib.Lanes.{top}
use Rattle.std.specs.Prelude.{nat_eq, bit_and}

-- what a comparison makes in a lane of 64 bits
abbrev mask : Bool → ℕ
mask b = cond b 18446744073709551615 0

-- two lanes, each asked for its top bit
both_lanes : (a b : Bool) → nat_eq ((cond a 1 0 + 2 * (cond b 1 0 + 0)) % 18446744073709551616) 3 ≡ (a && b)
both_lanes true true = refl
both_lanes true false = refl
both_lanes false true = refl
both_lanes false false = refl

three_tests : (a b c : Bool) → top 63 (bit_and (bit_and (mask a) (mask b)) (mask c)) ≡ ((a && b) && c)
three_tests true true true = refl
three_tests true true false = refl
three_tests true false true = refl
three_tests true false false = refl
three_tests false true true = refl
three_tests false true false = refl
three_tests false false true = refl
three_tests false false false = refl

pub three_tests_hold : (a b c d e f : Bool)
    → nat_eq ((cond (top 63 (bit_and (bit_and (mask a) (mask b)) (mask c))) 1 0 + 2 * (cond (top 63 (bit_and (bit_and (mask d) (mask e)) (mask f))) 1 0 + 0)) % 18446744073709551616) 3 ≡ (((a && b) && c) && ((d && e) && f))
three_tests_hold a b c d e f = rw (three_tests a b c, three_tests d e f) (both_lanes ((a && b) && c) ((d && e) && f))

two_tests : (a b : Bool) → top 63 (bit_and (mask a) (mask b)) ≡ (a && b)
two_tests true true = refl
two_tests true false = refl
two_tests false true = refl
two_tests false false = refl

pub two_tests_hold : (a b c d : Bool) → nat_eq ((cond (top 63 (bit_and (mask a) (mask b))) 1 0 + 2 * (cond (top 63 (bit_and (mask c) (mask d))) 1 0 + 0)) % 18446744073709551616) 3 ≡ ((a && b) && (c && d))
two_tests_hold a b c d = rw (two_tests a b, two_tests c d) (both_lanes (a && b) (c && d))
