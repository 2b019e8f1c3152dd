-- The places of the printed frame: the width of each field in digits, where it starts, and the whole.
-- "The printed frame has 40 digits and a line end: 00; low 8; high 8; column 2; flag 2; table row used 2; place 4; people 8;
-- intrinsic class 2; final class 2 (−1 is ff)." "The printed frame gains two digits for it after the flag" (document 02, item 1: the size
-- column), so that it has 42.
use Rattle.std.specs.Prelude.{ℕ, ◌+◌}

abbrev pub refusal_width : ℕ
refusal_width = 2

abbrev pub area_width : ℕ
area_width = 8

abbrev pub column_width : ℕ
column_width = 2

abbrev pub flag_width : ℕ
flag_width = 2

abbrev pub size_column_width : ℕ
size_column_width = 2

abbrev pub row_width : ℕ
row_width = 2

abbrev pub place_width : ℕ
place_width = 4

abbrev pub people_width : ℕ
people_width = 8

abbrev pub class_width : ℕ
class_width = 2

abbrev pub refusal_start : ℕ
refusal_start = 0

abbrev pub low_start : ℕ
low_start = refusal_start + refusal_width

abbrev pub high_start : ℕ
high_start = low_start + area_width

abbrev pub column_start : ℕ
column_start = high_start + area_width

abbrev pub flag_start : ℕ
flag_start = column_start + column_width

abbrev pub size_column_start : ℕ
size_column_start = flag_start + flag_width

abbrev pub row_start : ℕ
row_start = size_column_start + size_column_width

abbrev pub place_start : ℕ
place_start = row_start + row_width

abbrev pub people_start : ℕ
people_start = place_start + place_width

abbrev pub intrinsic_start : ℕ
intrinsic_start = people_start + people_width

abbrev pub final_start : ℕ
final_start = intrinsic_start + class_width

-- the digits, and the whole with its line end
abbrev pub frame_digits : ℕ
frame_digits = final_start + class_width

abbrev pub frame_len : ℕ
frame_len = frame_digits + 1
