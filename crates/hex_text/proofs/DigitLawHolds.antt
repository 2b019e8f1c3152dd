-- The digit law of specs/DigitLaw.antt holds.
use Rattle.hex_text.specs.DigitLaw.{DigitLaw}
use Rattle.hex_text.proofs.DigitLaws.{digit_back, digit_is, value_back, read_written, number_back, number_below}

pub digit_law : DigitLaw
digit_law =
    record {
      digit_back = digit_back;
      digit_is = digit_is;
      value_back = value_back;
      read_written = read_written;
      number_back = number_back;
      number_below = number_below;
    }
