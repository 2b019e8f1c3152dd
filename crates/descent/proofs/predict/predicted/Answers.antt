use lib.Ieee.{binary64}
use lib.Ieee.Fits.{add-fits, sub-fits}
use Rattle.descent.proofs.predict.predicted.Goals as goal

-- `predicted` makes a state whose distance goes with its speeds.

pub returns : goal.returns
returns c =
    record {
      horizontal_fits = sub-fits binary64 _ _;
      downward_fits = add-fits binary64 _ _;
      fallen_is = c.fallen_to.ensures;
    }
