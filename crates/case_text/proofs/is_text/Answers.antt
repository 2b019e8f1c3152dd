use Rattle.case_text.proofs.ReadingLaws.{text_is}
use Rattle.case_text.proofs.is_text.Goals as goal

pub returns : goal.returns
returns c =
    text_is c.args.text.now c.stand_in.ensures c.stand_in-2.ensures c.stand_in-3.ensures
