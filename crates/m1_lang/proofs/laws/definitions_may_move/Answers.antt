use Rattle.std.proofs.Common.{ap, sym, ◌∙◌}
use Rattle.m1_lang.proofs.Moves.{moved}
use Rattle.m1_lang.proofs.WithoutOffsets.{gives-too, parts_expansion}
use Rattle.m1_lang.proofs.laws.definitions_may_move.Goals as goal

pub returns : goal.returns
returns c one other items name value prefix between back here there first second =
    let equal = ap parts_expansion first ∙ moved name value prefix between back ∙ sym (ap parts_expansion second) in
    (gives-too one other items here there equal, gives-too other one items there here (sym equal))
