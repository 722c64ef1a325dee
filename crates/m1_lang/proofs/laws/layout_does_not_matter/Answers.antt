use Rattle.std.proofs.Common.{ap, sym}
use Rattle.m1_lang.proofs.WithoutOffsets.{gives-too, parts_expansion, same-texts}
use Rattle.m1_lang.proofs.laws.layout_does_not_matter.Goals as goal

pub returns : goal.returns
returns c one other items here there same =
    let equal = ap parts_expansion (same-texts one other same) in
    (gives-too one other items here there equal, gives-too other one items there here (sym equal))
