use Rattle.segments.proofs.Whole.{whole-law}
use Rattle.segments.proofs.laws.pieces_are_the_whole.Goals as goal

pub returns : goal.returns
returns c = whole-law
