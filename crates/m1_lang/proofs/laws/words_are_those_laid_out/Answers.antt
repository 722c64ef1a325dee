use Rattle.m1_lang.proofs.Layouts.{layout-is}
use Rattle.m1_lang.proofs.laws.words_are_those_laid_out.Goals as goal

pub returns : goal.returns
returns c = layout-is
