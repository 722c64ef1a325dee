use Rattle.m1_lang.proofs.Goods.{written-again}
use Rattle.m1_lang.proofs.laws.expansions_are_read_again.Goals as goal

pub returns : goal.returns
returns c = written-again
