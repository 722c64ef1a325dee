use Rattle.std.proofs.Common.{sym, subst}
use Rattle.m1_lang.specs.declared.words.meaning.WordMeaning.{WordMeaning}
use Rattle.m1_lang.specs.Words.Meanings.{meaning_tokens}
use Rattle.m1_lang.specs.Representation.Passes.{TakesTokens}
use Rattle.m1_lang.proofs.Takings.{takes-one}
use Rattle.m1_lang.proofs.taking.take_meaning.Goals as goal

pub returns-in-One-clause-takes : goal.returns-in-One-clause-takes
returns-in-One-clause-takes c =
    subst (λ (m : WordMeaning). TakesTokens c.take.result c.args.word c.args.at (meaning_tokens m) c.args.items.now c.take.new.items) (sym c.in-One.is)
    (takes-one c.take.result c.args.word c.args.at c.in-One.token c.args.items.now c.take.new.items c.requires c.take.ensures.takes)
