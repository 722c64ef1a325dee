use Rattle.ddc_base.proofs.LanguagesLemmas.Named.{word-named}
use Rattle.ddc_base.proofs.languages.laws.one_word_a_language.Goals as goal

pub returns : goal.returns
returns c = word-named
