use Rattle.ddc_base.proofs.LanguagesLemmas.Named.{named-word}
use Rattle.ddc_base.proofs.languages.laws.a_word_names_its_language.Goals as goal

pub returns : goal.returns
returns c = named-word
