-- Words and the languages that they name.
use Rattle.std.proofs.Common.{◌≡◌, ℕ, List, Option, Some, None, Bool, true, false, ◌⊎◌, inl, inr, refl, ap, ◌∙◌}
use Rattle.std.specs.Prelude.{bytes_eq, codes, if◌then◌else◌, unwrap_or}
use Rattle.std.proofs.lemmas.Slice.Eq.{bytes_eq-Decides}
use Rattle.std.proofs.lemmas.Option.{none-some}
use Rattle.ddc_base.specs.Languages.Words.{language_named, language_word}
use Rattle.ddc_base.specs.declared.languages.Language.{Language}
use Rattle.ddc_base.specs.declared.languages.Language.TheVariants.{Hex0, Hex1, Hex2, M1}

pub named-word : (language : Language) → language_named (language_word language) ≡ Some language
unfolding language_named language_word
named-word Hex0 = refl
named-word Hex1 = refl
named-word Hex2 = refl
named-word M1 = refl

chosen : (test : Bool) (here there : Language) (rest : Option Language) → (if test then Some here else rest) ≡ Some there
    → ((test ≡ true) × (here ≡ there)) ⊎ (rest ≡ Some there)
chosen true here there rest is = inl (refl, ap (λ found. unwrap_or found here) is)
chosen false here there rest is = inr is

-- a word that is a language's text, or else what the other words give
either : (word text : List ℕ) (here there : Language) (rest : Option Language) → text ≡ language_word here
    → (rest ≡ Some there → word ≡ language_word there)
    → (if bytes_eq word text then Some here else rest) ≡ Some there → word ≡ language_word there
either word text here there rest its other is =
    elim (chosen (bytes_eq word text) here there rest is) [
      | inl found ↦ (bytes_eq-Decides word text).0 found.0 ∙ its ∙ ap language_word found.1
      | inr more ↦ other more
    ]

pub word-named : (word : List ℕ) (language : Language) → language_named word ≡ Some language → word ≡ language_word language
unfolding language_named language_word
word-named word language =
    either word (codes "hex0") Hex0 language _ refl (
    either word (codes "hex1") Hex1 language _ refl (
    either word (codes "hex2") Hex2 language _ refl (
    either word (codes "m1") M1 language None refl (λ is. absurd (none-some language is)))))
