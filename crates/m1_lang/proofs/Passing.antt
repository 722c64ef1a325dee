-- What one word of a source does to what is left.
use Rattle.std.proofs.Common.{◌≡◌, ℕ, ◌≤◌, Bool, true, false, cond, List, [], ◌∷◌, ◌++◌, append_assoc, length, refl, sym, ◌∙◌, ap, arith}
use denote.Bor.{Bor}
use Rattle.std.proofs.lemmas.List.{drop_all}
use Rattle.hex_langs.specs.NameKeys.{Took}
use Rattle.hex_langs.specs.declared.name_keys.KeyNames.{KeyNames}
use Rattle.m1_lang.specs.Words.Words.{Found, NoWord, Word, Words, word_list, words_from}
use Rattle.m1_lang.specs.Words.Ahead.{FindsAhead, words_at}
use Rattle.m1_lang.specs.declared.words.splitting.Ahead.{Ahead}
use Rattle.m1_lang.specs.declared.words.splitting.Ahead.TheVariants as next
use Rattle.m1_lang.specs.Definitions.{Cut, defined_names, Defines, is_define, parts, Plain, plain_words}
use Rattle.m1_lang.specs.Representation.Passes.{after_define, names_after, parts_at, plain_after, TookUpTo, valued, Values}

pub words-end : (source : List ℕ) (at : ℕ) → length source ≤ at → words_at source at ≡ NoWord
unfolding words_from
words-end source at past = ap (words_from at 0) (drop_all at source past)

-- ---- a `DEFINE`

pub define-word : (values : Values) (word : Word) (rest : List Word) → is_define word.text ≡ true → valued values (parts (word ∷ rest)) ≡ after_define values word.at rest
define-word values word [] is = ap (λ (b : Bool). valued values (cond b (Cut word.at ∷ []) (Plain word ∷ []))) is
define-word values word (name ∷ []) is = ap (λ (b : Bool). valued values (cond b (Cut word.at ∷ []) (Plain word ∷ parts (name ∷ [])))) is
define-word values word (name ∷ value ∷ rest) is =
    ap (λ (b : Bool). valued values (cond b (Defines word.at name.text value.text ∷ parts rest) (Plain word ∷ parts (name ∷ value ∷ rest)))) is

pub define-plain : (word : Word) (rest : List Word) → is_define word.text ≡ true → plain_words (parts (word ∷ rest)) ≡ plain_after rest
define-plain word [] is = ap (λ (b : Bool). plain_words (cond b (Cut word.at ∷ []) (Plain word ∷ []))) is
define-plain word (name ∷ []) is = ap (λ (b : Bool). plain_words (cond b (Cut word.at ∷ []) (Plain word ∷ parts (name ∷ [])))) is
define-plain word (name ∷ value ∷ rest) is =
    ap (λ (b : Bool). plain_words (cond b (Defines word.at name.text value.text ∷ parts rest) (Plain word ∷ parts (name ∷ value ∷ rest)))) is

pub define-names : (word : Word) (rest : List Word) → is_define word.text ≡ true → defined_names (parts (word ∷ rest)) ≡ names_after rest
define-names word [] is = ap (λ (b : Bool). defined_names (cond b (Cut word.at ∷ []) (Plain word ∷ []))) is
define-names word (name ∷ []) is = ap (λ (b : Bool). defined_names (cond b (Cut word.at ∷ []) (Plain word ∷ parts (name ∷ [])))) is
define-names word (name ∷ value ∷ rest) is =
    ap (λ (b : Bool). defined_names (cond b (Defines word.at name.text value.text ∷ parts rest) (Plain word ∷ parts (name ∷ value ∷ rest)))) is

-- ---- another word

pub parts-plain : (word : Word) (rest : List Word) → is_define word.text ≡ false → parts (word ∷ rest) ≡ Plain word ∷ parts rest
parts-plain word [] is = ap (λ (b : Bool). cond b (Cut word.at ∷ []) (Plain word ∷ [])) is
parts-plain word (name ∷ []) is = ap (λ (b : Bool). cond b (Cut word.at ∷ []) (Plain word ∷ parts (name ∷ []))) is
parts-plain word (name ∷ value ∷ rest) is =
    ap (λ (b : Bool). cond b (Defines word.at name.text value.text ∷ parts rest) (Plain word ∷ parts (name ∷ value ∷ rest))) is

-- ---- no word

pub no-word : (found : Ahead) (source : List ℕ) (at : ℕ) → FindsAhead found source at
    → ((start : ℕ) (text : Bor (List ℕ)) (after : ℕ) → found ≡ next.Word start text after → ⊥) → word_list (words_at source at) ≡ []
no-word next.End source at is none = ap word_list is
no-word (next.Open offset) source at is none = ap word_list is
no-word (next.Word start text after) source at is none = absurd (none start text after refl)

-- nothing is left at the end
pub no-names-remaining : (source : List ℕ) (at : ℕ) → length source ≤ at → defined_names (parts_at source at) ≡ []
no-names-remaining source at past = ap (λ (w : Words). defined_names (parts (word_list w))) (words-end source at past)

-- where no definition follows, the names so far are all
pub took-all : (names : KeyNames) (source : List ℕ) (seen after : List (List ℕ)) → after ≡ [] → Took names seen → TookUpTo names source (length source) (seen ++ after)
took-all names source seen after none took = record {
  seen = seen;
  took = took;
  whole = ap (λ (l : List (List ℕ)). seen ++ l) (no-names-remaining source (length source) (omega arith) ∙ sym none);
}

-- the name of a definition is one of all
pub took-one : (names : KeyNames) (source : List ℕ) (at after following : ℕ) (seen : List (List ℕ)) (name value : Word)
    → words_at source at ≡ Found name (words_at source following) → words_at source following ≡ Found value (words_at source after)
    → Took names (seen ++ name.text ∷ []) → TookUpTo names source after (seen ++ names_after (word_list (words_at source at)))
took-one names source at after following seen name value first second took = record {
  seen = seen ++ name.text ∷ [];
  took = took;
  whole = append_assoc seen (name.text ∷ []) (defined_names (parts_at source after))
      ∙ ap (λ (w : Words). seen ++ names_after (word_list w)) (sym (first ∙ ap (Found name) second));
}

pub nothing-remaining : (source : List ℕ) → plain_words (parts_at source (length source)) ≡ []
nothing-remaining source = ap (λ (w : Words). plain_words (parts (word_list w))) (words-end source (length source) (omega arith))
