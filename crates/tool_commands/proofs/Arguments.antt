-- The arguments that a program is given.
use Rattle.std.proofs.Common.{◌≡◌, ℕ, ◌<◌, ◌&&◌, Bool, true, false, IsTrue, nat_le, List, length, map, get_or, Bor, refl, sym, ◌∙◌}
use Rattle.std.specs.List.{list_all}
use Rattle.std.proofs.lemmas.Bool.{and_parts}
use Rattle.std.proofs.lemmas.List.Folds.{list_all_at, list_all-map}
use Rattle.guest_run.specs.Setting.{is_text, IsText}
use Rattle.command_plan.specs.Words.{is_file_word}

-- the words are texts where their bytes are
pub texts_of_words : (words : List (Bor (List ℕ))) → list_all (λ w. is_text w.now) words ≡ list_all is_text (map (λ w. w.now) words)
texts_of_words words = sym (list_all-map is_text (λ w. w.now) words)

-- each of these words is a text
pub text_at : (words : List (Bor (List ℕ))) (i : ℕ) (d : Bor (List ℕ)) → i < length words → IsTrue (list_all (λ (w : Bor (List ℕ)). is_text w.now) words) → IsText (get_or words i d).now
text_at words i d lt all = by_test (is_text (get_or words i d).now) refl where
  by_test : (b : Bool) → is_text (get_or words i d).now ≡ b → IsText (get_or words i d).now
  by_test true is = is
  by_test false is =
      let none : list_all (λ (w : Bor (List ℕ)). is_text w.now) words ≡ false = list_all_at (λ w. is_text w.now) words i d lt is in
      absurd (let gone : false ≡ true = sym none ∙ all in cc)

-- a name of a file is a text
pub text_of_name : (word : List ℕ) → IsTrue (is_file_word word) → IsText word
text_of_name word is = (and_parts (nat_le 1 (length word) && nat_le (length word) 255) (is_text word) is).1
