-- What every script keeps.
use Rattle.std.proofs.Common.{◌≡◌, ◌≢◌, ℕ, zero, suc, ◌+◌, ◌-◌, ◌<◌, ◌≤◌, ◌==◌, Bool, true, false, cond, not, ◌&&◌, ◌||◌, List, [], ◌∷◌, ◌++◌, length, drop, take, refl, subst, arith, Result, Ok, Err}
use Rattle.std.specs.List.{list_any, position_or_len}
use Rattle.std.proofs.lemmas.Bool.{eqb-false, eqb-true, leb-false, ltb-false}
use Rattle.std.proofs.lemmas.Bool.Decides.{nat_tests}
use Rattle.std.proofs.lemmas.List.Elements.{All-push}
use Rattle.std.proofs.lemmas.List.{length-append}
use Rattle.std.specs.Prelude.{nat_le, nat_lt, IsTrue}
use Rattle.ddc_base.specs.Limits.{most_commands, most_words}
use Rattle.mem_files.specs.Names.{is_file_name, stripped}
use Rattle.kaem_script.specs.declared.refusal.ScriptFault.{ScriptFault}
use Rattle.kaem_script.specs.declared.refusal.ScriptFault.TheVariants.{BadWord, LongWord, OpenQuote, TooMany, TooManyWords}
use Rattle.kaem_script.specs.Script.{ScriptWord, begins, after_word, commands_from, ends_line, ends_or_begins, ends_quoted, ends_word, fitting, parts_words, is_wrong, names_nothing, next_word, plain_word, quoted_word, with_line, word_at}
use Rattle.kaem_script.specs.Kept.{AreCommands, IsCommand, IsLine, IsWord, NamesProgram}

abbrev has_zero : List ℕ → Bool
has_zero text = list_any (λ byte. byte == 0) text

-- a byte that is not wrong is not zero
not-wrong : (byte : ℕ) → is_wrong byte ≡ false → (byte == 0) ≡ false
not-wrong byte right = grind (arith, nat_tests)

zero-free : (text : List ℕ) → list_any is_wrong text ≡ false → has_zero text ≡ false
zero-free [] none = refl
zero-free (byte ∷ text) none = by (is_wrong byte) refl (list_any is_wrong text) refl none (zero-free text)
  where
    by : (b : Bool) → is_wrong byte ≡ b → (w : Bool) → list_any is_wrong text ≡ w → b || w ≡ false
        → (list_any is_wrong text ≡ false → has_zero text ≡ false) → has_zero (byte ∷ text) ≡ false
    by true is w later here rest = absurd (cc)
    by false is true later here rest = absurd (cc)
    by false is false later here rest = rw (not-wrong byte is) (rest later)

-- stripping makes a name no longer, and puts no zero byte into it
stripped-short : (name : List ℕ) → length (stripped name) ≤ length name
stripped-short [] = omega arith
stripped-short (a ∷ []) = omega arith
stripped-short (a ∷ b ∷ rest) = by (a == 46 && b == 47) (stripped-short rest)
  where
    by : (t : Bool) → length (stripped rest) ≤ length rest → length (cond t (stripped rest) (a ∷ b ∷ rest)) ≤ length (a ∷ b ∷ rest)
    by true less = omega arith
    by false less = omega arith

tail-free : (byte : ℕ) (text : List ℕ) → has_zero (byte ∷ text) ≡ false → has_zero text ≡ false
tail-free byte text none = by (byte == 0) none
  where
    by : (b : Bool) → b || has_zero text ≡ false → has_zero text ≡ false
    by true here = absurd (cc)
    by false here = here

stripped-free : (name : List ℕ) → has_zero name ≡ false → has_zero (stripped name) ≡ false
stripped-free [] none = none
stripped-free (a ∷ []) none = none
stripped-free (a ∷ b ∷ rest) none = by (a == 46 && b == 47) (stripped-free rest (tail-free b rest (tail-free a (b ∷ rest) none)))
  where
    by : (t : Bool) → has_zero (stripped rest) ≡ false → has_zero (cond t (stripped rest) (a ∷ b ∷ rest)) ≡ false
    by true rest_free = rest_free
    by false rest_free = none

-- ---- a word

-- a word of text without a zero byte
abbrev IsFree : Result ScriptWord ScriptFault → Type 0
IsFree (Ok word) = has_zero word.text ≡ false
IsFree (Err fault) = Unit {0}

plain-free : (here : List ℕ) → IsFree (plain_word here)
unfolding plain_word
plain-free here = by (list_any is_wrong (take (position_or_len ends_word here) here)) refl
  where
    by : (t : Bool) → list_any is_wrong (take (position_or_len ends_word here) here) ≡ t
        → IsFree (cond t (Err BadWord) (Ok (record { text = take (position_or_len ends_word here) here; size = length (take (position_or_len ends_word here) here) })))
    by true is = tt
    by false is = zero-free (take (position_or_len ends_word here) here) is

quoted-free : (rest : List ℕ) → IsFree (quoted_word rest)
unfolding quoted_word
quoted-free rest =
    by (begins (λ byte. byte == 34) (drop (position_or_len ends_quoted rest) rest))
    (ends_or_begins ends_word (drop 1 (drop (position_or_len ends_quoted rest) rest)))
    (has_zero (take (position_or_len ends_quoted rest) rest)) refl
  where
    by : (t e z : Bool) → has_zero (take (position_or_len ends_quoted rest) rest) ≡ z
        → IsFree (cond t (cond (e && not z) (Ok (record { text = take (position_or_len ends_quoted rest) rest; size = length (take (position_or_len ends_quoted rest) rest) + 2 })) (Err BadWord)) (Err OpenQuote))
    by false e z is = tt
    by true false z is = tt
    by true true true is = tt
    by true true false is = is

-- a word that fits where it stands
record Fits (first : Bool) (word : ScriptWord) : Type 0 where
  is : IsWord word.text
  named : first ≡ true → IsTrue (is_file_name (stripped word.text))

no-zero : (text : List ℕ) → has_zero text ≡ false → IsTrue (not (has_zero text))
no-zero text free = rw free refl

pub file-name : (text : List ℕ) → has_zero text ≡ false → length text ≤ 255 → names_nothing text ≡ false → IsTrue (is_file_name (stripped text))
file-name text free short names =
    let some : 0 < length (stripped text) = leb-false _ _ names in
    let few : length (stripped text) ≤ 255 = omega (arith, stripped-short text) in
    let one : nat_le 1 (length (stripped text)) ≡ true = grind (arith, nat_tests) in
    let most : nat_le (length (stripped text)) 255 ≡ true = grind (arith, nat_tests) in
    rw (one, most, stripped-free text free) refl

fitting-fits : (first : Bool) (found : Result ScriptWord ScriptFault) (word : ScriptWord) → IsFree found → fitting first found ≡ Ok word → Fits first word
fitting-fits first (Err fault) word free is = absurd (cc)
fitting-fits first (Ok found) word free is = by first (names_nothing found.text) (nat_lt 255 (length found.text)) refl refl refl is
  where
    by : (f n l : Bool) → first ≡ f → names_nothing found.text ≡ n → nat_lt 255 (length found.text) ≡ l
        → cond (f && n) (Err BadWord) (cond l (Err LongWord) (Ok found)) ≡ Ok word → Fits first word
    by true true l first_is nothing long here = absurd (cc)
    by true false true first_is nothing long here = absurd (cc)
    by true false false first_is nothing long here =
        let same : found ≡ word = cc in
        subst (λ (w : ScriptWord). Fits first w) same (record {
          is = record { no_zero = no-zero found.text free; short = ltb-false _ _ long };
          named = λ _. file-name found.text free (ltb-false _ _ long) nothing;
        })
    by false n true first_is nothing long here = absurd (cc)
    by false n false first_is nothing long here =
        let same : found ≡ word = cc in
        subst (λ (w : ScriptWord). Fits first w) same (record {
          is = record { no_zero = no-zero found.text free; short = ltb-false _ _ long };
          named = λ e. absurd (cc);
        })

word-fits : (first : Bool) (here : List ℕ) (word : ScriptWord) → word_at first here ≡ Ok word → Fits first word
unfolding word_at
word-fits first here word is = by (begins (λ byte. byte == 34) here) is
  where
    by : (t : Bool) → fitting first (cond t (quoted_word (drop 1 here)) (plain_word here)) ≡ Ok word → Fits first word
    by true here_is = fitting-fits first (quoted_word (drop 1 here)) word (quoted-free (drop 1 here)) here_is
    by false here_is = fitting-fits first (plain_word here) word (plain-free here) here_is

-- one more word of a line
record Follows (commands words : ℕ) (word : ScriptWord) : Type 0 where
  is : IsWord word.text
  capacity : words ≢ 64
  named : words ≡ 0 → IsTrue (is_file_name (stripped word.text))
  new_capacity : words ≡ 0 → commands ≢ most_commands

next-follows : (commands words : ℕ) (here : List ℕ) (word : ScriptWord) → next_word commands words here ≡ Ok word → Follows commands words word
unfolding next_word
next-follows commands words here word is = by (words == most_words) (nat_le words 0) (commands == most_commands) refl refl refl is
  where
    by : (m e f : Bool) → (words == most_words) ≡ m → nat_le words 0 ≡ e → (commands == most_commands) ≡ f
        → cond m (Err TooManyWords) (cond (e && f) (Err TooMany) (word_at e here)) ≡ Ok word → Follows commands words word
    by true e f many empty full it = absurd (cc)
    by false true true many empty full it = absurd (cc)
    by false true false many empty full it =
        let fits = word-fits true here word it in
        record { is = fits.is; capacity = λ w. eqb-false _ _ many w; named = λ _. fits.named refl; new_capacity = λ _ c. eqb-false _ _ full c }
    by false false f many empty full it =
        let fits = word-fits false here word it in
        let some : 0 < words = leb-false _ _ empty in
        record { is = fits.is; capacity = λ w. eqb-false _ _ many w; named = λ zero. absurd (omega arith); new_capacity = λ zero. absurd (omega arith) }

-- ---- a line and all commands

-- the words so far of a line: there is room for their command
record IsOpen (commands : List (List (List ℕ))) (words : List (List ℕ)) : Type 0 where
  line : IsLine words
  capacity : 0 < length words → length commands < most_commands

line-kept : (commands : List (List (List ℕ))) (words : List (List ℕ)) → AreCommands commands → IsOpen commands words → AreCommands (with_line commands words)
line-kept commands [] are begun = are
line-kept commands (word ∷ words) are begun =
    let some : 0 < length (word ∷ words) = omega arith in
    record {
      few = rw length-append (omega (arith, begun.capacity some));
      each = All-push IsCommand commands (word ∷ words) are.each (record { some = omega arith; line = begun.line });
    }

named-more : (words : List (List ℕ)) (text : List ℕ) → NamesProgram words → (length words ≡ 0 → IsTrue (is_file_name (stripped text))) → NamesProgram (words ++ text ∷ [])
named-more [] text named first = first refl
named-more (word ∷ words) text named first = named

word-kept : (commands : List (List (List ℕ))) (words : List (List ℕ)) (word : ScriptWord) → AreCommands commands → IsOpen commands words
    → Follows (length commands) (length words) word → IsOpen commands (words ++ word.text ∷ [])
word-kept commands words word are begun follows = record {
  line = record {
    few = rw length-append (omega (arith, begun.line.few, follows.capacity));
    each = All-push IsWord words word.text begun.line.each follows.is;
    named = named-more words word.text begun.line.named follows.named;
  };
  capacity = λ some. by (length words == 0) refl;
}
  where
    by : (e : Bool) → (length words == 0) ≡ e → length commands < most_commands
    by true empty = omega (arith, are.few, follows.new_capacity (eqb-true _ _ empty))
    by false more = begun.capacity (omega (arith, eqb-false (length words) 0 more))

begun-none : (commands : List (List (List ℕ))) → IsOpen commands []
begun-none commands = record { line = record { few = omega arith; each = λ k d less. absurd (omega arith); named = tt }; capacity = λ some. absurd (omega arith) }

kept : (at inside : ℕ) (commands : List (List (List ℕ))) (words : List (List ℕ)) (rest : List ℕ) (found : List (List (List ℕ)))
    → AreCommands commands → IsOpen commands words → commands_from at inside commands words rest ≡ Ok found → AreCommands found
unfolding commands_from
kept at inside commands words [] found are begun is =
    let same : with_line commands words ≡ found = cc in
    subst AreCommands same (line-kept commands words are begun)
kept at (suc inside) commands words (byte ∷ rest) found are begun is = kept (at + 1) inside commands words rest found are begun is
kept at zero commands words (byte ∷ rest) found are begun is =
    by (ends_line byte) (parts_words byte) (byte == 35) is
    (kept (at + 1) 0 (with_line commands words) [] rest found)
    (kept (at + 1) 0 commands words rest found)
    (kept (at + 1) (position_or_len ends_line rest) commands words rest found)
    (λ size text. kept (at + 1) size commands (words ++ text ∷ []) rest found)
  where
    more : (next : Result ScriptWord ScriptFault) → next_word (length commands) (length words) (byte ∷ rest) ≡ next
        → after_word at next (λ word. commands_from (at + 1) (word.size - 1) commands (words ++ word.text ∷ []) rest) ≡ Ok found
        → ((size : ℕ) (text : List ℕ) → AreCommands commands → IsOpen commands (words ++ text ∷ [])
        → commands_from (at + 1) size commands (words ++ text ∷ []) rest ≡ Ok found → AreCommands found)
        → AreCommands found
    more (Err fault) next_is it later = absurd (cc)
    more (Ok word) next_is it later =
        later (word.size - 1) word.text are (word-kept commands words word are begun (next-follows (length commands) (length words) (byte ∷ rest) word next_is)) it

    by : (l b c : Bool)
        → cond l (commands_from (at + 1) 0 (with_line commands words) [] rest) (cond b (commands_from (at + 1) 0 commands words rest)
        (cond c (commands_from (at + 1) (position_or_len ends_line rest) commands words rest)
        (after_word at (next_word (length commands) (length words) (byte ∷ rest)) (λ word. commands_from (at + 1) (word.size - 1) commands (words ++ word.text ∷ []) rest)))) ≡ Ok found
        → (AreCommands (with_line commands words) → IsOpen (with_line commands words) [] → commands_from (at + 1) 0 (with_line commands words) [] rest ≡ Ok found → AreCommands found)
        → (AreCommands commands → IsOpen commands words → commands_from (at + 1) 0 commands words rest ≡ Ok found → AreCommands found)
        → (AreCommands commands → IsOpen commands words → commands_from (at + 1) (position_or_len ends_line rest) commands words rest ≡ Ok found → AreCommands found)
        → ((size : ℕ) (text : List ℕ) → AreCommands commands → IsOpen commands (words ++ text ∷ [])
        → commands_from (at + 1) size commands (words ++ text ∷ []) rest ≡ Ok found → AreCommands found)
        → AreCommands found
    by true b c it script_ended blank comment word = script_ended (line-kept commands words are begun) (begun-none (with_line commands words)) it
    by false true c it script_ended blank comment word = blank are begun it
    by false false true it script_ended blank comment word = comment are begun it
    by false false false it script_ended blank comment word = more (next_word (length commands) (length words) (byte ∷ rest)) refl it word

pub script-kept : (script : List ℕ) (commands : List (List (List ℕ))) → commands_from 0 0 [] [] script ≡ Ok commands → AreCommands commands
script-kept script commands is = kept 0 0 [] [] script commands (record { few = omega arith; each = λ k d less. absurd (omega arith) }) (begun-none []) is
