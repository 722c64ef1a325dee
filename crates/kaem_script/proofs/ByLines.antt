-- A script is read the same line by line.
use Rattle.std.proofs.Common.{◌≡◌, ℕ, zero, suc, ◌+◌, ◌-◌, ◌≤◌, ◌==◌, Bool, true, false, cond, not, ◌&&◌, ◌||◌, List, [], ◌∷◌, ◌++◌, length, drop, take, refl, sym, ap, ◌∙◌, subst, arith, append_assoc, append-nil, Result, Ok, Err, All}
use Rattle.std.specs.List.{after_first, before_first, list_any, position_or_len, prefix_len, slice_split}
use Rattle.std.specs.Prelude.{nat_le, nat_lt}
use Rattle.std.proofs.lemmas.Bool.Decides.{nat_tests}
use Rattle.std.proofs.lemmas.List.{length-append, take-append-drop}
use Rattle.std.proofs.lemmas.List.Elements.{All-cons, All-drop, All-head, All-nil, All-tail}
use Rattle.std.proofs.lemmas.List.Splits.{slice_split_at, slice_split_none}
use Rattle.ddc_base.specs.Limits.{most_commands, most_words}
use Rattle.kaem_script.specs.declared.refusal.ScriptFault.{ScriptFault}
use Rattle.kaem_script.specs.declared.refusal.ScriptFault.TheVariants.{BadWord, LongWord, OpenQuote, TooMany, TooManyWords}
use Rattle.kaem_script.specs.ByLines.{LineWords, WordOfLine, and_word, and_words, after_blanks, commands_by_line, commands_of_lines, fitting_of, is_double_quote, plain_of, quoted_of, read_of, unless_over, words_of_line}
use Rattle.kaem_script.specs.Script.{Commands, ScriptWord, begins, after_word, between_quotes, commands_from, commands_of, ends_line, ends_or_begins, ends_quoted, ends_word, fitting, is_wrong, names_nothing, next_word, parts_words, plain_text, plain_word, quoted_word, with_line, word_at}

abbrev Lists : Type 0
Lists = List (List ℕ)

-- a line has no LF, and after it the text ends, or an LF stands
abbrev NoEnd : ℕ → Type 0
NoEnd byte = ends_line byte ≡ false

abbrev IsLine : List ℕ → Type 0
IsLine line = All NoEnd line

abbrev AreLater : List ℕ → Type 0
AreLater [] = Unit {0}
AreLater (byte ∷ rest) = ends_line byte ≡ true

when : {A : Type 0} (b : Bool) (x y : A) → b ≡ true → cond b x y ≡ x
when b x y is = ap (λ t. cond t x y) is

unless : {A : Type 0} (b : Bool) (x y : A) → b ≡ false → cond b x y ≡ y
unless b x y is = ap (λ t. cond t x y) is

-- ---- where a list ends

first-yes : (p : ℕ → Bool) (x : ℕ) (xs : List ℕ) → p x ≡ true → position_or_len p (x ∷ xs) ≡ 0
first-yes p x xs is = ap (λ b. cond (not b) (1 + position_or_len p xs) 0) is

first-no : (p : ℕ → Bool) (x : ℕ) (xs : List ℕ) → p x ≡ false → position_or_len p (x ∷ xs) ≡ suc (position_or_len p xs)
first-no p x xs is = let one : 1 + position_or_len p xs ≡ suc (position_or_len p xs) = omega arith in ap (λ b. cond (not b) (1 + position_or_len p xs) 0) is ∙ one

-- what stands up to a byte of a line stands up to it in the text
module _ (p : ℕ → Bool) where
  abbrev or_end : ℕ → Bool
  or_end byte = p byte || ends_line byte

  in-line : (byte : ℕ) → ends_line byte ≡ false → or_end byte ≡ p byte
  in-line byte inside = by (p byte) where
    by : (b : Bool) → (b || ends_line byte) ≡ b
    by true = refl
    by false = inside

  at-end : (byte : ℕ) → ends_line byte ≡ true → or_end byte ≡ true
  at-end byte ends = by (p byte) where
    by : (b : Bool) → (b || ends_line byte) ≡ true
    by true = refl
    by false = ends

  ends_at : (line later : List ℕ) → IsLine line → AreLater later → position_or_len or_end (line ++ later) ≡ position_or_len p line
  ends_at [] [] is ends = refl
  ends_at [] (byte ∷ rest) is ends = first-yes or_end byte rest (at-end byte ends)
  ends_at (byte ∷ line) later is ends = by (p byte) refl (ends_at line later (All-tail NoEnd byte line is) ends) where
    by : (b : Bool) → p byte ≡ b → position_or_len or_end (line ++ later) ≡ position_or_len p line → position_or_len or_end (byte ∷ line ++ later) ≡ position_or_len p (byte ∷ line)
    by true here rest = first-yes or_end byte (line ++ later) (in-line byte (All-head NoEnd byte line is) ∙ here) ∙ sym (first-yes p byte line here)
    by false here rest = first-no or_end byte (line ++ later) (in-line byte (All-head NoEnd byte line is) ∙ here) ∙ ap suc rest ∙ sym (first-no p byte line here)

  prefix : (line later : List ℕ) → take (position_or_len p line) (line ++ later) ≡ before_first p line
  prefix [] later = refl
  prefix (byte ∷ line) later = by (p byte) refl (prefix line later) where
    by : (b : Bool) → p byte ≡ b → take (position_or_len p line) (line ++ later) ≡ before_first p line
        → take (position_or_len p (byte ∷ line)) (byte ∷ line ++ later) ≡ take (position_or_len p (byte ∷ line)) (byte ∷ line)
    by true here rest = let at = first-yes p byte line here in ap (λ n. take n (byte ∷ line ++ later)) at ∙ ap (λ n. take n (byte ∷ line)) (sym at)
    by false here rest = let at = first-no p byte line here in ap (λ n. take n (byte ∷ line ++ later)) at ∙ ap (λ l. byte ∷ l) rest ∙ ap (λ n. take n (byte ∷ line)) (sym at)

  following : (line later : List ℕ) → drop (position_or_len p line) (line ++ later) ≡ drop (position_or_len p line) line ++ later
  following [] later = refl
  following (byte ∷ line) later = by (p byte) refl (following line later) where
    by : (b : Bool) → p byte ≡ b → drop (position_or_len p line) (line ++ later) ≡ drop (position_or_len p line) line ++ later
        → drop (position_or_len p (byte ∷ line)) (byte ∷ line ++ later) ≡ drop (position_or_len p (byte ∷ line)) (byte ∷ line) ++ later
    by true here rest = let at = first-yes p byte line here in ap (λ n. drop n (byte ∷ line ++ later)) at ∙ ap (λ n. drop n (byte ∷ line) ++ later) (sym at)
    by false here rest = let at = first-no p byte line here in ap (λ n. drop n (byte ∷ line ++ later)) at ∙ rest ∙ ap (λ n. drop n (byte ∷ line) ++ later) (sym at)

  taken : (line later : List ℕ) → IsLine line → AreLater later → take (position_or_len or_end (line ++ later)) (line ++ later) ≡ before_first p line
  taken line later is ends = ap (λ n. take n (line ++ later)) (ends_at line later is ends) ∙ prefix line later

  left : (line later : List ℕ) → IsLine line → AreLater later → drop (position_or_len or_end (line ++ later)) (line ++ later) ≡ drop (position_or_len p line) line ++ later
  left line later is ends = ap (λ n. drop n (line ++ later)) (ends_at line later is ends) ∙ following line later

-- ---- a word

-- the same is read of the text and of a line of which this stands after the word's first byte
abbrev Alike : List ℕ → Result ScriptWord ScriptFault → Result WordOfLine ScriptFault → Type 0
Alike line (Err fault) (Err other) = fault ≡ other
Alike line (Ok word) (Ok found) = (word.text ≡ found.text) × ((more : List ℕ) × (line ≡ more ++ found.following) × (word.size ≡ suc (length more)))
Alike line (Ok word) (Err other) = ⊥
Alike line (Err fault) (Ok found) = ⊥

abbrev plain_found : List ℕ → List ℕ → Result WordOfLine ScriptFault
plain_found text rest = cond (list_any is_wrong text) (Err BadWord) (Ok (record { text = text; following = rest }))

plain-text : (byte : ℕ) (line more rest : List ℕ) → line ≡ more ++ rest → Alike line (plain_text (byte ∷ more)) (plain_found (byte ∷ more) rest)
plain-text byte line more rest is = by (list_any is_wrong (byte ∷ more)) where
  by : (wrong : Bool) → Alike line (cond wrong (Err BadWord) (Ok (record { text = byte ∷ more; size = length (byte ∷ more) }))) (cond wrong (Err BadWord) (Ok (record { text = byte ∷ more; following = rest })))
  by true = refl
  by false = (refl, (more, is, refl))

plain-alike : (byte : ℕ) (line later : List ℕ) → IsLine (byte ∷ line) → AreLater later → parts_words byte ≡ false → Alike line (plain_word (byte ∷ line ++ later)) (plain_of (byte ∷ line))
unfolding plain_word plain_of
plain-alike byte line later is ends word =
    let at = first-no parts_words byte line word in
    let more : List ℕ = before_first parts_words line in
    let rest : List ℕ = drop (position_or_len parts_words line) line in
    let text : before_first parts_words (byte ∷ line) ≡ byte ∷ more = ap (λ n. take n (byte ∷ line)) at in
    let over : drop (position_or_len parts_words (byte ∷ line)) (byte ∷ line) ≡ rest = ap (λ n. drop n (byte ∷ line)) at in
    subst (λ t. Alike line (plain_text t) (plain_of (byte ∷ line))) (sym (taken parts_words (byte ∷ line) later is ends ∙ text))
    (subst (λ t. Alike line (plain_text (byte ∷ more)) (plain_found t (drop (position_or_len parts_words (byte ∷ line)) (byte ∷ line)))) (sym text)
    (subst (λ r. Alike line (plain_text (byte ∷ more)) (plain_found (byte ∷ more) r)) (sym over)
    (plain-text byte line more rest (sym (take-append-drop (position_or_len parts_words line) line)))))

-- a line with a quote is closed by it, and one without is not
record Closes (line : List ℕ) : Type 0 where
  byte : ℕ
  quote : is_double_quote byte ≡ true
  here : drop (position_or_len is_double_quote line) line ≡ byte ∷ after_first is_double_quote line

closes : (line : List ℕ) → list_any is_double_quote line ≡ true → Closes line
closes [] is = absurd cc
closes (byte ∷ line) is = by (is_double_quote byte) refl is (closes line) where
  by : (b : Bool) → is_double_quote byte ≡ b → (b || list_any is_double_quote line) ≡ true → (list_any is_double_quote line ≡ true → Closes line) → Closes (byte ∷ line)
  by true quote any rest =
      let at = first-yes is_double_quote byte line quote in
      record { byte = byte; quote = quote; here = ap (λ n. drop n (byte ∷ line)) at ∙ ap (λ n. byte ∷ drop (n + 1) (byte ∷ line)) (sym at) }
  by false quote any rest =
      let c : Closes line = rest any in
      let at = first-no is_double_quote byte line quote in
      let more : position_or_len is_double_quote (byte ∷ line) + 1 ≡ suc (position_or_len is_double_quote line + 1) = omega (arith, at) in
      record { byte = c.byte; quote = c.quote; here = ap (λ n. drop n (byte ∷ line)) at ∙ c.here ∙ ap (λ n. c.byte ∷ drop n (byte ∷ line)) (sym more) }

stays-open : (line : List ℕ) → list_any is_double_quote line ≡ false → drop (position_or_len is_double_quote line) line ≡ []
stays-open [] is = refl
stays-open (byte ∷ line) is = by (is_double_quote byte) refl is (stays-open line) where
  by : (b : Bool) → is_double_quote byte ≡ b → (b || list_any is_double_quote line) ≡ false → (list_any is_double_quote line ≡ false → drop (position_or_len is_double_quote line) line ≡ [])
      → drop (position_or_len is_double_quote (byte ∷ line)) (byte ∷ line) ≡ []
  by true quote any rest = absurd cc
  by false quote any rest = ap (λ n. drop n (byte ∷ line)) (first-no is_double_quote byte line quote) ∙ rest any

end-no-quote : (byte : ℕ) → ends_line byte ≡ true → (byte == 34) ≡ false
end-no-quote byte ends = grind (arith, nat_tests)

no-quote : (later : List ℕ) → AreLater later → begins (λ byte. byte == 34) later ≡ false
no-quote [] ends = refl
no-quote (byte ∷ rest) ends = end-no-quote byte ends

word-ends : (rest later : List ℕ) → IsLine rest → AreLater later → ends_or_begins ends_word (rest ++ later) ≡ ends_or_begins parts_words rest
word-ends [] [] is ends = refl
word-ends [] (byte ∷ later) is ends = at-end parts_words byte ends
word-ends (byte ∷ rest) later is ends = in-line parts_words byte (All-head NoEnd byte rest is)

abbrev no_zero : List ℕ → Bool
no_zero text = not (list_any (λ byte. byte == 0) text)

abbrev quoted_found : Bool → List ℕ → List ℕ → Result WordOfLine ScriptFault
quoted_found good text rest = cond good (Ok (record { text = text; following = rest })) (Err BadWord)

quoted-alike : (line later : List ℕ) → IsLine line → AreLater later → Alike line (quoted_word (line ++ later)) (quoted_of line)
unfolding quoted_word quoted_of
quoted-alike line later is ends =
    subst (λ t. Alike line (between_quotes t (drop (position_or_len ends_quoted (line ++ later)) (line ++ later))) (quoted_of line)) (sym (taken is_double_quote line later is ends))
    (subst (λ d. Alike line (between_quotes text d) (quoted_of line)) (sym (left is_double_quote line later is ends)) (by (list_any is_double_quote line) refl)) where
      text : List ℕ
      text = before_first is_double_quote line

      rest : List ℕ
      rest = after_first is_double_quote line

      open_quote : drop (position_or_len is_double_quote line) line ≡ [] → Alike line (between_quotes text (drop (position_or_len is_double_quote line) line ++ later)) (Err OpenQuote)
      open_quote over =
          subst (λ d. Alike line (between_quotes text (d ++ later)) (Err OpenQuote)) (sym over)
          (subst (λ (b : Bool). Alike line (cond b (cond (ends_or_begins ends_word (drop 1 later) && no_zero text) (Ok (record { text = text; size = length text + 2 })) (Err BadWord)) (Err OpenQuote)) (Err OpenQuote))
          (sym (no-quote later ends)) refl)

      closed : (c : Closes line) (good : Bool) → Alike line (cond good (Ok (record { text = text; size = length text + 2 })) (Err BadWord)) (quoted_found good text rest)
      closed c true = (
        refl,
        (
          text ++ c.byte ∷ [],
          sym (take-append-drop (position_or_len is_double_quote line) line) ∙ ap (λ d. text ++ d) c.here ∙ sym (append_assoc text (c.byte ∷ []) rest),
          omega (arith, length-append text (c.byte ∷ [])),
        ),
      )
      closed c false = refl

      closing : Closes line → Alike line (between_quotes text (drop (position_or_len is_double_quote line) line ++ later)) (quoted_found (ends_or_begins parts_words rest && no_zero text) text rest)
      closing c =
          let good : Bool = ends_or_begins parts_words rest && no_zero text in
          let same : (ends_or_begins ends_word (rest ++ later) && no_zero text) ≡ good = ap (λ e. e && no_zero text) (word-ends rest later (All-drop NoEnd (position_or_len is_double_quote line + 1) line is) ends) in
          subst (λ d. Alike line (between_quotes text (d ++ later)) (quoted_found good text rest)) (sym c.here)
          (subst (λ (q : Bool). Alike line (cond q (cond (ends_or_begins ends_word (rest ++ later) && no_zero text) (Ok (record { text = text; size = length text + 2 })) (Err BadWord)) (Err OpenQuote)) (quoted_found good text rest)) (sym c.quote)
          (subst (λ (g : Bool). Alike line (cond g (Ok (record { text = text; size = length text + 2 })) (Err BadWord)) (quoted_found good text rest)) (sym same) (closed c good)))

      by : (any : Bool) → list_any is_double_quote line ≡ any
          → Alike line (between_quotes text (drop (position_or_len is_double_quote line) line ++ later)) (cond (not any) (Err OpenQuote) (quoted_found (ends_or_begins parts_words rest && no_zero text) text rest))
      by true any = closing (closes line any)
      by false any = open_quote (stays-open line any)

fits : (first : Bool) (line : List ℕ) (word : Result ScriptWord ScriptFault) (found : Result WordOfLine ScriptFault) → Alike line word found → Alike line (fitting first word) (fitting_of first found)
fits first line (Err fault) (Err other) alike = alike
fits first line (Ok word) (Err other) alike = absurd alike
fits first line (Err fault) (Ok found) alike = absurd alike
fits first line (Ok word) (Ok found) alike =
    subst (λ t. Alike line (fitting first (Ok word)) (cond (first && names_nothing t) (Err BadWord) (cond (nat_lt 255 (length t)) (Err LongWord) (Ok found)))) alike.0
    (by (first && names_nothing word.text) (nat_lt 255 (length word.text))) where
      by : (nothing long : Bool) → Alike line (cond nothing (Err BadWord) (cond long (Err LongWord) (Ok word))) (cond nothing (Err BadWord) (cond long (Err LongWord) (Ok found)))
      by true long = refl
      by false true = refl
      by false false = alike

word-alike : (first : Bool) (byte : ℕ) (line later : List ℕ) → IsLine (byte ∷ line) → AreLater later → parts_words byte ≡ false
    → Alike line (word_at first (byte ∷ line ++ later)) (fitting_of first (read_of (byte ∷ line)))
unfolding word_at
word-alike first byte line later is ends word = by (is_double_quote byte) where
  by : (quote : Bool) → Alike line (fitting first (cond quote (quoted_word (line ++ later)) (plain_word (byte ∷ line ++ later)))) (fitting_of first (cond quote (quoted_of line) (plain_of (byte ∷ line))))
  by true = fits first line (quoted_word (line ++ later)) (quoted_of line) (quoted-alike line later (All-tail NoEnd byte line is) ends)
  by false = fits first line (plain_word (byte ∷ line ++ later)) (plain_of (byte ∷ line)) (plain-alike byte line later is ends word)

-- ---- the reading of one pass

abbrev from_here : ℕ → List Lists → Lists → List ℕ → Commands
from_here at commands words rest = commands_from at 0 commands words rest

abbrev after_here : ℕ → List Lists → Lists → List ℕ → ScriptWord → Commands
after_here at commands words rest word = commands_from (at + 1) (word.size - 1) commands (words ++ word.text ∷ []) rest

module _ (at : ℕ) (commands : List Lists) (words : Lists) (byte : ℕ) (rest : List ℕ) where
  reads-end : ends_line byte ≡ true → from_here at commands words (byte ∷ rest) ≡ from_here (at + 1) (with_line commands words) [] rest
  unfolding commands_from
  reads-end ends = when (ends_line byte) _ _ ends

  reads-blank : ends_line byte ≡ false → parts_words byte ≡ true → from_here at commands words (byte ∷ rest) ≡ from_here (at + 1) commands words rest
  unfolding commands_from
  reads-blank ends parts = unless (ends_line byte) _ _ ends ∙ when (parts_words byte) _ _ parts

  reads-comment : ends_line byte ≡ false → parts_words byte ≡ false → (byte == 35) ≡ true
      → from_here at commands words (byte ∷ rest) ≡ commands_from (at + 1) (position_or_len ends_line rest) commands words rest
  unfolding commands_from
  reads-comment ends parts comment = unless (ends_line byte) _ _ ends ∙ unless (parts_words byte) _ _ parts ∙ when (byte == 35) _ _ comment

  reads-word : ends_line byte ≡ false → parts_words byte ≡ false → (byte == 35) ≡ false
      → from_here at commands words (byte ∷ rest) ≡ after_word at (next_word (length commands) (length words) (byte ∷ rest)) (after_here at commands words rest)
  unfolding commands_from
  reads-word ends parts comment = unless (ends_line byte) _ _ ends ∙ unless (parts_words byte) _ _ parts ∙ unless (byte == 35) _ _ comment

skips : (more rest : List ℕ) (at : ℕ) (commands : List Lists) (words : Lists) → commands_from at (length more) commands words (more ++ rest) ≡ from_here (at + length more) commands words rest
unfolding commands_from
skips [] rest at commands words = let same : at ≡ at + 0 = omega arith in ap (λ n. from_here n commands words rest) same
skips (byte ∷ more) rest at commands words =
    let same : at + 1 + length more ≡ at + suc (length more) = omega arith in skips more rest (at + 1) commands words ∙ ap (λ n. from_here n commands words rest) same

to-end : (line later : List ℕ) → IsLine line → AreLater later → position_or_len ends_line (line ++ later) ≡ length line
to-end [] [] is ends = refl
to-end [] (byte ∷ rest) is ends = first-yes ends_line byte rest ends
to-end (byte ∷ line) later is ends = first-no ends_line byte (line ++ later) (All-head NoEnd byte line is) ∙ ap suc (to-end line later (All-tail NoEnd byte line is) ends)

-- what follows a line, of which these are the words
abbrev line_end : ℕ → List Lists → List ℕ → Lists → Commands
line_end at commands [] words = Ok (with_line commands words)
line_end at commands (byte ∷ rest) words = from_here (at + 1) (with_line commands words) [] rest

ended : (at : ℕ) (commands : List Lists) (words : Lists) (later : List ℕ) → AreLater later → from_here at commands words later ≡ line_end at commands later words
unfolding commands_from
ended at commands words [] ends = refl
ended at commands words (byte ∷ rest) ends = reads-end at commands words byte rest ends

-- ---- the words of a line

module _ {A : Type 0} (over : A) (next : List ℕ → A) (byte : ℕ) (line : List ℕ) where
  blank-skips : parts_words byte ≡ true → unless_over over next (after_blanks (byte ∷ line)) ≡ unless_over over next (after_blanks line)
  blank-skips parts =
      let one : 1 + prefix_len parts_words line ≡ suc (prefix_len parts_words line) = omega arith in
      ap (λ b. unless_over over next (drop (cond b (1 + prefix_len parts_words line) 0) (byte ∷ line))) parts ∙ ap (λ n. unless_over over next (drop n (byte ∷ line))) one

  comment-ends : parts_words byte ≡ false → (byte == 35) ≡ true → unless_over over next (after_blanks (byte ∷ line)) ≡ over
  comment-ends parts comment =
      ap (λ b. unless_over over next (drop (cond b (1 + prefix_len parts_words line) 0) (byte ∷ line))) parts ∙ when (byte == 35) over (next (byte ∷ line)) comment

  word-begins : parts_words byte ≡ false → (byte == 35) ≡ false → unless_over over next (after_blanks (byte ∷ line)) ≡ next (byte ∷ line)
  word-begins parts comment =
      ap (λ b. unless_over over next (drop (cond b (1 + prefix_len parts_words line) 0) (byte ∷ line))) parts ∙ unless (byte == 35) over (next (byte ∷ line)) comment

module _ (commands end : ℕ) (words : Lists) where
  abbrev too_many : List ℕ → LineWords
  too_many here = Err (TooManyWords, end - length here)

  abbrev one_more : ℕ → List ℕ → LineWords
  one_more more here =
      cond (length words == 0 && commands == most_commands) (Err (TooMany, end - length here))
      (and_word (end - length here) (fitting_of (length words == 0) (read_of here)) (λ word. words_of_line more commands end (words ++ word.text ∷ []) word.following))

  no-word : (most : ℕ) → words_of_line most commands end words [] ≡ Ok words
  unfolding words_of_line
  no-word zero = refl
  no-word (suc more) = refl

  line-blank : (most byte : ℕ) (line : List ℕ) → parts_words byte ≡ true → words_of_line most commands end words (byte ∷ line) ≡ words_of_line most commands end words line
  unfolding words_of_line
  line-blank zero byte line parts = blank-skips (Ok words) too_many byte line parts
  line-blank (suc more) byte line parts = blank-skips (Ok words) (one_more more) byte line parts

  line-comment : (most byte : ℕ) (line : List ℕ) → parts_words byte ≡ false → (byte == 35) ≡ true → words_of_line most commands end words (byte ∷ line) ≡ Ok words
  unfolding words_of_line
  line-comment zero byte line parts comment = comment-ends (Ok words) too_many byte line parts comment
  line-comment (suc more) byte line parts comment = comment-ends (Ok words) (one_more more) byte line parts comment

  line-full : (byte : ℕ) (line : List ℕ) → parts_words byte ≡ false → (byte == 35) ≡ false → words_of_line 0 commands end words (byte ∷ line) ≡ too_many (byte ∷ line)
  unfolding words_of_line
  line-full byte line parts comment = word-begins (Ok words) too_many byte line parts comment

  line-word : (more byte : ℕ) (line : List ℕ) → parts_words byte ≡ false → (byte == 35) ≡ false → words_of_line (suc more) commands end words (byte ∷ line) ≡ one_more more (byte ∷ line)
  unfolding words_of_line
  line-word more byte line parts comment = word-begins (Ok words) (one_more more) byte line parts comment

-- ---- a line

abbrev by_line : ℕ → ℕ → List Lists → Lists → List ℕ → List ℕ → Commands
by_line most end commands words line later = and_words (words_of_line most (length commands) end words line) (line_end end commands later)

abbrev Reads : ℕ → Type 0
Reads n =
    (line later : List ℕ) → length line ≤ n → IsLine line → AreLater later → (most at : ℕ) (commands : List Lists) (words : Lists) → most + length words ≡ most_words
    → from_here at commands words (line ++ later) ≡ by_line most (at + length line) commands words line later

is-first : (n : ℕ) → nat_le n 0 ≡ (n == 0)
is-first zero = refl
is-first (suc n) =
    let many : nat_le (suc n) 0 ≡ false = grind (arith, nat_tests) in
    let some : (suc n == 0) ≡ false = grind (arith, nat_tests) in
    many ∙ sym some

no-more : (n : ℕ) → 0 + n ≡ most_words → (n == most_words) ≡ true
no-more n capacity = grind (arith, nat_tests)

some-more : (more n : ℕ) → suc more + n ≡ most_words → (n == most_words) ≡ false
some-more more n capacity = grind (arith, nat_tests)

following-line : (more rest : List ℕ) → IsLine (more ++ rest) → IsLine rest
following-line [] rest is = is
following-line (byte ∷ more) rest is = following-line more rest (All-tail NoEnd byte (more ++ rest) is)

module _ (n : ℕ) (reads : Reads n) (byte : ℕ) (line later : List ℕ) (few : length line ≤ n) (is : IsLine (byte ∷ line)) (ends : AreLater later)
    (at : ℕ) (commands : List Lists) (words : Lists) where
  abbrev end : ℕ
  end = at + length (byte ∷ line)

  inside : ends_line byte ≡ false
  inside = All-head NoEnd byte line is

  next_end : at + 1 + length line ≡ end
  next_end = omega arith

  starts : end - length (byte ∷ line) ≡ at
  starts = omega arith

  at-blank : (most : ℕ) → most + length words ≡ most_words → parts_words byte ≡ true
      → from_here at commands words (byte ∷ line ++ later) ≡ by_line most end commands words (byte ∷ line) later
  at-blank most capacity parts =
      reads-blank at commands words byte (line ++ later) inside parts
      ∙ reads line later few (All-tail NoEnd byte line is) ends most (at + 1) commands words capacity
      ∙ ap (λ e. by_line most e commands words line later) next_end
      ∙ sym (ap (λ w. and_words w (line_end end commands later)) (line-blank (length commands) end words most byte line parts))

  at-comment : (most : ℕ) → parts_words byte ≡ false → (byte == 35) ≡ true → from_here at commands words (byte ∷ line ++ later) ≡ by_line most end commands words (byte ∷ line) later
  at-comment most parts comment =
      reads-comment at commands words byte (line ++ later) inside parts comment
      ∙ ap (λ k. commands_from (at + 1) k commands words (line ++ later)) (to-end line later (All-tail NoEnd byte line is) ends)
      ∙ skips line later (at + 1) commands words
      ∙ ap (λ e. from_here e commands words later) next_end
      ∙ ended end commands words later ends
      ∙ sym (ap (λ w. and_words w (line_end end commands later)) (line-comment (length commands) end words most byte line parts comment))

  -- what one word leads to
  found : (more : ℕ) → suc more + length words ≡ most_words → (word : Result ScriptWord ScriptFault) (other : Result WordOfLine ScriptFault) → Alike line word other
      → after_word at word (after_here at commands words (line ++ later))
      ≡ and_words (and_word (end - length (byte ∷ line)) other (λ w. words_of_line more (length commands) end (words ++ w.text ∷ []) w.following)) (line_end end commands later)
  found more capacity (Ok word) (Err other) alike = absurd alike
  found more capacity (Err fault) (Ok other) alike = absurd alike
  found more capacity (Err fault) (Err other) alike =
      let first : ◌≡◌ {A = Commands} (Err (fault, at)) (Err (other, at)) = ap (λ (f : ScriptFault). Err (f, at)) alike in
      let second : ◌≡◌ {A = Commands} (Err (other, at)) (Err (other, end - length (byte ∷ line))) = ap (λ (k : ℕ). Err (other, k)) (sym starts) in
      first ∙ second
  found more capacity (Ok word) (Ok other) (text, (prefix, parts, size)) =
      let taken : word.size - 1 ≡ length prefix = omega (arith, size) in
      let long : length line ≡ length prefix + length other.following = ap length parts ∙ length-append prefix other.following in
      let last : at + 1 + length prefix + length other.following ≡ end = omega (arith, long) in
      let left : more + length (words ++ other.text ∷ []) ≡ most_words = omega (arith, capacity, length-append words (other.text ∷ [])) in
      let after : IsLine other.following = following-line prefix other.following (subst IsLine parts (All-tail NoEnd byte line is)) in
      ap (λ k. commands_from (at + 1) k commands (words ++ word.text ∷ []) (line ++ later)) taken
      ∙ ap (λ l. commands_from (at + 1) (length prefix) commands (words ++ word.text ∷ []) (l ++ later)) parts
      ∙ ap (λ l. commands_from (at + 1) (length prefix) commands (words ++ word.text ∷ []) l) (append_assoc prefix other.following later)
      ∙ skips prefix (other.following ++ later) (at + 1) commands (words ++ word.text ∷ [])
      ∙ ap (λ t. from_here (at + 1 + length prefix) commands (words ++ t ∷ []) (other.following ++ later)) text
      ∙ reads other.following later (omega (arith, long, few)) after ends more (at + 1 + length prefix) commands (words ++ other.text ∷ []) left
      ∙ ap (λ e. by_line more e commands (words ++ other.text ∷ []) other.following later) last

  at-word : (most : ℕ) → most + length words ≡ most_words → parts_words byte ≡ false → (byte == 35) ≡ false
      → after_word at (next_word (length commands) (length words) (byte ∷ line ++ later)) (after_here at commands words (line ++ later)) ≡ by_line most end commands words (byte ∷ line) later
  unfolding next_word
  at-word zero capacity parts comment =
      ap (λ (w : Result ScriptWord ScriptFault). after_word at w (after_here at commands words (line ++ later))) (when (length words == most_words) _ _ (no-more (length words) capacity))
      ∙ ap (λ k. Err (TooManyWords, k)) (sym starts)
      ∙ sym (ap (λ w. and_words w (line_end end commands later)) (line-full (length commands) end words byte line parts comment))
  at-word (suc more) capacity parts comment =
      ap (λ (w : Result ScriptWord ScriptFault). after_word at w (after_here at commands words (line ++ later))) (unless (length words == most_words) _ _ (some-more more (length words) capacity))
      ∙ ap (λ (first : Bool). after_word at (cond (first && length commands == most_commands) (Err TooMany) (word_at first (byte ∷ line ++ later))) (after_here at commands words (line ++ later))) (is-first (length words))
      ∙ by (length words == 0 && length commands == most_commands)
      ∙ sym (ap (λ w. and_words w (line_end end commands later)) (line-word (length commands) end words more byte line parts comment))
    where
      by : (full : Bool) → after_word at (cond full (Err TooMany) (word_at (length words == 0) (byte ∷ line ++ later))) (after_here at commands words (line ++ later))
          ≡ and_words (cond full (Err (TooMany, end - length (byte ∷ line)))
          (and_word (end - length (byte ∷ line)) (fitting_of (length words == 0) (read_of (byte ∷ line))) (λ w. words_of_line more (length commands) end (words ++ w.text ∷ []) w.following))) (line_end end commands later)
      by true = ap (λ k. Err (TooMany, k)) (sym starts)
      by false = found more capacity (word_at (length words == 0) (byte ∷ line ++ later)) (fitting_of (length words == 0) (read_of (byte ∷ line))) (word-alike (length words == 0) byte line later is ends parts)

  at-byte : (most : ℕ) → most + length words ≡ most_words → from_here at commands words (byte ∷ line ++ later) ≡ by_line most end commands words (byte ∷ line) later
  at-byte most capacity = by (parts_words byte) refl (byte == 35) refl where
    by : (parts : Bool) → parts_words byte ≡ parts → (comment : Bool) → (byte == 35) ≡ comment
        → from_here at commands words (byte ∷ line ++ later) ≡ by_line most end commands words (byte ∷ line) later
    by true parts comment is_comment = at-blank most capacity parts
    by false parts true comment = at-comment most parts comment
    by false parts false comment = reads-word at commands words byte (line ++ later) inside parts comment ∙ at-word most capacity parts comment

reads-line : (n : ℕ) → Reads n
reads-line n [] later few is ends most at commands words capacity =
    let same : at ≡ at + 0 = omega arith in
    ended at commands words later ends
    ∙ ap (λ e. line_end e commands later words) same
    ∙ sym (ap (λ w. and_words w (line_end (at + 0) commands later)) (no-word (length commands) (at + 0) words most))
reads-line zero (byte ∷ line) later few is ends most at commands words capacity = let never : ⊥ = omega (arith, few) in absurd never
reads-line (suc n) (byte ∷ line) later few is ends most at commands words capacity =
    at-byte n (reads-line n) byte line later (omega (arith, few)) is ends at commands words most capacity

-- ---- all lines

record Cut (text : List ℕ) : Type 0 where
  line : List ℕ
  later : List ℕ
  is : IsLine line
  ends : AreLater later
  whole : text ≡ line ++ later

cut : (text : List ℕ) → Cut text
cut [] = record { line = []; later = []; is = All-nil NoEnd; ends = tt; whole = refl }
cut (byte ∷ text) = by (ends_line byte) refl (cut text) where
  by : (b : Bool) → ends_line byte ≡ b → Cut text → Cut (byte ∷ text)
  by true here rest = record { line = []; later = byte ∷ text; is = All-nil NoEnd; ends = here; whole = refl }
  by false here rest = record { line = byte ∷ rest.line; later = rest.later; is = All-cons NoEnd byte rest.line here rest.is; ends = rest.ends; whole = ap (λ l. byte ∷ l) rest.whole }

alike-then : (words : LineWords) (first second : Lists → Commands) → ((w : Lists) → first w ≡ second w) → and_words words first ≡ and_words words second
alike-then (Err fault) first second same = refl
alike-then (Ok words) first second same = same words

abbrev ReadsAll : ℕ → Type 0
ReadsAll n = (text : List ℕ) → length text ≤ n → (at : ℕ) (commands : List Lists) → from_here at commands [] text ≡ commands_of_lines at commands (slice_split ends_line text)

last-line : (line : List ℕ) → IsLine line → (at : ℕ) (commands : List Lists) → from_here at commands [] (line ++ []) ≡ commands_of_lines at commands (slice_split ends_line (line ++ []))
unfolding commands_of_lines
last-line line is at commands =
    reads-line (length line) line [] (omega arith) is tt 64 at commands [] refl
    ∙ sym (ap (commands_of_lines at commands) (ap (slice_split ends_line) (append-nil line) ∙ slice_split_none ends_line line is))

one-line : (n : ℕ) → ReadsAll n → (line : List ℕ) (byte : ℕ) (rest : List ℕ) → length rest ≤ n → IsLine line → ends_line byte ≡ true → (at : ℕ) (commands : List Lists)
    → from_here at commands [] (line ++ byte ∷ rest) ≡ commands_of_lines at commands (slice_split ends_line (line ++ byte ∷ rest))
unfolding commands_of_lines
one-line n reads line byte rest few is ends at commands =
    reads-line (length line) line (byte ∷ rest) (omega arith) is ends 64 at commands [] refl
    ∙ alike-then (words_of_line 64 (length commands) (at + length line) [] line) (line_end (at + length line) commands (byte ∷ rest))
    (λ words. commands_of_lines (at + length line + 1) (with_line commands words) (slice_split ends_line rest)) (λ words. reads rest few (at + length line + 1) (with_line commands words))
    ∙ sym (ap (commands_of_lines at commands) (slice_split_at ends_line line byte rest is ends))

cut-reads : (n : ℕ) → ReadsAll n → (line later : List ℕ) → length (line ++ later) ≤ suc n → IsLine line → AreLater later → (at : ℕ) (commands : List Lists)
    → from_here at commands [] (line ++ later) ≡ commands_of_lines at commands (slice_split ends_line (line ++ later))
cut-reads n reads line [] few is ends at commands = last-line line is at commands
cut-reads n reads line (byte ∷ rest) few is ends at commands = one-line n reads line byte rest (omega (arith, few, length-append line (byte ∷ rest))) is ends at commands

reads-all : (n : ℕ) → ReadsAll n
reads-all zero [] few at commands = last-line [] (All-nil NoEnd) at commands
reads-all zero (byte ∷ text) few at commands = let never : ⊥ = omega (arith, few) in absurd never
reads-all (suc n) text few at commands =
    let c = cut text in
    subst (λ t. from_here at commands [] t ≡ commands_of_lines at commands (slice_split ends_line t)) (sym c.whole)
    (cut-reads n (reads-all n) c.line c.later (subst (λ t. length t ≤ suc n) c.whole few) c.is c.ends at commands)

pub by-line : (script : List ℕ) → commands_of script ≡ commands_by_line script
by-line script = reads-all (length script) script (omega arith) 0 []
