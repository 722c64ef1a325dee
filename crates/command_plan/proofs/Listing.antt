-- A text that is cut into lines, and its words.
use Rattle.std.proofs.Common.{◌≡◌, ℕ, zero, suc, ◌+◌, ◌==◌, ◌<◌, ◌≤◌, ◌&&◌, Bool, true, false, cond, IsTrue, Option, None, Some, Result, Ok, Err, List, [], ◌∷◌, ◌++◌, length, take, drop, get_or, nat_le, nat_lt, eq-eqb, ne_eqb, take_all, refl, sym, ap, ◌∙◌, subst, arith, All}
use Rattle.std.specs.List.{list_all, slice_split}
use Rattle.std.specs.Str.{IsAscii, IsUtf8}
use Rattle.std.proofs.lemmas.Bool.{and_parts, leb-true}
use Rattle.std.proofs.lemmas.Bool.Decides.{nat_tests}
use Rattle.std.proofs.lemmas.List.{at_drop_more, length-append, take-append-drop, take_more}
use Rattle.std.proofs.lemmas.List.Elements.{All-push}
use Rattle.std.proofs.lemmas.List.Splits.{length-slice_split, slice_split_at, slice_split_none}
use Rattle.std.proofs.lemmas.Str.{IsUtf8-from_ascii}
use Rattle.command_plan.specs.Lists.{IsListed, is_line_feed, is_listed_word, is_listed_byte, list_of, listed_after, with_line_item}
use Rattle.command_plan.specs.Words.{is_file_word}
use Rattle.command_plan.proofs.FileWords.{names}

abbrev pub NoLF : ℕ → Type 0
NoLF byte = is_line_feed byte ≡ false

-- one byte more that is no LF
pub more-clear : (text : List ℕ) (at : ℕ) → at < length text → All NoLF (take at text) → (get_or text at 0 ≡ 10 → ⊥) → All NoLF (take (at + 1) text)
more-clear text at less clear other =
    subst (All NoLF) (sym (take_more text at 0 less)) (All-push NoLF (take at text) (get_or text at 0) clear (ne_eqb (get_or text at 0) 10 other))

-- cut at the first LF
pub cut-there : (text : List ℕ) (at : ℕ) → at < length text → All NoLF (take at text) → get_or text at 0 ≡ 10
    → slice_split is_line_feed text ≡ take at text ∷ slice_split is_line_feed (drop (at + 1) text)
cut-there text at less clear here =
    let following : drop at text ≡ get_or text at 0 ∷ drop (at + 1) text = at_drop_more (λ (l : List ℕ). l) text at 0 less in
    ap (slice_split is_line_feed) (sym (take-append-drop at text) ∙ ap (λ l. take at text ++ l) following)
    ∙ slice_split_at is_line_feed (take at text) (get_or text at 0) (drop (at + 1) text) clear (eq-eqb (get_or text at 0) 10 here)

-- no LF is left
pub uncut : (text : List ℕ) (at : ℕ) → length text ≤ at → All NoLF (take at text) → slice_split is_line_feed text ≡ text ∷ []
uncut text at past clear = slice_split_none is_line_feed text (subst (All NoLF) (take_all at text past) clear)

-- ---- words

pub parts-of : (word : List ℕ) → is_listed_word word ≡ true → (1 ≤ length word) × (length word ≤ 255) × (list_all is_listed_byte word ≡ true)
unfolding is_listed_word
parts-of word is =
    let parts = and_parts (nat_le 1 (length word) && nat_le (length word) 255) (list_all is_listed_byte word) is in
    let sizes = and_parts (nat_le 1 (length word)) (nat_le (length word) 255) parts.0 in
    (leb-true 1 (length word) sizes.0, leb-true (length word) 255 sizes.1, parts.1)

-- a listed word is a name of a file
pub word_names : (word : List ℕ) → IsTrue (is_listed_word word) → IsTrue (is_file_word word)
unfolding is_listed_word
word_names word is = names is_listed_byte refl word is

bytes-ascii : (word : List ℕ) → list_all is_listed_byte word ≡ true → IsAscii word
bytes-ascii [] is i = omega arith
bytes-ascii (byte ∷ bytes) is zero =
    let parts = and_parts (is_listed_byte byte) (list_all is_listed_byte bytes) is in
    let below = leb-true byte 0x7E (and_parts (nat_le 0x21 byte) (nat_le byte 0x7E) parts.0).1 in
    omega (arith, below)
bytes-ascii (byte ∷ bytes) is (suc i) = bytes-ascii bytes (and_parts (is_listed_byte byte) (list_all is_listed_byte bytes) is).1 i

pub word-ascii : (word : List ℕ) → is_listed_word word ≡ true → IsUtf8 word
word-ascii word is = IsUtf8-from_ascii word (bytes-ascii word (parts-of word is).2)

-- ---- the lines of a list

abbrev pub pieces : List ℕ → List (List ℕ)
pieces text = slice_split is_line_feed text

module _ {A : Type 0} (form : List A → List ℕ → Option A) (most : ℕ) (items : List A) (line after : List ℕ) (whole : Result (List A) ℕ) where
  -- what a line that is ended leads to
  abbrev ended : Result (List A) ℕ
  ended =
      cond (nat_lt (length items) most) (with_line_item (form items line) (length items + 1) (λ item. listed_after form most (items ++ item ∷ []) (pieces after)))
      (Err (length items + 1))

  goes : (rest : List ℕ) → listed_after form most items (pieces rest) ≡ whole → pieces rest ≡ line ∷ pieces after → ended ≡ whole
  goes rest before cut = by (pieces after) (omega (arith, length-slice_split is_line_feed after)) ∙ ap (listed_after form most items) (sym cut) ∙ before where
    by : (parts : List (List ℕ)) → 0 < length parts
        → cond (nat_lt (length items) most) (with_line_item (form items line) (length items + 1) (λ item. listed_after form most (items ++ item ∷ []) parts)) (Err (length items + 1))
        ≡ listed_after form most items (line ∷ parts)
    by [] some = absurd (omega (arith, some))
    by (part ∷ parts) some = refl

  pub too_many : (rest : List ℕ) (count : ℕ) → listed_after form most items (pieces rest) ≡ whole → pieces rest ≡ line ∷ pieces after → count ≡ length items → most < count + 1
      → Err (count + 1) ≡ whole
  too_many rest count before cut counted many =
      let over : nat_lt (length items) most ≡ false = grind (arith, nat_tests) in
      ap (λ n. Err (n + 1)) counted
      ∙ sym (ap (λ b. cond b (with_line_item (form items line) (length items + 1) (λ item. listed_after form most (items ++ item ∷ []) (pieces after))) (Err (length items + 1))) over)
      ∙ goes rest before cut

  within : (rest : List ℕ) → listed_after form most items (pieces rest) ≡ whole → pieces rest ≡ line ∷ pieces after → length items < most
      → with_line_item (form items line) (length items + 1) (λ item. listed_after form most (items ++ item ∷ []) (pieces after)) ≡ whole
  within rest before cut few =
      let under : nat_lt (length items) most ≡ true = grind (arith, nat_tests) in
      sym (ap (λ b. cond b (with_line_item (form items line) (length items + 1) (λ item. listed_after form most (items ++ item ∷ []) (pieces after))) (Err (length items + 1))) under)
      ∙ goes rest before cut

  pub no_item : (rest : List ℕ) (count : ℕ) → listed_after form most items (pieces rest) ≡ whole → pieces rest ≡ line ∷ pieces after → count ≡ length items → count + 1 ≤ most
      → form items line ≡ None → Err (count + 1) ≡ whole
  no_item rest count before cut counted few none =
      ap (λ n. Err (n + 1)) counted
      ∙ sym (ap (λ o. with_line_item o (length items + 1) (λ item. listed_after form most (items ++ item ∷ []) (pieces after))) none)
      ∙ within rest before cut (omega (arith, counted, few))

  pub one_more : (rest : List ℕ) (count : ℕ) (item : A) (grown : List A) → listed_after form most items (pieces rest) ≡ whole → pieces rest ≡ line ∷ pieces after
      → count ≡ length items → count + 1 ≤ most → form items line ≡ Some item → grown ≡ items ++ item ∷ []
      → (listed_after form most grown (pieces after) ≡ whole) × (length grown ≤ most)
  one_more rest count item grown before cut counted few some pushed = (
    ap (λ l. listed_after form most l (pieces after)) pushed
        ∙ sym (ap (λ o. with_line_item o (length items + 1) (λ item. listed_after form most (items ++ item ∷ []) (pieces after))) some)
        ∙ within rest before cut (omega (arith, counted, few)),
    omega (arith, counted, few, ap length pushed ∙ length-append items (item ∷ [])),
  )

-- ---- what is listed

-- what holds of no items, and with some items also of those and one more that the form reads after them, holds of all that a text lists
module _ {A : Type 0} (form : List A → List ℕ → Option A) (most : ℕ) (P : List A → Type 0)
    (more : (earlier : List A) (line : List ℕ) (item : A) → P earlier → form earlier line ≡ Some item → P (earlier ++ item ∷ [])) where
  same-items : (first second : List A) → ◌≡◌ {A = Result (List A) ℕ} (Ok first) (Ok second) → first ≡ second
  same-items first second is = cc

  after-last : (b : Bool) (earlier items : List A) → P earlier → cond {A = Result (List A) ℕ} b (Ok earlier) (Err (length earlier + 1)) ≡ Ok items → P items
  after-last true earlier items holds is = subst P (same-items earlier items is) holds
  after-last false earlier items holds is = absurd cc

  after-line : (budget : Bool) (found : Option A) (earlier items : List A) (line : List ℕ) (rest : A → Result (List A) ℕ) → P earlier → form earlier line ≡ found
      → ((item : A) → P (earlier ++ item ∷ []) → rest item ≡ Ok items → P items)
      → cond budget (with_line_item found (length earlier + 1) rest) (Err (length earlier + 1)) ≡ Ok items → P items
  after-line true (Some item) earlier items line rest holds found later is = later item (more earlier line item holds found) is
  after-line true None earlier items line rest holds found later is = absurd cc
  after-line false found earlier items line rest holds was later is = absurd cc

  holds-after : (lines : List (List ℕ)) (earlier items : List A) → P earlier → listed_after form most earlier lines ≡ Ok items → P items
  holds-after [] earlier items holds is = subst P (same-items earlier items is) holds
  holds-after (last ∷ []) earlier items holds is = after-last (length last == 0) earlier items holds is
  holds-after (line ∷ next ∷ lines) earlier items holds is =
      after-line (nat_lt (length earlier) most) (form earlier line) earlier items line (λ item. listed_after form most (earlier ++ item ∷ []) (next ∷ lines)) holds refl
      (λ item kept. holds-after (next ∷ lines) (earlier ++ item ∷ []) items kept) is

  pub holds-listed : (items : List A) → P [] → IsListed form most items → P items
  unfolding list_of
  holds-listed items none is = holds-after (slice_split is_line_feed is.0) [] items none is.1
