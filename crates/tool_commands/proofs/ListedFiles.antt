-- The files of a list keep the rules of files, and each listed name is there.
use Rattle.std.proofs.Common.{◌≡◌, ℕ, ◌+◌, ◌-◌, ◌<◌, ◌≤◌, ◌==◌, ◌&&◌, Bool, true, false, cond, IsTrue, Option, None, Some, Result, Ok, Err, List, [], ◌∷◌, ◌++◌, length, sum_by, length-append, refl, subst, arith, All}
use Rattle.std.specs.Prelude.{nat_le, nat_lt}
use Rattle.std.specs.List.{list_all, slice_split}
use Rattle.std.proofs.lemmas.Bool.{and_parts, leb-true, ltb-true}
use Rattle.std.proofs.lemmas.List.Elements.{All-cons, All-head, All-nil, All-push, All-tail}
use Rattle.std.proofs.lemmas.List.Sums.{sum_by-cons}
use Rattle.ddc_base.specs.Limits.{most_content, most_files, most_total}
use Rattle.mem_files.specs.Calls.{placed}
use Rattle.mem_files.specs.Names.{is_file_name, stripped}
use Rattle.mem_files.specs.Outputs.{IsContent}
use Rattle.mem_files.specs.Sound.{AreBytes, IsSound}
use Rattle.mem_files.proofs.Rules.{first-sound, placed-sound}
use Rattle.kaem_script.specs.FilesListed.{FilesListed, IsList, no_files}
use Rattle.kaem_script.proofs.Names.{list-more}
use Rattle.command_plan.specs.Lists.{is_line_feed, is_listed_byte, is_listed_word, list_of, listed_after, with_line_item}
use Rattle.command_plan.proofs.Listing.{holds-listed, parts-of}
use Rattle.tool_commands.specs.Scripts.{and_file, and_files, file_line, names_another}
use Rattle.tool_commands.proofs.PlacedFiles.{HasBudget, placed-so, budget-at-first, budget-following}
use Rattle.tool_commands.proofs.FileWords.{file-named, listed-apart}

-- ---- no text lists more than so many

module _ {A : Type 0} (form : List A → List ℕ → Option A) (most : ℕ) where
  few-items : (earlier items : List A) → length earlier ≤ most → ◌≡◌ {A = Result (List A) ℕ} (Ok earlier) (Ok items) → length items ≤ most
  few-items earlier items few is = let same : earlier ≡ items = cc in subst (λ (l : List A). length l ≤ most) same few

  few-last : (b : Bool) (earlier items : List A) → length earlier ≤ most → cond {A = Result (List A) ℕ} b (Ok earlier) (Err (length earlier + 1)) ≡ Ok items → length items ≤ most
  few-last true earlier items few is = few-items earlier items few is
  few-last false earlier items few is = absurd cc

  few-line : (budget : Bool) (found : Option A) (earlier items : List A) (rest : A → Result (List A) ℕ) → nat_lt (length earlier) most ≡ budget
      → ((item : A) → length (earlier ++ item ∷ []) ≤ most → rest item ≡ Ok items → length items ≤ most)
      → cond budget (with_line_item found (length earlier + 1) rest) (Err (length earlier + 1)) ≡ Ok items → length items ≤ most
  few-line true (Some item) earlier items rest budget later is = later item (omega (arith, ltb-true (length earlier) most budget, length-append earlier (item ∷ []))) is
  few-line true None earlier items rest budget later is = absurd cc
  few-line false found earlier items rest budget later is = absurd cc

  few-after : (lines : List (List ℕ)) (earlier items : List A) → length earlier ≤ most → listed_after form most earlier lines ≡ Ok items → length items ≤ most
  few-after [] earlier items few is = few-items earlier items few is
  few-after (last ∷ []) earlier items few is = few-last (length last == 0) earlier items few is
  few-after (line ∷ next ∷ lines) earlier items few is =
      few-line (nat_lt (length earlier) most) (form earlier line) earlier items (λ item. listed_after form most (earlier ++ item ∷ []) (next ∷ lines)) refl
      (λ item more. few-after (next ∷ lines) (earlier ++ item ∷ []) items more) is

  few-listed : (text : List ℕ) (items : List A) → list_of form most text ≡ Ok items → length items ≤ most
  unfolding list_of
  few-listed text items is = few-after (slice_split is_line_feed text) [] items (omega arith) is

-- ---- the words of a list

-- a word of bytes that names a file
record IsFileWord (word : List ℕ) : Type 0 where
  bytes : AreBytes word
  named : IsTrue (is_file_name (stripped word))

bytes-of : (word : List ℕ) → list_all is_listed_byte word ≡ true → AreBytes word
bytes-of [] is = All-nil (λ byte. byte < 256)
bytes-of (byte ∷ word) is =
    let parts = and_parts (is_listed_byte byte) (list_all is_listed_byte word) is in
    let high = leb-true byte 0x7E (and_parts (nat_le 0x21 byte) (nat_le byte 0x7E) parts.0).1 in
    All-cons (λ byte. byte < 256) byte word (omega (arith, high)) (bytes-of word parts.1)

word-more : (earlier : List (List ℕ)) (line word : List ℕ) → All IsFileWord earlier → file_line earlier line ≡ Some word → All IsFileWord (earlier ++ word ∷ [])
unfolding file_line
word-more earlier line word are is = by (is_listed_word line && names_another earlier line) refl is
  where
    by : (b : Bool) → (is_listed_word line && names_another earlier line) ≡ b → cond b (Some line) None ≡ Some word → All IsFileWord (earlier ++ word ∷ [])
    by false reads here = absurd cc
    by true reads here =
        let same : line ≡ word = cc in
        let parts = and_parts (is_listed_word line) (names_another earlier line) reads in
        let good : IsFileWord line = record { bytes = bytes-of line (parts-of line parts.0).2; named = file-named earlier line parts.0 parts.1 } in
        All-push IsFileWord earlier word are (subst IsFileWord same good)

-- ---- the files

files-listed : (words contents : List (List ℕ)) (budget : ℕ) (listed : FilesListed) → IsList listed → IsSound listed.world → HasBudget listed budget words → All IsFileWord words
    → length contents ≡ length words → All IsContent contents → sum_by length contents ≤ budget
    → IsList (and_files listed words contents) × IsSound (and_files listed words contents).world
files-listed [] contents budget listed list sound has are count each fits = (list, sound)
files-listed (word ∷ words) [] budget listed list sound has are count each fits = absurd (omega (arith, count))
files-listed (word ∷ words) (content ∷ contents) budget listed list sound has are count each fits =
    let w = listed.world in
    let sum = sum_by-cons length content contents in
    let good = All-head IsFileWord word words are in
    let is = All-head IsContent content contents each in
    let small : length content ≤ most_content = is.small in
    let within : length content ≤ budget = omega (arith, fits, sum) in
    let placing = placed-so listed budget word words content has good.named small within in
    files-listed words contents (budget - length content) (and_file listed word content)
    (list-more listed.names w (placed w word content).1 word content list (λ i. (placing i, (placed w word content).1)))
    (placed-sound w word content sound good.bytes is.bytes)
    (budget-following listed budget word words content has good.named small within)
    (All-tail IsFileWord word words are) (omega (arith, count)) (All-tail IsContent content contents each) (omega (arith, fits, sum))

-- of a list that reads, with a content for each of its words, within the limits
pub listed-sound : (text : List ℕ) (words contents : List (List ℕ)) → list_of file_line most_files text ≡ Ok words → length contents ≡ length words → All IsContent contents
    → sum_by length contents ≤ most_total → IsList (and_files no_files words contents) × IsSound (and_files no_files words contents).world
listed-sound text words contents is count each fits =
    let none : IsList no_files = record { named = λ k d less. absurd (omega arith); there = λ k d less. absurd (omega arith); few = omega arith } in
    files-listed words contents most_total no_files none first-sound (budget-at-first words (listed-apart words (text, is)) (few-listed file_line most_files text words is))
    (holds-listed file_line most_files (All IsFileWord) word-more words (All-nil IsFileWord) (text, is)) count each fits
