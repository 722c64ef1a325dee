-- The files and descriptors of files that keep their rules have a text.
use Rattle.std.proofs.Common.{◌≡◌, ℕ, zero, suc, ◌+◌, ◌^◌, ◌<◌, ◌≤◌, Bool, true, false, eqb, eqb-true, List, [], ◌∷◌, length, map, All, Option, None, Some, IsTrue, refl, sym, ap, ◌∙◌, arith}
use Rattle.ddc_base.specs.Limits.{file_number_end}
use Rattle.std.specs.Prelude.{◌&&◌, ◌||◌, nat_le, not}
use Rattle.std.specs.List.{list_any}
use Rattle.std.specs.Ordering.{is_lt, nat_cmp}
use Rattle.std.specs.Cmp.{ranked}
use Rattle.std.specs.declared.cmp.Ordering.TheVariants.{Less, Equal, Greater}
use Rattle.std.specs.FinMap as finite
use Rattle.std.specs.FinMap.Entries.{below_all}
use Rattle.std.proofs.lemmas.Bool.{leb-true}
use Rattle.std.proofs.lemmas.List.Elements.{All-head, All-tail}
use Rattle.save_format.specs.ByteFields.Spelling.{InTurn}
use Rattle.mem_files.specs.declared.open_file.OpenFile.{OpenFile}
use Rattle.mem_files.specs.declared.open_file.OpenFile.TheVariants.{Input, Stream1, Stream2, File}
use Rattle.mem_files.specs.Lists.{AreInRange, AreJoined, AreOrdered, FileLists, ListedFile, numbered_contents, is_listed, named, with_name}
use Rattle.mem_files.specs.Lists as lists
use Rattle.mem_files.specs.Names.{begins_with_dot_slash, is_file_name, is_stripped_name}
use Rattle.mem_files.specs.Outputs.{IsContent}
use Rattle.mem_files.specs.Sound.{IsOpenFileAt}
use Rattle.save_format.specs.StateText.StateText.{after_descriptor, after_file}
use Rattle.save_format.specs.StateText.Encoded.{IsDescriptor, IsFile, IsNameText, IsOpenFile}

first_two : (a b : Bool) → (a && b) ≡ true → (a ≡ true) × (b ≡ true)
first_two true b e = (refl, e)
first_two false b e = absurd cc

is_less : (a b : ℕ) → is_lt (nat_cmp a b) ≡ true → a < b
is_less a b h = elim (nat_cmp a b) as (λ r. nat_cmp a b ≡ r → is_lt r ≡ true → a < b) [
  | Less ↦ λ e t. ranked a b Less (sym e)
  | Equal ↦ λ e t. absurd cc
  | Greater ↦ λ e t. absurd cc
] refl h

-- numbers that rise
above : {A : Type 0} (number : A → ℕ) {X : Type 0} (value : A → X) (low : ℕ) (xs : List A) → below_all nat_cmp low (map (λ a. (number a, value a)) xs) ≡ true → All (λ a. low + 1 ≤ number a) xs
above number value low [] below = λ k d less. absurd (omega arith)
above {A} number value low (x ∷ xs) below =
    let parts = first_two (is_lt (nat_cmp low (number x))) (below_all nat_cmp low (map (λ a. (number a, value a)) xs)) below in
    let less = is_less low (number x) parts.0 in
    onto (λ (a : A). low + 1 ≤ number a) x xs (omega arith) (above number value low xs parts.1)
  where
    onto : (P : A → Type 0) (x : A) (xs : List A) → P x → All P xs → All P (x ∷ xs)
    onto P x xs first others zero d less = first
    onto P x xs first others (suc k) d less = others k d (omega arith)

pub short_name : (name : List ℕ) → is_stripped_name name ≡ true → (1 ≤ length name) × (length name ≤ 255)
short_name name e =
    let a = first_two (is_file_name name) (not (begins_with_dot_slash name)) e in
    let b = first_two (nat_le 1 (length name) && nat_le (length name) 255) (not (list_any (λ byte. eqb byte 0) name)) a.0 in
    let c = first_two (nat_le 1 (length name)) (nat_le (length name) 255) b.0 in
    (leb-true 1 (length name) c.0, leb-true (length name) 255 c.1)

abbrev pub Named : List ℕ × ℕ → Type 0
Named e = lists.IsHeldName e.0

name_here : (name : Option (List ℕ)) (number : ℕ) (others : List (List ℕ × ℕ)) → All Named (with_name name number others) → IsNameText name × All Named others
name_here None number others all = (tt, all)
name_here (Some name) number others all = let short = short_name name (All-head Named (name, number) others all).0 in let most = short.1 in ((short.0, omega arith), All-tail Named (name, number) others all)

file_turn : (files : List ListedFile) (least : ℕ) → finite.is_sorted nat_cmp (numbered_contents files) ≡ true → All (λ f. least ≤ f.number) files → All (λ f. f.number < file_number_end) files → All (λ f. IsContent f.content) files → All Named (named files)
    → InTurn IsFile after_file least files
file_turn [] least sorted from low good names = tt
file_turn (f ∷ files) least sorted from low good names =
    let parts = first_two (below_all nat_cmp f.number (numbered_contents files)) (finite.is_sorted nat_cmp (numbered_contents files)) sorted in
    let name = name_here f.name f.number (named files) names in
    let number = All-head (λ (f : ListedFile). f.number < file_number_end) f files low in
    let size = (All-head (λ (f : ListedFile). IsContent f.content) f files good).small in (
      record { from = All-head (λ (f : ListedFile). least ≤ f.number) f files from; number = omega arith; name = name.0; content = record { short = omega arith } },
      file_turn files (f.number + 1) parts.1 (above (λ (f : ListedFile). f.number) (λ f. f.content) f.number files parts.0)
          (All-tail (λ (f : ListedFile). f.number < file_number_end) f files low) (All-tail (λ (f : ListedFile). IsContent f.content) f files good) name.1,
    )

file_count : (files : List ListedFile) (least : ℕ) → InTurn IsFile after_file least files → All (λ f. f.number < file_number_end) files → least ≤ file_number_end → least + length files ≤ file_number_end
file_count [] least turn low le = omega arith
file_count (f ∷ files) least turn low le =
    let from = turn.0.from in
    let number = All-head (λ (f : ListedFile). f.number < file_number_end) f files low in
    let rest = file_count files (f.number + 1) turn.1 (All-tail (λ (f : ListedFile). f.number < file_number_end) f files low) (omega arith) in
    omega arith

any_low : (number : ℕ) (files : List ListedFile) → list_any (λ file. eqb file.number number) files ≡ true → All (λ f. f.number < file_number_end) files → number < file_number_end
any_low number [] e low = absurd cc
any_low number (f ∷ files) e low = by (eqb f.number number) refl e (λ later. any_low number files later (All-tail (λ (f : ListedFile). f.number < file_number_end) f files low))
  where
    by : (b : Bool) → eqb f.number number ≡ b → (b || list_any (λ file. eqb file.number number) files) ≡ true → (list_any (λ file. eqb file.number number) files ≡ true → number < file_number_end) → number < file_number_end
    by true is found rest = let same : f.number ≡ number = eqb-true f.number number is in let here = All-head (λ (f : ListedFile). f.number < file_number_end) f files low in omega arith
    by false is found rest = rest found

open_file_fits : (files : List ListedFile) (fd : ℕ) (open_file : OpenFile) → IsOpenFileAt fd open_file → is_listed files open_file ≡ true → All (λ f. f.number < file_number_end) files → IsOpenFile open_file
open_file_fits files fd Input good listed low = tt
open_file_fits files fd Stream1 good listed low = tt
open_file_fits files fd Stream2 good listed low = tt
open_file_fits files fd (File number file_offset access) good listed low = let small = any_low number files listed low in (omega arith, omega (arith, good))

pub paired : (xs : List (ℕ × OpenFile)) → map (λ e. (e.0, e.1)) xs ≡ xs
paired [] = refl
paired (x ∷ xs) = ap (λ ys. x ∷ ys) (paired xs)

open_file_turn : (files : List ListedFile) (open_files : List (ℕ × OpenFile)) (least : ℕ) → finite.is_sorted nat_cmp open_files ≡ true → All (λ e. least ≤ e.0) open_files → All (λ e. e.0 < 1024) open_files → All (λ e. IsOpenFileAt e.0 e.1) open_files → All (λ e. IsTrue (is_listed files e.1)) open_files → All (λ f. f.number < file_number_end) files
    → InTurn IsDescriptor after_descriptor least open_files
open_file_turn files [] least sorted from low good joined numbers = tt
open_file_turn files (e ∷ open_files) least sorted from low good joined numbers =
    let parts = first_two (below_all nat_cmp e.0 open_files) (finite.is_sorted nat_cmp open_files) sorted in
    let fd = All-head (λ (e : ℕ × OpenFile). e.0 < 1024) e open_files low in (
      record { from = All-head (λ (e : ℕ × OpenFile). least ≤ e.0) e open_files from; fd = omega arith; open_file = open_file_fits files e.0 e.1 (All-head (λ (e : ℕ × OpenFile). IsOpenFileAt e.0 e.1) e open_files good) (All-head (λ (e : ℕ × OpenFile). IsTrue (is_listed files e.1)) e open_files joined) numbers },
      open_file_turn files open_files (e.0 + 1) parts.1 (above (λ (e : ℕ × OpenFile). e.0) (λ e. e.1) e.0 open_files (all_same open_files e.0 parts.0))
          (All-tail (λ (e : ℕ × OpenFile). e.0 < 1024) e open_files low) (All-tail (λ (e : ℕ × OpenFile). IsOpenFileAt e.0 e.1) e open_files good) (All-tail (λ (e : ℕ × OpenFile). IsTrue (is_listed files e.1)) e open_files joined) numbers,
    )
  where
    all_same : (xs : List (ℕ × OpenFile)) (n : ℕ) → below_all nat_cmp n xs ≡ true → below_all nat_cmp n (map (λ e. (e.0, e.1)) xs) ≡ true
    all_same xs n below = ap (below_all nat_cmp n) (paired xs) ∙ below

open_file_count : (open_files : List (ℕ × OpenFile)) (least : ℕ) → InTurn IsDescriptor after_descriptor least open_files → All (λ e. e.0 < 1024) open_files → least ≤ 1024 → least + length open_files ≤ 1024
open_file_count [] least turn low le = omega arith
open_file_count (e ∷ open_files) least turn low le =
    let from = turn.0.from in
    let fd = All-head (λ (e : ℕ × OpenFile). e.0 < 1024) e open_files low in
    let rest = open_file_count open_files (e.0 + 1) turn.1 (All-tail (λ (e : ℕ × OpenFile). e.0 < 1024) e open_files low) (omega arith) in
    omega arith

-- files and descriptors in turn, few enough for a count
pub record HaveText (l : FileLists) : Type 0 where
  pub few_files : length l.files ≤ file_number_end
  pub few_open_files : length l.open_files ≤ 1024
  pub files : (length l.files < 2 ^ 32) × InTurn IsFile after_file 0 l.files
  pub open_files : (length l.open_files < 2 ^ 32) × InTurn IsDescriptor after_descriptor 0 l.open_files

pub have_text : (l : FileLists) → AreOrdered l → AreInRange l → AreJoined l → HaveText l
have_text l order range joined =
    let files = file_turn l.files 0 order.files_rise (λ k d less. omega arith) range.low_numbers range.good_files range.good_names in
    let open_files = open_file_turn l.files l.open_files 0 order.open_files_rise (λ k d less. omega arith) range.low_open_files range.good_open_files joined.held range.low_numbers in
    let few_files = file_count l.files 0 files range.low_numbers (omega arith) in
    let few_open_files = open_file_count l.open_files 0 open_files range.low_open_files (omega arith) in
    record { few_files = omega arith; few_open_files = omega arith; files = (omega arith, files); open_files = (omega arith, open_files) }
