-- Entries by rising numbers, one after the other.
use Rattle.std.proofs.Common.{◌≡◌, ℕ, ◌+◌, ◌<◌, ◌≤◌, true, false, cond, T, nat_le, List, [], ◌∷◌, find, Option, Some, None, refl, sym, ap, subst, ◌∙◌, arith}
use Rattle.ddc_base.specs.Limits.{file_number_end}
use Rattle.std.specs.List.{filter}
use Rattle.std.specs.Ordering.{is_lt, nat_cmp}
use Rattle.std.specs.Cmp.{ranked}
use Rattle.std.specs.declared.cmp.Ordering.TheVariants.{Less, Equal, Greater}
use Rattle.std.proofs.lemmas.Bool.{le-leb, leb-false, leb-true, lt-leb}
use Rattle.std.specs.FinMap as fin
use Rattle.std.specs.FinMap.Entries.{below_all}
use Rattle.std.proofs.lemmas.Option.{none-some, same_Some}
use Rattle.std.proofs.Common.{map, All, option_map, ◌++◌, append_assoc}
use Rattle.std.proofs.lemmas.List.{append-nil}
use Rattle.std.proofs.lemmas.List.Elements.{All-head, All-tail}
use Rattle.mem_files.specs.declared.open_file.OpenFile.{OpenFile}
use Rattle.mem_files.specs.declared.view.FileView.{FileView}
use Rattle.mem_files.specs.Lists.{AreInRange, ListedFile, file_from, first_from, listed, listed_file, lists_of, open_file_from}
use Rattle.mem_files.specs.World.{World}
use Rattle.mem_files.proofs.Maps.{both}

-- the entries at numbers that are not below one
abbrev pub from_on : {X : Type 0} → ℕ → List (ℕ × X) → List (ℕ × X)
from_on number es = filter (λ e. nat_le number e.0) es

is_less : (a b : ℕ) → T (is_lt (nat_cmp a b)) → a < b
is_less a b h = elim (nat_cmp a b) as (λ r. nat_cmp a b ≡ r → T (is_lt r) → a < b) [
  | Less ↦ λ e t. ranked a b Less (sym e)
  | Equal ↦ λ e t. absurd t
  | Greater ↦ λ e t. absurd t
] refl h

all_reached : {X : Type 0} (number low : ℕ) (es : List (ℕ × X)) → number ≤ low + 1 → T (below_all nat_cmp low es) → from_on number es ≡ es
all_reached number low [] le below = refl
all_reached number low (e ∷ es) le below =
    let parts = both (is_lt (nat_cmp low e.0)) (below_all nat_cmp low es) below in
    let above : low < e.0 = is_less low e.0 parts.0 in
    let passes : nat_le number e.0 ≡ true = le-leb number e.0 (omega arith) in
    rw passes (ap (λ rest. e ∷ rest) (all_reached number low es le parts.1))

-- all entries are at 0 or above
pub all_listed : {X : Type 0} (es : List (ℕ × X)) → from_on 0 es ≡ es
all_listed [] = refl
all_listed (e ∷ es) = rw (le-leb 0 e.0 (omega arith)) (ap (λ rest. e ∷ rest) (all_listed es))

-- it is from that number on
pub found : {X : Type 0} (number : ℕ) (e : ℕ × X) (es : List (ℕ × X)) → find (λ e. nat_le number e.0) es ≡ Some e → nat_le number e.0 ≡ true
found {X} number e [] is = absurd (none-some e is)
found {X} number e (x ∷ es) is =
    elim (nat_le number x.0) as (λ b. nat_le number x.0 ≡ b → cond b (Some x) (find (λ e. nat_le number e.0) es) ≡ Some e → nat_le number e.0 ≡ true) [
      | true ↦ λ t here. subst (λ (v : ℕ × X). nat_le number v.0 ≡ true) (same_Some x e here) t
      | false ↦ λ f later. found number e es later
    ] refl is

-- the first entry from a number on, and then those after it
pub next_listed : {X : Type 0} (number : ℕ) (e : ℕ × X) (es : List (ℕ × X)) → T (fin.is_sorted nat_cmp es) → find (λ e. nat_le number e.0) es ≡ Some e → from_on number es ≡ e ∷ from_on (e.0 + 1) es
next_listed {X} number e [] sorted is = absurd (none-some e is)
next_listed {X} number e (x ∷ es) sorted is =
    let parts = both (below_all nat_cmp x.0 es) (fin.is_sorted nat_cmp es) sorted in
    elim (nat_le number x.0) as (λ b. nat_le number x.0 ≡ b → cond b (Some x) (find (λ e. nat_le number e.0) es) ≡ Some e → cond b (x ∷ from_on number es) (from_on number es) ≡ e ∷ from_on (e.0 + 1) (x ∷ es)) [
      | true ↦ λ t here.
          let same : x ≡ e = same_Some x e here in
          let reached : number ≤ x.0 = leb-true number x.0 t in
          let past : nat_le (x.0 + 1) x.0 ≡ false = lt-leb (x.0 + 1) x.0 (omega arith) in
          let rest : from_on number es ≡ from_on (x.0 + 1) (x ∷ es) =
          rw past (all_reached number x.0 es (omega arith) parts.0 ∙ sym (all_reached (x.0 + 1) x.0 es (omega arith) parts.0)) in
          let P : ℕ × X → Type 0 = λ v. x ∷ from_on number es ≡ v ∷ from_on (v.0 + 1) (x ∷ es) in
          subst P same (ap (λ v. x ∷ v) rest)
      | false ↦ λ f later.
          let tail : from_on number es ≡ e ∷ from_on (e.0 + 1) es = next_listed number e es parts.1 later in
          let low : x.0 < number = leb-false number x.0 f in
          let high : number ≤ e.0 = leb-true number e.0 (found number e es later) in
          let past : nat_le (e.0 + 1) x.0 ≡ false = lt-leb (e.0 + 1) x.0 (omega arith) in
          rw past tail
    ] refl is

pub none_listed : {X : Type 0} (number : ℕ) (es : List (ℕ × X)) → find (λ e. nat_le number e.0) es ≡ None → from_on number es ≡ []
none_listed number [] is = refl
none_listed number (x ∷ es) is =
    elim (nat_le number x.0) as (λ b. cond b (Some x) (find (λ e. nat_le number e.0) es) ≡ None → cond b (x ∷ from_on number es) (from_on number es) ≡ []) [
      | true ↦ λ here. absurd (none-some x (sym here))
      | false ↦ λ later. none_listed number es later
    ] is

found_all : {A X : Type 0} (P : A → Type 0) (f : ℕ × X → A) (number : ℕ) (e : ℕ × X) (es : List (ℕ × X)) → All P (map f es) → find (λ e. nat_le number e.0) es ≡ Some e → P (f e)
found_all {A} {X} P f number e [] all is = absurd (none-some e is)
found_all {A} {X} P f number e (x ∷ es) all is =
    elim (nat_le number x.0) as (λ b. cond b (Some x) (find (λ e. nat_le number e.0) es) ≡ Some e → P (f e)) [
      | true ↦ λ here. subst (λ (v : ℕ × X). P (f v)) (same_Some x e here) (All-head P (f x) (map f es) all)
      | false ↦ λ later. found_all P f number e es (All-tail P (f x) (map f es) all) later
    ] is

found_open_file : (number : ℕ) (e : ℕ × OpenFile) (es : List (ℕ × OpenFile)) → All (λ e. e.0 < 1024) es → find (λ e. nat_le number e.0) es ≡ Some e → e.0 < 1024
found_open_file number e [] all is = absurd (none-some e is)
found_open_file number e (x ∷ es) all is =
    elim (nat_le number x.0) as (λ b. cond b (Some x) (find (λ e. nat_le number e.0) es) ≡ Some e → e.0 < 1024) [
      | true ↦ λ here. subst (λ (v : ℕ × OpenFile). v.0 < 1024) (same_Some x e here) (All-head (λ (e : ℕ × OpenFile). e.0 < 1024) x es all)
      | false ↦ λ later. found_open_file number e es (All-tail (λ (e : ℕ × OpenFile). e.0 < 1024) x es all) later
    ] is

-- ---- files and descriptors

abbrev pub files_from : World → ℕ → List ListedFile
files_from w number = map (listed_file w) (from_on number (fin.entries w.files))

-- what comes next, and what is left then
pub record Comes {A : Type 0} (from_here rest : List A) (x : A) (number at most : ℕ) : Type 0 where
  pub next : from_here ≡ x ∷ rest
  pub from : number ≤ at
  pub low : at < most

pub file_next : (w : World) (number : ℕ) (view : FileView) → AreInRange (lists_of w) → Some (listed view) ≡ file_from w number
    → Comes (files_from w number) (files_from w (view.number + 1)) (listed view) number view.number file_number_end
file_next w number view range is = at (first_from w.files number) refl is
  where
    at : (o : Option (ℕ × List ℕ)) → first_from w.files number ≡ o → Some (listed view) ≡ option_map (listed_file w) o
        → Comes (files_from w number) (files_from w (view.number + 1)) (listed view) number view.number file_number_end
    at None was e = absurd (none-some (listed view) (sym e))
    at (Some e) was same =
        let equal : listed view ≡ listed_file w e = same_Some (listed view) (listed_file w e) same in
        let numbered : view.number ≡ e.0 = ap (λ (f : ListedFile). f.number) equal in
        let tail : from_on number (fin.entries w.files) ≡ e ∷ from_on (e.0 + 1) (fin.entries w.files) = next_listed number e (fin.entries w.files) (fin.entries_sorted w.files) was in
        let reached : nat_le number e.0 ≡ true = found number e (fin.entries w.files) was in
        let low : e.0 < file_number_end = found_all (λ (f : ListedFile). f.number < file_number_end) (listed_file w) number e (fin.entries w.files) range.low_numbers was in
        record {
          next = ap (map (listed_file w)) tail ∙ (λ i. sym equal i ∷ files_from w (sym numbered i + 1));
          from = (let le = leb-true number e.0 reached in omega arith);
          low = omega arith;
        }

pub file_none : (w : World) (number : ℕ) → None ≡ file_from w number → files_from w number ≡ []
file_none w number is = at (first_from w.files number) refl is
  where
    at : (o : Option (ℕ × List ℕ)) → first_from w.files number ≡ o → None ≡ option_map (listed_file w) o → files_from w number ≡ []
    at None was e = ap (map (listed_file w)) (none_listed number (fin.entries w.files) was)
    at (Some e) was none = absurd (none-some (listed_file w e) none)

pub open_file_next : (w : World) (number : ℕ) (held : ℕ × OpenFile) → AreInRange (lists_of w) → Some held ≡ open_file_from w number
    → Comes (from_on number (fin.entries w.open_files)) (from_on (held.0 + 1) (fin.entries w.open_files)) held number held.0 1024
open_file_next w number held range is = record {
  next = next_listed number held (fin.entries w.open_files) (fin.entries_sorted w.open_files) (sym is);
  from = leb-true number held.0 (found number held (fin.entries w.open_files) (sym is));
  low = found_open_file number held (fin.entries w.open_files) range.low_open_files (sym is);
}

pub open_file_none : (w : World) (number : ℕ) → None ≡ open_file_from w number → from_on number (fin.entries w.open_files) ≡ []
open_file_none w number is = none_listed number (fin.entries w.open_files) (sym is)

-- an item more of a list that the rest of it makes up to the whole
pub one_more : {A : Type 0} (prefix : List A) (x : A) (from_here rest whole : List A) → from_here ≡ x ∷ rest → prefix ++ from_here ≡ whole → (prefix ++ x ∷ []) ++ rest ≡ whole
one_more prefix x from_here rest whole next is = append_assoc prefix (x ∷ []) rest ∙ ap (λ l. prefix ++ l) (sym next) ∙ is

pub all_found : {A : Type 0} (prefix from_here whole : List A) → from_here ≡ [] → prefix ++ from_here ≡ whole → prefix ≡ whole
all_found prefix from_here whole none is = sym (append-nil prefix) ∙ ap (λ l. prefix ++ l) (sym none) ∙ is
