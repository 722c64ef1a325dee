-- Lists that rise keep rising.
use Rattle.std.proofs.Common.{◌≡◌, ℕ, ◌<◌, Bool, true, false, ◌&&◌, List, [], ◌∷◌, ◌++◌, refl, ap, ◌∙◌, arith}
use Rattle.std.specs.Prelude.{All}
use Rattle.std.specs.Ordering.{nat_cmp, is_lt, MatchOrdering}
use Rattle.std.specs.declared.cmp.Ordering.{Ordering}
use Rattle.std.specs.declared.cmp.Ordering.TheVariants.{Less, Equal, Greater}
use Rattle.std.specs.Cmp.{ranks}
use Rattle.std.specs.FinMap as fin
use Rattle.std.specs.FinMap.Entries.{below_all}
use Rattle.std.proofs.lemmas.List.{map-append}
use Rattle.std.proofs.lemmas.List.Elements.{All-head, All-tail, All-append, All-cons, All-nil, All-map}
use Rattle.mem_files.specs.declared.open_file.OpenFile.{OpenFile}
use Rattle.mem_files.specs.Lists.{ListedFile, FileLists, numbered_contents}
use Rattle.checkpoints.specs.FileParts.Inside.Views.{AreParts, HasBytes}

under : (a k : ℕ) (r : Ordering) → MatchOrdering r (a < k) (a ≡ k) (k < a) → a < k → is_lt r ≡ true
under a k Less h less = refl
under a k Equal h less = absurd (omega arith)
under a k Greater h less = absurd (omega arith)

both_true : (a b : Bool) → a ≡ true → b ≡ true → (a && b) ≡ true
both_true true true p q = refl
both_true true false p q = q
both_true false b p q = p

first_true : (a b : Bool) → (a && b) ≡ true → a ≡ true
first_true true b h = refl
first_true false b h = h

second_true : (a b : Bool) → (a && b) ≡ true → b ≡ true
second_true true b h = h
second_true false b h = absurd cc

below_more : {X : Type 0} (a k : ℕ) (v : X) (es : List (ℕ × X)) → below_all nat_cmp a es ≡ true → a < k → below_all nat_cmp a (es ++ (k, v) ∷ []) ≡ true
below_more a k v [] below less = both_true (is_lt (nat_cmp a k)) true (under a k (nat_cmp a k) (ranks a k) less) refl
below_more a k v (e ∷ es) below less =
    both_true (is_lt (nat_cmp a e.0)) (below_all nat_cmp a (es ++ (k, v) ∷ [])) (first_true _ (below_all nat_cmp a es) below) (below_more a k v es (second_true (is_lt (nat_cmp a e.0)) _ below) less)

pub risen_more : {X : Type 0} (k : ℕ) (v : X) (es : List (ℕ × X)) → fin.is_sorted nat_cmp es ≡ true → All (λ e. e.0 < k) es → fin.is_sorted nat_cmp (es ++ (k, v) ∷ []) ≡ true
risen_more k v [] rise low = refl
risen_more k v (e ∷ es) rise low =
    both_true (below_all nat_cmp e.0 (es ++ (k, v) ∷ [])) (fin.is_sorted nat_cmp (es ++ (k, v) ∷ []))
    (below_more e.0 k v es (first_true _ (fin.is_sorted nat_cmp es) rise) (All-head (λ e. e.0 < k) e es low))
    (risen_more k v es (second_true (below_all nat_cmp e.0 es) _ rise) (All-tail (λ e. e.0 < k) e es low))

pub all_more : {A : Type 0} (P : A → Type 0) (xs : List A) (x : A) → All P xs → P x → All P (xs ++ x ∷ [])
all_more P xs x all one = All-append P xs (x ∷ []) all (All-cons P x [] one (All-nil P))

pub files_risen : (f : ListedFile) (files : List ListedFile) → fin.is_sorted nat_cmp (numbered_contents files) ≡ true → All (λ file. file.number < f.number) files → fin.is_sorted nat_cmp (numbered_contents (files ++ f ∷ [])) ≡ true
files_risen f files rise low =
    ap (λ (es : List (ℕ × List ℕ)). fin.is_sorted nat_cmp es) (map-append (λ (file : ListedFile). (file.number, file.content)) files (f ∷ []))
    ∙ risen_more f.number f.content (numbered_contents files) rise (low_contents files low)
  where
    low_contents : (files : List ListedFile) → All (λ file. file.number < f.number) files → All (λ e. e.0 < f.number) (numbered_contents files)
    low_contents files low = All-map (λ e. e.0 < f.number) (λ (file : ListedFile). (file.number, file.content)) files low

pub open_file_pushed : (fd : ℕ) (open_file : OpenFile) (lists : FileLists) → AreParts lists → All (λ held. held.0 < fd) lists.open_files → AreParts (record lists { open_files = lists.open_files ++ (fd, open_file) ∷ [] })
open_file_pushed fd open_file lists parts low = record {
  files_rise = parts.files_rise;
  open_files_rise = risen_more fd open_file lists.open_files parts.open_files_rise low;
  few_streams = parts.few_streams;
  file_bytes = parts.file_bytes;
  stream_bytes = parts.stream_bytes;
}

pub file_pushed : (file : ListedFile) (lists : FileLists) → AreParts lists → All (λ other. other.number < file.number) lists.files → HasBytes file → AreParts (record lists { files = lists.files ++ file ∷ [] })
file_pushed file lists parts low bytes = record {
  files_rise = files_risen file lists.files parts.files_rise low;
  open_files_rise = parts.open_files_rise;
  few_streams = parts.few_streams;
  file_bytes = all_more HasBytes lists.files file parts.file_bytes bytes;
  stream_bytes = parts.stream_bytes;
}
