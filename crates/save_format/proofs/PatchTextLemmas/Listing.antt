-- Items that are read in the light of what a base has: what it has from the item's number on is enough.
use Rattle.std.proofs.Common.{◌≡◌, ℕ, zero, suc, ◌+◌, ◌≤◌, Bool, true, false, cond, nat_le, List, [], ◌∷◌, length, option_map, Ok, Err, refl, ap, subst, arith, leb-true}
use Rattle.save_format.specs.ByteFields.Reader.{Read, Reader, blob, done, read_onward, several, tested, u32, u32_from, ◌>>=◌}
use Rattle.std.specs.Int.{w16}
use Rattle.save_format.proofs.ByteFieldsLemmas.Encodes.{same_value}
use Rattle.mem_files.specs.Lists.{ListedFile}
use Rattle.save_format.specs.StateText.StateText.{PageText, after_file, optional_name}
use Rattle.save_format.specs.StateText.Encoded.{IsFile}
use Rattle.save_format.specs.ByteFields.Spelling.{InTurn}
use Rattle.save_format.specs.PatchText.Inside.Walking.{Rises, SameFrom}
use Rattle.save_format.specs.PatchText.PatchText.{PageChange, after_change, change_at, changed_bytes_at, content_relative_at, content_in, patched_file_at, page_in}

-- a number from one on, and then what goes by it
numbered_alike : {A : Type 0} (least : ℕ) (remaining : List ℕ) (next other : ℕ → Reader A) → ((n : ℕ) (rest : List ℕ) → least ≤ n → next n rest ≡ other n rest) → (u32_from least >>= next) remaining ≡ (u32_from least >>= other) remaining
numbered_alike {A} least remaining next other same = by (u32 remaining)
  where
    by_test : (b : Bool) (n : ℕ) (rest : List ℕ) → nat_le least n ≡ b → read_onward (cond b (Ok (n, rest)) (Err (length remaining))) next ≡ read_onward (cond b (Ok (n, rest)) (Err (length remaining))) other
    by_test true n rest e = same n rest (leb-true least n e)
    by_test false n rest e = refl

    by : (r : Read ℕ) → read_onward (tested (λ n. nat_le least n) r (length remaining)) next ≡ read_onward (tested (λ n. nat_le least n) r (length remaining)) other
    by (Ok x) = by_test (nat_le least x.0) x.0 x.1 refl
    by (Err at) = refl

pub change_alike : (xs ys : List PageText) (least : ℕ) (remaining : List ℕ) → SameFrom (λ page. page.number) least xs ys → change_at ys least remaining ≡ change_at xs least remaining
unfolding change_at
change_alike xs ys least remaining same =
    numbered_alike least remaining (λ number. changed_bytes_at (page_in ys number) >>= λ found. done (record { number = number; bytes = found })) (λ number. changed_bytes_at (page_in xs number) >>= λ found. done (record { number = number; bytes = found }))
    (λ n rest le. ap (λ o. read_onward (changed_bytes_at (option_map (λ page. page.bytes) o) rest) (λ found. done (record { number = n; bytes = found }))) (same n le))

pub file_alike : (xs ys : List ListedFile) (least : ℕ) (remaining : List ℕ) → SameFrom (λ file. file.number) least xs ys → patched_file_at ys least remaining ≡ patched_file_at xs least remaining
unfolding patched_file_at
file_alike xs ys least remaining same =
    numbered_alike least remaining
    (λ number. blob w16 >>= λ name. content_relative_at (content_in ys number) >>= λ content. done (record { number = number; name = optional_name name; content = content }))
    (λ number. blob w16 >>= λ name. content_relative_at (content_in xs number) >>= λ content. done (record { number = number; name = optional_name name; content = content }))
    (λ n rest le. ap (λ o. read_onward (blob w16 rest) (λ name. content_relative_at (option_map (λ file. file.content) o) >>= λ content. done (record { number = n; name = optional_name name; content = content }))) (same n le))

-- ---- changes that are read are by rising numbers

read_on : {A B : Type 0} (r : Read A) (next : A → Reader B) (y : B) (rest : List ℕ) → read_onward r next ≡ Ok (y, rest) → (x : A) × (remaining : List ℕ) × (r ≡ Ok (x, remaining)) × (next x remaining ≡ Ok (y, rest))
read_on (Ok x) next y rest e = (x.0, x.1, refl, e)
read_on (Err at) next y rest e = absurd cc

from_least : (least : ℕ) (r : Read ℕ) (at n : ℕ) (rest : List ℕ) → tested (λ n. nat_le least n) r at ≡ Ok (n, rest) → least ≤ n
from_least least (Ok x) at n rest e = by (nat_le least x.0) refl e
  where
    by : (b : Bool) → nat_le least x.0 ≡ b → cond b (Ok x) (Err at) ≡ Ok (n, rest) → least ≤ n
    by true t f = omega (arith, leb-true least x.0 t, same_value x.0 n x.1 rest f)
    by false t f = absurd cc
from_least least (Err remaining) at n rest e = absurd cc

pub change_from_least : (base : List PageText) (least : ℕ) (remaining : List ℕ) (c : PageChange) (rest : List ℕ) → change_at base least remaining ≡ Ok (c, rest) → least ≤ c.number
unfolding change_at
change_from_least base least remaining c rest e =
    let a = read_on (u32_from least remaining) (λ number. changed_bytes_at (page_in base number) >>= λ found. done (record { number = number; bytes = found })) c rest e in
    let b = read_on (changed_bytes_at (page_in base a.0) a.1) (λ found. done (record { number = a.0; bytes = found })) c rest a.3 in
    let is : record { number = a.0; bytes = b.0 } ≡ c = same_value (record { number = a.0; bytes = b.0 }) c b.1 rest b.3 in
    omega (arith, from_least least (u32 remaining) (length remaining) a.0 a.1 a.2, ap (λ (v : PageChange). v.number) is)

pub changes_rise : (base : List PageText) (count least : ℕ) (remaining : List ℕ) (cs : List PageChange) (rest : List ℕ) → several (change_at base) after_change least count remaining ≡ Ok (cs, rest) → Rises (λ change. change.number) least cs
unfolding several
changes_rise base zero least remaining cs rest e = subst (Rises (λ change. change.number) least) (same_value [] cs remaining rest e) tt
changes_rise base (suc count) least remaining cs rest e =
    let a = read_on (change_at base least remaining) (λ x. several (change_at base) after_change (after_change x) count >>= λ xs. done (x ∷ xs)) cs rest e in
    let b = read_on (several (change_at base) after_change (after_change a.0) count a.1) (λ xs. done (a.0 ∷ xs)) cs rest a.3 in
    subst (Rises (λ change. change.number) least) (same_value (a.0 ∷ b.0) cs b.1 rest b.3)
    (change_from_least base least remaining a.0 a.1 a.2, changes_rise base count (after_change a.0) a.1 b.0 b.1 b.2)

-- ---- files

abbrev pub file_number : ListedFile → ℕ
file_number file = file.number

pub file_from_least : (base : List ListedFile) (least : ℕ) (remaining : List ℕ) (f : ListedFile) (rest : List ℕ) → patched_file_at base least remaining ≡ Ok (f, rest) → least ≤ f.number
unfolding patched_file_at
file_from_least base least remaining f rest e =
    let a = read_on (u32_from least remaining) (λ number. blob w16 >>= λ name. content_relative_at (content_in base number) >>= λ content. done (record { number = number; name = optional_name name; content = content })) f rest e in
    let b = read_on (blob w16 a.1) (λ name. content_relative_at (content_in base a.0) >>= λ content. done (record { number = a.0; name = optional_name name; content = content })) f rest a.3 in
    let d = read_on (content_relative_at (content_in base a.0) b.1) (λ content. done (record { number = a.0; name = optional_name b.0; content = content })) f rest b.3 in
    let is : record { number = a.0; name = optional_name b.0; content = d.0 } ≡ f = same_value (record { number = a.0; name = optional_name b.0; content = d.0 }) f d.1 rest d.3 in
    omega (arith, from_least least (u32 remaining) (length remaining) a.0 a.1 a.2, ap file_number is)

files_rise_from : (least : ℕ) (files : List ListedFile) → InTurn IsFile after_file least files → Rises file_number least files
files_rise_from least [] turn = tt
files_rise_from least (file ∷ files) turn = (turn.0.from, files_rise_from (file.number + 1) files turn.1)

pub files_rise : (files : List ListedFile) → InTurn IsFile after_file 0 files → Rises file_number 0 files
files_rise files turn = files_rise_from 0 files turn
