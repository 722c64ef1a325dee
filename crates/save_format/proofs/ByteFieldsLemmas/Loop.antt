-- Reading items one after the other, as a loop does.
use Rattle.std.proofs.Common.{◌≡◌, ℕ, suc, ◌-◌, ◌+◌, ◌≤◌, ◌<◌, List, [], ◌∷◌, ◌++◌, Result, Ok, Err, refl, sym, ap, ◌∙◌, append_assoc, arith}
use Rattle.std.proofs.lemmas.List.{append-nil}
use Rattle.save_format.specs.declared.byte_fields.cursor.WrongField.{WrongField}
use Rattle.save_format.specs.declared.byte_fields.cursor.ReadStop.{ReadStop}
use Rattle.save_format.specs.declared.byte_fields.cursor.ReadStop.TheVariants as stop
use Rattle.save_format.specs.ByteFields.Reader.{Read, Reader, read_onward, done, several, FailsField}
use Rattle.save_format.specs.Inside.Passing.{GoesPast}

-- what was read before, and what is still read
abbrev pub with_prefix : {A : Type 0} → List A → Read (List A) → Read (List A)
with_prefix prefix read = read_onward read (λ xs. done (prefix ++ xs))

regroup : {A : Type 0} (prefix : List A) (x : A) (read : Read (List A)) → with_prefix prefix (read_onward read (λ xs. done (x ∷ xs))) ≡ with_prefix (prefix ++ x ∷ []) read
regroup prefix x (Ok r) = ap (λ xs. Ok (xs, r.1)) (simp append_assoc)
regroup prefix x (Err at) = refl

pub goes_on : {A S : Type 0} (item : S → Reader A) (next : A → S) (s after_x : S) (prefix : List A) (count i : ℕ) (remaining : List ℕ) (x : A) (after : List ℕ) (total : Read (List A)) → i < count → item s remaining ≡ Ok (x, after) → next x ≡ after_x
    → with_prefix prefix (several item next s (count - i) remaining) ≡ total → with_prefix (prefix ++ x ∷ []) (several item next after_x (count - (i + 1)) after) ≡ total
unfolding several
goes_on {A} {S} item next s after_x prefix count i remaining x after total lt h is so_far =
    let k : count - i ≡ suc (count - (i + 1)) = omega arith in
    let one : with_prefix prefix (several item next s (count - i) remaining) ≡ with_prefix (prefix ++ x ∷ []) (several item next (next x) (count - (i + 1)) after) = rw (k, h) (regroup prefix x (several item next (next x) (count - (i + 1)) after)) in
    ap (λ (t : S). with_prefix (prefix ++ x ∷ []) (several item next t (count - (i + 1)) after)) (sym is) ∙ sym one ∙ so_far

-- a wrong item ends it
pub stops : {A S : Type 0} (item : S → Reader A) (next : A → S) (s : S) (at : ℕ) (prefix : List A) (count i : ℕ) (remaining : List ℕ) (total : Read (List A)) → i < count → item s remaining ≡ Err at
    → with_prefix prefix (several item next s (count - i) remaining) ≡ total → total ≡ Err at
unfolding several
stops item next s at prefix count i remaining total lt h so_far =
    let k : count - i ≡ suc (count - (i + 1)) = omega arith in
    let one : with_prefix prefix (several item next s (count - i) remaining) ≡ Err at = rw (k, h) refl in
    sym so_far ∙ one

-- an item that fails ends it
pub fails : {A S : Type 0} (item : S → Reader A) (next : A → S) (s : S) (e : ReadStop) (prefix : List A) (count i : ℕ) (remaining : List ℕ) (total : Read (List A)) → i < count → FailsField e (item s remaining)
    → with_prefix prefix (several item next s (count - i) remaining) ≡ total → FailsField e total
fails item next s stop.OutOfMemory prefix count i remaining total lt h so_far = tt
fails item next s (stop.Wrong at) prefix count i remaining total lt h so_far = stops item next s at prefix count i remaining total lt h so_far

pub is_done : {A S : Type 0} (item : S → Reader A) (next : A → S) (s : S) (prefix : List A) (count i : ℕ) (remaining : List ℕ) (total : Read (List A)) → count ≤ i → with_prefix prefix (several item next s (count - i) remaining) ≡ total → total ≡ Ok (prefix, remaining)
unfolding several
is_done item next s prefix count i remaining total le so_far =
    let k : count - i ≡ 0 = omega arith in
    let one : with_prefix prefix (several item next s (count - i) remaining) ≡ Ok (prefix, remaining) = rw k (ap (λ xs. Ok (xs, remaining)) (append-nil prefix)) in
    sym so_far ∙ one

-- ---- past items, whatever they are

-- some items were read before those that are still read
abbrev pub Went : {A S : Type 0} → (S → Reader A) → (A → S) → S → ℕ → List ℕ → Read (List A) → Type 0
Went {A} {S} item next s count remaining total = (prefix : List A) × (with_prefix prefix (several item next s count remaining) ≡ total)

pub none_before : {A : Type 0} (read : Read (List A)) → with_prefix [] read ≡ read
none_before (Ok r) = refl
none_before (Err at) = refl

pub sets_out : {A S : Type 0} (item : S → Reader A) (next : A → S) (s : S) (count : ℕ) (remaining : List ℕ) → Went item next s (count - 0) remaining (several item next s count remaining)
sets_out item next s count remaining =
    let all : count - 0 ≡ count = omega arith in
    ([], none_before (several item next s (count - 0) remaining) ∙ ap (λ n. several item next s n remaining) all)

pub went_on : {A S : Type 0} (item : S → Reader A) (next : A → S) (s after_x : S) (count i : ℕ) (remaining : List ℕ) (x : A) (after : List ℕ) (total : Read (List A)) → i < count → item s remaining ≡ Ok (x, after) → next x ≡ after_x
    → Went item next s (count - i) remaining total → Went item next after_x (count - (i + 1)) after total
went_on item next s after_x count i remaining x after total lt h is went = (went.0 ++ x ∷ [], goes_on item next s after_x went.0 count i remaining x after total lt h is went.1)

pub went_wrong : {A S : Type 0} (item : S → Reader A) (next : A → S) (s : S) (at count i : ℕ) (remaining : List ℕ) (total : Read (List A)) → i < count → item s remaining ≡ Err at
    → Went item next s (count - i) remaining total → total ≡ Err at
went_wrong item next s at count i remaining total lt h went = stops item next s at went.0 count i remaining total lt h went.1

pub went_past : {A S : Type 0} (item : S → Reader A) (next : A → S) (s : S) (count i : ℕ) (remaining : List ℕ) (total : Read (List A)) → count ≤ i → Went item next s (count - i) remaining total
    → (xs : List A) × (total ≡ Ok (xs, remaining))
went_past item next s count i remaining total le went = (went.0, is_done item next s went.0 count i remaining total le went.1)

-- past a field, and what is made of it
pub past_on : {A B : Type 0} (f : A → B) (result : Result (Unit {0}) WrongField) (remaining : List ℕ) (read : Read A) → GoesPast result remaining read → GoesPast result remaining (read_onward read (λ x. done (f x)))
past_on f (Ok past) remaining read goes = (f goes.0, rw goes.1 refl)
past_on f (Err field) remaining read goes = rw goes refl
