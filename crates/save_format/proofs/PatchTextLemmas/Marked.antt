-- Registers that are read one after the other, as a loop does.
use Rattle.std.proofs.Common.{◌≡◌, ℕ, suc, ◌+◌, ◌/◌, ◌%◌, ◌<◌, ◌≤◌, ◌==◌, List, [], ◌∷◌, ◌++◌, length, drop, get_or, Ok, Err, refl, sym, ap, ◌∙◌, append_assoc, arith, drop_of_length-le, drop-cons}
use Rattle.std.proofs.lemmas.List.{append-nil}
use Rattle.save_format.specs.ByteFields.Reader.{Read, read_onward, done}
use Rattle.save_format.proofs.ByteFieldsLemmas.Loop.{with_prefix}
use Rattle.save_format.specs.PatchText.PatchText.{marked_at, register_at}

regroup : (prefix : List ℕ) (x : ℕ) (read : Read (List ℕ)) → with_prefix prefix (read_onward read (λ xs. done (x ∷ xs))) ≡ with_prefix (prefix ++ x ∷ []) read
regroup prefix x (Ok r) = ap (λ xs. Ok (xs, r.1)) (sym (append_assoc prefix (x ∷ []) r.0))
regroup prefix x (Err at) = refl

at_index : (base : List ℕ) (i : ℕ) → i < length base → drop i base ≡ get_or base i 0 ∷ drop (i + 1) base
at_index base i lt =
    let next : suc i ≡ i + 1 = omega arith in
    drop-cons base i 0 lt ∙ ap (λ (n : ℕ). get_or base i 0 ∷ drop n base) next

pub goes_on : (base : List ℕ) (marks i : ℕ) (prefix remaining : List ℕ) (x : ℕ) (after : List ℕ) (total : Read (List ℕ)) → i < length base → register_at (get_or base i 0) (marks % 2 == 1) remaining ≡ Ok (x, after)
    → with_prefix prefix (marked_at marks (drop i base) remaining) ≡ total → with_prefix (prefix ++ x ∷ []) (marked_at (marks / 2) (drop (i + 1) base) after) ≡ total
unfolding marked_at
goes_on base marks i prefix remaining x after total lt h so_far =
    let one : with_prefix prefix (marked_at marks (drop i base) remaining) ≡ with_prefix (prefix ++ x ∷ []) (marked_at (marks / 2) (drop (i + 1) base) after) =
    rw (at_index base i lt, h) (regroup prefix x (marked_at (marks / 2) (drop (i + 1) base) after)) in
    sym one ∙ so_far

pub stops : (base : List ℕ) (marks i at : ℕ) (prefix remaining : List ℕ) (total : Read (List ℕ)) → i < length base → register_at (get_or base i 0) (marks % 2 == 1) remaining ≡ Err at
    → with_prefix prefix (marked_at marks (drop i base) remaining) ≡ total → total ≡ Err at
unfolding marked_at
stops base marks i at prefix remaining total lt h so_far =
    let one : with_prefix prefix (marked_at marks (drop i base) remaining) ≡ Err at = rw (at_index base i lt, h) refl in
    sym so_far ∙ one

pub is_done : (base : List ℕ) (marks i : ℕ) (prefix remaining : List ℕ) (total : Read (List ℕ)) → length base ≤ i → with_prefix prefix (marked_at marks (drop i base) remaining) ≡ total → total ≡ Ok (prefix, remaining)
unfolding marked_at
is_done base marks i prefix remaining total le so_far =
    let one : with_prefix prefix (marked_at marks (drop i base) remaining) ≡ Ok (prefix, remaining) = rw (drop_of_length-le base le) (ap (λ xs. Ok (xs, remaining)) (append-nil prefix)) in
    sym so_far ∙ one
