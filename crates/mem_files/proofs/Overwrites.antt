-- Bytes that are written at a place, after zeros up to their end.
use Rattle.std.proofs.Common.{◌≡◌, ℕ, ◌+◌, ◌-◌, ◌≤◌, List, ◌++◌, length, take, drop, replicate, sym, ap, ◌∙◌, arith, inl, inr}
use Rattle.std.proofs.lemmas.List.{take-append-le, take-replicate, take_all, append-nil, length-take, length-drop, length-append, length-replicate}
use Rattle.std.proofs.Math.Seq.{take-append-add}
use Rattle.std.proofs.Math.ListN.{drop_of_length-le}
use Rattle.std.proofs.lemmas.Bool.{cases_lt}
use Rattle.mem_files.specs.Calls.{written_over}

take-padded : (old : List ℕ) (offset n : ℕ) → offset - length old ≤ n → take offset (old ++ replicate n 0) ≡ take offset old ++ replicate (offset - length old) 0
take-padded old offset n few =
    elim (cases_lt (length old) offset) as (λ _. take offset (old ++ replicate n 0) ≡ take offset old ++ replicate (offset - length old) 0) [
      | inl past ↦
          let split : offset ≡ length old + (offset - length old) = omega arith in
          ap (λ k. take k (old ++ replicate n 0)) split ∙ take-append-add old (replicate n 0) (offset - length old)
          ∙ ap (λ rest. old ++ rest) (take-replicate (offset - length old) n 0 few) ∙ ap (λ prefix. prefix ++ replicate (offset - length old) 0) (sym (take_all offset old (omega arith)))
      | inr inside ↦
          let none : offset - length old ≡ 0 = omega arith in
          take-append-le offset old (replicate n 0) inside ∙ sym (append-nil (take offset old)) ∙ ap (λ k. take offset old ++ replicate k 0) (sym none)
    ]

drop-padded : (old : List ℕ) (end : ℕ) → drop end (old ++ replicate (end - length old) 0) ≡ drop end old
drop-padded old end =
    elim (cases_lt (length old) end) as (λ _. drop end (old ++ replicate (end - length old) 0) ≡ drop end old) [
      | inl past ↦ drop_of_length-le (old ++ replicate (end - length old) 0) (omega (arith, length-append old (replicate (end - length old) 0), length-replicate {A = ℕ} (end - length old) 0))
          ∙ sym (drop_of_length-le old (omega arith))
      | inr inside ↦
          let none : end - length old ≡ 0 = omega arith in
          ap (λ k. drop end (old ++ replicate k 0)) none ∙ ap (drop end) (append-nil old)
    ]

-- what is left where bytes are copied into a slice of the same length
pub put_is : (old bytes items copied : List ℕ) (offset n : ℕ) → items ≡ old ++ replicate (offset + length bytes - length old) 0 → copied ≡ take offset items ++ bytes ++ drop (offset + length bytes) items → n ≡ length items
    → take n (copied ++ drop (length copied) items) ≡ written_over old offset bytes
put_is old bytes items copied offset n grown is len =
    let long : length items ≡ length old + (offset + length bytes - length old) = ap length grown ∙ omega (arith, length-append old (replicate (offset + length bytes - length old) 0), length-replicate {A = ℕ} (offset + length bytes - length old) 0) in
    let same : length copied ≡ length items = ap length is ∙ omega (arith, length-append (take offset items ++ bytes) (drop (offset + length bytes) items), length-append (take offset items) bytes, length-take offset items, length-drop (offset + length bytes) items) in
    ap (λ rest. take n (copied ++ rest)) (drop_of_length-le items (omega arith)) ∙ ap (take n) (append-nil copied) ∙ take_all n copied (omega arith)
    ∙ is ∙ ap (λ l. take offset l ++ bytes ++ drop (offset + length bytes) l) grown
    ∙ ap (λ prefix. prefix ++ bytes ++ drop (offset + length bytes) (old ++ replicate (offset + length bytes - length old) 0)) (take-padded old offset (offset + length bytes - length old) (omega arith))
    ∙ ap (λ rest. take offset old ++ replicate (offset - length old) 0 ++ bytes ++ rest) (drop-padded old (offset + length bytes))

-- a write adds what its end is past the old end
pub length-written_over : (old : List ℕ) (offset : ℕ) (bytes : List ℕ) → length (written_over old offset bytes) ≡ length old + (offset + length bytes - length old)
length-written_over old offset bytes =
    let parts : length (written_over old offset bytes) ≡ length (take offset old) + length (replicate {A = ℕ} (offset - length old) 0) + length bytes + length (drop (offset + length bytes) old) =
    length-append (take offset old ++ replicate (offset - length old) 0 ++ bytes) (drop (offset + length bytes) old)
    ∙ omega (arith, length-append (take offset old ++ replicate (offset - length old) 0) bytes, length-append (take offset old) (replicate {A = ℕ} (offset - length old) 0)) in
    omega (arith, length-take offset old, length-replicate {A = ℕ} (offset - length old) 0, length-drop (offset + length bytes) old)
