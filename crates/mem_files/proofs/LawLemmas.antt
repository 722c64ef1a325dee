-- What is read after a write at the same place, and after a name is removed.
use Rattle.std.proofs.Common.{◌≡◌, ℕ, ◌+◌, ◌-◌, ◌^◌, ◌<◌, true, false, cond, ◌||◌, ◌==◌, eqb, nat_lt, pos, if◌then◌else◌, List, [], ◌∷◌, ◌++◌, length, take, drop, replicate, Option, Some, None, Result, Ok, Err, IsTrue, unwrap_or, refl, sym, ap, ◌∙◌, arith, append_assoc, eq-eqb, eqb-true}
use Rattle.std.proofs.lemmas.List.{length-append, length-take, length-replicate}
use Rattle.std.proofs.Math.Seq.{drop-append_seam, take-append_seam}
use Rattle.std.proofs.lemmas.Bool.{false≢true}
use Rattle.std.proofs.lemmas.Bool.Decides.{nat_tests}
use Rattle.std.specs.FinMap as fin
use Rattle.mem_files.specs.declared.open_file.OpenFile.{OpenFile}
use Rattle.mem_files.specs.declared.open_file.OpenFile.TheVariants.{Input, Stream1, Stream2, File}
use Rattle.mem_files.specs.Linux.{seek_set, ebadf}
use Rattle.mem_files.specs.Access.{is_read}
use Rattle.mem_files.specs.declared.open_file.Access.{Access}
use Rattle.mem_files.specs.World.{World, content_of, is_named, is_open}
use Rattle.mem_files.specs.Calls.{fits, write_file_offset, filled, written, written_if, with_file_offset, sought, sought_at, ready, ready_at, removed, removed_at, written_over, with_content}
use Rattle.mem_files.specs.Inside.Kept.{IsKept}
use Rattle.mem_files.proofs.Entries.{here, left}
use Rattle.mem_files.proofs.Keeping.{open_by, neither}

-- the bytes that were written stand at their place
read_back : (old : List ℕ) (offset : ℕ) (bytes : List ℕ) → take (length bytes) (drop offset (written_over old offset bytes)) ≡ bytes
read_back old offset bytes =
    let prefix : List ℕ = take offset old ++ replicate (offset - length old) 0 in
    let rest : List ℕ = drop (offset + length bytes) old in
    let long : offset ≡ length prefix = omega (arith, length-append (take offset old) (replicate {A = ℕ} (offset - length old) 0), length-take offset old, length-replicate {A = ℕ} (offset - length old) 0) in
    ap (λ l. take (length bytes) (drop offset l)) (let parts : prefix ++ bytes ++ rest ≡ prefix ++ (bytes ++ rest) = simp append_assoc in parts) ∙ ap (λ n. take (length bytes) (drop n (prefix ++ (bytes ++ rest)))) long
    ∙ ap (take (length bytes)) (drop-append_seam prefix (bytes ++ rest)) ∙ take-append_seam bytes rest

-- a file offset is set
set_back : (w : World) (fd number now : ℕ) (access : Access) (file_offset : ℕ) → fin.get w.open_files fd ≡ Some (File number now access) → file_offset < 2 ^ 63
    → (sought w fd (pos file_offset) seek_set).1 ≡ record w { open_files = fin.insert w.open_files fd (File number file_offset access) }
set_back w fd number now access file_offset at small =
    ap (λ o. (sought_at w fd (pos file_offset) seek_set o).1) at
    ∙ ap (λ b. (with_file_offset w fd number access (if b then Some (0 + file_offset) else None)).1) (let fit : nat_lt (0 + file_offset) (2 ^ 63) ≡ true = (grind (arith, nat_tests)) in fit)
    ∙ ap (λ n. record w { open_files = fin.insert w.open_files fd (File number n access) }) (let same : 0 + file_offset ≡ file_offset = omega arith in same)

read_there : (w : World) (fd number file_offset : ℕ) (access : Access) (count : ℕ) (bytes : List ℕ) → IsTrue (is_read access) → take count (drop file_offset (content_of w number)) ≡ bytes
    → ready (record w { open_files = fin.insert w.open_files fd (File number file_offset access) }) fd count ≡ Ok bytes
read_there w fd number file_offset access count bytes may same =
    ap (ready_at (record w { open_files = fin.insert w.open_files fd (File number file_offset access) }) count) (here w.open_files fd (File number file_offset access))
    ∙ ap (λ b. if b then Ok (take count (drop file_offset (content_of w number))) else Err ebadf) may ∙ ap (λ l. Ok l) same

pub written_read : (w new : World) (fd number file_offset : ℕ) (access : Access) (bytes : List ℕ) → IsKept w → fin.get w.open_files fd ≡ Some (File number file_offset access) → IsTrue (is_read access) → access.appends ≡ false
    → written w fd bytes ≡ (Ok tt, new) → ready (sought new fd (pos file_offset) seek_set).1 fd (length bytes) ≡ Ok bytes
written_read w new fd number file_offset access bytes s at may ends done = at_fit (fits w fd (length bytes)) refl done
  where
    small : file_offset < 2 ^ 63
    small = (s.good_open_files fd (File number file_offset access) at).1.1

    after : (v : World) (now : ℕ) → fin.get v.open_files fd ≡ Some (File number now access) → take (length bytes) (drop file_offset (content_of v number)) ≡ bytes → ready (sought v fd (pos file_offset) seek_set).1 fd (length bytes) ≡ Ok bytes
    after v now held same = ap (λ (u : World). ready u fd (length bytes)) (set_back v fd number now access file_offset held small) ∙ read_there v fd number file_offset access (length bytes) bytes may same

    nothing : (l : List ℕ) → length l ≡ 0 → l ≡ []
    nothing [] h = refl
    nothing (x ∷ l) h = absurd (omega arith)

    full : World
    full = with_content w fd number access bytes (write_file_offset access (length (content_of w number)) file_offset)

    filled_full : filled w fd bytes (fin.get w.open_files fd) ≡ full
    filled_full = ap (filled w fd bytes) at

    full_content : content_of full number ≡ written_over (content_of w number) file_offset bytes
    full_content = ap (λ o. unwrap_or o []) (here w.files number _) ∙ ap (λ b. written_over (content_of w number) (if b then length (content_of w number) else file_offset) bytes) ends

    at_fit : (r : Result (Unit {0}) ℕ) → fits w fd (length bytes) ≡ r → written_if w fd bytes r ≡ (Ok tt, new) → ready (sought new fd (pos file_offset) seek_set).1 fd (length bytes) ≡ Ok bytes
    at_fit (Err errno) e d = absurd (not_err errno (ap (λ p. p.0) d))
      where
        not_err : (n : ℕ) → ◌≡◌ {A = Result (Unit {0}) ℕ} (Err n) (Ok tt) → ⊥
        not_err n e = cc
    at_fit (Ok unit) e d =
        let world : (if length bytes == 0 then w else filled w fd bytes (fin.get w.open_files fd)) ≡ new = ap (λ p. p.1) d in
        elim (eqb (length bytes) 0) as (λ b. eqb (length bytes) 0 ≡ b → cond b w (filled w fd bytes (fin.get w.open_files fd)) ≡ new → ready (sought new fd (pos file_offset) seek_set).1 fd (length bytes) ≡ Ok bytes) [
          | true ↦ λ t same.
              let none = nothing bytes (eqb-true (length bytes) 0 t) in
              after new file_offset (ap (λ (u : World). fin.get u.open_files fd) (sym same) ∙ at) (ap (λ l. take (length l) (drop file_offset (content_of new number))) none ∙ sym none)
          | false ↦ λ _ same.
              let is : full ≡ new = sym filled_full ∙ same in
              after new _ (ap (λ (u : World). fin.get u.open_files fd) (sym is) ∙ here w.open_files fd _)
              (ap (λ (u : World). take (length bytes) (drop file_offset (content_of u number))) (sym is) ∙ ap (λ l. take (length bytes) (drop file_offset l)) full_content ∙ read_back (content_of w number) file_offset bytes)
        ] refl world

pub removed_read : (w : World) (name : List ℕ) (fd count : ℕ) → ready (removed w name).1 fd count ≡ ready w fd count
removed_read w name fd count = at_name (fin.get w.names name)
  where
    kept : (number : ℕ) → is_open w number ≡ false → (o : Option OpenFile) → fin.get w.open_files fd ≡ o → ready_at (record w { names = fin.remove w.names name; files = fin.remove w.files number }) count o ≡ ready_at w count o
    kept number unused None e = refl
    kept number unused (Some Input) e = refl
    kept number unused (Some Stream1) e = refl
    kept number unused (Some Stream2) e = refl
    kept number unused (Some (File held file_offset access)) e =
        ap (λ o. if is_read access then Ok (take count (drop file_offset (unwrap_or o []))) else Err ebadf)
        (left w.files number held (λ same. false≢true (sym unused ∙ open_by w fd (File held file_offset access) number e (eq-eqb held number same))))

    at_name : (o : Option ℕ) → ready (removed_at w name o).1 fd count ≡ ready w fd count
    at_name None = refl
    at_name (Some number) =
        let v : World = record w { names = fin.remove w.names name } in
        elim (is_named v number || is_open v number) as (λ b. (is_named v number || is_open v number) ≡ b → ready (cond b v (record v { files = fin.remove v.files number })) fd count ≡ ready w fd count) [
          | true ↦ λ _. refl
          | false ↦ λ unused. kept number (neither (is_named v number) (is_open v number) unused).1 (fin.get w.open_files fd) refl
        ] refl
