-- What a memory answers after a write, and what the bytes from an address on are, by single addresses.
use Rattle.std.proofs.Common.{◌≡◌, ℕ, zero, suc, ◌+◌, ◌-◌, ◌<◌, ◌≤◌, cond, not, ◌&&◌, true, Option, None, Some, IsSome, is_some, List, [], ◌∷◌, length, get_or, refl, sym, ap, ◌∙◌, arith, ◌⊎◌, inl, inr}
use Rattle.std.specs.Prelude.{nat_le, nat_lt}
use Rattle.std.proofs.lemmas.Option.{none-some, same_Some}
use Rattle.std.specs.Cmp.{nat_cmp_total}
use Rattle.std.specs.FinMap.{get, get-retain_keys, same_map, nat_cmp-IsAntisymmetric}
use Rattle.std.proofs.lemmas.Bool.{cases_eq}
use Rattle.std.proofs.lemmas.Bool.Decides.{nat_tests}
use Rattle.std.proofs.lemmas.Grind.{common_steps}
use Rattle.paged_mem.specs.Memory.{Memory, prepended, bytes_at, maps, without}

pub same_memory : (m n : Memory) → ((q : ℕ) → get m q ≡ get n q) → m ≡ n
same_memory m n same = same_map nat_cmp_total nat_cmp-IsAntisymmetric m n same

-- after addresses are taken away, among them and elsewhere
get-without_any : (m : Memory) (at count q : ℕ) → get (without m at count) q ≡ cond (not (nat_le at q && nat_lt q (at + count))) (get m q) None
unfolding without
get-without_any m at count q =
    get-retain_keys m (λ a. not (nat_le at a && nat_lt a (at + count))) q (λ x e. ap (λ a. not (nat_le at a && nat_lt a (at + count))) (sym (nat_cmp-IsAntisymmetric q x e)))

pub get-without : (m : Memory) (at count q : ℕ) → at ≤ q → q < at + count → get (without m at count) q ≡ None
get-without m at count q from to = get-without_any m at count q ∙ grind (arith, nat_tests)

pub get-without_other : (m : Memory) (at count q : ℕ) → q < at ⊎ at + count ≤ q → get (without m at count) q ≡ get m q
get-without_other m at count q (inl below) = get-without_any m at count q ∙ grind (arith, nat_tests)
get-without_other m at count q (inr above) = get-without_any m at count q ∙ grind (arith, nat_tests)

-- the bytes from an address on are those that stand there one by one
pub bytes_at-found : (m : Memory) (at : ℕ) (bytes : List ℕ) → ((q : ℕ) → at ≤ q → q < at + length bytes → get m q ≡ Some (get_or bytes (q - at) 0)) → bytes_at m at (length bytes) ≡ Some bytes
unfolding bytes_at
bytes_at-found m at [] here = refl
bytes_at-found m at (b ∷ bs) here =
    let first : get m at ≡ Some b = here at (omega arith) (omega arith) ∙ ap Some (grind (arith, common_steps)) in
    let rest : bytes_at m (suc at) (length bs) ≡ Some bs = bytes_at-found m (suc at) bs (λ q from to. here q (omega arith) (omega arith) ∙ ap Some (grind (arith, common_steps))) in
    ap (λ o. prepended o (bytes_at m (suc at) (length bs))) first ∙ ap (prepended (Some b)) rest

-- there are none where one address is unmapped
pub bytes_at-none : (m : Memory) (at count q : ℕ) → at ≤ q → q < at + count → get m q ≡ None → bytes_at m at count ≡ None
unfolding bytes_at
bytes_at-none m at zero q from to gone = absurd (omega arith)
bytes_at-none m at (suc count) q from to gone =
    elim (cases_eq q at) [
      | inl e ↦ ap (λ o. prepended o (bytes_at m (suc at) count)) (ap (get m) (sym e) ∙ gone)
      | inr ne ↦ ap (prepended (get m at)) (bytes_at-none m (suc at) count q (omega arith) (omega arith) gone) ∙ prepended-none (get m at)
    ]
  where
    prepended-none : (o : Option ℕ) → prepended o None ≡ None
    prepended-none None = refl
    prepended-none (Some b) = refl

prepended-some : (o : Option ℕ) (rest : Option (List ℕ)) (bytes : List ℕ) → prepended o rest ≡ Some bytes → (b : ℕ) × (bs : List ℕ) × (o ≡ Some b) × (rest ≡ Some bs) × (bytes ≡ b ∷ bs)
prepended-some None rest bytes e = absurd (none-some bytes e)
prepended-some (Some b) None bytes e = absurd (none-some bytes e)
prepended-some (Some b) (Some bs) bytes e = (b, bs, refl, refl, sym (same_Some (b ∷ bs) bytes e))

first : (b : ℕ) (bs : List ℕ) (i : ℕ) → i ≡ 0 → b ≡ get_or (b ∷ bs) i 0
first b bs i e = grind (arith, common_steps)

later : (b : ℕ) (bs : List ℕ) (i j : ℕ) → j ≡ i + 1 → get_or bs i 0 ≡ get_or (b ∷ bs) j 0
later b bs i j e = let step : suc i ≡ j = omega arith in ap (λ k. get_or (b ∷ bs) k 0) step

-- what bytes that are there say of each address
pub length_of_bytes_at : (m : Memory) (at count : ℕ) (bytes : List ℕ) → bytes_at m at count ≡ Some bytes → length bytes ≡ count
unfolding bytes_at
length_of_bytes_at m at zero bytes e = ap length (sym (same_Some [] bytes e))
length_of_bytes_at m at (suc count) bytes e =
    let p = prepended-some (get m at) (bytes_at m (suc at) count) bytes e in
    ap length p.4 ∙ ap suc (length_of_bytes_at m (suc at) count p.1 p.3)

pub get_in_bytes_at : (m : Memory) (at count : ℕ) (bytes : List ℕ) → bytes_at m at count ≡ Some bytes → (q : ℕ) → at ≤ q → q < at + count → get m q ≡ Some (get_or bytes (q - at) 0)
unfolding bytes_at
get_in_bytes_at m at zero bytes e q from to = absurd (omega arith)
get_in_bytes_at m at (suc count) bytes e q from to =
    let p = prepended-some (get m at) (bytes_at m (suc at) count) bytes e in
    elim (cases_eq q at) [
      | inl same ↦ ap (get m) same ∙ p.2 ∙ ap Some (first p.0 p.1 (q - at) (omega arith) ∙ sym (ap (λ xs. get_or xs (q - at) 0) p.4))
      | inr ne ↦ get_in_bytes_at m (suc at) count p.1 p.3 q (omega arith) (omega arith) ∙ ap Some (later p.0 p.1 (q - suc at) (q - at) (omega arith) ∙ sym (ap (λ xs. get_or xs (q - at) 0) p.4))
    ]

-- a range is mapped exactly where each of its addresses is
pub maps_by_each : (m : Memory) (at count : ℕ) → ((q : ℕ) → at ≤ q → q < at + count → IsSome (get m q)) → maps m at count ≡ true
unfolding bytes_at
maps_by_each m at zero each = refl
maps_by_each m at (suc count) each =
    both (get m at) (bytes_at m (suc at) count) (each at (omega arith) (omega arith)) (maps_by_each m (suc at) count (λ q from to. each q (omega arith) (omega arith)))
  where
    both : (o : Option ℕ) (rest : Option (List ℕ)) → IsSome o → is_some rest ≡ true → is_some (prepended o rest) ≡ true
    both None rest here there = cc
    both (Some byte) None here there = cc
    both (Some byte) (Some bytes) here there = refl

pub each_by_maps : (m : Memory) (at count : ℕ) → maps m at count ≡ true → (q : ℕ) → at ≤ q → q < at + count → IsSome (get m q)
each_by_maps m at count there q from to = found (bytes_at m at count) refl there
  where
    found : (o : Option (List ℕ)) → bytes_at m at count ≡ o → is_some o ≡ true → IsSome (get m q)
    found None was e = cc
    found (Some bytes) was e = ap is_some (get_in_bytes_at m at count bytes was q from to)
