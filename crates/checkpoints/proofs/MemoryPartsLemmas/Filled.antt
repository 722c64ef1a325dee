-- Pages written into memory where they are mapped.
use Rattle.std.proofs.Common.{◌≡◌, ℕ, zero, suc, ◌*◌, List, length, true, false, Option, None, Some, is_some, IsTrue, refl, ap, ◌∙◌}
use Rattle.std.specs.FinMap as finite
use Rattle.paged_mem.specs.Memory.{Memory, bytes_at, maps, prepended, with_bytes}
use Rattle.paged_mem.proofs.Wholes.{same_after_write}

abbrev pub Alike : Memory → Memory → Type 0
Alike m n = (q : ℕ) → is_some (finite.get m q) ≡ is_some (finite.get n q)

both_some : (a b : Option ℕ) (x y : Option (List ℕ)) → is_some a ≡ is_some b → is_some x ≡ is_some y → is_some (prepended a x) ≡ is_some (prepended b y)
both_some None None x y e f = refl
both_some (Some a) (Some b) None None e f = refl
both_some (Some a) (Some b) (Some x) (Some y) e f = refl
both_some (Some a) (Some b) None (Some y) e f = absurd cc
both_some (Some a) (Some b) (Some x) None e f = absurd cc
both_some None (Some b) x y e f = absurd cc
both_some (Some a) None x y e f = absurd cc

-- memories with the same addresses
pub maps-alike : (m n : Memory) → Alike m n → (at count : ℕ) → maps m at count ≡ maps n at count
unfolding bytes_at
maps-alike m n same at zero = refl
maps-alike m n same at (suc count) = both_some (finite.get m at) (finite.get n at) (bytes_at m (suc at) count) (bytes_at n (suc at) count) (same at) (maps-alike m n same (suc at) count)

-- a page that is mapped is written
pub no_hole : (m old : Memory) (n number : ℕ) (bytes : List ℕ) → Alike m old → IsTrue (maps old (4096 * number) 4096) → length bytes ≡ 4096 → n ≡ number → maps m (4096 * n) (length bytes) ≡ false → ⊥
no_hole m old n number bytes same mapped full is not =
    let here : maps m (4096 * n) (length bytes) ≡ maps old (4096 * number) 4096 = (λ i. maps m (4096 * is i) (full i)) ∙ maps-alike m old same (4096 * number) 4096 in
    let yes : maps m (4096 * n) (length bytes) ≡ true = here ∙ mapped in
    cc

pub still_alike : (m new old : Memory) (at : ℕ) (bytes : List ℕ) → Alike m old → maps m at (length bytes) ≡ true → new ≡ with_bytes m at bytes → Alike new old
still_alike m new old at bytes same mapped is q = ap (λ (n : Memory). is_some (finite.get n q)) is ∙ same_after_write m at bytes mapped q ∙ same q
