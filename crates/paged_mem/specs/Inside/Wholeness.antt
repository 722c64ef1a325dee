-- The pages of both representations are a whole memory. The models use this, and may not name proofs/.
use Rattle.std.proofs.Common.{◌≡◌, ◌≢◌, ℕ, suc, ◌+◌, ◌-◌, ◌*◌, ◌/◌, ◌%◌, ◌<◌, ◌≤◌, cond, Option, None, Some, is_some, List, [], ◌∷◌, length, get_or, take, drop, refl, sym, ap, ◌∙◌, arith, ◌⊎◌, inl, inr, length-drop, length-take}
use Rattle.std.proofs.Props.{props}
use Rattle.std.specs.Option.{option_map}
use Rattle.std.specs.Ordering.{nat_cmp}
use Rattle.std.specs.Cmp.{nat_cmp_total, unsigned_tied}
use Rattle.std.specs.FinMap.{get, insert, contains_key, get-insert, get-empty}
use Rattle.std.proofs.lemmas.Bool.{cases_eq, cases_lt}
use Rattle.std.proofs.lemmas.Bool.Decides.{nat_tests}
use Rattle.std.proofs.lemmas.Grind.{common_steps}
use Rattle.std.proofs.lemmas.List.{get_or-take, get_or-drop}
use Rattle.std.proofs.lemmas.Option.{none-some, same_Some}
use Rattle.paged_mem.specs.Memory.{Memory, IsWhole, with_bytes}
use Rattle.paged_mem.specs.Inside.Flat.{memory_of, page_index, slot, AreFlatPages}
use Rattle.paged_mem.specs.Inside.Entries.{Entry, ArePages, AreRowsOf, IsHeldPage}
use Rattle.paged_mem.specs.declared.rows.PageRow.{PageRow}
use Rattle.paged_mem.specs.declared.rows.Rows.{Rows}

-- the byte at an address after an insert at that address, and after an insert at another
pub get-insert_same : (m : Memory) (k v q : ℕ) → q ≡ k → get (insert m k v) q ≡ Some v
get-insert_same m k v q e = get-insert nat_cmp_total m k v q ∙ ap (λ b. cond b (Some v) (get m q)) (unsigned_tied q k) ∙ grind (arith, nat_tests)

pub get-insert_other : (m : Memory) (k v q : ℕ) → q ≢ k → get (insert m k v) q ≡ get m q
get-insert_other m k v q ne = get-insert nat_cmp_total m k v q ∙ ap (λ b. cond b (Some v) (get m q)) (unsigned_tied q k) ∙ grind (arith, nat_tests)

-- the byte at an address after bytes are written: among them, below them, or above them
pub get-with_bytes : (m : Memory) (at : ℕ) (bytes : List ℕ) (q : ℕ) → at ≤ q → q < at + length bytes → get (with_bytes m at bytes) q ≡ Some (get_or bytes (q - at) 0)
unfolding with_bytes
get-with_bytes m at [] q from to = absurd (omega arith)
get-with_bytes m at (b ∷ bs) q from to =
    elim (cases_eq q at) [
      | inl e ↦ get-insert_same (with_bytes m (suc at) bs) at b q e ∙ ap Some (grind (arith, common_steps))
      | inr ne ↦ get-insert_other (with_bytes m (suc at) bs) at b q ne ∙ get-with_bytes m (suc at) bs q (omega arith) (omega arith) ∙ ap Some (grind (arith, common_steps))
    ]

pub get-with_bytes_below : (m : Memory) (at : ℕ) (bytes : List ℕ) (q : ℕ) → q < at → get (with_bytes m at bytes) q ≡ get m q
unfolding with_bytes
get-with_bytes_below m at [] q below = refl
get-with_bytes_below m at (b ∷ bs) q below = get-insert_other _ at b q (λ e. omega arith) ∙ get-with_bytes_below m (suc at) bs q (omega arith)

pub get-with_bytes_above : (m : Memory) (at : ℕ) (bytes : List ℕ) (q : ℕ) → at + length bytes ≤ q → get (with_bytes m at bytes) q ≡ get m q
unfolding with_bytes
get-with_bytes_above m at [] q above = refl
get-with_bytes_above m at (b ∷ bs) q above = get-insert_other _ at b q (λ e. omega arith) ∙ get-with_bytes_above m (suc at) bs q (omega arith)

pub page_index_here : (page number : ℕ) (pages : List ℕ) → page ≡ number → page_index (page ∷ pages) number ≡ Some 0
unfolding page_index
page_index_here page number pages e = grind (arith, nat_tests)

pub page_index_later : (page number : ℕ) (pages : List ℕ) → page ≢ number → page_index (page ∷ pages) number ≡ option_map (λ i. 1 + i) (page_index pages number)
unfolding page_index
page_index_later page number pages ne = grind (arith, nat_tests)

pub page_index-some : (pages : List ℕ) (number i : ℕ) → page_index pages number ≡ Some i → (i < length pages) × (get_or pages i 0 ≡ number)
page_index-some [] number i e = absurd (none-some i (unfold page_index in e))
page_index-some (page ∷ pages) number i e =
    elim (cases_eq page number) [
      | inl same ↦
          let at : 0 ≡ i = same_Some 0 i (sym (page_index_here page number pages same) ∙ e) in
          (omega arith, ap (λ k. get_or (page ∷ pages) k 0) (sym at) ∙ same)
      | inr ne ↦ later (page_index-some pages number) (page_index pages number) refl (sym (page_index_later page number pages ne) ∙ e)
    ]
  where
    later : ((j : ℕ) → page_index pages number ≡ Some j → (j < length pages) × (get_or pages j 0 ≡ number)) → (o : Option ℕ) → page_index pages number ≡ o → option_map (λ i. 1 + i) o ≡ Some i → (i < length (page ∷ pages)) × (get_or (page ∷ pages) i 0 ≡ number)
    later more None was e = absurd (none-some i e)
    later more (Some j) was e =
        let found = more j was in
        let at : suc j ≡ i = omega (arith, same_Some (1 + j) i e) in
        (omega (arith, found.0), ap (λ k. get_or (page ∷ pages) k 0) (sym at) ∙ found.1)

shifted : (bytes : List ℕ) (low : ℕ) (o : Option ℕ) → option_map (λ s. get_or (drop 4096 bytes) s 0) (option_map (λ i. 4096 * i + low) o) ≡ option_map (λ s. get_or bytes s 0) (option_map (λ i. 4096 * i + low) (option_map (λ i. 1 + i) o))
shifted bytes low None = refl
shifted bytes low (Some i) = ap Some (get_or-drop 4096 bytes (4096 * i + low) 0 ∙ ap (λ k. get_or bytes k 0) (omega arith))

pub get-memory_of : (pages bytes : List ℕ) (at : ℕ) → length bytes ≡ 4096 * length pages → get (memory_of pages bytes) at ≡ option_map (λ s. get_or bytes s 0) (slot pages at)
unfolding memory_of
get-memory_of [] bytes at full = get-empty nat_cmp at ∙ unfold page_index in refl
get-memory_of (page ∷ pages) bytes at full =
    let long : length (take 4096 bytes) ≡ 4096 = omega (arith, length-take 4096 bytes) in
    let rest : length (drop 4096 bytes) ≡ 4096 * length pages = omega (arith, length-drop 4096 bytes) in
    elim (cases_eq page (at / 4096)) [
      | inl e ↦
          get-with_bytes _ (4096 * page) (take 4096 bytes) at (omega arith) (omega arith)
          ∙ ap Some (get_or-take 4096 bytes (at - 4096 * page) 0 (omega arith) ∙ ap (λ k. get_or bytes k 0) (omega arith))
          ∙ ap (λ o. option_map (λ s. get_or bytes s 0) (option_map (λ i. 4096 * i + at % 4096) o)) (sym (page_index_here page (at / 4096) pages e))
      | inr ne ↦
          outside (cases_lt at (4096 * page)) ne long
          ∙ get-memory_of pages (drop 4096 bytes) at rest
          ∙ shifted bytes (at % 4096) (page_index pages (at / 4096))
          ∙ ap (λ o. option_map (λ s. get_or bytes s 0) (option_map (λ i. 4096 * i + at % 4096) o)) (sym (page_index_later page (at / 4096) pages ne))
    ]
  where
    outside : (at < 4096 * page) ⊎ (4096 * page ≤ at) → page ≢ at / 4096 → length (take 4096 bytes) ≡ 4096 → get (with_bytes (memory_of pages (drop 4096 bytes)) (4096 * page) (take 4096 bytes)) at ≡ get (memory_of pages (drop 4096 bytes)) at
    outside (inl below) ne long = get-with_bytes_below _ (4096 * page) (take 4096 bytes) at below
    outside (inr from) ne long = get-with_bytes_above _ (4096 * page) (take 4096 bytes) at (omega arith)

pub some_slot : (bytes : List ℕ) (o : Option ℕ) (byte : ℕ) → option_map (λ s. get_or bytes s 0) o ≡ Some byte → (s : ℕ) × (o ≡ Some s) × (get_or bytes s 0 ≡ byte)
some_slot bytes None byte e = absurd (none-some byte e)
some_slot bytes (Some s) byte e = (s, refl, same_Some _ _ e)

pub some_index : (o : Option ℕ) (low s : ℕ) → option_map (λ i. 4096 * i + low) o ≡ Some s → (i : ℕ) × (o ≡ Some i)
some_index None low s e = absurd (none-some s e)
some_index (Some i) low s e = (i, refl)

pub is_some-map : (f : ℕ → ℕ) (o : Option ℕ) → is_some (option_map f o) ≡ is_some o
is_some-map f None = refl
is_some-map f (Some x) = refl

pub contains-memory_of : (pages bytes : List ℕ) → length bytes ≡ 4096 * length pages → (at : ℕ) → contains_key (memory_of pages bytes) at ≡ is_some (page_index pages (at / 4096))
contains-memory_of pages bytes full at = ap is_some (get-memory_of pages bytes at full) ∙ is_some-map _ (slot pages at) ∙ is_some-map _ (page_index pages (at / 4096))

pub IsWhole-memory_of : (pages bytes : List ℕ) → AreFlatPages pages bytes → IsWhole (memory_of pages bytes)
IsWhole-memory_of pages bytes sound = record {
  small = λ at byte e.
      let s = some_slot bytes (slot pages at) byte (sym (get-memory_of pages bytes at sound.full) ∙ e) in
      omega (arith, sound.small s.0, s.2);
  low = λ at byte e.
      let s = some_slot bytes (slot pages at) byte (sym (get-memory_of pages bytes at sound.full) ∙ e) in
      let i = some_index (page_index pages (at / 4096)) (at % 4096) s.0 s.1 in
      let number = page_index-some pages (at / 4096) i.0 i.1 in
      omega (arith, number.1, sound.low i.0 number.0);
  pages = λ at other same. contains-memory_of pages bytes sound.full at ∙ ap (λ n. is_some (page_index pages n)) same ∙ sym (contains-memory_of pages bytes sound.full other);
}

pub AreFlatPages-prop : (pages bytes : List ℕ) → IsProp (AreFlatPages pages bytes)
AreFlatPages-prop pages bytes = hlevel props

pub ArePages-prop : (pages : List ℕ) (entries : List Entry) → IsProp (ArePages pages entries)
ArePages-prop pages entries = hlevel props

pub AreRowsOf-prop : (pages : List ℕ) (rows : Rows) → IsProp (AreRowsOf pages rows)
AreRowsOf-prop pages rows = hlevel props

pub IsHeldPage-prop : (pages : List ℕ) (entries : List Entry) (page : PageRow) → IsProp (IsHeldPage pages entries page)
IsHeldPage-prop pages entries page = hlevel props
