-- What a `FlatRam` answers from what its slices show: `shown` and `held` are its pages and bytes as they were borrowed.
use Rattle.std.proofs.Common.{◌≡◌, ℕ, Option, None, Some, is_some, unwrap_or, List, length, take, drop, sym, ap, subst, ◌∙◌, arith}
use Rattle.std.specs.Option.{option_map}
use Rattle.paged_mem.specs.Memory.{Memory, maps, bytes_at, reads, number_of, with_bytes}
use Rattle.paged_mem.specs.Inside.Flat.{memory_of, AreFlatPages, Spans, overwritten, number_at}
use Rattle.paged_mem.proofs.Views.{maps-span, bytes_at-span, bytes_at-no_span, memory_of-overwritten}
use Rattle.paged_mem.proofs.Numbers.{number_of-take}

module _ (pages bytes shown : List ℕ) (m : Memory) (sound : AreFlatPages pages bytes) (same : shown ≡ pages) (is : memory_of pages bytes ≡ m) (at count : ℕ) where
  spans : (o : Option ℕ) → Spans shown at count o → Spans pages at count o
  spans o span = subst (λ xs. Spans xs at count o) same span

  pub maps_seen : (o : Option ℕ) → Spans shown at count o → maps m at count ≡ is_some o
  maps_seen o span = ap (λ m. maps m at count) (sym is) ∙ maps-span pages bytes sound.full at count o (spans o span)

  pub no_bytes_seen : Spans shown at count None → bytes_at m at count ≡ None
  no_bytes_seen span = ap (λ m. bytes_at m at count) (sym is) ∙ bytes_at-no_span pages bytes sound.full at count (spans None span)

  pub bytes_seen : (start : ℕ) → Spans shown at count (Some start) → bytes_at m at count ≡ Some (take count (drop start bytes))
  bytes_seen start span = ap (λ m. bytes_at m at count) (sym is) ∙ bytes_at-span pages bytes sound.full at count start (spans (Some start) span)

  pub none_read : (k : ℕ) → count ≡ k → Spans shown at count None → None ≡ reads m at k
  none_read k e span = sym (ap (option_map number_of) (no_bytes_seen span)) ∙ ap (reads m at) e

  pub number_read : (held : List ℕ) (start k value : ℕ) → count ≡ k → held ≡ bytes → Spans shown at count (Some start) → value ≡ number_at held start k → Some value ≡ reads m at k
  number_read held start k value e same_bytes span is_value =
      ap Some (is_value ∙ ap (λ xs. number_at xs start k) same_bytes ∙ ap (number_at bytes start) (sym e) ∙ sym (number_of-take bytes start count (omega (arith, span.0, ap length same, sound.full))))
      ∙ sym (ap (option_map number_of) (bytes_seen start span))
      ∙ ap (reads m at) e

  pub moved : (start : ℕ) (out new : List ℕ) → Spans shown at count (Some start) → new ≡ take count (drop start bytes) → new ≡ unwrap_or (bytes_at m at count) out
  moved start out new span e = e ∙ sym (ap (λ o. unwrap_or o out) (bytes_seen start span))

pub written : (pages bytes shown : List ℕ) (m : Memory) → AreFlatPages pages bytes → shown ≡ pages → memory_of pages bytes ≡ m → (at start : ℕ) (source new : List ℕ) → Spans shown at (length source) (Some start) → new ≡ overwritten bytes start source → memory_of pages new ≡ with_bytes m at source
written pages bytes shown m sound same is at start source new span e =
    ap (memory_of pages) e
    ∙ memory_of-overwritten pages bytes sound.full at start source (subst (λ xs. Spans xs at (length source) (Some start)) same span)
    ∙ ap (λ m. with_bytes m at source) is
