-- What an act that goes on does.
use Rattle.std.proofs.Common.{◌≡◌, ℕ, ◌+◌, ◌%◌, ◌^◌, ◌*◌, ◌==◌, ◌<◌, ◌≤◌, Bool, true, false, Option, Some, None, is_some, List, refl, sym, ap, ◌∙◌, arith, ◌⊎◌, ◌≢◌, inl, inr}
use Rattle.std.specs.Bool.{if◌then◌else◌}
use Rattle.std.specs.FinMap.{contains_key, get}
use Rattle.std.proofs.lemmas.Bool.{false≢true}
use Rattle.std.specs.Option.{option_map}
use Rattle.std.specs.Prelude.{option_and_then}
use Rattle.paged_mem.specs.Memory.{Memory, bytes_at, maps, number_of, reads, writes}
use Rattle.paged_mem.specs.Ram.{count_of}
use Rattle.paged_mem.specs.declared.ram.Width.{Width}
use Rattle.paged_mem.specs.declared.ram.Width.TheVariants.{W4}
use Rattle.rv64_decode.specs.declared.Inst.{Inst}
use Rattle.rv64_decode.specs.Decode.{decoded}
use Rattle.rv64_machine.specs.declared.effect.Effect.{Effect}
use Rattle.rv64_machine.specs.declared.effect.Effect.TheVariants.{Put, Jump, Branch, Load, LoadSigned, Store, Next, Call, Break, LoadReserved, StoreConditional, Amo}
use Rattle.rv64_machine.specs.declared.answer.Cause.TheVariants.{StoreUnmapped}
use Rattle.rv64_machine.specs.declared.answer.StepEnd.{StepEnd}
use Rattle.rv64_machine.specs.declared.answer.StepEnd.TheVariants as end
use Rattle.rv64_machine.specs.declared.effect.AmoOperation.{AmoOperation}
use Rattle.rv64_machine.specs.Atomics.{amo_result}
use Rattle.rv64_machine.specs.Hart.{loads_reserved, after_conditional, stores_conditional, performs_amo, reads_aligned, is_reserved, GoesOn, Traps, HartState, act, arrives, carried, effect_at, effect_of, fetched, following, is_store, loads, passes, runs, Acts, with_register}
use Rattle.paged_mem.proofs.MemoryLaws.{get-writes_other, reads-writes}
use Rattle.rv64_machine.proofs.StoredBytes.{contains_key-writes}

-- an act that goes on is that of the effect at the pc
runs-goes : (hart next : HartState) (word : ℕ) (o : Option Inst) → runs hart word o ≡ GoesOn next
    → (rd : ℕ) × (effect : Effect) × (option_map (effect_of hart) o ≡ Some effect) × (carried hart rd effect ≡ GoesOn next)
runs-goes hart next word None goes = absurd cc
runs-goes hart next word (Some inst) goes = (inst.rd, effect_of hart inst, refl, goes)

fetched-goes : (hart next : HartState) (o : Option ℕ) → fetched hart o ≡ GoesOn next
    → (rd : ℕ) × (effect : Effect) × (option_map (effect_of hart) (option_and_then decoded o) ≡ Some effect) × (carried hart rd effect ≡ GoesOn next)
fetched-goes hart next None goes = absurd cc
fetched-goes hart next (Some word) goes = runs-goes hart next word (decoded word) goes

pub act-goes : (hart next : HartState) → act hart ≡ GoesOn next
    → (rd : ℕ) × (effect : Effect) × (effect_at hart ≡ Some effect) × (carried hart rd effect ≡ GoesOn next)
unfolding act effect_at
act-goes hart next goes = fetched-goes hart next _ goes

-- the memory that a row leaves which found this, computes and writes
abbrev pub written_by : Memory → AmoOperation → ℕ → ℕ → ℕ → Option ℕ → Memory
written_by memory operation count at value None = memory
written_by memory operation count at value (Some old) = writes memory at count (amo_result operation (8 * count) old value)

-- the memory that an effect leaves
abbrev pub memory_after : HartState → Effect → Memory
memory_after hart (Store width at value) = writes hart.memory at (count_of width) value
memory_after hart (StoreConditional width at value) =
    if is_reserved hart.reservation (count_of width) at then writes hart.memory at (count_of width) value else hart.memory
memory_after hart (Amo operation width at value) =
    written_by hart.memory operation (count_of width) at value (reads_aligned hart.memory at (count_of width))
memory_after hart _ = hart.memory

passes-memory : (hart old next : HartState) → passes hart ≡ GoesOn next → hart.memory ≡ old.memory → next.memory ≡ old.memory
passes-memory hart old next goes same = grind arith

arrives-memory : (hart next : HartState) (target : ℕ) → arrives hart target ≡ GoesOn next → next.memory ≡ hart.memory
arrives-memory hart next target goes = grind arith

loads-memory : (hart next : HartState) (rd at : ℕ) (o : Option ℕ) → loads hart rd at o ≡ GoesOn next → next.memory ≡ hart.memory
loads-memory hart next rd at None goes = absurd cc
loads-memory hart next rd at (Some value) goes = grind arith

loads_reserved-memory : (hart next : HartState) (rd count at : ℕ) (o : Option ℕ) → loads_reserved hart rd count at o ≡ GoesOn next → next.memory ≡ hart.memory
loads_reserved-memory hart next rd count at None goes = absurd cc
loads_reserved-memory hart next rd count at (Some value) goes = grind arith

stores_conditional-memory : (hart next : HartState) (rd count at value : ℕ) (o : Option ℕ) (held : Bool) → is_reserved hart.reservation count at ≡ held
    → stores_conditional hart rd count at value o ≡ GoesOn next → next.memory ≡ (if held then writes hart.memory at count value else hart.memory)
stores_conditional-memory hart next rd count at value None held was goes = absurd cc
stores_conditional-memory hart next rd count at value (Some old) held was goes =
    of_held held (ap (λ h. GoesOn (record (after_conditional hart rd count at value h) { pc = following (after_conditional hart rd count at value h) })) (sym was) ∙ goes)
  where
    of_held : (h : Bool) → GoesOn (record (after_conditional hart rd count at value h) { pc = following (after_conditional hart rd count at value h) }) ≡ GoesOn next
        → next.memory ≡ (if h then writes hart.memory at count value else hart.memory)
    of_held true goes = grind arith
    of_held false goes = grind arith

performs_amo-memory : (hart next : HartState) (rd : ℕ) (operation : AmoOperation) (count at value : ℕ) (o : Option ℕ)
    → performs_amo hart rd operation count at value o ≡ GoesOn next → next.memory ≡ written_by hart.memory operation count at value o
performs_amo-memory hart next rd operation count at value None goes = absurd cc
performs_amo-memory hart next rd operation count at value (Some old) goes = grind arith

-- a number that is found at an address is there
pub found-mapped : (m : Memory) (at count old : ℕ) → reads_aligned m at count ≡ Some old → maps m at count ≡ true
found-mapped m at count old is = by_test (at % count == 0) is
  where
    by_bytes : (o : Option (List ℕ)) → option_map number_of o ≡ Some old → is_some o ≡ true
    by_bytes None e = absurd cc
    by_bytes (Some bytes) e = refl

    by_test : (t : Bool) → (if t then reads m at count else None) ≡ Some old → maps m at count ≡ true
    by_test true e = by_bytes (bytes_at m at count) e
    by_test false e = absurd cc

-- a store that goes on has its bytes mapped, and leaves what it wrote
stores-goes : (hart next : HartState) (at : ℕ) (mapped : Bool) (written : Memory)
    → (if mapped then passes (record hart { memory = written }) else Traps (StoreUnmapped at)) ≡ GoesOn next
    → (mapped ≡ true) × (next.memory ≡ written)
stores-goes hart next at true written goes = (refl, cc)
stores-goes hart next at false written goes = absurd cc

-- the act of an effect that goes on leaves that memory
pub carried-memory : (hart next : HartState) (rd : ℕ) (effect : Effect) → carried hart rd effect ≡ GoesOn next → next.memory ≡ memory_after hart effect
carried-memory hart next rd (Put value) goes = cc
carried-memory hart next rd (Jump target) goes = arrives-memory (with_register hart rd (following hart)) next target goes
carried-memory hart next rd (Branch true target) goes = arrives-memory hart next target goes
carried-memory hart next rd (Branch false target) goes = cc
carried-memory hart next rd (Load width at) goes = loads-memory hart next rd at _ goes
carried-memory hart next rd (LoadSigned width at) goes = loads-memory hart next rd at _ goes
carried-memory hart next rd (Store width at value) goes =
    (stores-goes hart next at (maps hart.memory at (count_of width)) (writes hart.memory at (count_of width) value) goes).1
carried-memory hart next rd Next goes = cc
carried-memory hart next rd Call goes = absurd cc
carried-memory hart next rd Break goes = absurd cc
carried-memory hart next rd (LoadReserved width at) goes = loads_reserved-memory hart next rd (count_of width) at _ goes
carried-memory hart next rd (StoreConditional width at value) goes =
    stores_conditional-memory hart next rd (count_of width) at value (reads_aligned hart.memory at (count_of width)) (is_reserved hart.reservation (count_of width) at) refl goes
carried-memory hart next rd (Amo operation width at value) goes =
    performs_amo-memory hart next rd operation (count_of width) at value (reads_aligned hart.memory at (count_of width)) goes

-- which is as before, but for a store and the atomic rows that store
store_or_not : (hart : HartState) (effect : Effect)
    → ((is_store hart.reservation (Some effect) ≡ false) × (memory_after hart effect ≡ hart.memory))
    ⊎ (is_store hart.reservation (Some effect) ≡ true)
store_or_not hart (Put value) = inl (refl, refl)
store_or_not hart (Jump target) = inl (refl, refl)
store_or_not hart (Branch taken target) = inl (refl, refl)
store_or_not hart (Load width at) = inl (refl, refl)
store_or_not hart (LoadSigned width at) = inl (refl, refl)
store_or_not hart (Store width at value) = inr refl
store_or_not hart Next = inl (refl, refl)
store_or_not hart Call = inl (refl, refl)
store_or_not hart Break = inl (refl, refl)
store_or_not hart (LoadReserved width at) = inl (refl, refl)
store_or_not hart (StoreConditional width at value) = by_held (is_reserved hart.reservation (count_of width) at)
  where
    by_held : (held : Bool)
        → ((held ≡ false) × ((if held then writes hart.memory at (count_of width) value else hart.memory) ≡ hart.memory)) ⊎ (held ≡ true)
    by_held true = inr refl
    by_held false = inl (refl, refl)
store_or_not hart (Amo operation width at value) = inr refl

-- the memory after an act whose effect is known
act-memory : (hart next : HartState) (effect : Effect) → act hart ≡ GoesOn next → effect_at hart ≡ Some effect
    → next.memory ≡ memory_after hart effect
act-memory hart next effect goes is =
    let (rd, found, there, carries) = act-goes hart next goes in
    let same : found ≡ effect = cc in
    carried-memory hart next rd found carries ∙ ap (memory_after hart) same

-- rows other than stores leave memory
pub act-memory_other : (hart next : HartState) → act hart ≡ GoesOn next → is_store hart.reservation (effect_at hart) ≡ false → next.memory ≡ hart.memory
act-memory_other hart next goes other =
    let (rd, effect, there, carries) = act-goes hart next goes in
    elim (store_or_not hart effect) [
      | inl (is_other, same) ↦ carried-memory hart next rd effect carries ∙ same
      | inr store ↦ absurd (false≢true (sym other ∙ ap (is_store hart.reservation) there ∙ store))
    ]

-- an act that goes on maps and unmaps nothing
stores_conditional-mapping : (hart next : HartState) (rd count at value : ℕ) (o : Option ℕ) → reads_aligned hart.memory at count ≡ o → stores_conditional hart rd count at value o ≡ GoesOn next
    → (address : ℕ) → contains_key next.memory address ≡ contains_key hart.memory address
stores_conditional-mapping hart next rd count at value None found goes address = absurd cc
stores_conditional-mapping hart next rd count at value (Some old) found goes address =
    ap (λ m. contains_key m address) (stores_conditional-memory hart next rd count at value (Some old) (is_reserved hart.reservation count at) refl goes)
    ∙ by_held (is_reserved hart.reservation count at)
  where
    by_held : (held : Bool) → contains_key (if held then writes hart.memory at count value else hart.memory) address ≡ contains_key hart.memory address
    by_held true = contains_key-writes hart.memory at count value address (found-mapped hart.memory at count old found)
    by_held false = refl

performs_amo-mapping : (hart next : HartState) (rd : ℕ) (operation : AmoOperation) (count at value : ℕ) (o : Option ℕ) → reads_aligned hart.memory at count ≡ o
    → performs_amo hart rd operation count at value o ≡ GoesOn next → (address : ℕ) → contains_key next.memory address ≡ contains_key hart.memory address
performs_amo-mapping hart next rd operation count at value None found goes address = absurd cc
performs_amo-mapping hart next rd operation count at value (Some old) found goes address =
    ap (λ m. contains_key m address) (performs_amo-memory hart next rd operation count at value (Some old) goes)
    ∙ contains_key-writes hart.memory at count (amo_result operation (8 * count) old value) address (found-mapped hart.memory at count old found)

carried-mapping : (hart next : HartState) (rd : ℕ) (effect : Effect) → carried hart rd effect ≡ GoesOn next
    → (address : ℕ) → contains_key next.memory address ≡ contains_key hart.memory address
carried-mapping hart next rd (Store width at value) goes address =
    let (mapped, written) = stores-goes hart next at (maps hart.memory at (count_of width)) (writes hart.memory at (count_of width) value) goes in
    ap (λ m. contains_key m address) written ∙ contains_key-writes hart.memory at (count_of width) value address mapped
carried-mapping hart next rd (StoreConditional width at value) goes address =
    stores_conditional-mapping hart next rd (count_of width) at value (reads_aligned hart.memory at (count_of width)) refl goes address
carried-mapping hart next rd (Amo operation width at value) goes address =
    performs_amo-mapping hart next rd operation (count_of width) at value (reads_aligned hart.memory at (count_of width)) refl goes address
carried-mapping hart next rd (Put value) goes address = ap (λ m. contains_key m address) (carried-memory hart next rd (Put value) goes)
carried-mapping hart next rd (Jump target) goes address = ap (λ m. contains_key m address) (carried-memory hart next rd (Jump target) goes)
carried-mapping hart next rd (Branch taken target) goes address = ap (λ m. contains_key m address) (carried-memory hart next rd (Branch taken target) goes)
carried-mapping hart next rd (Load width at) goes address = ap (λ m. contains_key m address) (carried-memory hart next rd (Load width at) goes)
carried-mapping hart next rd (LoadSigned width at) goes address = ap (λ m. contains_key m address) (carried-memory hart next rd (LoadSigned width at) goes)
carried-mapping hart next rd (LoadReserved width at) goes address = ap (λ m. contains_key m address) (carried-memory hart next rd (LoadReserved width at) goes)
carried-mapping hart next rd Next goes address = ap (λ m. contains_key m address) (carried-memory hart next rd Next goes)
carried-mapping hart next rd Call goes address = absurd cc
carried-mapping hart next rd Break goes address = absurd cc

pub act-mapping : (hart next : HartState) → act hart ≡ GoesOn next → (address : ℕ) → contains_key next.memory address ≡ contains_key hart.memory address
act-mapping hart next goes address =
    let (rd, effect, there, carries) = act-goes hart next goes in
    carried-mapping hart next rd effect carries address

-- a store changes the bytes of its access alone, to the low bytes of the value
pub act-store_other : (hart next : HartState) (width : Width) (at value : ℕ) → act hart ≡ GoesOn next → effect_at hart ≡ Some (Store width at value)
    → (address : ℕ) → (address < at) ⊎ (at + count_of width ≤ address) → get next.memory address ≡ get hart.memory address
act-store_other hart next width at value goes is address outside =
    ap (λ m. get m address) (act-memory hart next (Store width at value) goes is)
    ∙ get-writes_other hart.memory at (count_of width) value address outside

pub act-store_access : (hart next : HartState) (width : Width) (at value : ℕ) → act hart ≡ GoesOn next → effect_at hart ≡ Some (Store width at value)
    → reads next.memory at (count_of width) ≡ Some (value % 256 ^ count_of width)
act-store_access hart next width at value goes is =
    ap (λ m. reads m at (count_of width)) (act-memory hart next (Store width at value) goes is)
    ∙ reads-writes hart.memory at (count_of width) value

-- so does a store-conditional of the reserved bytes
act-conditional_memory : (hart next : HartState) (width : Width) (at value : ℕ) (held : Bool)
    → act hart ≡ GoesOn next → effect_at hart ≡ Some (StoreConditional width at value) → is_reserved hart.reservation (count_of width) at ≡ held
    → next.memory ≡ (if held then writes hart.memory at (count_of width) value else hart.memory)
act-conditional_memory hart next width at value held goes is was =
    act-memory hart next (StoreConditional width at value) goes is
    ∙ ap (λ h. if h then writes hart.memory at (count_of width) value else hart.memory) was

reserved_is : (count at : ℕ) → is_reserved (Some (count, at)) count at ≡ true
reserved_is count at = grind arith

pub act-conditional_access : (hart next : HartState) (width : Width) (at value : ℕ)
    → act hart ≡ GoesOn next → effect_at hart ≡ Some (StoreConditional width at value) → hart.reservation ≡ Some (count_of width, at)
    → reads next.memory at (count_of width) ≡ Some (value % 256 ^ count_of width)
act-conditional_access hart next width at value goes is held =
    let reserved = ap (λ r. is_reserved r (count_of width) at) held ∙ reserved_is (count_of width) at in
    ap (λ m. reads m at (count_of width)) (act-conditional_memory hart next width at value true goes is reserved)
    ∙ reads-writes hart.memory at (count_of width) value

pub act-conditional_other : (hart next : HartState) (width : Width) (at value : ℕ)
    → act hart ≡ GoesOn next → effect_at hart ≡ Some (StoreConditional width at value)
    → (address : ℕ) → (address < at) ⊎ (at + count_of width ≤ address) → get next.memory address ≡ get hart.memory address
act-conditional_other hart next width at value goes is address outside =
    ap (λ m. get m address) (act-conditional_memory hart next width at value _ goes is refl)
    ∙ by_held (is_reserved hart.reservation (count_of width) at)
  where
    by_held : (held : Bool) → get (if held then writes hart.memory at (count_of width) value else hart.memory) address ≡ get hart.memory address
    by_held true = get-writes_other hart.memory at (count_of width) value address outside
    by_held false = refl

-- and an atomic memory operation, of the number that it found
carried-found : (hart next : HartState) (rd : ℕ) (operation : AmoOperation) (count at value : ℕ) (o : Option ℕ) → reads_aligned hart.memory at count ≡ o
    → performs_amo hart rd operation count at value o ≡ GoesOn next
    → (old : ℕ) × (reads_aligned hart.memory at count ≡ Some old)
carried-found hart next rd operation count at value None found goes = absurd cc
carried-found hart next rd operation count at value (Some old) found goes = (old, found)

found-reads : (m : Memory) (at count old : ℕ) → reads_aligned m at count ≡ Some old → reads m at count ≡ Some old
found-reads m at count old is = by_test (at % count == 0) is
  where
    by_test : (t : Bool) → (if t then reads m at count else None) ≡ Some old → reads m at count ≡ Some old
    by_test true e = e
    by_test false e = absurd cc

act-amo_found : (hart next : HartState) (operation : AmoOperation) (width : Width) (at value : ℕ)
    → act hart ≡ GoesOn next → effect_at hart ≡ Some (Amo operation width at value)
    → (old : ℕ) × (reads hart.memory at (count_of width) ≡ Some old)
    × (next.memory ≡ writes hart.memory at (count_of width) (amo_result operation (8 * count_of width) old value))
act-amo_found hart next operation width at value goes is =
    let (rd, effect, there, carries) = act-goes hart next goes in
    let same : effect ≡ Amo operation width at value = cc in
    let (old, found) = carried-found hart next rd operation (count_of width) at value _ refl (ap (carried hart rd) (sym same) ∙ carries) in (
      old,
      found-reads hart.memory at (count_of width) old found,
      act-memory hart next (Amo operation width at value) goes is ∙ ap (written_by hart.memory operation (count_of width) at value) found,
    )

pub act-amo_access : (hart next : HartState) (operation : AmoOperation) (width : Width) (at value : ℕ)
    → act hart ≡ GoesOn next → effect_at hart ≡ Some (Amo operation width at value)
    → (old : ℕ) × (reads hart.memory at (count_of width) ≡ Some old)
    × (reads next.memory at (count_of width) ≡ Some (amo_result operation (8 * count_of width) old value % 256 ^ count_of width))
act-amo_access hart next operation width at value goes is =
    let (old, there, remaining) = act-amo_found hart next operation width at value goes is in
    (old, there, ap (λ m. reads m at (count_of width)) remaining ∙ reads-writes hart.memory at (count_of width) (amo_result operation (8 * count_of width) old value))

pub act-amo_other : (hart next : HartState) (operation : AmoOperation) (width : Width) (at value : ℕ)
    → act hart ≡ GoesOn next → effect_at hart ≡ Some (Amo operation width at value)
    → (address : ℕ) → (address < at) ⊎ (at + count_of width ≤ address) → get next.memory address ≡ get hart.memory address
act-amo_other hart next operation width at value goes is address outside =
    let (old, there, remaining) = act-amo_found hart next operation width at value goes is in
    ap (λ m. get m address) remaining
    ∙ get-writes_other hart.memory at (count_of width) (amo_result operation (8 * count_of width) old value) address outside

-- a word that is stored over the next instruction is the next instruction
pub act-after_store : (hart next : HartState) (value : ℕ) → act hart ≡ GoesOn next → effect_at hart ≡ Some (Store W4 next.pc value)
    → act next ≡ runs next (value % 2 ^ 32) (decoded (value % 2 ^ 32))
unfolding act
act-after_store hart next value goes is = ap (fetched next) (act-store_access hart next W4 next.pc value goes is)

-- what a step leaves, and how two steps of one state end
pub Acts-mapping : (old new : HartState) (answer : StepEnd) → Acts old answer new → (address : ℕ) → contains_key new.memory address ≡ contains_key old.memory address
Acts-mapping old new end.Done goes address = act-mapping old new goes address
Acts-mapping old new end.Call ends address = ap (λ h. contains_key h.memory address) ends.1
Acts-mapping old new (end.Trap cause) ends address = ap (λ h. contains_key h.memory address) ends.1
Acts-mapping old new end.OutOfMemory ends address = ap (λ h. contains_key h.memory address) ends.2

pub Acts-same : (old one other : HartState) (first second : StepEnd) → Acts old first one → Acts old second other
    → first ≢ end.OutOfMemory → second ≢ end.OutOfMemory → (first ≡ second) × (one ≡ other)
Acts-same old one other end.Done end.Done a b _ _ = (refl, cc)
Acts-same old one other end.Done end.Call a b _ _ = absurd cc
Acts-same old one other end.Done (end.Trap cause) a b _ _ = absurd cc
Acts-same old one other end.Call end.Done a b _ _ = absurd cc
Acts-same old one other end.Call end.Call a b _ _ = (refl, cc)
Acts-same old one other end.Call (end.Trap cause) a b _ _ = absurd cc
Acts-same old one other (end.Trap cause) end.Done a b _ _ = absurd cc
Acts-same old one other (end.Trap cause) end.Call a b _ _ = absurd cc
Acts-same old one other (end.Trap cause) (end.Trap other_cause) a b _ _ = (cc, cc)
Acts-same old one other end.OutOfMemory _ a b memory _ = absurd (memory refl)
Acts-same old one other _ end.OutOfMemory a b _ memory = absurd (memory refl)
