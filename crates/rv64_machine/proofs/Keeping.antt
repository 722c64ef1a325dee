-- An act that goes on, and the answer to a call, keep the rules of a hart.
use Rattle.std.proofs.Common.{◌≡◌, ◌≢◌, ℕ, zero, suc, ◌%◌, ◌*◌, ◌^◌, ◌<◌, ◌≤◌, ◌==◌, Bool, true, false, cond, Option, Some, None, List, inl, inr, refl, ap, ◌∙◌, subst, arith}
use Rattle.std.specs.Prelude.{slice_set, slice_index}
use Rattle.std.specs.Option.{option_map}
use Rattle.std.proofs.lemmas.Bool.{eqb-false}
use Rattle.std.proofs.lemmas.Grind.{common_steps}
use Rattle.std.proofs.lemmas.List.{length-set}
use Rattle.std.proofs.lemmas.List.Elements.{All-from_get_or}
use Rattle.ddc_base.specs.Limits.{address_end}
use borrow.Author.Tests.{eqb-true as tested}
use Rattle.paged_mem.specs.Memory.{Memory, IsWhole, bytes_at, bytes_of, maps, number_of, writes, reads}
use Rattle.paged_mem.specs.Ram.{count_of}
use Rattle.paged_mem.proofs.Numbers.{bytes_of-small, length-bytes_of}
use Rattle.rv64_machine.specs.Arithmetic.{sign_extended, wrapped}
use Rattle.rv64_machine.specs.declared.effect.Effect.{Effect}
use Rattle.rv64_machine.specs.declared.effect.Effect.TheVariants.{Put, Jump, Branch, Load, LoadSigned, Store, Next, Call, Break, LoadReserved, StoreConditional, Amo}
use Rattle.rv64_machine.specs.declared.answer.Cause.TheVariants.{FetchMisaligned, StoreUnmapped}
use Rattle.rv64_machine.specs.Hart.{loads_reserved, after_conditional, stores_conditional, performs_amo, reads_aligned, is_reserved, effect_at, effect_of, IsReservation, IsReservable, ReservesReservable, GoesOn, Traps, HartState, IsHart, act, arrives, carried, following, loads, passes, with_register}
use Rattle.rv64_machine.proofs.ActLemmas.{act-goes, found-mapped}
use Rattle.rv64_machine.specs.declared.effect.AmoOperation.{AmoOperation}
use Rattle.rv64_machine.specs.Atomics.{amo_result}
use Rattle.rv64_machine.specs.Meaning.{meaning}
use Rattle.rv64_table.specs.declared.Op.{Op}
use Rattle.rv64_table.specs.declared.Op.TheVariants.{Lrw, Lrd}
use Rattle.rv64_decode.specs.declared.Inst.{Inst}
use Rattle.paged_mem.specs.declared.ram.Width.{Width}
use Rattle.paged_mem.proofs.Maps.{get_in_bytes_at}
use Rattle.paged_mem.proofs.Wholes.{whole-written}

same_state : (one other : HartState) → GoesOn one ≡ GoesOn other → one ≡ other
same_state one other e = cc

pub register-hart : (hart : HartState) (number value : ℕ) → IsHart hart → IsHart (with_register hart number value)
register-hart hart number value is = by_test (number == 0) refl
  where
    by_test : (t : Bool) → (number == 0) ≡ t → IsHart (record hart { registers = cond t hart.registers (slice_set hart.registers number value) })
    by_test true was = is
    by_test false was =
        let other : number ≢ 0 = eqb-false number 0 was in
        let many = is.count in
        let first = is.zero in
        record {
          count = length-set hart.registers number value ∙ is.count;
          zero = (grind (arith, common_steps));
          aligned = is.aligned;
          whole = is.whole;
          reserved = is.reserved;
        }

pub following-hart : (hart : HartState) → IsHart hart → IsHart (record hart { pc = following hart })
following-hart hart is =
    let even = is.aligned in
    record { count = is.count; zero = is.zero; aligned = omega arith; whole = is.whole; reserved = is.reserved }

passes-hart : (hart next : HartState) → IsHart hart → passes hart ≡ GoesOn next → IsHart next
passes-hart hart next is goes = subst IsHart (same_state (record hart { pc = following hart }) next goes) (following-hart hart is)

arrives-hart : (hart next : HartState) (target : ℕ) → IsHart hart → arrives hart target ≡ GoesOn next → IsHart next
arrives-hart hart next target is goes = by_test (target % 4 == 0) refl goes
  where
    by_test : (t : Bool) → (target % 4 == 0) ≡ t → cond t (GoesOn (record hart { pc = target })) (Traps (FetchMisaligned target)) ≡ GoesOn next → IsHart next
    by_test true was e =
        subst IsHart (same_state (record hart { pc = target }) next e) (record { count = is.count; zero = is.zero; aligned = tested (target % 4) 0 was; whole = is.whole; reserved = is.reserved })
    by_test false was e = cc

loads-hart : (hart next : HartState) (rd at : ℕ) (o : Option ℕ) → IsHart hart → loads hart rd at o ≡ GoesOn next → IsHart next
loads-hart hart next rd at None is goes = cc
loads-hart hart next rd at (Some value) is goes = passes-hart (with_register hart rd value) next (register-hart hart rd value is) goes

stored-hart : (hart : HartState) (at count value : ℕ) → IsHart hart → maps hart.memory at count ≡ true → IsHart (record hart { memory = writes hart.memory at count value })
stored-hart hart at count value is there = record {
  count = is.count;
  zero = is.zero;
  aligned = is.aligned;
  whole = whole-written hart.memory at (bytes_of count value) is.whole (ap (maps hart.memory at) (length-bytes_of count value) ∙ there)
      (All-from_get_or (λ byte. byte < 256) (bytes_of count value) 0 (λ i less. bytes_of-small count value i));
  reserved = is.reserved;
}

-- a hart without its reservation
unreserved-hart : (hart : HartState) → IsHart hart → IsHart (record hart { reservation = None })
unreserved-hart hart is = record { count = is.count; zero = is.zero; aligned = is.aligned; whole = is.whole; reserved = tt }

-- an address at which bytes are found is a multiple of their count, and low
pub found-placed : (m : Memory) (at count value : ℕ) → reads_aligned m at count ≡ Some value → IsWhole m → 1 ≤ count → (at % count ≡ 0) × (at < address_end)
found-placed m at zero value is whole some = absurd (omega arith)
found-placed m at (suc count) value is whole some = by_test (at % suc count == 0) refl is
  where
    by_bytes : (o : Option (List ℕ)) → bytes_at m at (suc count) ≡ o → option_map number_of o ≡ Some value → at < address_end
    by_bytes None was e = absurd cc
    by_bytes (Some bytes) was e = whole.low at _ (get_in_bytes_at m at (suc count) bytes was at (omega arith) (omega arith))

    by_test : (t : Bool) → (at % suc count == 0) ≡ t → cond t (reads m at (suc count)) None ≡ Some value → (at % suc count ≡ 0) × (at < address_end)
    by_test true was e = (tested (at % suc count) 0 was, by_bytes (bytes_at m at (suc count)) refl e)
    by_test false was e = absurd cc

pub wide-some : (width : Width) → IsReservable width → 1 ≤ count_of width
wide-some width (inl four) = omega (arith, four)
wide-some width (inr eight) = omega (arith, eight)

pub reserved-hart : (hart : HartState) (rd at value : ℕ) (width : Width) → IsReservable width → IsHart hart → reads_aligned hart.memory at (count_of width) ≡ Some value
    → IsReservation (Some (count_of width, at))
reserved-hart hart rd at value width wide is found =
    let placed = found-placed hart.memory at (count_of width) value found is.whole (wide-some width wide) in
    (wide, placed.0, placed.1)

loads_reserved-hart : (hart next : HartState) (rd : ℕ) (width : Width) (at : ℕ) (o : Option ℕ) → IsReservable width → IsHart hart → reads_aligned hart.memory at (count_of width) ≡ o
    → loads_reserved hart rd (count_of width) at o ≡ GoesOn next → IsHart next
loads_reserved-hart hart next rd width at None wide is found goes = absurd cc
loads_reserved-hart hart next rd width at (Some value) wide is found goes =
    let kept = register-hart hart rd (sign_extended (8 * count_of width) value) is in
    let reserved : HartState = record (with_register hart rd (sign_extended (8 * count_of width) value)) { reservation = Some (count_of width, at) } in
    passes-hart reserved next
    (record { count = kept.count; zero = kept.zero; aligned = kept.aligned; whole = kept.whole; reserved = reserved-hart hart rd at value width wide is found }) goes

stores_conditional-hart : (hart next : HartState) (rd count at value : ℕ) (o : Option ℕ) → IsHart hart → reads_aligned hart.memory at count ≡ o
    → stores_conditional hart rd count at value o ≡ GoesOn next → IsHart next
stores_conditional-hart hart next rd count at value None is found goes = absurd cc
stores_conditional-hart hart next rd count at value (Some old) is found goes =
    passes-hart (after_conditional hart rd count at value (is_reserved hart.reservation count at)) next (by_held (is_reserved hart.reservation count at)) goes
  where
    by_held : (held : Bool) → IsHart (after_conditional hart rd count at value held)
    by_held true =
        let mapped = found-mapped hart.memory at count old found in
        unreserved-hart (record (with_register hart rd 0) { memory = writes hart.memory at count value })
        (stored-hart (with_register hart rd 0) at count value (register-hart hart rd 0 is) mapped)
    by_held false = unreserved-hart (with_register hart rd 1) (register-hart hart rd 1 is)

performs_amo-hart : (hart next : HartState) (rd : ℕ) (operation : AmoOperation) (count at value : ℕ) (o : Option ℕ) → IsHart hart → reads_aligned hart.memory at count ≡ o
    → performs_amo hart rd operation count at value o ≡ GoesOn next → IsHart next
performs_amo-hart hart next rd operation count at value None is found goes = absurd cc
performs_amo-hart hart next rd operation count at value (Some old) is found goes =
    let put = with_register hart rd (sign_extended (8 * count) old) in
    passes-hart (record put { memory = writes hart.memory at count (amo_result operation (8 * count) old value) }) next
    (stored-hart put at count (amo_result operation (8 * count) old value) (register-hart hart rd (sign_extended (8 * count) old) is) (found-mapped hart.memory at count old found)) goes

carried-hart : (hart next : HartState) (rd : ℕ) (effect : Effect) → ReservesReservable effect → IsHart hart → carried hart rd effect ≡ GoesOn next → IsHart next
carried-hart hart next rd (Put value) wide is goes = passes-hart (with_register hart rd value) next (register-hart hart rd value is) goes
carried-hart hart next rd (Jump target) wide is goes = arrives-hart (with_register hart rd (following hart)) next target (register-hart hart rd (following hart) is) goes
carried-hart hart next rd (Branch true target) wide is goes = arrives-hart hart next target is goes
carried-hart hart next rd (Branch false target) wide is goes = passes-hart hart next is goes
carried-hart hart next rd (Load width at) wide is goes = loads-hart hart next rd at (reads hart.memory at (count_of width)) is goes
carried-hart hart next rd (LoadSigned width at) wide is goes =
    loads-hart hart next rd at (option_map (sign_extended (8 * count_of width)) (reads hart.memory at (count_of width))) is goes
carried-hart hart next rd (Store width at value) wide is goes = by_test (maps hart.memory at (count_of width)) refl goes
  where
    by_test : (t : Bool) → maps hart.memory at (count_of width) ≡ t
        → cond t (passes (record hart { memory = writes hart.memory at (count_of width) value })) (Traps (StoreUnmapped at)) ≡ GoesOn next → IsHart next
    by_test true there e = passes-hart (record hart { memory = writes hart.memory at (count_of width) value }) next (stored-hart hart at (count_of width) value is there) e
    by_test false gone e = cc
carried-hart hart next rd Next wide is goes = passes-hart hart next is goes
carried-hart hart next rd Call wide is goes = cc
carried-hart hart next rd Break wide is goes = cc
carried-hart hart next rd (LoadReserved width at) wide is goes = loads_reserved-hart hart next rd width at (reads_aligned hart.memory at (count_of width)) wide is refl goes
carried-hart hart next rd (StoreConditional width at value) wide is goes =
    stores_conditional-hart hart next rd (count_of width) at value (reads_aligned hart.memory at (count_of width)) is refl goes
carried-hart hart next rd (Amo operation width at value) wide is goes =
    performs_amo-hart hart next rd operation (count_of width) at value (reads_aligned hart.memory at (count_of width)) is refl goes

-- reservations of the table's rows are of 4 or 8 bytes
pub meaning-wide : (op : Op) (a b i pc : ℕ) → ReservesReservable (meaning op a b i pc)
meaning-wide Lrw a b i pc = inl refl
meaning-wide Lrd a b i pc = inr refl
meaning-wide _ a b i pc = tt

loads_reserved-wide : (hart : HartState) (effect : Effect) → effect_at hart ≡ Some effect → ReservesReservable effect
unfolding effect_at
loads_reserved-wide hart effect there = by_inst _ there
  where
    by_inst : (o : Option Inst) → option_map (effect_of hart) o ≡ Some effect → ReservesReservable effect
    by_inst None e = absurd cc
    by_inst (Some inst) e =
        let is : effect_of hart inst ≡ effect = cc in
        subst ReservesReservable is (meaning-wide inst.op (slice_index hart.registers inst.rs1) (slice_index hart.registers inst.rs2) (wrapped 64 inst.imm) hart.pc)

pub act-hart : (hart next : HartState) → IsHart hart → act hart ≡ GoesOn next → IsHart next
act-hart hart next is goes = let (rd, effect, there, carries) = act-goes hart next goes in carried-hart hart next rd effect (loads_reserved-wide hart effect there) is carries

-- the hart after a call
pub answered-hart : (hart : HartState) (value : ℕ) → IsHart hart → IsHart (record (with_register hart 10 value) { pc = following hart; reservation = None })
answered-hart hart value is =
    let even = is.aligned in
    let kept = register-hart hart 10 value is in
    record { count = kept.count; zero = kept.zero; aligned = omega arith; whole = kept.whole; reserved = tt }
