-- A hart and one act of it (docs/reference/machine.md).
use Rattle.std.specs.Prelude.{◌≡◌, ℕ, zero, suc, ◌+◌, ◌*◌, ◌%◌, ◌^◌, ◌<◌, ◌==◌, ◌&&◌, ◌⊎◌, Bool, true, false, if◌then◌else◌, IsTrue, length, All, List, slice_index, slice_set, Option, None, Some, option_map, option_and_then}
use Rattle.ddc_base.specs.Limits.{address_end}
use Rattle.paged_mem.specs.Memory.{IsWhole, Memory, maps, reads, writes}
use Rattle.paged_mem.specs.Ram.{count_of}
use Rattle.paged_mem.specs.declared.ram.Width.{Width}
use Rattle.rv64_decode.specs.declared.Inst.{Inst}
use Rattle.rv64_decode.specs.Decode.{decoded}
use Rattle.rv64_machine.specs.declared.answer.Cause.{Cause}
use Rattle.rv64_machine.specs.declared.answer.Cause.TheVariants as cause
use Rattle.rv64_machine.specs.declared.answer.StepEnd.{StepEnd}
use Rattle.rv64_machine.specs.declared.answer.StepEnd.TheVariants as end
use Rattle.rv64_machine.specs.declared.effect.Effect.{Effect}
use Rattle.rv64_machine.specs.declared.effect.Effect.TheVariants.{Put, Jump, Branch, Load, LoadSigned, Store, Next, Call, Break, LoadReserved, StoreConditional, Amo}
use Rattle.rv64_machine.specs.declared.effect.AmoOperation.{AmoOperation}
use Rattle.rv64_machine.specs.declared.answer.Reservation.{Reservation}
use Rattle.rv64_machine.specs.Atomics.{amo_result}
use Rattle.rv64_machine.specs.Arithmetic.{sign_extended, sum, wrapped}
use Rattle.rv64_machine.specs.Meaning.{meaning}

-- the reserved bytes: their number, 4 or 8, and their address, a multiple of that number and below 2^38.
-- The standard leaves the set of reserved bytes to the machine. This project's profile reserves exactly these bytes
abbrev pub IsReservation : Option (ℕ × ℕ) → Type 0
IsReservation None = Unit {0}
IsReservation (Some (count, at)) = ((count ≡ 4) ⊎ (count ≡ 8)) × (at % count ≡ 0) × (at < address_end)

-- a reservation of the code as the definitions have it
abbrev pub reserved_bytes : Reservation → ℕ × ℕ
reserved_bytes held = (count_of held.wide, held.at)

-- the state of a hart: the registers x0 to x31, the address of the next instruction, the memory, and the reservation if there is one
pub record HartState : Type 0 where
  pub registers : List ℕ
  pub pc : ℕ
  pub memory : Memory
  pub reservation : Option (ℕ × ℕ)

-- a well-formed hart: 32 registers with x0 = 0, a pc that is a multiple of 4, whole pages of bytes, and a valid reservation
pub record IsHart (hart : HartState) : Type 0 where
  pub count : length hart.registers ≡ 32
  pub zero : slice_index hart.registers 0 ≡ 0
  pub aligned : hart.pc % 4 ≡ 0
  pub whole : IsWhole hart.memory
  pub reserved : IsReservation hart.reservation

-- the registers and the pc are below 2^64
pub record HasNumbers (hart : HartState) : Type 0 where
  pub registers : All (λ value. value < 2 ^ 64) hart.registers
  pub pc : hart.pc < 2 ^ 64

-- one act: the hart continues in a state, calls the system, or traps; a call and a trap leave the state unchanged
pub data Act : Type 0 where
  GoesOn : HartState → Act
  Calls : Act
  Traps : Cause → Act

-- the state with a value in a register; x0 stays 0
abbrev pub with_register : HartState → ℕ → ℕ → HartState
with_register hart number value =
    record hart { registers = (if number == 0 then hart.registers else slice_set hart.registers number value) }

-- the address of the next instruction in memory
abbrev pub following : HartState → ℕ
following hart = sum 64 hart.pc 4

-- the act that continues at the next instruction
abbrev pub passes : HartState → Act
passes hart = GoesOn (record hart { pc = following hart })

-- the act that continues at a target, which must be a multiple of 4
abbrev pub arrives : HartState → ℕ → Act
arrives hart target =
    if target % 4 == 0 then GoesOn (record hart { pc = target }) else Traps (cause.FetchMisaligned target)

-- the act of a load from an address, by the value that was read
abbrev pub loads : HartState → ℕ → ℕ → Option ℕ → Act
loads hart rd at None = Traps (cause.LoadUnmapped at)
loads hart rd at (Some value) = passes (with_register hart rd value)

-- the number at an address, if the address is a multiple of the width and the bytes are mapped.
-- For a misaligned address the standard raises an exception, which may be an access fault; here it always is one
abbrev pub reads_aligned : Memory → ℕ → ℕ → Option ℕ
reads_aligned memory at count = if at % count == 0 then reads memory at count else None

-- whether exactly these bytes are reserved: this width at this address
abbrev pub is_reserved : Option (ℕ × ℕ) → ℕ → ℕ → Bool
is_reserved None count at = false
is_reserved (Some held) count at = held.0 == count && held.1 == at

-- a width that can be reserved
abbrev pub IsReservable : Width → Type 0
IsReservable width = (count_of width ≡ 4) ⊎ (count_of width ≡ 8)

-- the effect is no load-reserved, or one of such a width
abbrev pub ReservesReservable : Effect → Type 0
ReservesReservable (LoadReserved width at) = IsReservable width
ReservesReservable _ = Unit {0}

-- the act of a load-reserved by the value that was read ("A", "Load-Reserved/Store-Conditional Instructions")
abbrev pub loads_reserved : HartState → ℕ → ℕ → ℕ → Option ℕ → Act
loads_reserved hart rd count at None = Traps (cause.LoadUnmapped at)
loads_reserved hart rd count at (Some value) =
    passes (record (with_register hart rd (sign_extended (8 * count) value)) { reservation = Some (count, at) })

-- the state after a store-conditional: if its bytes are reserved it stores and sets rd to 0, otherwise it sets rd to 1;
-- the reservation ends either way
abbrev pub after_conditional : HartState → ℕ → ℕ → ℕ → ℕ → Bool → HartState
after_conditional hart rd count at value true = record (with_register hart rd 0) { memory = writes hart.memory at count value; reservation = None }
after_conditional hart rd count at value false = record (with_register hart rd 1) { reservation = None }

-- the act of a store-conditional by the old number at its address; an unmapped address traps first, as in a store
abbrev pub stores_conditional : HartState → ℕ → ℕ → ℕ → ℕ → Option ℕ → Act
stores_conditional hart rd count at value None = Traps (cause.StoreUnmapped at)
stores_conditional hart rd count at value (Some old) = passes (after_conditional hart rd count at value (is_reserved hart.reservation count at))

-- the act of an atomic memory operation by the old number at its address, which rd is set to ("A", "Atomic Memory Operations")
abbrev pub performs_amo : HartState → ℕ → AmoOperation → ℕ → ℕ → ℕ → Option ℕ → Act
performs_amo hart rd operation count at value None = Traps (cause.StoreUnmapped at)
performs_amo hart rd operation count at value (Some old) =
    passes (record (with_register hart rd (sign_extended (8 * count) old)) { memory = writes hart.memory at count (amo_result operation (8 * count) old value) })

-- the act of a row's effect
abbrev pub carried : HartState → ℕ → Effect → Act
carried hart rd (Put value) = passes (with_register hart rd value)
carried hart rd (Jump target) = arrives (with_register hart rd (following hart)) target
carried hart rd (Branch taken target) = if taken then arrives hart target else passes hart
carried hart rd (Load width at) = loads hart rd at (reads hart.memory at (count_of width))
carried hart rd (LoadSigned width at) =
    loads hart rd at (option_map (sign_extended (8 * count_of width)) (reads hart.memory at (count_of width)))
carried hart rd (Store width at value) =
    if maps hart.memory at (count_of width)
    then passes (record hart { memory = writes hart.memory at (count_of width) value })
    else Traps (cause.StoreUnmapped at)
carried hart rd Next = passes hart
carried hart rd Call = Calls
carried hart rd Break = Traps cause.Break
carried hart rd (LoadReserved width at) = loads_reserved hart rd (count_of width) at (reads_aligned hart.memory at (count_of width))
carried hart rd (StoreConditional width at value) = stores_conditional hart rd (count_of width) at value (reads_aligned hart.memory at (count_of width))
carried hart rd (Amo operation width at value) = performs_amo hart rd operation (count_of width) at value (reads_aligned hart.memory at (count_of width))

-- the effect of an instruction: its row's meaning, on the values of its registers
abbrev pub effect_of : HartState → Inst → Effect
effect_of hart inst =
    meaning inst.op (slice_index hart.registers inst.rs1) (slice_index hart.registers inst.rs2) (wrapped 64 inst.imm) hart.pc

-- the act of a word's instruction
abbrev pub runs : HartState → ℕ → Option Inst → Act
runs hart word None = Traps (cause.Illegal word)
runs hart word (Some inst) = carried hart inst.rd (effect_of hart inst)

-- the act of the word that was fetched
abbrev pub fetched : HartState → Option ℕ → Act
fetched hart None = Traps (cause.FetchUnmapped hart.pc)
fetched hart (Some word) = runs hart word (decoded word)

-- the act of a hart: fetch the four bytes at the pc, and execute their instruction
unfoldable pub act : HartState → Act
act hart = fetched hart (reads hart.memory hart.pc 4)

-- the effect of the instruction at the pc; none if the bytes there are no instruction
unfoldable pub effect_at : HartState → Option Effect
effect_at hart = option_map (effect_of hart) (option_and_then decoded (reads hart.memory hart.pc 4))

-- whether an act continues
abbrev pub goes_on : Act → Bool
goes_on (GoesOn next) = true
goes_on _ = false

-- whether an effect stores while `held` is reserved: a store and an atomic memory operation do, and a store-conditional
-- of the reserved bytes does
abbrev pub is_store : Option (ℕ × ℕ) → Option Effect → Bool
is_store held (Some (Store width at value)) = true
is_store held (Some (StoreConditional width at value)) = is_reserved held (count_of width) at
is_store held (Some (Amo operation width at value)) = true
is_store held _ = false

-- how a step ended and the state that it left, for a hart with this act and this effect
abbrev pub EndsStep : Act → Option Effect → HartState → StepEnd → HartState → Type 0
EndsStep an_act effect old end.Done new = an_act ≡ GoesOn new
EndsStep an_act effect old end.Call new = (an_act ≡ Calls) × (new ≡ old)
EndsStep an_act effect old (end.Trap cause) new = (an_act ≡ Traps cause) × (new ≡ old)
EndsStep an_act effect old end.OutOfMemory new = IsTrue (goes_on an_act) × IsTrue (is_store old.reservation effect) × (new ≡ old)

-- the result of a step and the state that it leaves: those of its act, or out of memory in a store that would continue
abbrev pub Acts : HartState → StepEnd → HartState → Type 0
Acts old end new = EndsStep (act old) (effect_at old) old end new

-- the state in which an act continued
abbrev pub went_on : Act → Option HartState
went_on (GoesOn next) = Some next
went_on _ = None

-- the state after `count` acts that continued; none if one of them did not
unfoldable pub acted : HartState → ℕ → Option HartState
acted hart zero = Some hart
acted hart (suc count) = option_and_then (λ last. went_on (act last)) (acted hart count)

-- at most `most` steps ended like this after `done` acts that continued: either all of them continued, or the next one
-- did not and left the state unchanged
abbrev pub ActsInARow : HartState → ℕ → ℕ → StepEnd → HartState → Type 0
ActsInARow old most done end.Done new = (done ≡ most) × (acted old done ≡ Some new)
ActsInARow old most done end.Call new = (done < most) × (acted old done ≡ Some new) × Acts new end.Call new
ActsInARow old most done (end.Trap cause) new = (done < most) × (acted old done ≡ Some new) × Acts new (end.Trap cause) new
ActsInARow old most done end.OutOfMemory new = (done < most) × (acted old done ≡ Some new) × Acts new end.OutOfMemory new

-- ---- up to an address

-- whether a pc is the address to stop at, if there is one
abbrev pub is_stop : Option ℕ → ℕ → Bool
is_stop None pc = false
is_stop (Some address) pc = pc == address

-- the state in which an act continued, if its pc is not the stop
abbrev pub went_past : Option ℕ → Act → Option HartState
went_past stop (GoesOn next) = if is_stop stop next.pc then None else Some next
went_past stop _ = None

-- the state after `count` acts that continued, none of which reached the stop. The pc at the start is not compared
unfoldable pub passed : Option ℕ → HartState → ℕ → Option HartState
passed stop hart zero = Some hart
passed stop hart (suc count) = option_and_then (λ last. went_past stop (act last)) (passed stop hart count)

-- `done` steps, at most `most`, of which only the last one reached the stop
pub record ComesTo (stop : Option ℕ) (old : HartState) (most done : ℕ) (new : HartState) : Type 0 where
  pub before : ℕ
  pub last : HartState
  pub counted : done ≡ before + 1
  pub few : before < most
  pub passes : passed stop old before ≡ Some last
  pub arrives : act last ≡ GoesOn new
  pub stands : IsTrue (is_stop stop new.pc)

-- how at most `most` steps up to a stop ended, after `done` acts that continued. Either all continued and none reached the stop;
-- or the last one reached it; or none reached it, and the next one did not continue and left the state unchanged
abbrev pub ActsTo : Option ℕ → HartState → ℕ → ℕ → StepEnd → HartState → Type 0
ActsTo stop old most done end.Done new = ((done ≡ most) × (passed stop old done ≡ Some new)) ⊎ ComesTo stop old most done new
ActsTo stop old most done end.Call new = (done < most) × (passed stop old done ≡ Some new) × Acts new end.Call new
ActsTo stop old most done (end.Trap cause) new = (done < most) × (passed stop old done ≡ Some new) × Acts new (end.Trap cause) new
ActsTo stop old most done end.OutOfMemory new = (done < most) × (passed stop old done ≡ Some new) × Acts new end.OutOfMemory new
