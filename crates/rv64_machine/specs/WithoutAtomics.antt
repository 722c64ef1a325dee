-- A hart with any decoder, and one that knows only RV64I and M. The hart of all rows does everything that the latter does.
use Rattle.std.specs.Prelude.{◌≡◌, ℕ, if◌then◌else◌, Option, None, Some, option_and_then}
use Rattle.paged_mem.specs.Memory.{reads}
use Rattle.rv64_table.specs.Table.{is_atomic}
use Rattle.rv64_decode.specs.declared.Inst.{Inst}
use Rattle.rv64_decode.specs.Decode.{decoded}
use Rattle.rv64_machine.specs.declared.answer.Cause.TheVariants as cause
use Rattle.rv64_machine.specs.Hart.{Act, GoesOn, Calls, Traps, HartState, act, runs}

-- the act of the word that was fetched, with a decoder
abbrev pub fetched_by : (ℕ → Option Inst) → HartState → Option ℕ → Act
fetched_by decode hart None = Traps (cause.FetchUnmapped hart.pc)
fetched_by decode hart (Some word) = runs hart word (decode word)

-- the act of a hart with a decoder
unfoldable pub act_by : (ℕ → Option Inst) → HartState → Act
act_by decode hart = fetched_by decode hart (reads hart.memory hart.pc 4)

abbrev pub inst_unless_atomic : Inst → Option Inst
inst_unless_atomic inst = if is_atomic inst.op then None else Some inst

-- the instruction of a word among the rows of RV64I and M; the words of the atomic rows are illegal
unfoldable pub decoded_without_atomics : ℕ → Option Inst
decoded_without_atomics word = option_and_then inst_unless_atomic (decoded word)

-- the act of a hart that knows only the rows of RV64I and M
abbrev pub act_without_atomics : HartState → Act
act_without_atomics hart = act_by decoded_without_atomics hart

-- the hart of all rows does everything that a hart without the atomic rows does, and keeps the reservation
pub record ActsWithoutAtomicsStand (hart : HartState) : Type 0 where
  pub all : act_by decoded hart ≡ act hart
  pub goes : (next : HartState) → act_without_atomics hart ≡ GoesOn next → (act hart ≡ GoesOn next) × (next.reservation ≡ hart.reservation)
  pub calls : act_without_atomics hart ≡ Calls → act hart ≡ Calls
