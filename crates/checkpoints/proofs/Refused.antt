-- What refuses a part of what a text says refuses the whole.
use Rattle.std.proofs.Common.{◌≡◌, ℕ, ◌%◌, Result, Ok, Err, refl}
use Rattle.std.specs.Prelude.{IsOk}
use Rattle.rv64_machine.specs.Hart.{IsReservation}
use Rattle.guest_run.specs.Valid.{Fits}
use Rattle.save_format.specs.StateText.StateText.{StateText}
use Rattle.checkpoints.specs.Checkpoint.{Becomes, IsInMemory, IsInRange, MayBeMade, lists_in, memory_of}
use Rattle.checkpoints.specs.Inside.Parts.{MakesFiles, RefusesMemory, RefusesReservation}
use Rattle.checkpoints.specs.declared.file_parts.restoring.RestoreRefusal.{RestoreRefusal}
use Rattle.checkpoints.specs.declared.file_parts.restoring.RestoreRefusal.TheVariants.{Range, FileRef, OutOfMemory}

pub by_reservation : (s : StateText) (why : RestoreRefusal) → RefusesReservation s.reservation why → Becomes s (Err why)
by_reservation s Range refuses = λ range. refuses range.reserved
by_reservation s FileRef refuses = absurd refuses
by_reservation s OutOfMemory refuses = absurd refuses

pub by_memory : (s : StateText) (why : RestoreRefusal) → s.pc % 4 ≡ 0 → IsReservation s.reservation → RefusesMemory s why → Becomes s (Err why)
by_memory s Range aligned reserved refuses = λ range. refuses range.memory
by_memory s FileRef aligned reserved refuses = absurd refuses
by_memory s OutOfMemory aligned reserved refuses = record { aligned = aligned; reserved = reserved; runs = refuses }

pub by_files : (s : StateText) (why : RestoreRefusal) → s.pc % 4 ≡ 0 → IsReservation s.reservation → IsInMemory s → Fits (memory_of s) s.heap → MakesFiles (lists_in s) (Err why) → Becomes s (Err why)
by_files s Range aligned reserved memory fits makes = λ range. makes range.files
by_files s FileRef aligned reserved memory fits makes = (record { aligned = aligned; reserved = reserved; memory = memory; fits = fits; files = makes.0 }, makes.1)
by_files s OutOfMemory aligned reserved memory fits makes = record { aligned = aligned; reserved = reserved; runs = memory.runs }

-- what is judged first of what is in range
pub header_made : (s : StateText) → IsInRange s → MayBeMade s
header_made s range = record { aligned = range.aligned; reserved = range.reserved; runs = range.memory.runs }

-- what is read
pub wanted : (read : Result StateText ℕ) → IsOk read → (s : StateText) × (read ≡ Ok s)
wanted (Ok s) formed = (s, refl)
wanted (Err at) formed = absurd cc
