-- The results for the reservation, the memory and the files of a parsed text, each by itself.
use Rattle.std.specs.Prelude.{◌≡◌, ℕ, Option, Result, Ok, Err}
use Rattle.mem_files.specs.Lists.{AreInRange, AreJoined, FileLists, world_of}
use Rattle.mem_files.specs.World.{World}
use Rattle.rv64_machine.specs.Hart.{IsReservation}
use Rattle.save_format.specs.StateText.Mappable.{AreMappable}
use Rattle.save_format.specs.StateText.StateText.{StateText}
use Rattle.checkpoints.specs.declared.file_parts.restoring.RestoreRefusal.{RestoreRefusal}
use Rattle.checkpoints.specs.declared.file_parts.restoring.RestoreRefusal.TheVariants as restored
use Rattle.checkpoints.specs.Checkpoint.{IsInMemory}

-- why there is no reservation
abbrev pub RefusesReservation : Option (ℕ × ℕ) → RestoreRefusal → Type 0
RefusesReservation reservation restored.Range = ¬ (IsReservation reservation)
RefusesReservation reservation restored.FileRef = ⊥
RefusesReservation reservation restored.OutOfMemory = ⊥

-- why there is no memory; memory of the host runs out only if the runs can be mapped
abbrev pub RefusesMemory : StateText → RestoreRefusal → Type 0
RefusesMemory s restored.Range = ¬ (IsInMemory s)
RefusesMemory s restored.FileRef = ⊥
RefusesMemory s restored.OutOfMemory = AreMappable s.runs

-- the result for the files of a parsed text; out of memory says nothing of them
abbrev pub MakesFiles : FileLists → Result World RestoreRefusal → Type 0
MakesFiles lists (Ok made) = AreInRange lists × AreJoined lists × (made ≡ world_of lists)
MakesFiles lists (Err restored.Range) = ¬ (AreInRange lists)
MakesFiles lists (Err restored.FileRef) = AreInRange lists × ¬ (AreJoined lists)
MakesFiles lists (Err restored.OutOfMemory) = Unit {0}
