-- The result of restoring parts.
use Rattle.std.specs.Prelude.{◌≡◌, Result, Ok, Err}
use Rattle.mem_files.specs.World.{World}
use Rattle.mem_files.specs.Lists.{FileLists, world_of, AreInRange, AreJoined}
use Rattle.checkpoints.specs.declared.file_parts.restoring.RestoreRefusal.{RestoreRefusal}
use Rattle.checkpoints.specs.declared.file_parts.restoring.RestoreRefusal.TheVariants.{Range, FileRef, OutOfMemory}

-- the files of the parts, if they obey the rules; otherwise `Range` for a count or a range, and only then `FileRef` for a reference.
-- Memory runs out only where the files would be made
abbrev pub Restores : FileLists → Result World RestoreRefusal → Type 0
Restores lists (Ok made) = AreInRange lists × AreJoined lists × (made ≡ world_of lists)
Restores lists (Err Range) = AreInRange lists → ⊥
Restores lists (Err FileRef) = AreInRange lists × (AreJoined lists → ⊥)
Restores lists (Err OutOfMemory) = AreInRange lists × AreJoined lists
