-- How a result that may be out of memory fits the defined result.
use Rattle.std.specs.Prelude.{◌≡◌, ℕ, ◌+◌, ◌<◌, Result, Ok, Err, IsOk, IfSome}
use Rattle.std.specs.FinMap as map
use Rattle.mem_files.specs.declared.open_file.FileRefusal.{FileRefusal}
use Rattle.mem_files.specs.declared.open_file.FileRefusal.TheVariants as file
use Rattle.mem_files.specs.declared.open_file.PlaceRefusal.{PlaceRefusal}
use Rattle.mem_files.specs.declared.open_file.PlaceRefusal.TheVariants.{BadName, Twice, Full, OutOfMemory}
use Rattle.mem_files.specs.World.{World}
use Rattle.mem_files.specs.Calls.{write_offset}

-- the result and the files after it are the defined ones; or memory ran out, the defined result is no error, and the files are unchanged
abbrev pub Replies : {X : Type 0} → Result X FileRefusal → World → World → Result X ℕ × World → Type 0
Replies (Ok answer) old new meant = meant ≡ (Ok answer, new)
Replies (Err (file.Errno errno)) old new meant = meant ≡ (Err errno, new)
Replies (Err file.OutOfMemory) old new meant = IsOk meant.0 × (new ≡ old)

-- `Replies` for `place`
abbrev pub Places : Result (Unit {0}) PlaceRefusal → World → World → Result (Unit {0}) PlaceRefusal × World → Type 0
Places (Ok done) old new meant = meant ≡ (Ok done, new)
Places (Err BadName) old new meant = meant ≡ (Err BadName, new)
Places (Err Twice) old new meant = meant ≡ (Err Twice, new)
Places (Err Full) old new meant = meant ≡ (Err Full, new)
Places (Err OutOfMemory) old new meant = IsOk meant.0 × (new ≡ old)

-- a write of `count` bytes ends past the bytes that are there
abbrev pub Grows : World → ℕ → ℕ → Type 0
Grows w fd count = IfSome (write_offset w (map.get w.open_files fd)) (λ (len, offset). len < offset + count)
