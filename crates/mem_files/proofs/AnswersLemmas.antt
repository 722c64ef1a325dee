-- What a call leaves is sound, where what is meant is.
use Rattle.std.proofs.Common.{ℕ, Result, Ok, Err, ap, sym, subst}
use Rattle.mem_files.specs.declared.open_file.FileRefusal.{FileRefusal}
use Rattle.mem_files.specs.declared.open_file.FileRefusal.TheVariants as file
use Rattle.mem_files.specs.declared.open_file.PlaceRefusal.{PlaceRefusal}
use Rattle.mem_files.specs.declared.open_file.PlaceRefusal.TheVariants.{BadName, Twice, Full, OutOfMemory}
use Rattle.mem_files.specs.World.{World}
use Rattle.mem_files.specs.Sound.{IsSound}
use Rattle.mem_files.specs.Replies.{Replies, Places}

pub answers-sound : {X : Type 0} (result : Result X FileRefusal) (old new : World) (meant : Result X ℕ × World) → Replies result old new meant → IsSound old → IsSound meant.1 → IsSound new
answers-sound (Ok answer) old new meant a s t = subst IsSound (ap (λ p. p.1) a) t
answers-sound (Err (file.Errno errno)) old new meant a s t = subst IsSound (ap (λ p. p.1) a) t
answers-sound (Err file.OutOfMemory) old new meant a s t = subst IsSound (sym a.1) s

pub places-sound : (result : Result (Unit {0}) PlaceRefusal) (old new : World) (meant : Result (Unit {0}) PlaceRefusal × World) → Places result old new meant → IsSound old → IsSound meant.1 → IsSound new
places-sound (Ok done) old new meant a s t = subst IsSound (ap (λ p. p.1) a) t
places-sound (Err BadName) old new meant a s t = subst IsSound (ap (λ p. p.1) a) t
places-sound (Err Twice) old new meant a s t = subst IsSound (ap (λ p. p.1) a) t
places-sound (Err Full) old new meant a s t = subst IsSound (ap (λ p. p.1) a) t
places-sound (Err OutOfMemory) old new meant a s t = subst IsSound (sym a.1) s
