-- The answers of a replay's steps. To read the promises, this file is not needed.
use Rattle.std.specs.Prelude.{◌≡◌, Option, None, Some, Result, Ok, Err}
use Rattle.kaem_script.specs.declared.replay.ReplayStop.{ReplayStop}
use Rattle.kaem_script.specs.declared.replay.ReplayStop.TheVariants.{Refuted, OutOfMemory}
use Rattle.kaem_script.specs.declared.verdict.ScriptPart.{ScriptPart}
use Rattle.kaem_script.specs.declared.verdict.ScriptPart.TheVariants as part

-- the value, if there is one; otherwise the run fails
abbrev pub or_no_run : {A : Type 0} → Option A → Result A ScriptPart
or_no_run None = Err part.Run
or_no_run (Some found) = Ok found

-- the answer of a step of a replay with this meaning
abbrev pub Judged : {A B : Type 0} → (B → A) → Result A ScriptPart → Result B ReplayStop → Type 0
Judged view meant (Ok found) = meant ≡ Ok (view found)
Judged view meant (Err (Refuted part)) = meant ≡ Err part
Judged view meant (Err OutOfMemory) = Unit {0}

-- a fact, if memory ran out
abbrev pub OnReplayWant : {B : Type 0} → Result B ReplayStop → Type 0 → Type 0
OnReplayWant (Err OutOfMemory) fact = fact
OnReplayWant answer fact = Unit {0}
