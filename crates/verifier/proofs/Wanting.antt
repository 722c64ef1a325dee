-- Where the replay of a stage may want memory.
use Rattle.std.proofs.Common.{◌≡◌, ℕ, true, false, List, Some, Result, Ok, Err, refl, sym, ap, subst}
use Rattle.std.specs.Prelude.{IsOk, is_err}
use Rattle.ddc_base.specs.Results.{or_error}
use Rattle.elf_load.specs.declared.Image.{Image}
use Rattle.elf_load.specs.declared.refusal.ElfRefusal.{ElfRefusal}
use Rattle.elf_load.specs.Image.{image_of}
use Rattle.mem_files.specs.World.{World}
use Rattle.guest_run.specs.Setting.{Setting}
use Rattle.guest_run.specs.Start.{start_of, started}
use Rattle.recipe.specs.declared.contents.RecipeContents.{RecipeContents}
use Rattle.recipe.specs.declared.parts.Stage.{Stage}
use Rattle.report.specs.declared.types.StageLine.{StageLine}
use Rattle.audit_rules.specs.Contents.{Contents, box_of, program_of}
use Rattle.verifier.specs.declared.part.Part.TheVariants as part
use Rattle.verifier.specs.declared.stop.JudgingStop.{JudgingStop}
use Rattle.verifier.specs.declared.stop.JudgingStop.TheVariants.{Refuted, OutOfMemory}
use Rattle.verifier.specs.Faults.{left_at}
use Rattle.verifier.specs.Inside.Holdings.{IsRecorded, OnStopWant}
use Rattle.verifier.specs.Verdicts.{CanRun, CanWantAt}

-- a file that is no program has no run
pub no-program : (program : List ℕ) (setting : Setting) (limit step : ℕ) {fault : ElfRefusal} → image_of program ≡ Err fault
    → or_error part.Run (left_at (start_of program setting) limit step) ≡ Err part.Run
unfolding start_of
no-program program setting limit step is = ap (λ found. or_error part.Run (left_at (started program setting found) limit step)) is

pub loaded : (found : Result Image ElfRefusal) → is_err found ≡ false → IsOk found
loaded (Ok image) some = refl
loaded (Err fault) some = absurd cc

module _ (recipe : RecipeContents) (so_far : Contents) (stage : Stage) (line : StageLine) where
  -- for the run
  pub wants-run : {A : Type 0} (answer : Result A JudgingStop) → CanRun recipe so_far stage line → OnStopWant answer (λ p. p ≡ part.Run)
      → OnStopWant answer (CanWantAt recipe so_far stage line)
  wants-run (Ok found) can want = tt
  wants-run (Err (Refuted p)) can want = tt
  wants-run (Err (OutOfMemory p)) can want = subst (CanWantAt recipe so_far stage line) (sym want) can

  -- for the check
  pub wants-check : {A : Type 0} (answer : Result A JudgingStop) (world : World)
      → left_at (start_of (program_of recipe so_far stage) (box_of recipe so_far stage)) stage.steps line.steps ≡ Some world
      → OnStopWant answer (λ p. (p ≡ part.Assembled) × IsRecorded so_far stage line world) → OnStopWant answer (CanWantAt recipe so_far stage line)
  wants-check (Ok found) world ran want = tt
  wants-check (Err (Refuted p)) world ran want = tt
  wants-check (Err (OutOfMemory p)) world ran want =
      subst (CanWantAt recipe so_far stage line) (sym want.0) (record { world = world; ran = ran; made = want.1.made; left = want.1.is })
