-- Why what runs of programs leave is prescribed deterministically, from the law `one_run` of guest_run. Rattle requires the grounds for a
-- law of an `impl` among the definitions.
use Rattle.std.proofs.Common.{◌≡◌, ℕ, Option, Some, List, sym, ap, ◌∙◌, subst}
use Rattle.std.proofs.lemmas.Option.{same_Some}
use Rattle.mem_files.specs.Outputs.{OutputLocation, out}
use Rattle.mem_files.specs.World.{World}
use Rattle.guest_run.specs.Program.{ProgramRun}
use Rattle.guest_run.specs.Setting.{Setting}
use Rattle.audit_rules.specs.Contents.{SourceText}
use Rattle.wheeler.specs.Assembly.{ProgramLeaves}
use Rattle.wheeler.specs.Meaning.{Implements, Prescribes}

-- a program in an execution context has at most one run to an exit
abbrev pub HasOneRun : Type 0
HasOneRun =
    (program : List ℕ) (setting : Setting) (n m s t : ℕ) (world other : World)
    → ProgramRun program setting n s world → ProgramRun program setting m t other → (n ≡ m) × (s ≡ t) × (world ≡ other)

-- a source prescribes at most one content at an output
abbrev pub IsFixed : Prescribes → Type 0
IsFixed prescribes =
    (source : SourceText) (box : Setting) (output : OutputLocation) (one other : List ℕ)
    → prescribes source box output one → prescribes source box output other → one ≡ other

pub fixed-program : (program_of : SourceText → Option (List ℕ)) → HasOneRun → IsFixed (ProgramLeaves program_of)
fixed-program program_of one-run source box output one other first second =
    let same = same_Some first.program second.program (sym first.is_program ∙ second.is_program) in
    let here = subst (λ program. ProgramRun program box first.step 0 first.world) same first.runs in
    let world = (one-run second.program box first.step second.step 0 0 first.world second.world here second.runs).2 in
    same_Some one other (sym first.leaves ∙ ap (λ w. out w output) world ∙ second.leaves)

-- the program of a source implements it
pub own-program : (program_of : SourceText → Option (List ℕ)) (source : SourceText) (program : List ℕ) → program_of source ≡ Some program
    → Implements (ProgramLeaves program_of) program source
own-program program_of source program is box step world output content valid runs leaves =
    record { program = program; is_program = is; step = step; world = world; runs = runs; leaves = leaves }
