-- The outcomes of an audit and of a replay of its report. docs/reference/command-line.md says the same for people.
use Rattle.std.specs.Prelude.{ℕ, Bool, true, false, List, [], ◌∷◌, codes}
use Rattle.ddc_base.specs.Outside.{NamedFiles}
use Rattle.command_plan.specs.declared.status.Status.{Status}
use Rattle.command_plan.specs.declared.status.Status.TheVariants.{Yes, Differs}
use Rattle.command_plan.specs.Plan.{Outcome, outcome}
use Rattle.ddc_app.specs.Commands.{plan_of}

-- the outcome of `audit RECIPE REPORT`, of `verify RECIPE REPORT` and of `provenance RECIPE REPORT` on these files
abbrev pub audit : List ℕ → List ℕ → NamedFiles → Outcome
audit recipe report files = outcome (plan_of (codes "audit" ∷ recipe ∷ report ∷ [])) files

abbrev pub verify : List ℕ → List ℕ → NamedFiles → Outcome
verify recipe report files = outcome (plan_of (codes "verify" ∷ recipe ∷ report ∷ [])) files

abbrev pub provenance : List ℕ → List ℕ → NamedFiles → Outcome
provenance recipe report files = outcome (plan_of (codes "provenance" ∷ recipe ∷ report ∷ [])) files

-- the artefacts and the binary were compared: they are equal, or some differ
abbrev pub is_compared : Status → Bool
is_compared Yes = true
is_compared Differs = true
is_compared _ = false
