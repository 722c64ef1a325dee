-- The plans of commands on a recipe and a report, over words that were read.
use Rattle.std.proofs.Common.{◌≡◌, ℕ, Bool, true, false, Option, None, Some, List, refl}
use Rattle.std.specs.Prelude.{if◌then◌else◌}
use Rattle.command_plan.specs.Plan.{Plan}
use Rattle.command_plan.specs.Words.{or_usage, usage}
use Rattle.recipe_plan.specs.Inside.Words.{audit_words_of}
use Rattle.recipe_plan.specs.declared.words.AuditWords.{AuditWords}

abbrev pub over_report : (List ℕ → List ℕ → Plan) → AuditWords → Plan
over_report files w = files w.recipe w.report

pub over_two : (files : List ℕ → List ℕ → Plan) (recipe report : List ℕ) (apart : Bool)
    → (if apart then files recipe report else usage) ≡ or_usage (audit_words_of (if apart then Some (recipe, report) else None)) (over_report files)
over_two files recipe report true = refl
over_two files recipe report false = refl
