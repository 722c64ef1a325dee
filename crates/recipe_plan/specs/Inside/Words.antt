-- The words that commands of an audit share, each set of them as one value.
use Rattle.std.specs.Prelude.{ℕ, Option, None, Some, List, [], ◌∷◌}
use Rattle.command_plan.specs.Words.{as_two_files}
use Rattle.recipe_plan.specs.declared.words.AuditWords.{AuditWords}

-- the words `RECIPE REPORT`
abbrev pub audit_words_of : Option (List ℕ × List ℕ) → Option AuditWords
audit_words_of None = None
audit_words_of (Some files) = Some (record { recipe = files.0; report = files.1 })

abbrev pub as_audit_words : List (List ℕ) → Option AuditWords
as_audit_words (recipe ∷ report ∷ []) = audit_words_of (as_two_files recipe report)
as_audit_words _ = None
