-- The words of the audit commands, each set of them as one value.
use Rattle.std.specs.Prelude.{ℕ, Option, None, Some, List, [], ◌∷◌}
use Rattle.command_plan.specs.Words.{as_file_name, as_four_files, as_steps, as_three_files}
use Rattle.audit_commands.specs.declared.words.PieceWords.{PieceWords}
use Rattle.audit_commands.specs.declared.words.RelativeWords.{RelativeWords}

-- the word `REPORT`
abbrev pub report_word : List (List ℕ) → Option (List ℕ)
report_word (report ∷ []) = as_file_name report
report_word _ = None

-- the words `RECIPE SAVE REPORT STEPS`
abbrev pub whole_of : Option (List ℕ × List ℕ × List ℕ) → Option ℕ → Option PieceWords
whole_of (Some files) (Some steps) = Some (record { recipe = files.0; piece = record { save = files.1; report = files.2; steps = steps } })
whole_of _ _ = None

abbrev pub whole_words : List (List ℕ) → Option PieceWords
whole_words (recipe ∷ save ∷ report ∷ steps ∷ []) = whole_of (as_three_files recipe save report) (as_steps steps)
whole_words _ = None

-- the words `RECIPE BASE PATCH REPORT STEPS`
abbrev pub relative_of : Option (List ℕ × List ℕ × List ℕ × List ℕ) → Option ℕ → Option RelativeWords
relative_of (Some files) (Some steps) =
    Some (record { recipe = files.0; base = files.1; piece = record { save = files.2; report = files.3; steps = steps } })
relative_of _ _ = None

abbrev pub relative_words : List (List ℕ) → Option RelativeWords
relative_words (recipe ∷ base ∷ patch ∷ report ∷ steps ∷ []) = relative_of (as_four_files recipe base patch report) (as_steps steps)
relative_words _ = None
