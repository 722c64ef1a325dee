-- The plans of the commands of an audit, over words that were read.
use Rattle.std.proofs.Common.{◌≡◌, ℕ, Bool, true, false, Option, None, Some, List, [], ◌∷◌, refl}
use Rattle.std.specs.Prelude.{if◌then◌else◌}
use Rattle.command_plan.specs.Plan.{Plan}
use Rattle.command_plan.specs.Words.{are_four_files, are_three_files, are_two_files, as_steps, is_file_word, or_usage, usage}
use Rattle.recipe_plan.specs.Inside.Words.{as_audit_words}
use Rattle.recipe_plan.proofs.Worded.{over_report, over_two}
use Rattle.audit_commands.specs.Audit.{audit_files, audit_plan}
use Rattle.audit_commands.specs.Delta.{delta_resume_files, delta_resume_plan, delta_start_files, delta_start_plan}
use Rattle.audit_commands.specs.Inside.Words.{relative_of, relative_words, report_word, whole_of, whole_words}
use Rattle.audit_commands.specs.Pause.{part_files, part_plan, resume_files, resume_plan}
use Rattle.audit_commands.specs.Show.{show_file, show_plan}
use Rattle.audit_commands.specs.declared.words.RelativeWords.{RelativeWords}
use Rattle.audit_commands.specs.declared.words.PieceWords.{PieceWords}

-- ---- one file

one : (report : List ℕ) (named : Bool) → (if named then show_file report else usage) ≡ or_usage (if named then Some report else None) show_file
one report true = refl
one report false = refl

pub shows : (words : List (List ℕ)) → show_plan words ≡ or_usage (report_word words) show_file
shows (report ∷ []) = one report (is_file_word report)
shows _ = refl

-- ---- two files

pub audits : (words : List (List ℕ)) → audit_plan words ≡ or_usage (as_audit_words words) (over_report audit_files)
audits (recipe ∷ report ∷ []) = over_two audit_files recipe report (are_two_files recipe report)
audits _ = refl

-- ---- three files and a number of steps

abbrev pub over_piece : (List ℕ → List ℕ → List ℕ → ℕ → Plan) → PieceWords → Plan
over_piece files w = files w.recipe w.piece.save w.piece.report w.piece.steps

three : (files : List ℕ → List ℕ → List ℕ → ℕ → Plan) (recipe save report : List ℕ) (apart : Bool) (steps : Option ℕ)
    → or_usage steps (λ count. if apart then files recipe save report count else usage)
    ≡ or_usage (whole_of (if apart then Some (recipe, save, report) else None) steps) (over_piece files)
three files recipe save report true (Some count) = refl
three files recipe save report false (Some count) = refl
three files recipe save report true None = refl
three files recipe save report false None = refl

pub parts : (words : List (List ℕ)) → part_plan words ≡ or_usage (whole_words words) (over_piece part_files)
parts (recipe ∷ save ∷ report ∷ steps ∷ []) = three part_files recipe save report (are_three_files recipe save report) (as_steps steps)
parts _ = refl

pub resumes : (words : List (List ℕ)) → resume_plan words ≡ or_usage (whole_words words) (over_piece resume_files)
resumes (recipe ∷ save ∷ report ∷ steps ∷ []) = three resume_files recipe save report (are_three_files recipe save report) (as_steps steps)
resumes _ = refl

-- ---- four files and a number of steps

abbrev pub over_relative : (List ℕ → List ℕ → List ℕ → List ℕ → ℕ → Plan) → RelativeWords → Plan
over_relative files w = files w.recipe w.base w.piece.save w.piece.report w.piece.steps

four : (files : List ℕ → List ℕ → List ℕ → List ℕ → ℕ → Plan) (recipe base patch report : List ℕ) (apart : Bool) (steps : Option ℕ)
    → or_usage steps (λ count. if apart then files recipe base patch report count else usage)
    ≡ or_usage (relative_of (if apart then Some (recipe, base, patch, report) else None) steps) (over_relative files)
four files recipe base patch report true (Some count) = refl
four files recipe base patch report false (Some count) = refl
four files recipe base patch report true None = refl
four files recipe base patch report false None = refl

pub delta_starts : (words : List (List ℕ)) → delta_start_plan words ≡ or_usage (relative_words words) (over_relative delta_start_files)
delta_starts (recipe ∷ base ∷ patch ∷ report ∷ steps ∷ []) = four delta_start_files recipe base patch report (are_four_files recipe base patch report) (as_steps steps)
delta_starts _ = refl

pub delta_resumes : (words : List (List ℕ)) → delta_resume_plan words ≡ or_usage (relative_words words) (over_relative delta_resume_files)
delta_resumes (recipe ∷ base ∷ patch ∷ report ∷ steps ∷ []) = four delta_resume_files recipe base patch report (are_four_files recipe base patch report) (as_steps steps)
delta_resumes _ = refl
