-- The plan of `verify` and `provenance`, over words that were read.
use Rattle.std.proofs.Common.{◌≡◌, ℕ, Option, Result, List, [], ◌∷◌, refl}
use Rattle.ddc_base.specs.Outside.{ShelfState}
use Rattle.command_plan.specs.declared.answer.Answer.{Answer}
use Rattle.command_plan.specs.declared.stop.Stop.{Stop}
use Rattle.command_plan.specs.Performs.{Performs}
use Rattle.command_plan.specs.Words.{are_two_files, or_usage}
use Rattle.command_plan.proofs.Obtaining.{on_words}
use Rattle.recipe_plan.specs.Inside.Words.{as_audit_words}
use Rattle.recipe_plan.specs.declared.words.AuditWords.{AuditWords}
use Rattle.recipe_plan.proofs.Worded.{over_report, over_two}
use Rattle.verify_commands.specs.declared.explanation.Explanation.{Explanation}
use Rattle.verify_commands.specs.Verify.{judge_files, judge_plan}

judges : (explanation : Explanation) (words : List (List ℕ)) → judge_plan explanation words ≡ or_usage (as_audit_words words) (over_report (judge_files explanation))
judges explanation (recipe ∷ report ∷ []) = over_two (judge_files explanation) recipe report (are_two_files recipe report)
judges explanation _ = refl

-- the command on words that were read, or on words that say nothing
pub on_judged : (explanation : Explanation) (words : List (List ℕ)) {found : Option AuditWords} {old new : ShelfState} {result : Result Answer Stop} → found ≡ as_audit_words words
    → Performs (or_usage found (over_report (judge_files explanation))) old new result → Performs (judge_plan explanation words) old new result
on_judged explanation words read p = on_words (over_report (judge_files explanation)) (judges explanation words) read p
