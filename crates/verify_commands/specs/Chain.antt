-- `chain LIST`: verifies the audits of a list one after another, and prints the assumptions that are left of all of them.
-- docs/reference/command-line.md and docs/reference/chain.md say the same for people.
use Rattle.std.specs.Prelude.{ℕ, ◌+◌, ◌-◌, ◌==◌, Bool, Option, None, Some, List, [], ◌∷◌, ◌++◌, length, sum_by, if◌then◌else◌}
use Rattle.std.specs.List.{before_first, after_first}
use Rattle.ddc_base.specs.Limits.{most_audits, most_inputs}
use Rattle.report.specs.declared.types.CompareLine.{CompareLine}
use Rattle.audit_rules.specs.Bench.{all_equal}
use Rattle.verifier.specs.declared.part.Part.{Part}
use Rattle.verifier.specs.Faults.{first_fault}
use Rattle.audit_chain.specs.declared.link.Link.{Link}
use Rattle.command_plan.specs.declared.status.Status.TheVariants.{Yes, Refuted, Differs, ListRefused}
use Rattle.command_plan.specs.Lists.{listed_word, needs_list}
use Rattle.command_plan.specs.Plan.{Plan, answers}
use Rattle.command_plan.specs.Texts.{list_line}
use Rattle.command_plan.specs.Words.{is_file_word, is_one_file, usage}
use Rattle.recipe_plan.specs.Recipes.{needs_apart, needs_inputs_within, needs_recipe_after}
use Rattle.recipe_plan.specs.Reports.{needs_report_after}
use Rattle.recipe_plan.specs.Texts.{compared_lines}
use Rattle.verify_commands.specs.declared.pair.Pair.{Pair}
use Rattle.verify_commands.specs.Texts.{refuted_line}
use Rattle.verify_commands.specs.ChainTexts.{audit_line, chain_text}

-- ---- LIST

-- a line names a recipe and its report, two words with one blank between them
abbrev pub is_space : ℕ → Bool
is_space byte = byte == 32

abbrev pub both_words : Option (List ℕ) → Option (List ℕ) → Option Pair
both_words (Some recipe) (Some report) = Some (record { recipe = recipe; report = report })
both_words _ _ = None

unfoldable pub pair_of : List Pair → List ℕ → Option Pair
pair_of earlier line = both_words (listed_word (before_first is_space line)) (listed_word (after_first is_space line))

-- ---- one audit, by its number from 1: a line with that number is printed before what `verify` prints of it

unfoldable pub needs_two_files : Pair → (Unit {0} → Plan) → Plan
needs_two_files pair next = if is_one_file pair.recipe pair.report then usage else next tt

-- Continues where the report has no fault and all its comparisons are equal. Otherwise answers with the comparisons, or with the first
-- false part, after `prefix`
unfoldable pub needs_true : List ℕ → List CompareLine → Option (Part × ℕ) → (Unit {0} → Plan) → Plan
needs_true prefix lines None next = if all_equal lines then next tt else answers Differs (prefix ++ compared_lines lines)
needs_true prefix lines (Some (part, place)) next = answers Refuted (prefix ++ refuted_line part place)

-- As `verify`: loads the recipe, checks that the report is not an input, loads the report and the inputs, of at most `budget` bytes together,
-- and judges the report
unfoldable pub needs_audit : ℕ → ℕ → Pair → (Link → Plan) → Plan
needs_audit number budget pair next =
    needs_two_files pair (λ _.
    needs_recipe_after (audit_line number) pair.recipe (λ parsed.
    needs_apart parsed pair.report (λ _.
    needs_report_after (audit_line number) pair.report (λ made.
    needs_inputs_within budget parsed (λ inputs.
    needs_true (audit_line number) made.compare (first_fault parsed inputs made) (λ _. next (record { recipe = parsed; inputs = inputs })))))))

-- ---- all of them

-- the number of bytes that are left for the inputs of later audits
abbrev pub budget_after : ℕ → List (List ℕ) → ℕ
budget_after budget inputs = budget - sum_by length inputs

-- verifies the audits of these lines, after those that are verified
abbrev pub chained : List Link → ℕ → List Pair → Plan
chained links budget [] = answers Yes (chain_text links)
chained links budget (pair ∷ pairs) = needs_audit (length links + 1) budget pair (λ link. chained (links ++ link ∷ []) (budget_after budget link.inputs) pairs)

-- there must be a line; the inputs of all audits have at most 1,073,741,824 bytes together
unfoldable pub chained_lines : List Pair → Plan
chained_lines [] = answers ListRefused (list_line 1)
chained_lines (pair ∷ pairs) = chained [] most_inputs (pair ∷ pairs)

-- loads the list, of at most 64 lines, and verifies its audits in order
unfoldable pub chain_files : List ℕ → Plan
chain_files list = needs_list pair_of most_audits list chained_lines

-- the plan for the words after `chain`
abbrev pub chain_plan : List (List ℕ) → Plan
chain_plan (list ∷ []) = if is_file_word list then chain_files list else usage
chain_plan _ = usage
