-- What a 0 of `chain LIST` shows, under every meaning of sources. docs/reference/chain.md says the same for people.
use Rattle.std.specs.Prelude.{◌≡◌, ℕ, ◌≤◌, true, None, Some, Ok, List, [], ◌∷◌, codes, sum_by, length}
use Rattle.std.specs.List.{AllZip}
use Rattle.std.specs.FinMap as map
use Rattle.ddc_base.specs.Outside.{NamedFiles}
use Rattle.ddc_base.specs.Limits.{most_audits, most_inputs}
use Rattle.recipe.specs.Kept.{IsRecipe}
use Rattle.recipe.specs.Reading.{recipe_of}
use Rattle.report.specs.declared.types.Report.{Report}
use Rattle.report.specs.Reading.{report_of}
use Rattle.audit_rules.specs.Bench.{all_equal}
use Rattle.audit_rules.specs.Valid.{IsInputs}
use Rattle.verifier.specs.Faults.{first_fault}
use Rattle.wheeler.specs.Meaning.{Compiles, Prescribes}
use Rattle.audit_chain.specs.declared.link.Link.{Link}
use Rattle.audit_chain.specs.Composed.{EachConcludes, RemainingHold}
use Rattle.command_plan.specs.Lists.{list_of}
use Rattle.command_plan.specs.Plan.{Outcome, outcome}
use Rattle.recipe_plan.specs.Recipes.{paths}
use Rattle.verify_commands.specs.declared.pair.Pair.{Pair}
use Rattle.verify_commands.specs.Chain.{pair_of}
use Rattle.verify_commands.specs.ChainTexts.{chain_text}
use Rattle.ddc_app.specs.Commands.{plan_of}

-- the outcome of `chain LIST` on these files
abbrev pub chain : List ℕ → NamedFiles → Outcome
chain list files = outcome (plan_of (codes "chain" ∷ list ∷ [])) files

-- the files hold the audit of a line: a recipe that keeps its rules, the contents of its inputs, within their limits, and a report without
-- a fault that says that all comparisons are equal
pub record HoldsAudit (files : NamedFiles) (pair : Pair) (link : Link) : Type 0 where
  pub recipe_bytes : List ℕ
  pub recipe_held : map.get files pair.recipe ≡ Some recipe_bytes
  pub recipe_reads : recipe_of recipe_bytes ≡ Ok link.recipe
  pub rules : IsRecipe link.recipe
  pub inputs_held : AllZip (λ path content. map.get files path ≡ Some content) (paths link.recipe) link.inputs
  pub limits : IsInputs link.recipe link.inputs
  pub report_bytes : List ℕ
  pub report_held : map.get files pair.report ≡ Some report_bytes
  pub made : Report
  pub report_reads : report_of report_bytes ≡ Ok made
  pub true_report : first_fault link.recipe link.inputs made ≡ None
  pub equal : all_equal made.compare ≡ true

-- the bytes of the inputs of all audits
abbrev pub bytes_of_inputs : List Link → ℕ
bytes_of_inputs links = sum_by (λ (link : Link). sum_by length link.inputs) links

-- The files hold a valid list and, for each of its lines, that audit. The inputs of all audits fit together. The text says how many audits
-- there are, and exactly the assumptions that are left of them. If these assumptions hold, each audit concludes
pub record Chained (prescribes : Prescribes) (compiles : Compiles) (list : List ℕ) (files : NamedFiles) (answer : Outcome) : Type 0 where
  pub list_bytes : List ℕ
  pub list_held : map.get files list ≡ Some list_bytes
  pub lines : List Pair
  pub list_reads : list_of pair_of most_audits list_bytes ≡ Ok lines
  pub links : List Link
  pub audits : AllZip (HoldsAudit files) lines links
  pub budget : bytes_of_inputs links ≤ most_inputs
  pub text : answer.text ≡ chain_text links
  pub shown : RemainingHold prescribes compiles links → EachConcludes prescribes compiles links
