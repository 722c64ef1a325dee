-- What several audits show together. docs/reference/chain.md says the same for people.
use Rattle.std.specs.Prelude.{◌≡◌, ◌-◌, true, None, IfSome, List, All, slice_get}
use Rattle.recipe.specs.Kept.{IsRecipe}
use Rattle.report.specs.declared.types.Report.{Report}
use Rattle.audit_rules.specs.Bench.{all_equal}
use Rattle.audit_rules.specs.Valid.{IsInputs}
use Rattle.verifier.specs.Faults.{first_fault}
use Rattle.wheeler.specs.AllContents.{all_contents}
use Rattle.wheeler.specs.Assumptions.{Holds}
use Rattle.wheeler.specs.Listed.{ConcludesListed}
use Rattle.wheeler.specs.Meaning.{Compiles, Prescribes}
use Rattle.audit_chain.specs.Chain.{remaining}
use Rattle.audit_chain.specs.declared.link.Link.{Link}
use Rattle.audit_chain.specs.declared.link.ChainLine.{ChainLine}

-- an audit has a report without a fault, and all its comparisons are equal
pub record IsTrueAudit (link : Link) : Type 0 where
  pub rules : IsRecipe link.recipe
  pub limits : IsInputs link.recipe link.inputs
  pub report : Report
  pub true_report : first_fault link.recipe link.inputs report ≡ None
  pub equal : all_equal report.compare ≡ true

-- an assumption holds, by what its names stand for in its own audit
abbrev pub HoldsIn : Prescribes → Compiles → List Link → ChainLine → Type 0
HoldsIn prescribes compiles links line =
    IfSome (slice_get links (line.audit - 1)) (λ (link : Link). Holds prescribes compiles link.recipe (all_contents link.recipe link.inputs) line.line)

-- each assumption that is left holds
abbrev pub RemainingHold : Prescribes → Compiles → List Link → Type 0
RemainingHold prescribes compiles links = All (HoldsIn prescribes compiles links) (remaining links)

-- for every audit: each of its assumptions holds, every stage follows, and its audited binary implements the source of each compared stage
-- that has one
abbrev pub EachConcludes : Prescribes → Compiles → List Link → Type 0
EachConcludes prescribes compiles links = All (λ (link : Link). ConcludesListed prescribes compiles link.recipe link.inputs) links
