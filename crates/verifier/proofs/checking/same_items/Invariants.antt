use Rattle.std.proofs.Common.{◌≡◌, drop}
use Rattle.std.specs.Prelude.{is_none}
use Rattle.audit_rules.specs.SourceCheck.Checks.{first_other_item}
use Rattle.verifier.proofs.checking.same_items.Given as goal

abbrev pub invariant-loop-index : goal.invariant-loop-index
invariant-loop-index l = is_none (first_other_item l.ours l.theirs) ≡ is_none (first_other_item (drop l.index l.ours) (drop l.index l.theirs))
