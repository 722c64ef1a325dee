use Rattle.std.proofs.Common.{◌∙◌, ◌+◌, ◌&&◌, arith, drop, sym, ap}
use Rattle.std.specs.Prelude.{is_none}
use Rattle.audit_rules.specs.SourceCheck.Checks.{first_other_item}
use Rattle.verifier.proofs.Rightness.{item-turn, other-length, past}
use Rattle.verifier.proofs.checking.same_items.Goals as goal

pub returns-then-len : goal.returns-then-len
returns-then-len c = sym (other-length c.args.ours.now c.args.theirs.now (λ same. absurd (omega (arith, same))))

pub returns-in_default : goal.returns-in_default
returns-in_default c = absurd (past c.args.ours.now c.loop-index.index (sym c.get.ensures ∙ c.in_default.is) (omega arith))

pub returns-in_default-get : goal.returns-in_default-get
returns-in_default-get c = absurd (past c.args.theirs.now c.loop-index.index (sym c.get-in-loop-index.ensures ∙ c.in_default-get.is) (omega arith))

pub returns-then-not-same_item : goal.returns-then-not-same_item
returns-then-not-same_item c =
    sym (c.loop-index.invariant
    ∙ item-turn c.args.ours.now c.args.theirs.now c.loop-index.index c.in-Some.item c.in-Some-get.other (sym c.get.ensures ∙ c.in-Some.is) (sym c.get-in-loop-index.ensures ∙ c.in-Some-get.is)
    ∙ ap (λ b. b && is_none (first_other_item (drop (c.loop-index.index + 1) c.args.ours.now) (drop (c.loop-index.index + 1) c.args.theirs.now))) (sym c.if-not-same_item.ensures))

pub loop-index-preserved : goal.loop-index-preserved
loop-index-preserved c =
    c.loop-index.invariant
    ∙ item-turn c.args.ours.now c.args.theirs.now c.loop-index.index c.in-Some.item c.in-Some-get.other (sym c.get.ensures ∙ c.in-Some.is) (sym c.get-in-loop-index.ensures ∙ c.in-Some-get.is)
    ∙ ap (λ b. b && is_none (first_other_item (drop (c.loop-index.index + 1) c.args.ours.now) (drop (c.loop-index.index + 1) c.args.theirs.now))) (sym c.if-not-same_item.ensures)
