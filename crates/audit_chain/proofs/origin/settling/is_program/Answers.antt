use Rattle.std.proofs.Common.{Option, List, ℕ, IfOk, ◌≡◌, ◌∙◌, sym, ap, subst}
use Rattle.audit_chain.specs.Chain.{given_contents}
use Rattle.audit_chain.specs.Settled.{given_audit, is_of_program}
use Rattle.audit_chain.proofs.Settling.{program-joined, program-other}
use Rattle.audit_chain.proofs.origin.settling.is_program.Goals as goal

pub returns-in_ok-text-in-Defined : goal.returns-in_ok-text-in-Defined
returns-in_ok-text-in-Defined c =
    let is =
    program-joined c.args.audit.now.recipe.now c.args.audit.now.inputs.now c.args.source.now c.in-Defined.language c.as_slice.result.now c.as_slice-in-Defined.result.now c.in-Defined.is
    c.as_slice.ensures (c.as_slice-in-Defined.ensures ∙ c.in_ok-text-in-Defined.ensures) in
    subst (λ (p : Option (List ℕ)). IfOk c.is_program_at.result (λ own. own ≡ is_of_program c.args.mark.now p)) (sym is) c.is_program_at.ensures

pub returns-in-Other : goal.returns-in-Other
returns-in-Other c =
    let recipe = c.args.audit.now.recipe.now in
    let all = given_contents (given_audit recipe c.args.audit.now.inputs.now) in
    sym (ap (is_of_program c.args.mark.now) (program-other recipe all c.args.source.now c.in-Other.is))
