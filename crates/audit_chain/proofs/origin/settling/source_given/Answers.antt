use Rattle.std.proofs.Common.{◌∙◌, sym, ap}
use Rattle.std.specs.Option.{option_map}
use Rattle.verifier.proofs.StageRules.{base-is}
use Rattle.audit_chain.proofs.origin.settling.source_given.Goals as goal

pub returns-then-are_inputs-clause-base : goal.returns-then-are_inputs-clause-base
returns-then-are_inputs-clause-base c =
    base-is c.args.audit.now.recipe.now c.args.name.now c.in-Some.source.now c.show_rules.ensures (sym c.source.ensures ∙ ap (option_map (λ x. x.now)) c.in-Some.is)
