use Rattle.std.proofs.Common.{◌≡◌, ◌∙◌, Option, sym, ap, subst}
use Rattle.std.specs.Prelude.{IfOk, is_none}
use Rattle.std.specs.Option.{option_map}
use Rattle.audit_rules.specs.declared.source_check.cause.CheckCause.{CheckCause}
use Rattle.verifier.specs.Inside.Holdings.{so_far}
use Rattle.verifier.proofs.Rightness.{check-is}
use Rattle.verifier.proofs.StageRules.{base-is}
use Rattle.verifier.proofs.checking.is_right.Goals as goal

pub gives_text-requires : goal.gives_text-requires
gives_text-requires c =
    base-is c.args.held.now.recipe.now c.in-Some.name c.in-Some-source.source.now c.requires.recipe
    (sym c.source.ensures ∙ ap (option_map (λ x. x.now)) c.in-Some-source.is)

pub returns-in-Defined : goal.returns-in-Defined
returns-in-Defined c =
    let is =
    check-is c.args.held.now.recipe.now (so_far c.args.held.now) c.args.stage.now c.in-Some.name c.in-Some-source.source.now c.in-Defined.language
    c.args.made.now c.in-Some.is (sym c.source.ensures ∙ ap (option_map (λ x. x.now)) c.in-Some-source.is) c.in-Defined.is in
    subst (λ (o : Option CheckCause). IfOk c.gives_text.result (λ right. right ≡ is_none o)) (sym is) c.gives_text.ensures
