use Rattle.std.proofs.Common.{ℕ, List, sym, subst, subst₂}
use Rattle.recipe.specs.declared.contents.RecipeContents.{RecipeContents}
use Rattle.audit_run.specs.Delta.Deltas.{IsBaseAt}
use Rattle.audit_run.proofs.audit.Audit.save_delta.Goals as goal

pub save_delta_of-requires-clause-base : goal.save_delta_of-requires-clause-base
save_delta_of-requires-clause-base c =
    let base = c.in_ok-text.ensures.base in (
      base.0,
      subst (λ (text : List ℕ). IsBaseAt c.args.self.now.recipe c.args.self.now.inputs base.0 text) (sym c.as_slice.ensures)
          (subst₂ (λ (recipe : RecipeContents) (inputs : List (List ℕ)). IsBaseAt recipe inputs base.0 c.in_ok-text.text) c.requires.recipe c.requires.inputs base.2),
    )
