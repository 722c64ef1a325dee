use Rattle.std.proofs.Common.{ℕ, List, sym, subst₂}
use Rattle.recipe.specs.declared.contents.RecipeContents.{RecipeContents}
use Rattle.audit_run.specs.Delta.Deltas.{IsBaseAt}
use Rattle.audit_tests.proofs.saves.kept.delta_after.Goals as goal

pub save_delta_of-requires-clause-base : goal.save_delta_of-requires-clause-base
save_delta_of-requires-clause-base c =
    let b = c.requires.base.0 in (
      b,
      subst₂ (λ (recipe : RecipeContents) (inputs : List (List ℕ)). IsBaseAt recipe inputs b c.args.base.now) (sym c.advance.ensures.recipe) (sym c.advance.ensures.inputs) c.requires.base.1,
    )
