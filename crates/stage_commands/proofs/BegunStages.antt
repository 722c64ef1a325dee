-- What commands on one stage find in the files.
use Rattle.std.proofs.Common.{◌≡◌, ℕ, suc, ◌+◌, ◌<◌, Bool, Some, Result, Ok, Err, List, [], ◌∷◌, ◌++◌, length, map, take, sym, ap, ◌∙◌, arith}
use Rattle.std.specs.Prelude.{bytes_eq}
use Rattle.std.specs.FinMap as finite
use Rattle.std.specs.List.{position}
use Rattle.std.proofs.lemmas.List.{length-append, length-take-le}
use Rattle.std.proofs.lemmas.List.Quantifiers.{position-Some}
use Rattle.ddc_base.specs.declared.outside.Loaded.TheVariants.{Bytes}
use Rattle.ddc_base.specs.Outside.{NamedFiles, loaded}
use Rattle.ddc_base.specs.Limits.{most_recipe}
use Rattle.recipe.specs.Lookups.{stage_at}
use Rattle.recipe.specs.Reading.{recipe_of}
use Rattle.recipe.specs.declared.contents.RecipeContents.{RecipeContents}
use Rattle.recipe.specs.declared.parts.Stage.{Stage}
use Rattle.audit_rules.specs.Stages.{stage_result}
use Rattle.audit_rules.specs.declared.answer.StageFault.{StageFault}
use Rattle.audit_rules.specs.declared.answer.Finished.{Finished}
use Rattle.audit_run.specs.Earlier.{done_in_order, unless_unfinished}
use Rattle.recipe_plan.specs.Recipes.{paths}
use Rattle.stage_commands.specs.Begun.{IsBegun}

found_within : (test : Stage → Bool) (stages : List Stage) (at : ℕ) → position test stages ≡ Some at → at < length stages
found_within test [] at is = absurd cc
found_within test (stage ∷ stages) at is = (position-Some test (stage ∷ stages) at stage is).0

-- so many are done
done_count : (recipe : RecipeContents) (inputs : List (List ℕ)) (stages : List Stage) (done out : List Finished) → done_in_order recipe inputs done stages ≡ Ok out
    → length out ≡ length done + length stages
done_count recipe inputs [] done out made = let same : done ≡ out = cc in omega (arith, ap length same)
done_count recipe inputs (stage ∷ stages) done out made =
    by (λ d. done_count recipe inputs stages d out) (stage_result recipe inputs done stage) made where
      by : ((d : List Finished) → done_in_order recipe inputs d stages ≡ Ok out → length out ≡ length d + length stages) → (r : Result Finished StageFault)
          → unless_unfinished (suc (length done)) r (λ f. done_in_order recipe inputs (done ++ f ∷ []) stages) ≡ Ok out → length out ≡ length done + suc (length stages)
      by later (Err fault) made = absurd cc
      by later (Ok f) made = let rest = later (done ++ f ∷ []) made in let one = length-append done (f ∷ []) in omega (arith, rest, one)

pub begun_of : (recipe stage : List ℕ) (files : NamedFiles) (text : List ℕ) (parsed : RecipeContents) (count : ℕ) (inputs : List (List ℕ)) (done : List Finished)
    → loaded files recipe most_recipe ≡ Bytes text → recipe_of text ≡ Ok parsed → stage_at parsed.stages stage ≡ Some count
    → map (λ path. finite.get files path) (paths parsed) ≡ map Some inputs → done_in_order parsed inputs [] (take count parsed.stages) ≡ Ok done
    → IsBegun recipe stage files (record { recipe = parsed; inputs = inputs; done = done })
begun_of recipe stage files text parsed count inputs done held reads index_is given made =
    let within : count < length parsed.stages = found_within (λ (s : Stage). bytes_eq s.name stage) parsed.stages count index_is in
    let many = done_count parsed inputs (take count parsed.stages) [] done made in
    let leading = length-take-le count parsed.stages (omega (arith, within)) in
    let same : count ≡ length done = omega (arith, many, leading) in
    record {
      text = text;
      held = held;
      parsed = reads;
      inputs = given;
      index_is = index_is ∙ ap Some same;
      before = ap (λ n. done_in_order parsed inputs [] (take n parsed.stages)) (sym same) ∙ made;
    }
