-- What follows where every line that is listed of an audit holds, and its comparisons are equal.
use Rattle.std.proofs.Common.{◌≡◌, ℕ, ◌||◌, Bool, true, false, Option, None, Some, List, [], ◌∷◌, map, get_or, refl, sym, ap, ◌∙◌, subst, All}
use Rattle.std.specs.Prelude.{IfSome, bytes_eq}
use Rattle.std.proofs.lemmas.Bool.{and_parts}
use Rattle.std.proofs.lemmas.List.Elements.{All-cons, All-filter, All-nil}
use Rattle.std.proofs.lemmas.List.Folds.{list_any_at}
use Rattle.std.proofs.lemmas.Slice.Eq.{bytes_eq-Decides}
use Rattle.ddc_base.specs.Difference.{first_difference}
use Rattle.recipe.specs.declared.contents.RecipeContents.{RecipeContents}
use Rattle.recipe.specs.declared.parts.Stage.{Stage}
use Rattle.recipe.specs.Kept.{IsRecipe}
use Rattle.recipe.specs.Lookups.{source_of}
use Rattle.report.specs.declared.types.Report.{Report}
use Rattle.audit_rules.specs.declared.answer.AuditAnswer.TheVariants.{Completes}
use Rattle.audit_rules.specs.Bench.{all_equal, bench, compare_line, compared_at, is_equal}
use Rattle.audit_rules.specs.Contents.{Contents, content}
use Rattle.audit_rules.specs.Valid.{IsInputs}
use Rattle.wheeler.specs.declared.assumption.Assumption.{Assumption}
use Rattle.wheeler.specs.AllContents.{all_contents, text_named}
use Rattle.wheeler.specs.Assumptions.{Holds, LinesHold, is_trusted}
use Rattle.wheeler.specs.Follows.{HasCompared, audited_binary}
use Rattle.wheeler.specs.Listed.{ConcludesListed, ListedHold, counts, lines_listed}
use Rattle.wheeler.specs.Meaning.{Compiles, Implements, Prescribes}
use Rattle.wheeler.specs.Routes.{about}
use Rattle.wheeler.proofs.Argument.{IsClosed, follows-law, needed-each, sound-law}
use Rattle.wheeler.proofs.ComparedStages.{has-compared}
use Rattle.wheeler.proofs.Directions.{found}
use Rattle.wheeler.proofs.Gathering.{reached}
use Rattle.wheeler.proofs.RouteLines.{fewer-lines}
use Rattle.wheeler.proofs.Sound.{Facts, Laws, Sound, sound-stage}
use Rattle.wheeler.proofs.Values.{no-difference}

or-left : (a b : Bool) → a ≡ true → (a || b) ≡ true
or-left true b is = refl
or-left false b is = absurd cc

or-right : (a b : Bool) → b ≡ true → (a || b) ≡ true
or-right true b is = refl
or-right false b is = is

-- what is trusted counts, and so does each compared stage
trusted-counts : (recipe : RecipeContents) (name : List ℕ) → is_trusted recipe name ≡ true → counts recipe name ≡ true
unfolding counts
trusted-counts recipe name is = or-left _ _ is

compared-counts : (recipe : RecipeContents) → All (λ name. counts recipe name ≡ true) recipe.compare.stages
unfolding counts
compared-counts recipe k d less =
    let name = get_or recipe.compare.stages k d in
    or-right (is_trusted recipe name) _
    (list_any_at (λ other. bytes_eq other name) recipe.compare.stages k d less ((bytes_eq-Decides name name).1 refl))

counts-closed : (recipe : RecipeContents) → IsClosed (counts recipe) recipe
counts-closed recipe k d less was _ = trusted-counts recipe (get_or recipe.stages k d).program (needed-each recipe k d less was)

-- where all comparisons are equal, each compared artefact is the audited binary
equal-each : (recipe : RecipeContents) (all : Contents) (names : List (List ℕ)) → all_equal (map (compare_line recipe all) names) ≡ true
    → All (λ name. content recipe all name ≡ content recipe all recipe.compare.binary) names
equal-each recipe all [] same = All-nil (λ name. content recipe all name ≡ content recipe all recipe.compare.binary)
equal-each recipe all (name ∷ names) same =
    let parts = and_parts (is_equal (compare_line recipe all name).result) (all_equal (map (compare_line recipe all) names)) same in
    let made = content recipe all name in
    let binary = content recipe all recipe.compare.binary in
    All-cons (λ n. content recipe all n ≡ binary) name names (no-difference made binary (by (first_difference made binary) parts.0)) (equal-each recipe all names parts.1)
  where
    by : (o : Option ℕ) → is_equal (compared_at o (content recipe all name) (content recipe all recipe.compare.binary)) ≡ true → o ≡ None
    by None is = refl
    by (Some offset) is = absurd cc

pub listed-law : (prescribes : Prescribes) (compiles : Compiles) → Laws prescribes compiles → (recipe : RecipeContents) (inputs : List (List ℕ)) (report : Report) → IsRecipe recipe
    → IsInputs recipe inputs → bench recipe inputs ≡ Completes report → all_equal report.compare ≡ true → ListedHold prescribes compiles recipe inputs
    → ConcludesListed prescribes compiles recipe inputs
listed-law prescribes compiles laws recipe inputs report ok given is same lines =
    let all = all_contents recipe inputs in
    let r = reached recipe inputs report ok given is in
    let P : Assumption → Type 0 = Holds prescribes compiles recipe all in
    let held : LinesHold prescribes compiles recipe inputs =
    subst (All P) (sym (fewer-lines (is_trusted recipe) (counts recipe) (trusted-counts recipe) recipe)) (All-filter (λ l. is_trusted recipe (about l)) P (lines_listed recipe) lines) in
    let both = sound-law prescribes compiles laws (counts recipe) recipe all ok r.are r.ran (counts-closed recipe) lines in
    let equal = equal-each recipe all recipe.compare.stages (ap all_equal r.lines ∙ same) in
    let Known : Stage → Type 0 = λ s. Facts prescribes compiles (counts recipe) recipe all s × Sound prescribes (counts recipe) recipe all s.program in
    record {
      assumed = held;
      follows = follows-law prescribes compiles laws recipe all ok r.are r.ran held;
      implements = λ k d less.
          let name = get_or recipe.compare.stages k d in
          let there : HasCompared recipe name = has-compared recipe ok k d less in
          let here = found (λ (s : Stage). bytes_eq s.name name) Known recipe.stages there.stage both there.compared in
          let own : there.stage.name ≡ name = (bytes_eq-Decides there.stage.name name).0 here.1 in
          let sound = sound-stage prescribes compiles (counts recipe) recipe all laws there.stage here.0.0 here.0.1 in
          let shown : Sound prescribes (counts recipe) recipe all name = subst (Sound prescribes (counts recipe) recipe all) own sound in
          by name (shown (compared-counts recipe k d less)) (equal k d less) (source_of recipe name) refl;
    }
  where
    by : (name : List ℕ) → ((source : List ℕ) → source_of recipe name ≡ Some source
        → Implements prescribes (content recipe (all_contents recipe inputs) name) (text_named recipe (all_contents recipe inputs) source))
        → content recipe (all_contents recipe inputs) name ≡ audited_binary recipe inputs → (o : Option (List ℕ)) → source_of recipe name ≡ o
        → IfSome o (λ source. Implements prescribes (audited_binary recipe inputs) (text_named recipe (all_contents recipe inputs) source))
    by name shown equal None at = tt
    by name shown equal (Some source) at =
        subst (λ (program : List ℕ). Implements prescribes program (text_named recipe (all_contents recipe inputs) source)) equal (shown source at)
