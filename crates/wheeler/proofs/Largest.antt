-- The largest relation that Carry allows: what prescribes the same compiles no more, and what lines and conclusions become of it.
use Rattle.std.proofs.Common.{◌≡◌, ℕ, Option, None, Some, List, [], ◌∷◌, get_or, subst, All}
use Rattle.std.specs.Prelude.{IfSome}
use Rattle.std.specs.List.{AllZip}
use Rattle.std.specs.FinMap as map
use Rattle.mem_files.specs.Outputs.{OutputLocation, out}
use Rattle.mem_files.specs.Outputs.OutputLocation.{FirstStream}
use Rattle.mem_files.specs.World.{World}
use Rattle.guest_run.specs.Program.{ProgramRun}
use Rattle.guest_run.specs.Setting.{IsBox, Setting}
use Rattle.recipe.specs.declared.contents.RecipeContents.{RecipeContents}
use Rattle.recipe.specs.declared.parts.SourceLanguage.TheVariants.{Other}
use Rattle.recipe.specs.declared.parts.Stage.{Stage}
use Rattle.recipe.specs.Lookups.{hex_check}
use Rattle.report.specs.declared.types.CompareLine.{CompareLine}
use Rattle.report.specs.declared.types.Compared.{Compared}
use Rattle.report.specs.declared.types.Compared.TheVariants.{Equal, Differs}
use Rattle.audit_rules.specs.Contents.{Contents, SourceText, box_of, content, program_of}
use Rattle.audit_rules.specs.Stages.{output_of}
use Rattle.wheeler.specs.declared.assumption.Assumption.{Assumption}
use Rattle.wheeler.specs.declared.assumption.Assumption.TheVariants as line
use Rattle.wheeler.specs.AllContents.{all_contents, stage_named, text_named}
use Rattle.wheeler.specs.Assumptions.{Holds}
use Rattle.wheeler.specs.Concludes.{Concludes, ConcludesBy}
use Rattle.wheeler.specs.Follows.{FollowsBy, PrescribesOnly}
use Rattle.wheeler.specs.Inside.RunLaws.{IsFixed}
use Rattle.wheeler.specs.Largest.{AllImplement, CompilesNoMore, PrescribesSame}
use Rattle.wheeler.specs.Meaning.{Compiles, Implements, Prescribes}
use Rattle.wheeler.proofs.RouteLines.{routes-hold}

-- what a source prescribes where it compiles another one implements that one
abbrev pub Carries : Prescribes → Compiles → Type 0
Carries prescribes compiles =
    (source other : SourceText) (box : Setting) (output : OutputLocation) (program : List ℕ)
    → prescribes source box output program → compiles source box output other → Implements prescribes program other

-- ---- two relations that prescribe the same, the former of which compiles no more

module _ (one two : Prescribes) (same : PrescribesSame one two) where
  implements-same : (program : List ℕ) (source : SourceText) → Implements one program source → Implements two program source
  implements-same program source is box step world output content valid runs leaves =
      (same source box output content).0 (is box step world output content valid runs leaves)

  pub implements-back : (program : List ℕ) (source : SourceText) → Implements two program source → Implements one program source
  implements-back program source is box step world output content valid runs leaves =
      (same source box output content).1 (is box step world output content valid runs leaves)

  pub within-all : (compiles : Compiles) → Carries one compiles → CompilesNoMore compiles (AllImplement two)
  within-all compiles carry source other box output is program prescribed =
      implements-same program other (carry source other box output program ((same source box output program).1 prescribed) is)

  module _ (less more : Compiles) (within : CompilesNoMore less more) (recipe : RecipeContents) where
    holds-same : (all : Contents) (l : Assumption) → Holds one less recipe all l → Holds two more recipe all l
    holds-same all (line.Implements name source) is = implements-same (content recipe all name) (text_named recipe all source) is
    holds-same all (line.Compiles source name becomes) is = by (stage_named recipe.stages name) is where
      by : (o : Option Stage)
          → IfSome o (λ (stage : Stage). less (text_named recipe all source) (box_of recipe all stage) (output_of stage.output) (text_named recipe all becomes))
          → IfSome o (λ (stage : Stage). more (text_named recipe all source) (box_of recipe all stage) (output_of stage.output) (text_named recipe all becomes))
      by None h = tt
      by (Some stage) h = within (text_named recipe all source) (text_named recipe all becomes) (box_of recipe all stage) (output_of stage.output) h

    -- lines that hold of the former hold of the latter
    pub all-hold : (all : Contents) (lines : List Assumption) → All (Holds one less recipe all) lines → All (Holds two more recipe all) lines
    all-hold all lines hold k d fewer = holds-same all (get_or lines k d) (hold k d fewer)

    -- what the latter concludes the former does
    only-back : (all : Contents) (stage : Stage) (source made : List ℕ) → PrescribesOnly two recipe all stage source made → PrescribesOnly one recipe all stage source made
    only-back all stage source made is =
        let at = same (text_named recipe all source) (box_of recipe all stage) (output_of stage.output) in
        record { this = (at made).1 is.this; no_other = λ other prescribed. is.no_other other ((at other).0 prescribed) }

    follows-back : (all : Contents) (stage : Stage) (check : Option (List ℕ)) → FollowsBy two recipe all stage check → FollowsBy one recipe all stage check
    follows-back all stage None is = record {
      source = is.source;
      parent = is.parent;
      implements = implements-back (program_of recipe all stage) (text_named recipe all is.source) is.implements;
      prescribed = only-back all stage is.source (content recipe all stage.name) is.prescribed;
    }
    follows-back all stage (Some check) is = by (hex_check recipe.sources check) is where
      by : (o : Option (List ℕ)) → IfSome o (λ source. Implements two (content recipe all stage.name) (text_named recipe all source))
          → IfSome o (λ source. Implements one (content recipe all stage.name) (text_named recipe all source))
      by None h = tt
      by (Some source) h = implements-back (content recipe all stage.name) (text_named recipe all source) h

    module _ (inputs : List (List ℕ)) where
      by-result : (name : List ℕ) (result : Compared) → ConcludesBy two more recipe inputs name result → ConcludesBy one less recipe inputs name result
      by-result name (Equal length) is = record {
        only = λ hold stage source parent. only-back (all_contents recipe inputs) stage source _ (is.only (all-hold (all_contents recipe inputs) _ hold) stage source parent);
        value = is.value;
        items = is.items;
      }
      by-result name (Differs offset ours theirs) is =
          let all = all_contents recipe inputs in
          record {
            excluded = λ hold stage source parent program leaves implements.
                is.excluded (all-hold all _ hold) stage source parent program leaves (implements-same program (text_named recipe all source) implements);
            excluded_by_own = λ stage source parent own program leaves implements.
                is.excluded_by_own stage source parent (implements-same (program_of recipe all stage) (text_named recipe all source) own) program leaves
                (implements-same program (text_named recipe all source) implements);
            no_value = is.no_value;
          }

      each-result : (names : List (List ℕ)) (lines : List CompareLine)
          → AllZip (λ name (line : CompareLine). ConcludesBy two more recipe inputs name line.result) names lines
          → AllZip (λ name (line : CompareLine). ConcludesBy one less recipe inputs name line.result) names lines
      each-result [] [] is = tt
      each-result [] (l ∷ ls) is = is
      each-result (name ∷ names) [] is = is
      each-result (name ∷ names) (l ∷ ls) is = (by-result name l.result is.0, each-result names ls is.1)

      pub concludes-back : (lines : List CompareLine) → Concludes two more recipe inputs lines → Concludes one less recipe inputs lines
      concludes-back lines is =
          let all = all_contents recipe inputs in
          record {
            all = record {
              follows = λ hold k d fewer. follows-back all (get_or recipe.stages k d) ((get_or recipe.stages k d).check) (is.all.follows (all-hold all _ hold) k d fewer);
              routes = λ hold name. routes-hold one less recipe inputs name hold;
            };
            each = each-result recipe.compare.stages lines is.each;
          }

pub same-itself : (prescribes : Prescribes) → PrescribesSame prescribes prescribes
same-itself prescribes source box output content = ((λ is. is), (λ is. is))

-- ---- where a program implements a source, and a run of it leaves a content

pub what-was-made : (prescribes : Prescribes) → IsFixed prescribes → (source other : SourceText) (box : Setting) (output : OutputLocation) (program made : List ℕ)
    (step : ℕ) (world : World) → IsBox box → Implements prescribes program source → ProgramRun program box step 0 world → out world output ≡ Some made
    → (AllImplement prescribes source box output other → Implements prescribes made other)
    × (Implements prescribes made other → AllImplement prescribes source box output other)
what-was-made prescribes fixed source other box output program made step world valid implements runs leaves =
    let there : prescribes source box output made = implements box step world output made valid runs leaves in (
      (λ all. all made there),
      (λ is content prescribed.
          subst (λ (c : List ℕ). Implements prescribes c other) (fixed source box output made content there prescribed) is),
    )

pub not-everything : (prescribes : Prescribes) → IsFixed prescribes
    → ((source : SourceText) (box : Setting) (output : OutputLocation) (content : List ℕ) → prescribes source box output content) → ⊥
not-everything prescribes fixed all =
    let source : SourceText = record { lang = Other; base = 0; files = [] } in
    let box : Setting = record { args = []; env = []; files = map.empty; heap = 0 } in
    apart (fixed source box FirstStream [] (0 ∷ []) (all source box FirstStream []) (all source box FirstStream (0 ∷ [])))
  where
    apart : ◌≡◌ {A = List ℕ} [] (0 ∷ []) → ⊥
    apart is = absurd cc
