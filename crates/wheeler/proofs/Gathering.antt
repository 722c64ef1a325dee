-- From the contents so far to all contents: where the bench reaches its end, every stage's run is one over all of them.
use Rattle.std.proofs.Common.{◌≡◌, ℕ, suc, Result, Ok, Err, List, [], ◌∷◌, ◌++◌, length, map, get_or, refl, sym, ap, ◌∙◌, subst, arith, append_assoc, All}
use Rattle.std.proofs.lemmas.List.{append-nil, length-map, length_push, map-append}
use Rattle.std.proofs.lemmas.List.Elements.{All-cons, All-nil, All-push}
use lib.Seq.{get_or-append_seam}
use Rattle.mem_files.specs.Outputs.{IsContent}
use Rattle.guest_run.specs.Program.{ProgramRun}
use Rattle.guest_run.specs.Setting.{Setting}
use Rattle.recipe.specs.declared.contents.RecipeContents.{RecipeContents}
use Rattle.recipe.specs.declared.parts.Stage.{Stage}
use Rattle.recipe.specs.Kept.{IsRecipe, IsStage}
use Rattle.report.specs.declared.types.Report.{Report}
use Rattle.audit_rules.specs.declared.answer.AuditAnswer.{AuditAnswer}
use Rattle.audit_rules.specs.declared.answer.AuditAnswer.TheVariants.{Completes, Fails}
use Rattle.audit_rules.specs.declared.answer.StageFault.{StageFault}
use Rattle.audit_rules.specs.declared.answer.Finished.{Finished}
use Rattle.audit_rules.specs.Bench.{after_stage, bench, bench_from, bench_report, compare_lines}
use Rattle.audit_rules.specs.Contents.{Contents, box_of, bytes_named, content, program_of}
use Rattle.audit_rules.specs.Stages.{contents, stage_result}
use Rattle.audit_rules.specs.Valid.{IsInputs}
use Rattle.audit_rules.proofs.GivenBoxes.{AreContents}
use Rattle.audit_rules.proofs.Rules as rules
use Rattle.wheeler.specs.AllContents.{all_contents, done_from, with_result}
use Rattle.wheeler.proofs.Finding.{IsSplit, same-box, same-check, same-content}
use Rattle.wheeler.proofs.Naming.{IsPlaced, stage-placed}
use Rattle.wheeler.proofs.Ran.{Ran, ran-content, result-ran}

-- a run over the contents so far is one over more of them
later : (recipe : RecipeContents) (earlier rest : List Stage) (inputs : List (List ℕ)) (done more : List Finished) → IsSplit recipe earlier rest done
    → (stage : Stage) (made : List ℕ) → IsStage recipe earlier stage → Ran recipe (contents inputs done) stage made → Ran recipe (contents inputs (done ++ more)) stage made
later recipe earlier rest inputs done more split stage made is r =
    let program = same-content recipe earlier rest inputs done more split stage.program is.program in
    let box = same-box recipe earlier rest inputs done more split stage is in
    record {
      step = r.step;
      world = r.world;
      runs = subst (λ p. ProgramRun p (box_of recipe (contents inputs (done ++ more)) stage) r.step 0 r.world) (sym program)
          (subst (λ (s : Setting). ProgramRun (program_of recipe (contents inputs done) stage) s r.step 0 r.world) (sym box) r.runs);
      there = r.there;
      right = same-check recipe earlier rest inputs done more split stage made is ∙ r.right;
    }

-- the artefact of a stage that is done stands at its own name
own-content : (recipe : RecipeContents) (earlier : List Stage) (inputs : List (List ℕ)) (done more : List Finished) (stage : Stage) (f : Finished) → IsPlaced recipe earlier stage
    → length done ≡ length earlier → content recipe (contents inputs (done ++ f ∷ more)) stage.name ≡ f.made
unfolding content
own-content recipe earlier inputs done more stage f placed count =
    let made : Finished → List ℕ = λ g. g.made in
    let count_is : length earlier ≡ length (map made done) = sym count ∙ sym (length-map done made) in
    ap (bytes_named (contents inputs (done ++ f ∷ more))) placed.content
    ∙ ap (λ l. get_or l (length earlier) []) (map-append made done (f ∷ more))
    ∙ ap (λ n. get_or (map made done ++ f.made ∷ map made more) n []) count_is
    ∙ get_or-append_seam (map made done) f.made (map made more) []

same_report : (a b : Report) → Completes a ≡ Completes b → a ≡ b
same_report a b is = ap report_in is where
  report_in : AuditAnswer → Report
  report_in (Completes r) = r
  report_in (Fails number fault) = a

-- every stage ran over all contents
abbrev AllRan : RecipeContents → Contents → List Stage → Type 0
AllRan recipe all stages = All (λ (stage : Stage). Ran recipe all stage (content recipe all stage.name)) stages

-- what stands after a bench that reaches its end after some stages
record Gathered (recipe : RecipeContents) (inputs : List (List ℕ)) (done : List Finished) (stages : List Stage) (report : Report) : Type 0 where
  more : List Finished
  all_done : done_from recipe inputs done stages ≡ done ++ more
  report_is : report ≡ bench_report recipe inputs (done ++ more)
  are : AreContents (contents inputs (done ++ more))
  ran : AllRan recipe (contents inputs (done ++ more)) stages

gather : (recipe : RecipeContents) → IsRecipe recipe → (inputs : List (List ℕ)) (earlier : List Stage) (done : List Finished) (stages : List Stage) (report : Report)
    → IsSplit recipe earlier stages done → All rules.IsStage stages → AreContents (contents inputs done) → bench_from recipe inputs done stages ≡ Completes report
    → Gathered recipe inputs done stages report
gather recipe ok inputs earlier done [] report split each are is =
    let same = sym (append-nil done) in
    record {
      more = [];
      all_done = same;
      report_is = sym (same_report (bench_report recipe inputs done) report is) ∙ ap (bench_report recipe inputs) same;
      are = subst (λ d. AreContents (contents inputs d)) same are;
      ran = All-nil (λ (stage : Stage). Ran recipe (contents inputs (done ++ [])) stage (content recipe (contents inputs (done ++ [])) stage.name));
    }
gather recipe ok inputs earlier done (stage ∷ rest) report split each are is =
    by_result (stage_result recipe inputs done stage) refl is
    (λ f are. gather recipe ok inputs (earlier ++ stage ∷ []) (done ++ f ∷ []) rest report (record {
      stages = split.stages ∙ sym (append_assoc earlier (stage ∷ []) rest);
      count = omega (arith, split.count, length_push done f, length_push earlier stage);
    }) (λ k d less. each (suc k) d (omega (arith, less))) are) where
      placed : IsPlaced recipe earlier stage
      placed = stage-placed recipe earlier stage rest ok split.stages

      by_result : (r : Result Finished StageFault) → stage_result recipe inputs done stage ≡ r
          → after_stage (suc (length done)) r (λ f. bench_from recipe inputs (done ++ f ∷ []) rest) ≡ Completes report
          → ((f : Finished) → AreContents (contents inputs (done ++ f ∷ [])) → bench_from recipe inputs (done ++ f ∷ []) rest ≡ Completes report
          → Gathered recipe inputs (done ++ f ∷ []) rest report)
          → Gathered recipe inputs done (stage ∷ rest) report
      by_result (Err fault) at is later_on = absurd cc
      by_result (Ok f) at is later_on =
          let r = result-ran recipe inputs done stage f at in
          let made : Finished → List ℕ = λ g. g.made in
          let own = ran-content recipe (contents inputs done) stage f.made are (each 0 stage (omega arith)) r in
          let next = later_on f (record {
            inputs = are.inputs;
            artefacts = subst (All IsContent) (sym (map-append made done (f ∷ []))) (All-push IsContent (map made done) f.made are.artefacts own);
          }) is in
          let whole : (done ++ f ∷ []) ++ next.more ≡ done ++ f ∷ next.more = append_assoc done (f ∷ []) next.more in
          let all : Contents = contents inputs (done ++ f ∷ next.more) in
          let here : Ran recipe all stage (content recipe all stage.name) =
          subst (Ran recipe all stage) (sym (own-content recipe earlier inputs done next.more stage f placed split.count))
          (later recipe earlier (stage ∷ rest) inputs done (f ∷ next.more) split stage f.made placed.kept r) in
          record {
            more = f ∷ next.more;
            all_done = ap (λ o. with_result done o (λ d. done_from recipe inputs d rest)) at ∙ next.all_done ∙ whole;
            report_is = next.report_is ∙ ap (bench_report recipe inputs) whole;
            are = subst (λ d. AreContents (contents inputs d)) whole next.are;
            ran = All-cons (λ (s : Stage). Ran recipe all s (content recipe all s.name)) stage rest here
                (subst (λ d. AllRan recipe (contents inputs d) rest) whole next.ran);
          }

-- what stands after a report of the bench
pub record Reached (recipe : RecipeContents) (inputs : List (List ℕ)) (report : Report) : Type 0 where
  pub are : AreContents (all_contents recipe inputs)
  pub ran : All (λ (stage : Stage). Ran recipe (all_contents recipe inputs) stage (content recipe (all_contents recipe inputs) stage.name)) recipe.stages
  pub lines : compare_lines recipe (all_contents recipe inputs) ≡ report.compare

pub reached : (recipe : RecipeContents) (inputs : List (List ℕ)) (report : Report) → IsRecipe recipe → IsInputs recipe inputs → bench recipe inputs ≡ Completes report
    → Reached recipe inputs report
unfolding all_contents bench_report
reached recipe inputs report ok given is =
    let g = gather recipe ok inputs [] [] recipe.stages report (record { stages = refl; count = refl }) (rules.rules recipe ok).stages
    (record { inputs = given.each; artefacts = All-nil IsContent }) is in
    let same : contents inputs g.more ≡ contents inputs (done_from recipe inputs [] recipe.stages) = ap (contents inputs) (sym g.all_done) in
    record {
      are = subst AreContents same g.are;
      ran = subst (λ all. AllRan recipe all recipe.stages) same g.ran;
      lines = ap (compare_lines recipe) (sym same) ∙ sym (ap (λ (r : Report). r.compare) g.report_is);
    }
