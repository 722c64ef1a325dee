use Rattle.std.proofs.Common.{◌≡◌, ◌+◌, ◌∙◌, ◌++◌, ◌∷◌, [], ℕ, List, Some, Ok, arith, drop, take, length, refl, sym, ap, subst, All}
use Rattle.std.specs.Prelude.{Contains, slice_get, sum_by}
use Rattle.std.proofs.lemmas.Option.{slice_get-get_or}
use Rattle.std.proofs.lemmas.List.{length_push}
use Rattle.std.proofs.lemmas.List.Elements.{All-push}
use Rattle.std.proofs.lemmas.List.Sums.{sum_by_push}
use Rattle.mem_files.specs.Outputs.{IsContent}
use Rattle.recipe.specs.declared.parts.Stage.{Stage}
use Rattle.audit_rules.specs.Contents.{Contents}
use Rattle.verifier.specs.Faults.{replayed, stages_fault}
use Rattle.verifier.specs.declared.part.Part.TheVariants as part
use Rattle.verifier.specs.Verdicts.{AreReplayed, CanWantAt}
use Rattle.verifier.proofs.DoneStages.{can-check, replayed-content}
use Rattle.verifier.proofs.Looping.{among, at_stage, goes_on, no_line, replayed_on, denotes}
use Rattle.verifier.proofs.judging.replay_all.Goals as goal

pub returns-in-Err : goal.returns-in-Err
returns-in-Err c =
    let all : Contents = record { inputs = c.args.inputs.now; artefacts = c.loop-index.artefacts } in
    let look = c.in-Some.ensures.lookup in
    let found : slice_get c.args.stages.now c.loop-index.index ≡ Some c.in-Some.stage.now =
    slice_get-get_or c.args.stages.now c.loop-index.index c.in-Some.stage.now look.3.0 ∙ ap Some (sym look.1) in
    let right : replayed c.args.recipe.now all c.in-Some.stage.now c.index-lines-index.result ≡ Ok c.in-Ok.made =
    ap (λ a. replayed c.args.recipe.now (record { inputs = c.args.inputs.now; artefacts = a }) c.in-Some.stage.now c.index-lines-index.result) (sym c.as_slice.ensures) ∙ c.in-Ok.ensures.value in
    denotes c.args.recipe.now c.args.inputs.now c.args.stages.now c.args.lines.now c.loop-index.index _ all c.in-Some.stage.now c.index-lines-index.result part.Assembled
    c.requires.stages refl found (omega arith) c.index-lines-index.is c.loop-index.invariant.5
    (can-check c.args.recipe.now all c.in-Some.stage.now c.index-lines-index.result c.in-Ok.made right)

pub returns-in-Err-OutOfMemory : goal.returns-in-Err-OutOfMemory
returns-in-Err-OutOfMemory c =
    let all : Contents = record { inputs = c.args.inputs.now; artefacts = c.loop-index.artefacts } in
    let look = c.in-Some.ensures.lookup in
    let found : slice_get c.args.stages.now c.loop-index.index ≡ Some c.in-Some.stage.now =
    slice_get-get_or c.args.stages.now c.loop-index.index c.in-Some.stage.now look.3.0 ∙ ap Some (sym look.1) in
    rw c.in-Err-OutOfMemory.field-0-is
    (denotes c.args.recipe.now c.args.inputs.now c.args.stages.now c.args.lines.now c.loop-index.index _ all c.in-Some.stage.now c.index-lines-index.result c.in-Err-OutOfMemory.part
    c.requires.stages refl found (omega arith) c.index-lines-index.is c.loop-index.invariant.5
    (subst (λ a. CanWantAt c.args.recipe.now (record { inputs = c.args.inputs.now; artefacts = a }) c.in-Some.stage.now c.index-lines-index.result c.in-Err-OutOfMemory.part) c.as_slice.ensures
    (rw c.in-Err-OutOfMemory.field-0-is at c.in-Err-OutOfMemory.ensures.memory)))

pub loop-index-preserved : goal.loop-index-preserved
loop-index-preserved c =
    let all : Contents = record { inputs = c.args.inputs.now; artefacts = c.loop-index.artefacts } in
    let look = c.in-Some.ensures.lookup in
    let found : slice_get c.args.stages.now c.loop-index.index ≡ Some c.in-Some.stage.now =
    slice_get-get_or c.args.stages.now c.loop-index.index c.in-Some.stage.now look.3.0 ∙ ap Some (sym look.1) in
    let stage = c.in-Some.stage.now in
    let line = c.index-lines-index.result in
    let right : replayed c.args.recipe.now all stage line ≡ Ok c.in-Ok.made =
    ap (λ a. replayed c.args.recipe.now (record { inputs = c.args.inputs.now; artefacts = a }) stage line) (sym c.as_slice.ensures) ∙ c.in-Ok.ensures.value in
    let known : Contains c.args.recipe.now.stages stage =
    subst (λ (stages : List Stage). Contains stages stage) c.requires.stages (among c.args.stages.now c.loop-index.index stage found).0 in
    let made = replayed-content c.args.recipe.now all stage line c.in-Ok.made c.requires.recipe known (record { inputs = c.requires.inputs; artefacts = c.loop-index.invariant.3 }) right in
    let pushed : c.push.new.self ≡ c.loop-index.artefacts ++ c.in-Ok.made ∷ [] = c.in-Ok-push.ensures.ok in
    let counted : length c.push.new.self ≡ length c.loop-index.artefacts + 1 = ap length pushed ∙ length_push c.loop-index.artefacts c.in-Ok.made in
    let summed : sum_by length c.push.new.self ≡ sum_by length c.loop-index.artefacts + length c.in-Ok.made =
    ap (sum_by length) pushed ∙ sum_by_push length c.loop-index.artefacts c.in-Ok.made in
    let small = made.1 in
    let len = c.len.ensures in (
      omega (arith, c.loop-index.invariant.0, counted),
      omega (arith, c.loop-index.invariant.1, summed, len),
      omega (arith, c.loop-index.invariant.1, small, len),
      subst (λ (a : List (List ℕ)). All IsContent a) (sym pushed) (All-push IsContent c.loop-index.artefacts c.in-Ok.made c.loop-index.invariant.3 made.0),
      λ last.
          c.loop-index.invariant.4 last
          ∙ at_stage c.args.recipe.now last all c.args.stages.now c.args.lines.now c.loop-index.index stage line found (omega arith) c.index-lines-index.is
          ∙ goes_on c.args.recipe.now last all stage (drop (c.loop-index.index + 1) c.args.stages.now) line (drop (c.loop-index.index + 1) c.args.lines.now) c.in-Ok.made right
          ∙ ap (λ a. stages_fault c.args.recipe.now last (record { inputs = c.args.inputs.now; artefacts = a }) (drop (c.loop-index.index + 1) c.args.stages.now) (drop (c.loop-index.index + 1) c.args.lines.now)) (sym pushed),
      subst (λ (a : List (List ℕ)). AreReplayed c.args.recipe.now (record { inputs = c.args.inputs.now; artefacts = [] }) (take (c.loop-index.index + 1) c.args.stages.now) (take (c.loop-index.index + 1) c.args.lines.now)
          (record { inputs = c.args.inputs.now; artefacts = a })) (sym pushed)
          (replayed_on c.args.recipe.now (record { inputs = c.args.inputs.now; artefacts = [] }) all c.args.stages.now c.args.lines.now c.loop-index.index stage line c.in-Ok.made
          found (omega arith) c.index-lines-index.is c.loop-index.invariant.5 right),
    )

pub returns : goal.returns
returns c = λ last.
    c.loop-index.invariant.4 last
    ∙ no_line c.args.recipe.now last (record { inputs = c.args.inputs.now; artefacts = c.loop-index.artefacts }) (drop c.loop-index.index c.args.stages.now) c.args.lines.now c.loop-index.index (omega arith)
