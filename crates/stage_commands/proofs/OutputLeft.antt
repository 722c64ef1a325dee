-- What `left` saves of a stage's output is the artefact that the bench makes.
use Rattle.std.proofs.Common.{◌≡◌, ℕ, ◌+◌, ◌-◌, Bool, true, false, cond, IsTrue, Option, None, Some, Result, Ok, Err, List, [], ◌∷◌, length, map, min, refl, sym, ap, ◌∙◌}
use Rattle.std.specs.Prelude.{not, slice_get, take}
use Rattle.std.specs.FinMap as finite
use Rattle.std.proofs.lemmas.Bool.{and_parts}
use Rattle.ddc_base.specs.declared.outside.Loaded.TheVariants.{Bytes}
use Rattle.ddc_base.specs.Outside.{NamedFiles, loaded}
use Rattle.ddc_base.specs.Limits.{most_content, most_inputs, most_recipe}
use Rattle.mem_files.specs.Calls.{content_at}
use Rattle.mem_files.specs.Names.{begins_with_dot_slash, is_file_name, stripped}
use Rattle.mem_files.specs.Outputs.{out}
use Rattle.mem_files.specs.World.{World}
use Rattle.guest_run.specs.Run.{End, first_end}
use Rattle.guest_run.specs.Start.{Refusal}
use Rattle.guest_run.specs.State.{GuestState}
use Rattle.recipe.specs.Kept.{IsOutput, IsRecipe}
use Rattle.recipe.specs.Lookups.{stage_at}
use Rattle.recipe.specs.Reading.{recipe_of}
use Rattle.recipe.specs.declared.contents.RecipeContents.{RecipeContents}
use Rattle.recipe.specs.declared.parts.Output.{Output}
use Rattle.recipe.specs.declared.parts.Output.TheVariants.{Stream, File}
use Rattle.recipe.specs.declared.parts.Stage.{Stage}
use Rattle.recipe.specs.declared.text.refusal.RecipeRefusal.{RecipeRefusal}
use Rattle.recipe.proofs.Keeps.{reads_keep}
use Rattle.audit_rules.specs.Stages.{by_end, by_start, contents, ending, finished, output_of, stage_result, start_stage}
use Rattle.audit_rules.specs.declared.answer.StageFault.TheVariants.{Runs, Checks}
use Rattle.audit_rules.specs.declared.answer.StageFault.{StageFault}
use Rattle.audit_rules.specs.declared.answer.Finished.{Finished}
use Rattle.audit_rules.proofs.Endings.{ended}
use Rattle.audit_run.specs.Earlier.{done_in_order}
use Rattle.audit_run.specs.declared.earlier.Unfinished.{Unfinished}
use Rattle.command_plan.specs.declared.status.Status.TheVariants.{RecipeRefused, Yes}
use Rattle.command_plan.specs.Plan.{Plan, answers, needs, needs_all, outcome, unless_refused}
use Rattle.command_plan.specs.Words.{or_usage, usage}
use Rattle.recipe_plan.specs.NotDone.{unfinished}
use Rattle.recipe_plan.specs.Recipes.{is_input, needs_apart, needs_inputs, paths, reads_recipe}
use Rattle.recipe_plan.specs.Texts.{recipe_line}
use Rattle.stage_commands.specs.Begun.{IsBegun}
use Rattle.stage_commands.specs.Earlier.{needs_earlier, needs_stage}
use Rattle.stage_commands.specs.Left.{RunLeft, are_left_words, cause_of, ends_left, left_by, left_files, left_of_stage, run_left, run_left_by, saved_left}
use Rattle.tool_commands.specs.GuestFiles.{bytes_left_at}
use Rattle.stage_commands.specs.LeftMade.{LeftRun, artefact_saved, left_over, needs_left, output_word}
use Rattle.stage_commands.specs.declared.ready.Ready.{Ready}
use Rattle.stage_commands.proofs.BegunStages.{begun_of}
use Rattle.stage_commands.proofs.ReadyAgain.{IsYes, follows_load, load_found, within_limit, yes_as}

-- ---- what stands at the output

whole_name : (path : List ℕ) → begins_with_dot_slash path ≡ false → stripped path ≡ path
whole_name [] is = refl
whole_name (a ∷ []) is = refl
whole_name (a ∷ (b ∷ rest)) is = ap (λ t. cond t (stripped rest) (a ∷ (b ∷ rest))) is

clear : (t : Bool) → not t ≡ true → t ≡ false
clear true is = cc
clear false is = refl

asked : (w : World) (output : Output) → IsOutput output → bytes_left_at w (output_word output) ≡ out w (output_of output)
unfolding bytes_left_at
asked w Stream is = refl
asked w (File path) is =
    let plain = and_parts (is_file_name path) (not (begins_with_dot_slash path)) is.stripped in
    ap (content_at w) (whole_name path (clear (begins_with_dot_slash path) plain.1))

-- ---- the run

module _ (recipe : RecipeContents) (inputs : List (List ℕ)) (done : List Finished) (stage : Stage) (fits : IsOutput stage.output) (out_file : List ℕ) (files : NamedFiles) (f : Finished) where
  abbrev word : List ℕ
  word = output_word stage.output

  abbrev plan_by : Result GuestState Refusal → Plan
  plan_by start = left_by recipe (length done + 1) stage word out_file start

  exited : (begun guest : GuestState) (end : End) → first_end begun stage.steps ≡ Some (end, guest) → ending recipe inputs done stage end guest ≡ Ok f
      → outcome (plan_by (Ok begun)) files ≡ artefact_saved stage out_file f files
  unfolding ends_left run_left finished
  exited begun guest end ends made =
      let e = ended recipe inputs done stage end guest f made in
      let left : bytes_left_at guest.world word ≡ Some e.made = asked guest.world stage.output fits ∙ e.there in
      let at : End → RunLeft = λ last. record { cause = cause_of last; step = guest.steps + 1; files = guest.world } in
      ap (λ o. outcome (saved_left stage.name word out_file (run_left_by begun stage.steps o) (bytes_left_at (run_left_by begun stage.steps o).files word)) files) ends
      ∙ (λ i. outcome (saved_left stage.name word out_file (at (e.exit i)) (left i)) files)
      ∙ ap (λ (g : Finished). artefact_saved stage out_file g files) (sym e.is)

  by_first_end : (begun : GuestState) (e : Option (End × GuestState)) → first_end begun stage.steps ≡ e → by_end recipe inputs done stage e ≡ Ok f
      → outcome (plan_by (Ok begun)) files ≡ artefact_saved stage out_file f files
  by_first_end begun None none made = absurd cc
  by_first_end begun (Some (end, guest)) ends made = exited begun guest end ends made

  by_begin : (s : Result GuestState Refusal) → by_start recipe inputs done stage s ≡ Ok f → outcome (plan_by s) files ≡ artefact_saved stage out_file f files
  by_begin (Err why) made = absurd cc
  by_begin (Ok begun) made = by_first_end begun (first_end begun stage.steps) refl made

pub artefact_left : (recipe stage out_file : List ℕ) (files : NamedFiles) (run : LeftRun recipe stage out_file files) (f : Finished)
    → IsTrue (are_left_words recipe stage (output_word run.named.output) out_file) → stage_result run.ready.recipe run.ready.inputs run.ready.done run.named ≡ Ok f
    → left_over recipe stage (output_word run.named.output) out_file files ≡ artefact_saved run.named out_file f files
unfolding left_files left_of_stage
artefact_left recipe stage out_file files run f words made =
    let r = run.ready in
    let word : List ℕ = output_word run.named.output in
    let kept : IsRecipe r.recipe = reads_keep run.begins.text r.recipe run.begins.parsed in
    let fits : IsOutput run.named.output = (kept.stages (length r.done) run.named run.there).output in
    ap (λ t. outcome (cond t (left_files recipe stage word out_file) usage) files) words
    ∙ run.found (λ ready. left_of_stage ready.recipe ready.inputs ready.done word out_file)
    ∙ ap (λ s. outcome (or_usage s (λ of. left_by r.recipe (length r.done + 1) of word out_file (start_stage r.recipe (contents r.inputs r.done) of))) files) run.there
    ∙ by_begin r.recipe r.inputs r.done run.named fits out_file files f (start_stage r.recipe (contents r.inputs r.done) run.named) made

-- ---- what a `left` with 0 found

module _ (recipe stage out_file : List ℕ) (files : NamedFiles) where
  record Leading (leading : (Ready → Plan) → Plan) : Type 0 where
    ready : Ready
    begins : IsBegun recipe stage files ready
    found : (next : Ready → Plan) → outcome (leading next) files ≡ outcome (next ready) files

  -- a part more before it
  following : (leading rest : (Ready → Plan) → Plan) (next : Ready → Plan) → ((n : Ready → Plan) → outcome (leading n) files ≡ outcome (rest n) files)
      → (IsYes (rest next) files → Leading rest) → IsYes (leading next) files → Leading leading
  following leading rest next same finds zeroed =
      let r = finds (yes_as (leading next) (rest next) files (same next) zeroed) in
      record { ready = r.ready; begins = r.begins; found = λ n. same n ∙ r.found n }

  record Given (budget : ℕ) (names : List (List ℕ)) : Type 0 where
    contents : List (List ℕ)
    held : map (λ path. finite.get files path) names ≡ map Some contents
    found : (next : List (List ℕ) → Plan) → outcome (needs_all most_content budget names next) files ≡ outcome (next contents) files

  all_given : (names : List (List ℕ)) (budget : ℕ) (next : List (List ℕ) → Plan) → IsYes (needs_all most_content budget names next) files → Given budget names
  all_given [] budget next zeroed = record { contents = []; held = refl; found = λ n. refl }
  all_given (name ∷ names) budget next zeroed =
      let limit : ℕ = min most_content budget in
      let then' : List ℕ → (List (List ℕ) → Plan) → Plan = λ c n. needs_all most_content (budget - length c) names (λ contents. n (c ∷ contents)) in
      let l = load_found name limit (λ c. then' c next) files zeroed in
      let rest = all_given names (budget - length l.0) (λ contents. next (l.0 ∷ contents))
      (yes_as (needs name limit (λ c. then' c next)) (then' l.0 next) files (follows_load name limit (λ c. then' c next) files l.0 l.1) zeroed) in
      let held = within_limit limit (finite.get files name) l.0 l.1 in
      record {
        contents = l.0 ∷ rest.contents;
        held = λ i. held.0 i ∷ rest.held i;
        found = λ n. follows_load name limit (λ c. then' c n) files l.0 l.1 ∙ rest.found (λ contents. n (l.0 ∷ contents));
      }

  -- what follows each part
  abbrev with_inputs : RecipeContents → ℕ → List (List ℕ) → (Ready → Plan) → Plan
  with_inputs parsed count inputs n = needs_earlier parsed inputs count (λ done. n (record { recipe = parsed; inputs = inputs; done = done }))

  abbrev with_out : RecipeContents → ℕ → (Ready → Plan) → Plan
  with_out parsed count n = needs_inputs parsed (λ inputs. with_inputs parsed count inputs n)

  abbrev with_count : RecipeContents → ℕ → (Ready → Plan) → Plan
  with_count parsed count n = needs_apart parsed out_file (λ _. with_out parsed count n)

  abbrev with_parsed : RecipeContents → (Ready → Plan) → Plan
  with_parsed parsed n = needs_stage parsed stage (λ count. with_count parsed count n)

  abbrev with_text : List ℕ → (Ready → Plan) → Plan
  with_text text n = reads_recipe text (λ parsed. with_parsed parsed n)

  never_unfinished : (parsed : RecipeContents) (number : ℕ) (fault : StageFault) → IsYes (unfinished parsed number fault) files → ⊥
  never_unfinished parsed number (Runs cause step) zeroed = cc
  never_unfinished parsed number (Checks cause) zeroed = cc

  module _ (next : Ready → Plan) (text : List ℕ) (held : loaded files recipe most_recipe ≡ Bytes text) where
    module _ (parsed : RecipeContents) (reads : recipe_of text ≡ Ok parsed) where
      module _ (count : ℕ) (index_is : stage_at parsed.stages stage ≡ Some count) where
        from_inputs : (inputs : List (List ℕ)) → map (λ path. finite.get files path) (paths parsed) ≡ map Some inputs → IsYes (with_inputs parsed count inputs next) files
            → Leading (with_inputs parsed count inputs)
        from_inputs inputs given zeroed = by (done_in_order parsed inputs [] (take count parsed.stages)) refl zeroed where
          by : (ran : Result (List Finished) Unfinished) → done_in_order parsed inputs [] (take count parsed.stages) ≡ ran
              → IsYes (unless_refused ran (λ not_done. unfinished parsed not_done.stage not_done.fault) (λ done. next (record { recipe = parsed; inputs = inputs; done = done }))) files
              → Leading (λ n. unless_refused ran (λ not_done. unfinished parsed not_done.stage not_done.fault) (λ done. n (record { recipe = parsed; inputs = inputs; done = done })))
          by (Ok done) made zeroed = record {
            ready = record { recipe = parsed; inputs = inputs; done = done };
            begins = begun_of recipe stage files text parsed count inputs done held reads index_is given made;
            found = λ n. refl;
          }
          by (Err not_done) made zeroed = absurd (never_unfinished parsed not_done.stage not_done.fault zeroed)

        from_out : IsYes (with_out parsed count next) files → Leading (with_out parsed count)
        from_out zeroed =
            let inputs = all_given (paths parsed) most_inputs (λ inputs. with_inputs parsed count inputs next) zeroed in
            following (with_out parsed count) (with_inputs parsed count inputs.contents) next (λ n. inputs.found (λ inputs. with_inputs parsed count inputs n))
            (from_inputs inputs.contents inputs.held) zeroed

        from_count : IsYes (with_count parsed count next) files → Leading (with_count parsed count)
        unfolding needs_apart
        from_count zeroed = by (is_input parsed out_file) zeroed where
          by : (one : Bool) → IsYes (cond one usage (with_out parsed count next)) files → Leading (λ n. cond one usage (with_out parsed count n))
          by false zeroed = from_out zeroed
          by true zeroed = absurd cc

      from_parsed : IsYes (with_parsed parsed next) files → Leading (with_parsed parsed)
      from_parsed zeroed = by (stage_at parsed.stages stage) refl zeroed where
        by : (index_is : Option ℕ) → stage_at parsed.stages stage ≡ index_is → IsYes (or_usage index_is (λ count. with_count parsed count next)) files
            → Leading (λ n. or_usage index_is (λ count. with_count parsed count n))
        by (Some count) index_is zeroed = from_count count index_is zeroed
        by None none zeroed = absurd cc

    from_text : IsYes (with_text text next) files → Leading (with_text text)
    from_text zeroed = by (recipe_of text) refl zeroed where
      by : (reading : Result RecipeContents RecipeRefusal) → recipe_of text ≡ reading
          → IsYes (unless_refused reading (λ refusal. answers RecipeRefused (recipe_line refusal)) (λ parsed. with_parsed parsed next)) files
          → Leading (λ n. unless_refused reading (λ refusal. answers RecipeRefused (recipe_line refusal)) (λ parsed. with_parsed parsed n))
      by (Ok parsed) reads zeroed = from_parsed parsed reads zeroed
      by (Err refusal) reads zeroed = absurd cc

  from_recipe : (next : Ready → Plan) → IsYes (needs_left recipe stage out_file next) files → Leading (needs_left recipe stage out_file)
  from_recipe next zeroed =
      let text = load_found recipe most_recipe (λ t. with_text t next) files zeroed in
      following (needs_left recipe stage out_file) (with_text text.0) next (λ n. follows_load recipe most_recipe (λ t. with_text t n) files text.0 text.1)
      (from_text next text.0 text.1) zeroed

  -- the stage after those that are done
  run_there : (file : List ℕ) (r : Leading (needs_left recipe stage out_file)) → IsYes (left_of_stage r.ready.recipe r.ready.inputs r.ready.done file out_file) files
      → LeftRun recipe stage out_file files
  unfolding left_of_stage
  run_there file r zeroed = by (slice_get r.ready.recipe.stages (length r.ready.done)) refl zeroed where
    by : (index_is : Option Stage) → slice_get r.ready.recipe.stages (length r.ready.done) ≡ index_is
        → IsYes (or_usage index_is (λ of. left_by r.ready.recipe (length r.ready.done + 1) of file out_file (start_stage r.ready.recipe (contents r.ready.inputs r.ready.done) of))) files
        → LeftRun recipe stage out_file files
    by (Some named) there zeroed = record { ready = r.ready; begins = r.begins; found = r.found; named = named; there = there }
    by None none zeroed = absurd cc

  from_files : (file : List ℕ) → IsYes (left_files recipe stage file out_file) files → LeftRun recipe stage out_file files
  unfolding left_files
  from_files file zeroed =
      let next : Ready → Plan = λ ready. left_of_stage ready.recipe ready.inputs ready.done file out_file in
      let r = from_recipe next zeroed in
      run_there file r (yes_as (needs_left recipe stage out_file next) (next r.ready) files (r.found next) zeroed)

  pub left_found : (file : List ℕ) → (left_over recipe stage file out_file files).status ≡ Yes → LeftRun recipe stage out_file files
  left_found file zeroed = by (are_left_words recipe stage file out_file) zeroed where
    by : (words : Bool) → IsYes (cond words (left_files recipe stage file out_file) usage) files → LeftRun recipe stage out_file files
    by true zeroed = from_files file zeroed
    by false zeroed = absurd cc
