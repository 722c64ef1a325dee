-- From a whole save, and from a delta against it, an audit goes on as it would have without a pause.
use Rattle.std.proofs.Common.{◌≡◌, ◌≢◌, ℕ, ◌+◌, Bool, true, false, cond, IsTrue, inl, inr, Some, Result, Ok, Err, List, [], ◌∷◌, codes, decimal, refl, sym, ap, ◌∙◌, subst}
use Rattle.std.specs.FinMap as finite
use Rattle.ddc_base.specs.Outside.{NamedFiles}
use Rattle.ddc_base.specs.Limits.{most_save}
use Rattle.recipe.specs.Kept.{IsRecipe}
use Rattle.recipe.specs.declared.contents.RecipeContents.{RecipeContents}
use Rattle.save_format.specs.Encoded.{text_of_save}
use Rattle.audit_run.specs.Delta.Deltas.{IsResumedRelativeAs, delta_text_of}
use Rattle.audit_run.specs.Delta.Judged.{after_base, judged_relative}
use Rattle.audit_run.specs.Save.Saves.{save_of}
use Rattle.audit_run.specs.declared.delta.reading.DeltaRefusal.{DeltaRefusal}
use Rattle.audit_run.specs.declared.delta.reading.DeltaRefusal.TheVariants as delta
use Rattle.audit_run.specs.declared.save.reading.SaveRefusal.{SaveRefusal}
use Rattle.audit_run.proofs.DeltaLemmas.Answered as lemma
use Rattle.audit_run.proofs.DeltaLemmas.DeltaLengths as delta_lengths
use Rattle.audit_run.proofs.DeltaLemmas.Exactly as exactly
use Rattle.audit_run.proofs.SaveLemmas.SaveLengths.{short}
use Rattle.audit_rules.specs.Bench.{bench}
use Rattle.audit_rules.specs.Positions.{Position, On, forward, position}
use Rattle.audit_rules.specs.Valid.{IsInputs, IsPosition}
use Rattle.command_plan.specs.declared.status.Status.TheVariants.{FileRefused, SaveRefused}
use Rattle.command_plan.specs.Plan.{LoadsBytes, Plan, Outcome, answers, needs, outcome, unless_refused}
use Rattle.command_plan.specs.Words.{are_four_files, or_usage, usage}
use Rattle.recipe_plan.specs.Recipes.{is_input, needs_apart, needs_inputs}
use Rattle.audit_commands.specs.Audit.{audited}
use Rattle.audit_commands.specs.Delta.{delta_resume_files, delta_start_files, needs_position_relative, read_relative, resumes_relative, starts_relative}
use Rattle.audit_commands.specs.Pause.{came_to, needs_position, read_as}
use Rattle.audit_commands.specs.PauseTexts.{delta_refused_line, save_refused_line}
use Rattle.ddc_app.specs.Accepting.{audit}
use Rattle.ddc_app.specs.Commands.{plan_of}
use Rattle.ddc_app.specs.Differences.{AreDeltaWords, DeltaPieces, IsSavedRelative, delta_resume, delta_start}
use Rattle.ddc_app.specs.Pausing.{AreSame, IsStepCount, IsSavedAt}
use Rattle.ddc_app.proofs.Beginnings.{Case, audit_loaded, four_apart, four_of, three_apart, with_words}
use Rattle.ddc_app.proofs.CountWords.{count-again}
use Rattle.ddc_app.proofs.Leaving.{delta_resume_stays, delta_start_stays}
use Rattle.ddc_app.proofs.Loads.{follows, is_loaded, loaded_unless_refused, loads_bytes, not_equal, two_apart}
use Rattle.ddc_app.proofs.Openings.{Holds, apart_loads, apart_opens, are_loaded, inputs_open, is_recipe, recipe_loads, recipe_opens}
use Rattle.ddc_app.proofs.Pieces.{Pauses, Settles, alike, settles}
use Rattle.ddc_app.proofs.Resuming.{audit_opens, goes_on, is_position, reads_again}

-- ---- the delta

-- the delta of a position is read as that position, relative to its base
module _ (parsed : RecipeContents) (inputs : List (List ℕ)) (base p : Position) (is : IsRecipe parsed) (given : IsInputs parsed inputs) (base_is : IsPosition parsed base) (reached : IsPosition parsed p) where
  abbrev whole : List ℕ
  whole = text_of_save (save_of parsed inputs base)

  abbrev text : List ℕ
  text = delta_text_of parsed inputs base p

  judged_again : judged_relative parsed inputs whole text ≡ Ok p
  judged_again =
      let a = lemma.answered parsed inputs whole text in
      lemma.is_answer parsed inputs whole text a.result a.resumes a.settled
      ∙ by a.result (exactly.is_only parsed inputs whole text a.result is given a.resumes base p (base_is, inl refl) reached refl) a.settled where
        by : (result : Result Position DeltaRefusal) → IsResumedRelativeAs p result → result ≢ Err delta.OutOfMemory → result ≡ Ok p
        by (Ok found) same settled = ap Ok same
        by (Err delta.OutOfMemory) same settled = absurd (settled refl)
        by (Err (delta.Base refusal)) same settled = absurd same
        by (Err (delta.Form offset)) same settled = absurd same
        by (Err delta.OtherBase) same settled = absurd same
        by (Err delta.State) same settled = absurd same

  pub reads_relative : read_relative parsed inputs base text ≡ Ok p
  unfolding read_relative read_as judged_relative
  reads_relative = sym (ap (after_base parsed inputs text) (reads_again parsed inputs base is given base_is)) ∙ judged_again

-- ---- the words

module _ (recipe base patch report : List ℕ) (files : NamedFiles) (four : IsTrue (are_four_files recipe base patch report)) (parsed : RecipeContents)
    (inputs : List (List ℕ)) (h : Holds recipe parsed inputs files) (clash : Bool) (is : is_input parsed report ≡ clash) (steps : ℕ) (count : IsStepCount steps) where
  -- both commands go on from the recipe, and end where the report is one of its inputs
  pub start_opens : delta_start recipe base patch report steps files
      ≡ outcome (cond clash usage (needs_apart parsed base (λ _. needs_apart parsed patch (λ _. needs base most_save (λ text. needs_inputs parsed (λ contents.
      starts_relative parsed contents text patch report steps)))))) files
  unfolding delta_start_files
  start_opens =
      with_words (are_four_files recipe base patch report) steps (delta_start_files recipe base patch report) files four count
      ∙ recipe_opens recipe parsed inputs files h _
      ∙ apart_opens parsed report _ files clash is

  pub resume_opens : delta_resume recipe base patch report steps files
      ≡ outcome (cond clash usage (needs_apart parsed base (λ _. needs_apart parsed patch (λ _. needs base most_save (λ text. needs patch most_save (λ delta.
      needs_inputs parsed (λ contents. resumes_relative parsed contents text delta patch report steps))))))) files
  unfolding delta_resume_files
  resume_opens =
      with_words (are_four_files recipe base patch report) steps (delta_resume_files recipe base patch report) files four count
      ∙ recipe_opens recipe parsed inputs files h _
      ∙ apart_opens parsed report _ files clash is

-- ---- the pieces

-- the audit of a recipe and its inputs by four words, after the position of which the base is the save
pub record After (recipe base patch report : List ℕ) : Type 0 where
  pub four : IsTrue (are_four_files recipe base patch report)
  pub c : Case recipe patch report
  pub no_base : is_input c.parsed base ≡ false
  pub given : IsInputs c.parsed c.inputs
  pub first : ℕ
  pub reached : Position
  pub current : position c.parsed c.inputs first ≡ On reached

module _ (recipe base patch report : List ℕ) (b : After recipe base patch report) where
  -- what is kept
  abbrev pub kept_relative : Position → List ℕ
  kept_relative = delta_text_of b.c.parsed b.c.inputs b.reached

  -- the base is held
  abbrev pub IsBaseHeld : NamedFiles → Type 0
  IsBaseHeld files = finite.get files base ≡ Some (text_of_save (save_of b.c.parsed b.c.inputs b.reached))

  is_base : IsPosition b.c.parsed b.reached
  is_base = is_position b.c.parsed b.c.inputs b.first b.reached b.c.is b.given b.current

module _ (recipe base patch report : List ℕ) (b : After recipe base patch report) (files : NamedFiles) (h : Holds recipe b.c.parsed b.c.inputs files)
    (base_held : IsBaseHeld recipe base patch report b files) (steps : ℕ) (counted : IsStepCount steps) where
  -- from the base on
  pub starts_at : delta_start recipe base patch report steps files
      ≡ outcome (came_to b.c.parsed (kept_relative recipe base patch report b) patch report (position b.c.parsed b.c.inputs (b.first + steps))) files
  starts_at =
      let parsed : RecipeContents = b.c.parsed in
      let text : List ℕ = text_of_save (save_of parsed b.c.inputs b.reached) in
      let reached = is_base recipe base patch report b in
      let last : List (List ℕ) → Position → Plan = λ contents p. came_to parsed (delta_text_of parsed contents p) patch report (forward parsed contents p steps) in
      let at : List ℕ → List (List ℕ) → Plan = λ text contents. needs_position parsed contents text (last contents) in
      let loads : List ℕ → Plan = λ text. needs_inputs parsed (at text) in
      let refuse : SaveRefusal → Plan = λ refusal. answers SaveRefused (save_refused_line refusal) in
      start_opens recipe base patch report files b.four parsed b.c.inputs h false b.c.no_report steps counted
      ∙ apart_opens parsed base (λ _. needs_apart parsed patch (λ _. needs base most_save loads)) files false b.no_base
      ∙ apart_opens parsed patch (λ _. needs base most_save loads) files false b.c.no_save
      ∙ follows base most_save loads files text (is_loaded files base text most_save base_held (short parsed b.c.inputs b.reached b.c.is b.given reached))
      ∙ inputs_open recipe parsed b.c.inputs files h (at text)
      ∙ ap (λ reading. outcome (unless_refused reading refuse (last b.c.inputs)) files) (reads_again parsed b.c.inputs b.reached b.c.is b.given reached)
      ∙ ap (λ o. outcome (came_to parsed (kept_relative recipe base patch report b) patch report o) files) (goes_on parsed b.c.inputs b.first steps b.reached b.current)

  -- from a delta on
  pub resumes_at : (count : ℕ) (p : Position) → position b.c.parsed b.c.inputs count ≡ On p → finite.get files patch ≡ Some (kept_relative recipe base patch report b p)
      → delta_resume recipe base patch report steps files
      ≡ outcome (came_to b.c.parsed (kept_relative recipe base patch report b) patch report (position b.c.parsed b.c.inputs (count + steps))) files
  resumes_at count p current held =
      let parsed : RecipeContents = b.c.parsed in
      let text : List ℕ = text_of_save (save_of parsed b.c.inputs b.reached) in
      let further : List ℕ = delta_text_of parsed b.c.inputs b.reached p in
      let base_is = is_base recipe base patch report b in
      let reached = is_position parsed b.c.inputs count p b.c.is b.given current in
      let last : List (List ℕ) → Position → Position → Plan = λ contents base p. came_to parsed (delta_text_of parsed contents base) patch report (forward parsed contents p steps) in
      let relative : List ℕ → List (List ℕ) → Position → Plan = λ delta contents base. needs_position_relative parsed contents base delta (last contents base) in
      let at : List ℕ → List ℕ → List (List ℕ) → Plan = λ text delta contents. needs_position parsed contents text (relative delta contents) in
      let found : List ℕ → List ℕ → Plan = λ text delta. needs_inputs parsed (at text delta) in
      let loads : List ℕ → Plan = λ text. needs patch most_save (found text) in
      let refuse : SaveRefusal → Plan = λ refusal. answers SaveRefused (save_refused_line refusal) in
      let refuse_delta : DeltaRefusal → Plan = λ refusal. answers SaveRefused (delta_refused_line refusal) in
      resume_opens recipe base patch report files b.four parsed b.c.inputs h false b.c.no_report steps counted
      ∙ apart_opens parsed base (λ _. needs_apart parsed patch (λ _. needs base most_save loads)) files false b.no_base
      ∙ apart_opens parsed patch (λ _. needs base most_save loads) files false b.c.no_save
      ∙ follows base most_save loads files text (is_loaded files base text most_save base_held (short parsed b.c.inputs b.reached b.c.is b.given base_is))
      ∙ follows patch most_save (found text) files further
      (is_loaded files patch further most_save held (delta_lengths.short parsed b.c.inputs b.reached p b.c.is b.given base_is reached))
      ∙ inputs_open recipe parsed b.c.inputs files h (at text further)
      ∙ ap (λ reading. outcome (unless_refused reading refuse (relative further b.c.inputs)) files) (reads_again parsed b.c.inputs b.reached b.c.is b.given base_is)
      ∙ ap (λ reading. outcome (unless_refused reading refuse_delta (last b.c.inputs b.reached)) files) (reads_relative parsed b.c.inputs b.reached p b.c.is b.given base_is reached)
      ∙ ap (λ o. outcome (came_to parsed (kept_relative recipe base patch report b) patch report o) files) (goes_on parsed b.c.inputs count steps p current)

-- ---- what they leave

-- the base is neither the patch nor the report
apart_of : (recipe base patch report : List ℕ) → IsTrue (are_four_files recipe base patch report) → (base ≢ patch) × (base ≢ report)
apart_of recipe base patch report four =
    let words = four_apart recipe base patch report four in
    (not_equal base patch (two_apart base patch words.apart), not_equal base report (three_apart recipe base report words.with_base).save_report)

module _ (recipe base patch report : List ℕ) (b : After recipe base patch report) where
  pub start_leaves_base : (steps : ℕ) (files : NamedFiles) → IsBaseHeld recipe base patch report b files
      → IsBaseHeld recipe base patch report b (delta_start recipe base patch report steps files).files
  start_leaves_base steps files held =
      let apart = apart_of recipe base patch report b.four in
      delta_start_stays recipe base patch report steps files base apart.0 apart.1 ∙ held

  pub resume_leaves_base : (steps : ℕ) (files : NamedFiles) → IsBaseHeld recipe base patch report b files
      → IsBaseHeld recipe base patch report b (delta_resume recipe base patch report steps files).files
  resume_leaves_base steps files held =
      let apart = apart_of recipe base patch report b.four in
      delta_resume_stays recipe base patch report steps files base apart.0 apart.1 ∙ held

  -- what pauses, in the words of the laws
  pub kept_of : (first : NamedFiles) (total : ℕ) (piece : Outcome) → IsBaseHeld recipe base patch report b piece.files
      → Pauses recipe patch report b.c (kept_relative recipe base patch report b) first total piece → IsSavedRelative recipe base patch piece.files b.first total
  kept_of first total piece held p = record {
    whole = record {
      bytes = p.holds.bytes;
      recipe_held = p.holds.recipe_held;
      parsed = b.c.parsed;
      recipe_reads = p.holds.reads;
      inputs = b.c.inputs;
      inputs_held = p.holds.inputs_held;
      position = b.reached;
      current = b.current;
      save_held = held;
    };
    position = p.reached;
    current = p.current;
    delta_held = p.kept_held;
  }

  pub delta_piece_of : (first : NamedFiles) (total : ℕ) (piece : Outcome) → IsBaseHeld recipe base patch report b piece.files
      → audit recipe report first ≡ outcome (audited b.c.parsed report (bench b.c.parsed b.c.inputs)) first
      → Settles recipe patch report b.c (kept_relative recipe base patch report b) first total piece → DeltaPieces recipe base patch report first b.first total piece
  delta_piece_of first total piece held benched (inl p) = inl (p.status, kept_of first total piece held p)
  delta_piece_of first total piece held benched (inr e) = inr (subst (AreSame report piece) (sym benched) e.same)

-- ---- what is loaded

-- the recipe and the inputs of a save's audit
abbrev holds : (recipe base : List ℕ) (first : ℕ) (files : NamedFiles) (at : IsSavedAt recipe base files first) → Holds recipe at.parsed at.inputs files
holds recipe base first files at = record { bytes = at.bytes; recipe_held = at.recipe_held; reads = at.recipe_reads; inputs_held = at.inputs_held }

abbrev limit : ℕ
limit = most_save

-- the inputs are bytes where the loads of the command find bytes, unless it is refused for a file
module _ (recipe base patch report : List ℕ) (first : ℕ) (files : NamedFiles) (words : AreDeltaWords recipe base patch report files) (steps : ℕ) (counted : IsStepCount steps) where
  four : IsTrue (are_four_files recipe base patch report)
  four = four_of recipe base patch report words.with_base.three words.with_patch.three words.apart

  start_loaded : (at : IsSavedAt recipe base files first) → is_input at.parsed report ≡ false
      → LoadsBytes (plan_of (codes "delta-start" ∷ recipe ∷ base ∷ patch ∷ report ∷ decimal steps ∷ [])) files
      → (delta_start recipe base patch report steps files).status ≢ FileRefused → IsInputs at.parsed at.inputs
  unfolding delta_start_files
  start_loaded at no_report bytes answered =
      let parsed : RecipeContents = at.parsed in
      let h : Holds recipe parsed at.inputs files = holds recipe base first files at in
      let text : List ℕ = text_of_save (save_of parsed at.inputs at.position) in
      let no_base = words.with_base.apart at.bytes parsed at.recipe_held at.recipe_reads in
      let no_patch = words.with_patch.apart at.bytes parsed at.recipe_held at.recipe_reads in
      let loads : RecipeContents → List ℕ → Plan = λ s text. needs_inputs s (λ inputs. starts_relative s inputs text patch report steps) in
      let opens =
      start_opens recipe base patch report files four parsed at.inputs h false no_report steps counted
      ∙ apart_opens parsed base (λ _. needs_apart parsed patch (λ _. needs base limit (loads parsed))) files false no_base
      ∙ apart_opens parsed patch (λ _. needs base limit (loads parsed)) files false no_patch in
      let is = loaded_unless_refused base limit (loads parsed) files text at.save_held (subst (λ (o : Outcome). o.status ≢ FileRefused) opens answered) in
      are_loaded recipe parsed at.inputs files h (λ inputs. starts_relative parsed inputs text patch report steps)
      (loads_bytes base limit (loads parsed) files text is
      (apart_loads parsed patch (λ _. needs base limit (loads parsed)) files no_patch
      (apart_loads parsed base (λ _. needs_apart parsed patch (λ _. needs base limit (loads parsed))) files no_base
      (apart_loads parsed report (λ _. needs_apart parsed base (λ _. needs_apart parsed patch (λ _. needs base limit (loads parsed)))) files no_report
      (recipe_loads recipe parsed at.inputs files h (λ s. needs_apart s report (λ _. needs_apart s base (λ _. needs_apart s patch (λ _. needs base limit (loads s)))))
      (subst (λ good. LoadsBytes (cond good (delta_start_files recipe base patch report steps) usage) files) four
      (subst (λ n. LoadsBytes (or_usage n (λ count. cond (are_four_files recipe base patch report) (delta_start_files recipe base patch report count) usage)) files)
      (count-again steps counted) bytes))))))).1

  resume_loaded : (count : ℕ) (at : IsSavedRelative recipe base patch files first count) → is_input at.whole.parsed report ≡ false
      → LoadsBytes (plan_of (codes "delta-resume" ∷ recipe ∷ base ∷ patch ∷ report ∷ decimal steps ∷ [])) files
      → (delta_resume recipe base patch report steps files).status ≢ FileRefused → IsInputs at.whole.parsed at.whole.inputs
  unfolding delta_resume_files
  resume_loaded count at no_report bytes answered =
      let parsed : RecipeContents = at.whole.parsed in
      let inputs : List (List ℕ) = at.whole.inputs in
      let h : Holds recipe parsed inputs files = holds recipe base first files at.whole in
      let text : List ℕ = text_of_save (save_of parsed inputs at.whole.position) in
      let further : List ℕ = delta_text_of parsed inputs at.whole.position at.position in
      let no_base = words.with_base.apart at.whole.bytes parsed at.whole.recipe_held at.whole.recipe_reads in
      let no_patch = words.with_patch.apart at.whole.bytes parsed at.whole.recipe_held at.whole.recipe_reads in
      let found : RecipeContents → List ℕ → List ℕ → Plan = λ s text delta. needs_inputs s (λ contents. resumes_relative s contents text delta patch report steps) in
      let loads : RecipeContents → List ℕ → Plan = λ s text. needs patch limit (found s text) in
      let opens =
      resume_opens recipe base patch report files four parsed inputs h false no_report steps counted
      ∙ apart_opens parsed base (λ _. needs_apart parsed patch (λ _. needs base limit (loads parsed))) files false no_base
      ∙ apart_opens parsed patch (λ _. needs base limit (loads parsed)) files false no_patch in
      let is = loaded_unless_refused base limit (loads parsed) files text at.whole.save_held (subst (λ (o : Outcome). o.status ≢ FileRefused) opens answered) in
      let goes = opens ∙ follows base limit (loads parsed) files text is in
      let delta_is = loaded_unless_refused patch limit (found parsed text) files further at.delta_held (subst (λ (o : Outcome). o.status ≢ FileRefused) goes answered) in
      let based = loads_bytes base limit (loads parsed) files text is
      (apart_loads parsed patch (λ _. needs base limit (loads parsed)) files no_patch
      (apart_loads parsed base (λ _. needs_apart parsed patch (λ _. needs base limit (loads parsed))) files no_base
      (apart_loads parsed report (λ _. needs_apart parsed base (λ _. needs_apart parsed patch (λ _. needs base limit (loads parsed)))) files no_report
      (recipe_loads recipe parsed inputs files h (λ s. needs_apart s report (λ _. needs_apart s base (λ _. needs_apart s patch (λ _. needs base limit (loads s)))))
      (subst (λ good. LoadsBytes (cond good (delta_resume_files recipe base patch report steps) usage) files) four
      (subst (λ n. LoadsBytes (or_usage n (λ count. cond (are_four_files recipe base patch report) (delta_resume_files recipe base patch report count) usage)) files)
      (count-again steps counted) bytes)))))) in
      are_loaded recipe parsed inputs files h (λ contents. resumes_relative parsed contents text further patch report steps)
      (loads_bytes patch limit (found parsed text) files further delta_is based.1).1

-- ---- each piece

module _ (recipe base patch report : List ℕ) (first : ℕ) (files : NamedFiles) (words : AreDeltaWords recipe base patch report files)
    (at : IsSavedAt recipe base files first) (given : is_input at.parsed report ≡ false → IsInputs at.parsed at.inputs) where
  abbrev following : is_input at.parsed report ≡ false → After recipe base patch report
  following no_report = record {
    four = four_of recipe base patch report words.with_base.three words.with_patch.three words.apart;
    c = record {
      words = three_apart recipe patch report words.with_patch.three;
      parsed = at.parsed;
      inputs = at.inputs;
      is = is_recipe recipe at.parsed at.inputs files (holds recipe base first files at);
      no_report = no_report;
      no_save = words.with_patch.apart at.bytes at.parsed at.recipe_held at.recipe_reads;
    };
    no_base = words.with_base.apart at.bytes at.parsed at.recipe_held at.recipe_reads;
    given = given no_report;
    first = first;
    reached = at.position;
    current = at.current;
  }

  -- a piece that ends in Usage, as `audit` does, or settles
  each : (total : ℕ) (piece : Outcome) → (is_input at.parsed report ≡ true → piece ≡ outcome usage files)
      → ((no_report : is_input at.parsed report ≡ false) → piece ≡ outcome (came_to at.parsed (delta_text_of at.parsed at.inputs at.position) patch report (position at.parsed at.inputs total)) files)
      → finite.get piece.files base ≡ finite.get files base → DeltaPieces recipe base patch report files first total piece
  each total piece refused comes stays = by (is_input at.parsed report) refl where
    by : (clash : Bool) → is_input at.parsed report ≡ clash → DeltaPieces recipe base patch report files first total piece
    by true clash = inr (alike report piece (audit recipe report files)
        (refused clash ∙ sym (audit_opens recipe patch report files words.with_patch.three at.parsed at.inputs (holds recipe base first files at) true clash)))
    by false clash =
        let b : After recipe base patch report = following clash in
        delta_piece_of recipe base patch report b files total piece (stays ∙ at.save_held)
        (audit_opens recipe patch report files words.with_patch.three at.parsed at.inputs (holds recipe base first files at) false clash
        ∙ inputs_open recipe at.parsed at.inputs files (holds recipe base first files at) (λ inputs. audited at.parsed report (bench at.parsed inputs)))
        (subst (Settles recipe patch report b.c (kept_relative recipe base patch report b) files total) (sym (comes clash))
        (settles recipe patch report b.c files files (holds recipe base first files at) refl (kept_relative recipe base patch report b) total (position at.parsed at.inputs total) refl))

module _ (recipe base patch report : List ℕ) (first : ℕ) (steps : ℕ) (files : NamedFiles) (words : AreDeltaWords recipe base patch report files) (counted : IsStepCount steps) where
  starts : (at : IsSavedAt recipe base files first) → (is_input at.parsed report ≡ false → IsInputs at.parsed at.inputs)
      → DeltaPieces recipe base patch report files first (first + steps) (delta_start recipe base patch report steps files)
  starts at given =
      let four = four_of recipe base patch report words.with_base.three words.with_patch.three words.apart in
      let h = holds recipe base first files at in
      each recipe base patch report first files words at given (first + steps) (delta_start recipe base patch report steps files)
      (λ clash. start_opens recipe base patch report files four at.parsed at.inputs h true clash steps counted)
      (λ no_report. starts_at recipe base patch report (following recipe base patch report first files words at given no_report) files h at.save_held steps counted)
      (delta_start_stays recipe base patch report steps files base (apart_of recipe base patch report four).0 (apart_of recipe base patch report four).1)

  resumes : (count : ℕ) (at : IsSavedRelative recipe base patch files first count) → (is_input at.whole.parsed report ≡ false → IsInputs at.whole.parsed at.whole.inputs)
      → DeltaPieces recipe base patch report files first (count + steps) (delta_resume recipe base patch report steps files)
  resumes count at given =
      let four = four_of recipe base patch report words.with_base.three words.with_patch.three words.apart in
      let h = holds recipe base first files at.whole in
      each recipe base patch report first files words at.whole given (count + steps) (delta_resume recipe base patch report steps files)
      (λ clash. resume_opens recipe base patch report files four at.whole.parsed at.whole.inputs h true clash steps counted)
      (λ no_report. resumes_at recipe base patch report (following recipe base patch report first files words at.whole given no_report) files h at.whole.save_held steps counted
      count at.position at.current at.delta_held)
      (delta_resume_stays recipe base patch report steps files base (apart_of recipe base patch report four).0 (apart_of recipe base patch report four).1)

  -- the inputs are bytes where the loads of `audit` find bytes
  by_audit : LoadsBytes (plan_of (codes "audit" ∷ recipe ∷ report ∷ [])) files → (at : IsSavedAt recipe base files first) → is_input at.parsed report ≡ false → IsInputs at.parsed at.inputs
  by_audit bytes at no_report =
      audit_loaded recipe report at.parsed at.inputs files (three_apart recipe patch report words.with_patch.three).two (holds recipe base first files at) no_report bytes

pub delta_starts : (recipe base patch report : List ℕ) (first steps : ℕ) (files : NamedFiles) → AreDeltaWords recipe base patch report files → IsStepCount steps
    → LoadsBytes (plan_of (codes "audit" ∷ recipe ∷ report ∷ [])) files
    → IsSavedAt recipe base files first → DeltaPieces recipe base patch report files first (first + steps) (delta_start recipe base patch report steps files)
delta_starts recipe base patch report first steps files words counted bytes at =
    starts recipe base patch report first steps files words counted at (by_audit recipe base patch report first steps files words counted bytes at)

pub delta_starts_answered : (recipe base patch report : List ℕ) (first steps : ℕ) (files : NamedFiles) → AreDeltaWords recipe base patch report files → IsStepCount steps
    → LoadsBytes (plan_of (codes "delta-start" ∷ recipe ∷ base ∷ patch ∷ report ∷ decimal steps ∷ [])) files
    → (delta_start recipe base patch report steps files).status ≢ FileRefused
    → IsSavedAt recipe base files first → DeltaPieces recipe base patch report files first (first + steps) (delta_start recipe base patch report steps files)
delta_starts_answered recipe base patch report first steps files words counted bytes answered at =
    starts recipe base patch report first steps files words counted at
    (λ no_report. start_loaded recipe base patch report first files words steps counted at no_report bytes answered)

pub delta_resumes : (recipe base patch report : List ℕ) (first count steps : ℕ) (files : NamedFiles) → AreDeltaWords recipe base patch report files → IsStepCount steps
    → LoadsBytes (plan_of (codes "audit" ∷ recipe ∷ report ∷ [])) files
    → IsSavedRelative recipe base patch files first count → DeltaPieces recipe base patch report files first (count + steps) (delta_resume recipe base patch report steps files)
delta_resumes recipe base patch report first count steps files words counted bytes at =
    resumes recipe base patch report first steps files words counted count at (by_audit recipe base patch report first steps files words counted bytes at.whole)

pub delta_resumes_answered : (recipe base patch report : List ℕ) (first count steps : ℕ) (files : NamedFiles) → AreDeltaWords recipe base patch report files → IsStepCount steps
    → LoadsBytes (plan_of (codes "delta-resume" ∷ recipe ∷ base ∷ patch ∷ report ∷ decimal steps ∷ [])) files
    → (delta_resume recipe base patch report steps files).status ≢ FileRefused
    → IsSavedRelative recipe base patch files first count → DeltaPieces recipe base patch report files first (count + steps) (delta_resume recipe base patch report steps files)
delta_resumes_answered recipe base patch report first count steps files words counted bytes answered at =
    resumes recipe base patch report first steps files words counted count at
    (λ no_report. resume_loaded recipe base patch report first files words steps counted count at no_report bytes answered)
