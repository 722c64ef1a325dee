-- From the save of a position an audit goes on as it would have without a pause.
use Rattle.std.proofs.Common.{◌≡◌, ◌≢◌, ℕ, ◌+◌, Bool, true, false, cond, IsTrue, inl, inr, Some, Result, Ok, Err, List, [], ◌∷◌, codes, decimal, refl, sym, ap, ◌∙◌, subst}
use Rattle.std.specs.FinMap as finite
use Rattle.ddc_base.specs.Outside.{NamedFiles}
use Rattle.ddc_base.specs.Limits.{most_save}
use Rattle.recipe.specs.Kept.{IsRecipe}
use Rattle.recipe.specs.declared.contents.RecipeContents.{RecipeContents}
use Rattle.save_format.specs.Encoded.{text_of_save}
use Rattle.audit_run.specs.declared.save.reading.SaveRefusal.{SaveRefusal}
use Rattle.audit_run.specs.declared.save.reading.SaveRefusal.TheVariants.{Form, OtherRecipe, State, OutOfMemory}
use Rattle.audit_run.specs.Save.Saves.{IsResumedAs, save_of}
use Rattle.audit_run.proofs.SaveLemmas.Answered.{answered}
use Rattle.audit_run.proofs.SaveLemmas.Exactly.{is_only}
use Rattle.audit_run.proofs.SaveLemmas.SaveLengths.{short}
use Rattle.audit_rules.specs.Bench.{bench}
use Rattle.audit_rules.specs.Positions.{Position, Phase, On, beginning, forward, forward_from, position}
use Rattle.audit_rules.specs.Valid.{IsInputs, IsPosition, IsPhase}
use Rattle.audit_rules.proofs.Forwards.{forward_from-sum}
use Rattle.audit_rules.proofs.ValidPositions.{beginning-phase, from-phase}
use Rattle.audit_rules.proofs.Rules.{rules}
use Rattle.command_plan.specs.declared.status.Status.TheVariants.{FileRefused, SaveRefused}
use Rattle.command_plan.specs.Plan.{LoadsBytes, Outcome, Plan, answers, needs, outcome, unless_refused}
use Rattle.command_plan.specs.Words.{are_three_files, or_usage, usage}
use Rattle.recipe_plan.specs.Recipes.{is_input, needs_apart, needs_inputs}
use Rattle.audit_commands.specs.Audit.{audit_files, audited}
use Rattle.audit_commands.specs.Pause.{came_to, needs_position, read_as, resume_files, whole_save}
use Rattle.audit_commands.specs.PauseTexts.{save_refused_line}
use Rattle.ddc_app.specs.Accepting.{audit}
use Rattle.ddc_app.specs.Commands.{plan_of}
use Rattle.ddc_app.specs.Pausing.{AreWords, IsStepCount, Pieces, IsSavedAt, resume}
use Rattle.ddc_app.proofs.Beginnings.{Case, audit_loaded, three_apart, with_words}
use Rattle.ddc_app.proofs.CountWords.{count-again}
use Rattle.ddc_app.proofs.Loads.{follows, is_loaded, loaded_unless_refused, loads_bytes}
use Rattle.ddc_app.proofs.Openings.{Holds, apart_loads, apart_opens, are_loaded, inputs_open, is_recipe, recipe_loads, recipe_opens}
use Rattle.ddc_app.proofs.Pieces.{Settles, alike, piece_of, settles}

-- ---- the save

pub is_position : (parsed : RecipeContents) (inputs : List (List ℕ)) (count : ℕ) (p : Position) → IsRecipe parsed → IsInputs parsed inputs → position parsed inputs count ≡ On p → IsPosition parsed p
is_position parsed inputs count p is given current =
    let kept = rules parsed is in
    subst (IsPhase parsed) current (from-phase parsed kept inputs given (beginning parsed inputs) (beginning-phase parsed kept inputs given) count)

-- the text of a position is read as it
pub reads_again : (parsed : RecipeContents) (inputs : List (List ℕ)) (p : Position) → IsRecipe parsed → IsInputs parsed inputs → IsPosition parsed p
    → read_as parsed inputs (text_of_save (save_of parsed inputs p)) ≡ Ok p
unfolding read_as
reads_again parsed inputs p is given reached =
    let a = answered parsed inputs (text_of_save (save_of parsed inputs p)) in
    by a.result (is_only parsed inputs (text_of_save (save_of parsed inputs p)) a.result is given a.resumes p reached (inl refl)) a.settled where
      by : (result : Result Position SaveRefusal) → IsResumedAs p result → result ≢ Err OutOfMemory → result ≡ Ok p
      by (Ok found) same settled = ap Ok same
      by (Err OutOfMemory) same settled = absurd (settled refl)
      by (Err (Form offset)) same settled = absurd same
      by (Err OtherRecipe) same settled = absurd same
      by (Err State) same settled = absurd same

-- from the position after so many steps the audit goes on to the one after more
pub goes_on : (parsed : RecipeContents) (inputs : List (List ℕ)) (count steps : ℕ) (p : Position) → position parsed inputs count ≡ On p
    → forward parsed inputs p steps ≡ position parsed inputs (count + steps)
goes_on parsed inputs count steps p current =
    sym (ap (λ (o : Phase). forward_from parsed inputs o steps) current) ∙ forward_from-sum parsed inputs (beginning parsed inputs) count steps (count + steps) refl

-- ---- the words

module _ (recipe save report : List ℕ) (files : NamedFiles) (three : IsTrue (are_three_files recipe save report)) (parsed : RecipeContents) (inputs : List (List ℕ))
    (h : Holds recipe parsed inputs files) (clash : Bool) (is : is_input parsed report ≡ clash) where
  -- both commands go on from the recipe, and end alike where the report is one of its inputs
  pub resume_opens : (steps : ℕ) → IsStepCount steps
      → resume recipe save report steps files ≡ outcome (cond clash usage (needs_apart parsed save (λ _. needs save most_save (λ text. needs_inputs parsed (λ contents.
      needs_position parsed contents text (λ p. came_to parsed (whole_save parsed contents) save report (forward parsed contents p steps))))))) files
  unfolding resume_files
  resume_opens steps count =
      with_words (are_three_files recipe save report) steps (resume_files recipe save report) files three count
      ∙ recipe_opens recipe parsed inputs files h _
      ∙ apart_opens parsed report _ files clash is

  pub audit_opens : audit recipe report files ≡ outcome (cond clash usage (needs_inputs parsed (λ contents. audited parsed report (bench parsed contents)))) files
  unfolding audit_files
  audit_opens =
      ap (λ two. outcome (cond two (audit_files recipe report) usage) files) (three_apart recipe save report three).two
      ∙ recipe_opens recipe parsed inputs files h _
      ∙ apart_opens parsed report _ files clash is

-- ---- the piece

-- the save of the position after so many steps leads on to the one after more
pub resumes_at : (recipe save report : List ℕ) (c : Case recipe save report) (files : NamedFiles) → IsInputs c.parsed c.inputs
    → Holds recipe c.parsed c.inputs files → (count : ℕ) (p : Position) → position c.parsed c.inputs count ≡ On p
    → finite.get files save ≡ Some (text_of_save (save_of c.parsed c.inputs p)) → (steps : ℕ) → IsStepCount steps
    → resume recipe save report steps files ≡ outcome (came_to c.parsed (whole_save c.parsed c.inputs) save report (position c.parsed c.inputs (count + steps))) files
resumes_at recipe save report c files given h count p current held steps counted =
    let text : List ℕ = text_of_save (save_of c.parsed c.inputs p) in
    let reached = is_position c.parsed c.inputs count p c.is given current in
    let last : List (List ℕ) → Position → Plan = λ contents p. came_to c.parsed (whole_save c.parsed contents) save report (forward c.parsed contents p steps) in
    let at : List ℕ → List (List ℕ) → Plan = λ text contents. needs_position c.parsed contents text (last contents) in
    let loads : List ℕ → Plan = λ text. needs_inputs c.parsed (at text) in
    let refuse : SaveRefusal → Plan = λ refusal. answers SaveRefused (save_refused_line refusal) in
    resume_opens recipe save report files c.words.three c.parsed c.inputs h false c.no_report steps counted
    ∙ apart_opens c.parsed save (λ _. needs save most_save loads) files false c.no_save
    ∙ follows save most_save loads files text (is_loaded files save text most_save held (short c.parsed c.inputs p c.is given reached))
    ∙ inputs_open recipe c.parsed c.inputs files h (at text)
    ∙ ap (λ reading. outcome (unless_refused reading refuse (last c.inputs)) files) (reads_again c.parsed c.inputs p c.is given reached)
    ∙ ap (λ o. outcome (came_to c.parsed (whole_save c.parsed c.inputs) save report o) files) (goes_on c.parsed c.inputs count steps p current)

-- the inputs are bytes where the loads of `resume` find bytes, unless it is refused for a file
resume_loaded : (recipe save report : List ℕ) (c : Case recipe save report) (files : NamedFiles) → Holds recipe c.parsed c.inputs files
    → (text : List ℕ) → finite.get files save ≡ Some text → (steps : ℕ) → IsStepCount steps
    → LoadsBytes (plan_of (codes "resume" ∷ recipe ∷ save ∷ report ∷ decimal steps ∷ [])) files
    → (resume recipe save report steps files).status ≢ FileRefused → IsInputs c.parsed c.inputs
unfolding resume_files
resume_loaded recipe save report c files h text held steps counted bytes answered =
    let at : RecipeContents → List ℕ → List (List ℕ) → Plan = λ s text contents.
    needs_position s contents text (λ p. came_to s (whole_save s contents) save report (forward s contents p steps)) in
    let loads : RecipeContents → List ℕ → Plan = λ s text. needs_inputs s (at s text) in
    let opens =
    resume_opens recipe save report files c.words.three c.parsed c.inputs h false c.no_report steps counted
    ∙ apart_opens c.parsed save (λ _. needs save most_save (loads c.parsed)) files false c.no_save in
    let is = loaded_unless_refused save most_save (loads c.parsed) files text held (subst (λ (o : Outcome). o.status ≢ FileRefused) opens answered) in
    are_loaded recipe c.parsed c.inputs files h (at c.parsed text)
    (loads_bytes save most_save (loads c.parsed) files text is
    (apart_loads c.parsed save (λ _. needs save most_save (loads c.parsed)) files c.no_save
    (apart_loads c.parsed report (λ _. needs_apart c.parsed save (λ _. needs save most_save (loads c.parsed))) files c.no_report
    (recipe_loads recipe c.parsed c.inputs files h (λ s. needs_apart s report (λ _. needs_apart s save (λ _. needs save most_save (loads s))))
    (subst (λ good. LoadsBytes (cond good (resume_files recipe save report steps) usage) files) c.words.three
    (subst (λ n. LoadsBytes (or_usage n (λ count. cond (are_three_files recipe save report) (resume_files recipe save report count) usage)) files) (count-again steps counted) bytes)))))).1

module _ (recipe save report : List ℕ) (count steps : ℕ) (files : NamedFiles) (words : AreWords recipe save report files) (counted : IsStepCount steps) (at : IsSavedAt recipe save files count) where
  abbrev holds : Holds recipe at.parsed at.inputs files
  holds = record { bytes = at.bytes; recipe_held = at.recipe_held; reads = at.recipe_reads; inputs_held = at.inputs_held }

  abbrev case_of : is_input at.parsed report ≡ false → Case recipe save report
  case_of clash = record {
    words = three_apart recipe save report words.three;
    parsed = at.parsed;
    inputs = at.inputs;
    is = is_recipe recipe at.parsed at.inputs files holds;
    no_report = clash;
    no_save = words.apart at.bytes at.parsed at.recipe_held at.recipe_reads;
  }

  -- the piece, if the inputs are bytes wherever the report is none of them
  piece_after : (is_input at.parsed report ≡ false → IsInputs at.parsed at.inputs) → Pieces recipe save report files (count + steps) (resume recipe save report steps files)
  piece_after given = by (is_input at.parsed report) refl where
    by : (clash : Bool) → is_input at.parsed report ≡ clash → Pieces recipe save report files (count + steps) (resume recipe save report steps files)
    by true clash =
        inr (alike report (resume recipe save report steps files) (audit recipe report files)
        (resume_opens recipe save report files words.three at.parsed at.inputs holds true clash steps counted
        ∙ sym (audit_opens recipe save report files words.three at.parsed at.inputs holds true clash)))
    by false clash =
        let c : Case recipe save report = case_of clash in
        let comes = resumes_at recipe save report c files (given clash) holds count at.position at.current at.save_held steps counted in
        piece_of recipe save report c files (count + steps) (resume recipe save report steps files)
        (audit_opens recipe save report files words.three at.parsed at.inputs holds false clash
        ∙ inputs_open recipe at.parsed at.inputs files holds (λ inputs. audited at.parsed report (bench at.parsed inputs)))
        (subst (Settles recipe save report c (whole_save at.parsed at.inputs) files (count + steps)) (sym comes)
        (settles recipe save report c files files holds refl (whole_save at.parsed at.inputs) (count + steps) (position at.parsed at.inputs (count + steps)) refl))

pub resumes : (recipe save report : List ℕ) (count steps : ℕ) (files : NamedFiles) → AreWords recipe save report files → IsStepCount steps
    → LoadsBytes (plan_of (codes "audit" ∷ recipe ∷ report ∷ [])) files → IsSavedAt recipe save files count → Pieces recipe save report files (count + steps) (resume recipe save report steps files)
resumes recipe save report count steps files words counted bytes at =
    piece_after recipe save report count steps files words counted at
    (λ clash. audit_loaded recipe report at.parsed at.inputs files (three_apart recipe save report words.three).two (holds recipe save report count steps files words counted at) clash bytes)

pub resumes_answered : (recipe save report : List ℕ) (count steps : ℕ) (files : NamedFiles) → AreWords recipe save report files → IsStepCount steps
    → LoadsBytes (plan_of (codes "resume" ∷ recipe ∷ save ∷ report ∷ decimal steps ∷ [])) files → (resume recipe save report steps files).status ≢ FileRefused
    → IsSavedAt recipe save files count → Pieces recipe save report files (count + steps) (resume recipe save report steps files)
resumes_answered recipe save report count steps files words counted bytes answered at =
    piece_after recipe save report count steps files words counted at
    (λ clash. resume_loaded recipe save report (case_of recipe save report count steps files words counted at clash) files (holds recipe save report count steps files words counted at)
    (text_of_save (save_of at.parsed at.inputs at.position)) at.save_held steps counted bytes answered)
