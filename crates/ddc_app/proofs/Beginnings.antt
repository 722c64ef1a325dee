-- How a piece of an audit begins beside the undivided audit: both are refused alike, or a recipe and its inputs are found.
use Rattle.std.proofs.Common.{◌≡◌, ℕ, Bool, true, false, cond, IsTrue, ◌&&◌, ◌⊎◌, inl, inr, Ok, List, [], ◌∷◌, codes, decimal, refl, sym, ap, ◌∙◌, subst}
use Rattle.std.proofs.lemmas.Bool.{and_parts}
use Rattle.ddc_base.specs.declared.outside.Loaded.TheVariants.{Bytes}
use Rattle.ddc_base.specs.Outside.{NamedFiles, loaded}
use Rattle.ddc_base.specs.Limits.{most_recipe}
use Rattle.recipe.proofs.Keeps.{reads_keep}
use Rattle.recipe.specs.Kept.{IsRecipe}
use Rattle.recipe.specs.Reading.{recipe_of}
use Rattle.recipe.specs.declared.contents.RecipeContents.{RecipeContents}
use Rattle.audit_rules.specs.Bench.{bench}
use Rattle.audit_rules.specs.Positions.{position}
use Rattle.audit_rules.specs.Valid.{IsInputs}
use Rattle.command_plan.specs.declared.status.Status.{Status}
use Rattle.command_plan.specs.Plan.{LoadsBytes, Plan, Outcome, outcome}
use Rattle.command_plan.specs.Words.{are_four_files, are_three_files, are_two_files, as_steps, is_one_file, or_usage, usage}
use Rattle.recipe_plan.specs.Recipes.{is_input, needs_apart, needs_inputs}
use Rattle.audit_commands.specs.Audit.{audit_files, audited}
use Rattle.audit_commands.specs.Pause.{came_to, part_files, whole_save}
use Rattle.ddc_app.specs.Accepting.{audit}
use Rattle.ddc_app.specs.Commands.{plan_of}
use Rattle.ddc_app.specs.Pausing.{AreWords, IsStepCount, part}
use Rattle.ddc_app.proofs.CountWords.{count-again}
use Rattle.ddc_app.proofs.Loads.{two_apart}
use Rattle.ddc_app.proofs.Openings.{Holds, apart_loads, apart_opens, are_loaded, recipe_loads}
use Rattle.ddc_app.proofs.Walks.{IsRefusal, both_need_apart, both_need_inputs, both_need_recipe, told}

-- ---- the words

-- three words that name three files
pub record Apart (recipe save report : List ℕ) : Type 0 where
  pub three : IsTrue (are_three_files recipe save report)
  pub two : are_two_files recipe report ≡ true
  pub recipe_save : is_one_file recipe save ≡ false
  pub recipe_report : is_one_file recipe report ≡ false
  pub save_report : is_one_file save report ≡ false

pub three_apart : (recipe save report : List ℕ) → IsTrue (are_three_files recipe save report) → Apart recipe save report
three_apart recipe save report three =
    let last = and_parts (are_two_files recipe save && are_two_files recipe report) (are_two_files save report) three in
    let both = and_parts (are_two_files recipe save) (are_two_files recipe report) last.0 in
    record {
      three = three;
      two = both.1;
      recipe_save = two_apart recipe save both.0;
      recipe_report = two_apart recipe report both.1;
      save_report = two_apart save report last.1;
    }

-- of four words that name four files: the three with the patch, the three with the base, and these two apart
pub record FourApart (recipe base patch report : List ℕ) : Type 0 where
  pub with_base : IsTrue (are_three_files recipe base report)
  pub with_patch : IsTrue (are_three_files recipe patch report)
  pub apart : IsTrue (are_two_files base patch)

pub four_apart : (recipe base patch report : List ℕ) → IsTrue (are_four_files recipe base patch report) → FourApart recipe base patch report
unfolding are_four_files
four_apart recipe base patch report four =
    let last = and_parts (are_three_files recipe base report && are_three_files recipe patch report) (are_two_files base patch) four in
    let both = and_parts (are_three_files recipe base report) (are_three_files recipe patch report) last.0 in
    record { with_base = both.0; with_patch = both.1; apart = last.1 }

pub four_of : (recipe base patch report : List ℕ) → IsTrue (are_three_files recipe base report) → IsTrue (are_three_files recipe patch report) → IsTrue (are_two_files base patch)
    → IsTrue (are_four_files recipe base patch report)
unfolding are_four_files
four_of recipe base patch report with_base with_patch apart =
    by (are_three_files recipe base report) (are_three_files recipe patch report) (are_two_files base patch) with_base with_patch apart where
      by : (first second third : Bool) → IsTrue first → IsTrue second → IsTrue third → IsTrue (first && second && third)
      by true true true a b c = refl
      by true true false a b c = c
      by true false third a b c = absurd cc
      by false second third a b c = absurd cc

pub three_of_four : (recipe base patch report : List ℕ) → IsTrue (are_four_files recipe base patch report) → IsTrue (are_three_files recipe patch report)
three_of_four recipe base patch report four = (four_apart recipe base patch report four).with_patch

-- words that are good lead to a command's plan
pub with_words : (good : Bool) (steps : ℕ) (next : ℕ → Plan) (files : NamedFiles) → IsTrue good → IsStepCount steps
    → outcome (or_usage (as_steps (decimal steps)) (λ count. cond good (next count) usage)) files ≡ outcome (next steps) files
with_words good steps next files is count =
    ap (λ n. outcome (or_usage n (λ count. cond good (next count) usage)) files) (count-again steps count)
    ∙ ap (λ g. outcome (cond g (next steps) usage) files) is

-- ---- what is loaded

-- the inputs are bytes where the loads of `audit` find bytes
pub audit_loaded : (recipe report : List ℕ) (parsed : RecipeContents) (inputs : List (List ℕ)) (files : NamedFiles) → are_two_files recipe report ≡ true → Holds recipe parsed inputs files
    → is_input parsed report ≡ false → LoadsBytes (plan_of (codes "audit" ∷ recipe ∷ report ∷ [])) files → IsInputs parsed inputs
unfolding audit_files
audit_loaded recipe report parsed inputs files two h apart bytes =
    let last : List (List ℕ) → Plan = λ contents. audited parsed report (bench parsed contents) in
    are_loaded recipe parsed inputs files h last
    (apart_loads parsed report (λ _. needs_inputs parsed last) files apart
    (recipe_loads recipe parsed inputs files h (λ s. needs_apart s report (λ _. needs_inputs s (λ contents. audited s report (bench s contents))))
    (subst (λ good. LoadsBytes (cond good (audit_files recipe report) usage) files) two bytes)))

-- ---- the first piece

-- the audit of a recipe and its inputs, by words that name three files of which neither the save nor the report is an input
pub record Case (recipe save report : List ℕ) : Type 0 where
  pub words : Apart recipe save report
  pub parsed : RecipeContents
  pub inputs : List (List ℕ)
  pub is : IsRecipe parsed
  pub no_report : is_input parsed report ≡ false
  pub no_save : is_input parsed save ≡ false

pub record Refused (piece whole : Outcome) : Type 0 where
  pub same : piece ≡ whole
  pub refusal : IsRefusal piece.status

pub record Begun (recipe save report : List ℕ) (files : NamedFiles) (steps : ℕ) (piece whole : Outcome) : Type 0 where
  pub c : Case recipe save report
  pub holds : Holds recipe c.parsed c.inputs files
  pub comes : piece ≡ outcome (came_to c.parsed (whole_save c.parsed c.inputs) save report (position c.parsed c.inputs steps)) files
  pub answers : whole ≡ outcome (audited c.parsed report (bench c.parsed c.inputs)) files

module _ (recipe save report : List ℕ) (steps : ℕ) (files : NamedFiles) where
  abbrev pub Begins : Outcome → Outcome → Type 0
  Begins piece whole = Refused piece whole ⊎ Begun recipe save report files steps piece whole

  refused : (status : Status) (text : List ℕ) → IsRefusal status → Begins (told files status text) (told files status text)
  refused status text refusal = inl (record { same = refl; refusal = refusal })

  piece_from : RecipeContents → List (List ℕ) → Plan
  piece_from parsed inputs = came_to parsed (whole_save parsed inputs) save report (position parsed inputs steps)

  whole_from : RecipeContents → List (List ℕ) → Plan
  whole_from parsed inputs = audited parsed report (bench parsed inputs)

  begins_apart : AreWords recipe save report files → (bytes : List ℕ) (parsed : RecipeContents) → loaded files recipe most_recipe ≡ Bytes bytes → recipe_of bytes ≡ Ok parsed → is_input parsed report ≡ false
      → Begins (outcome (needs_apart parsed save (λ _. needs_inputs parsed (piece_from parsed))) files) (outcome (needs_inputs parsed (whole_from parsed)) files)
  unfolding piece_from whole_from
  begins_apart words bytes parsed held reads no_report =
      let no_save : is_input parsed save ≡ false = words.apart bytes parsed held reads in
      subst (λ (piece : Outcome). Begins piece (outcome (needs_inputs parsed (whole_from parsed)) files))
      (sym (apart_opens parsed save (λ _. needs_inputs parsed (piece_from parsed)) files false no_save))
      (both_need_inputs Begins files refused parsed (piece_from parsed) (whole_from parsed) (λ inputs inputs_held. inr (record {
        c = record { words = three_apart recipe save report words.three; parsed = parsed; inputs = inputs; is = reads_keep bytes parsed reads; no_report = no_report; no_save = no_save };
        holds = record { bytes = bytes; recipe_held = held; reads = reads; inputs_held = inputs_held };
        comes = refl;
        answers = refl;
      })))

  begins_files : AreWords recipe save report files → Begins (outcome (part_files recipe save report steps) files) (outcome (audit_files recipe report) files)
  unfolding part_files audit_files piece_from whole_from
  begins_files words =
      both_need_recipe Begins files refused recipe (λ parsed. needs_apart parsed report (λ _. needs_apart parsed save (λ _. needs_inputs parsed (piece_from parsed))))
      (λ parsed. needs_apart parsed report (λ _. needs_inputs parsed (whole_from parsed)))
      (λ bytes parsed held reads. both_need_apart Begins files refused parsed report (λ _. needs_apart parsed save (λ _. needs_inputs parsed (piece_from parsed)))
      (λ _. needs_inputs parsed (whole_from parsed)) (λ no_report. begins_apart words bytes parsed held reads no_report))

  pub begins : AreWords recipe save report files → IsStepCount steps → Begins (part recipe save report steps files) (audit recipe report files)
  begins words count =
      let two : outcome (cond (are_two_files recipe report) (audit_files recipe report) usage) files ≡ outcome (audit_files recipe report) files =
      ap (λ two. outcome (cond two (audit_files recipe report) usage) files) (three_apart recipe save report words.three).two in
      subst (λ (p : Outcome). Begins p (audit recipe report files)) (sym (with_words (are_three_files recipe save report) steps (part_files recipe save report) files words.three count))
      (subst (λ (w : Outcome). Begins (outcome (part_files recipe save report steps) files) w) (sym two) (begins_files words))

-- the inputs are bytes where its loads find bytes
pub part_loaded : (recipe save report : List ℕ) (steps : ℕ) (files : NamedFiles) (piece whole : Outcome) → IsStepCount steps → (b : Begun recipe save report files steps piece whole)
    → LoadsBytes (plan_of (codes "part" ∷ recipe ∷ save ∷ report ∷ decimal steps ∷ [])) files → IsInputs b.c.parsed b.c.inputs
unfolding part_files
part_loaded recipe save report steps files piece whole counted b bytes =
    let three : IsTrue (are_three_files recipe save report) = b.c.words.three in
    let parsed : RecipeContents = b.c.parsed in
    let last : List (List ℕ) → Plan = λ inputs. came_to parsed (whole_save parsed inputs) save report (position parsed inputs steps) in
    are_loaded recipe parsed b.c.inputs files b.holds last
    (apart_loads parsed save (λ _. needs_inputs parsed last) files b.c.no_save
    (apart_loads parsed report (λ _. needs_apart parsed save (λ _. needs_inputs parsed last)) files b.c.no_report
    (recipe_loads recipe parsed b.c.inputs files b.holds (λ s. needs_apart s report (λ _. needs_apart s save (λ _. needs_inputs s (λ inputs.
    came_to s (whole_save s inputs) save report (position s inputs steps)))))
    (subst (λ good. LoadsBytes (cond good (part_files recipe save report steps) usage) files) three
    (subst (λ n. LoadsBytes (or_usage n (λ count. cond (are_three_files recipe save report) (part_files recipe save report count) usage)) files) (count-again steps counted) bytes)))))
