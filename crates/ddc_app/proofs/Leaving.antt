-- What the commands of an audit in pieces leave as it was: every name but that of the save or the patch and that of the report, and of these two the
-- one that is not written.
use Rattle.std.proofs.Common.{◌≡◌, ◌≢◌, ℕ, Bool, true, false, cond, IsTrue, Option, Some, None, List, [], ◌∷◌, decimal, refl, sym, ap, ◌∙◌}
use Rattle.std.specs.FinMap as finite
use Rattle.ddc_base.specs.Outside.{NamedFiles}
use Rattle.ddc_base.proofs.StoredFiles.{others-insert}
use Rattle.ddc_base.specs.Limits.{most_save}
use Rattle.recipe.specs.declared.contents.RecipeContents.{RecipeContents}
use Rattle.report.specs.Reports.{report_text}
use Rattle.report.specs.declared.types.CompareLine.{CompareLine}
use Rattle.audit_run.specs.Delta.Deltas.{delta_text_of}
use Rattle.audit_rules.specs.Positions.{Position, Phase, On, Over, forward, position}
use Rattle.audit_rules.specs.declared.answer.AuditAnswer.TheVariants.{Completes, Fails}
use Rattle.audit_rules.specs.declared.answer.StageFault.TheVariants.{Runs, Checks}
use Rattle.command_plan.specs.declared.status.Status.{Status}
use Rattle.command_plan.specs.declared.status.Status.TheVariants.{Paused, SaveRefused, Usage}
use Rattle.command_plan.specs.Plan.{Plan, Outcome, needs, outcome}
use Rattle.command_plan.specs.Texts.{usage_line}
use Rattle.command_plan.specs.Words.{are_four_files, are_three_files, as_steps, or_usage, usage}
use Rattle.recipe_plan.specs.Recipes.{needs_apart, needs_inputs, needs_recipe}
use Rattle.recipe_plan.specs.Reports.{compared_status}
use Rattle.audit_commands.specs.Audit.{completed}
use Rattle.audit_commands.specs.Delta.{delta_resume_files, delta_start_files, needs_position_relative, read_relative}
use Rattle.audit_commands.specs.Pause.{came_to, needs_position, part_files, paused, read_as, resume_files, whole_save}
use Rattle.audit_commands.specs.PauseTexts.{delta_refused_line, save_refused_line}
use Rattle.ddc_app.specs.Differences.{LeavesAllBut, after_save, delta_resume, delta_start, in_differences}
use Rattle.ddc_app.specs.Pausing.{LeavesOthers, LeavesUnwritten, in_pieces, in_turn, is_paused, part, resume}
use Rattle.ddc_app.proofs.Beginnings.{three_apart, three_of_four}
use Rattle.ddc_app.proofs.Loads.{not_equal}
use Rattle.ddc_app.proofs.Pieces.{never_paused}
use Rattle.ddc_app.proofs.Walks.{IsRefusal, both_need, both_need_apart, both_need_inputs, both_need_recipe, both_read, told}

-- ---- what holds of every answer that writes nothing, and of every place to which the audit comes, holds of both commands

module _ (recipe save report : List ℕ) (files : NamedFiles) (P : Outcome → Type 0) (unwritten : (status : Status) (text : List ℕ) → P (told files status text)) where
  -- the second outcome serves walks of two plans
  abbrev First : Outcome → Outcome → Type 0
  First o _ = P o

  refused : (status : Status) (text : List ℕ) → IsRefusal status → First (told files status text) (told files status text)
  refused status text refusal = unwritten status text

  abbrev Keeps : Plan → Type 0
  Keeps plan = P (outcome plan files)

  abbrev Comes : Type 0
  Comes = (parsed : RecipeContents) (kept : Position → List ℕ) (current : Phase) → Keeps (came_to parsed kept save report current)

  recipe_keeps : (next : RecipeContents → Plan) → ((parsed : RecipeContents) → Keeps (next parsed)) → Keeps (needs_recipe recipe next)
  recipe_keeps next keeps = both_need_recipe First files refused recipe next next (λ bytes parsed held reads. keeps parsed)

  apart_keeps : (parsed : RecipeContents) (file : List ℕ) (next : Unit {0} → Plan) → Keeps (next tt) → Keeps (needs_apart parsed file next)
  apart_keeps parsed file next keeps = both_need_apart First files refused parsed file next next (λ apart. keeps)

  inputs_keep : (parsed : RecipeContents) (next : List (List ℕ) → Plan) → ((inputs : List (List ℕ)) → Keeps (next inputs)) → Keeps (needs_inputs parsed next)
  inputs_keep parsed next keeps = both_need_inputs First files refused parsed next next (λ inputs held. keeps inputs)

  load_keeps : (name : List ℕ) (next : List ℕ → Plan) → ((text : List ℕ) → Keeps (next text)) → Keeps (needs name most_save next)
  load_keeps name next keeps = both_need First files refused name most_save next next (λ text held. keeps text)

  position_keeps : (parsed : RecipeContents) (inputs : List (List ℕ)) (text : List ℕ) (next : Position → Plan) → ((p : Position) → Keeps (next p)) → Keeps (needs_position parsed inputs text next)
  position_keeps parsed inputs text next keeps = both_read First files refused (read_as parsed inputs text) SaveRefused save_refused_line next next (refl, refl) (λ p reads. keeps p)

  relative_keeps : (parsed : RecipeContents) (inputs : List (List ℕ)) (base : Position) (text : List ℕ) (next : Position → Plan) → ((p : Position) → Keeps (next p))
      → Keeps (needs_position_relative parsed inputs base text next)
  relative_keeps parsed inputs base text next keeps =
      both_read First files refused (read_relative parsed inputs base text) SaveRefused delta_refused_line next next (refl, refl) (λ p reads. keeps p)

  part_keeps : Comes → (n : ℕ) → Keeps (part_files recipe save report n)
  unfolding part_files
  part_keeps came n = recipe_keeps _ (λ parsed. apart_keeps parsed report _ (apart_keeps parsed save _ (inputs_keep parsed _ (λ inputs. came parsed (whole_save parsed inputs) (position parsed inputs n)))))

  resume_keeps : Comes → (n : ℕ) → Keeps (resume_files recipe save report n)
  unfolding resume_files
  resume_keeps came n =
      let last : RecipeContents → List (List ℕ) → Position → Plan = λ parsed inputs p. came_to parsed (whole_save parsed inputs) save report (forward parsed inputs p n) in
      let placed : RecipeContents → List ℕ → List (List ℕ) → Plan = λ parsed text inputs. needs_position parsed inputs text (last parsed inputs) in
      let found : RecipeContents → List ℕ → Plan = λ parsed text. needs_inputs parsed (placed parsed text) in
      recipe_keeps _ (λ parsed. apart_keeps parsed report _ (apart_keeps parsed save _ (load_keeps save (found parsed) (λ text. inputs_keep parsed (placed parsed text) (λ inputs.
      position_keeps parsed inputs text (last parsed inputs) (λ p. came parsed (whole_save parsed inputs) (forward parsed inputs p n)))))))

  worded : (next : ℕ → Plan) (word : Option ℕ) (good : Bool) → (IsTrue good → (n : ℕ) → Keeps (next n)) → Keeps (or_usage word (λ n. cond good (next n) usage))
  worded next None good keeps = unwritten Usage usage_line
  worded next (Some n) false keeps = unwritten Usage usage_line
  worded next (Some n) true keeps = keeps refl n

  part_leaves : (IsTrue (are_three_files recipe save report) → Comes) → (steps : ℕ) → P (part recipe save report steps files)
  part_leaves came steps =
      worded (part_files recipe save report) (as_steps (decimal steps)) (are_three_files recipe save report) (λ three. part_keeps (came three))

  resume_leaves : (IsTrue (are_three_files recipe save report) → Comes) → (steps : ℕ) → P (resume recipe save report steps files)
  resume_leaves came steps =
      worded (resume_files recipe save report) (as_steps (decimal steps)) (are_three_files recipe save report) (λ three. resume_keeps (came three))

  module _ (base : List ℕ) where
    delta_start_keeps : Comes → (n : ℕ) → Keeps (delta_start_files recipe base save report n)
    unfolding delta_start_files
    delta_start_keeps came n =
        let last : RecipeContents → List (List ℕ) → Position → Plan = λ parsed inputs b. came_to parsed (delta_text_of parsed inputs b) save report (forward parsed inputs b n) in
        let placed : RecipeContents → List ℕ → List (List ℕ) → Plan = λ parsed text inputs. needs_position parsed inputs text (last parsed inputs) in
        let found : RecipeContents → List ℕ → Plan = λ parsed text. needs_inputs parsed (placed parsed text) in
        recipe_keeps _ (λ parsed. apart_keeps parsed report _ (apart_keeps parsed base _ (apart_keeps parsed save _ (load_keeps base (found parsed) (λ text.
        inputs_keep parsed (placed parsed text) (λ inputs. position_keeps parsed inputs text (last parsed inputs) (λ b.
        came parsed (delta_text_of parsed inputs b) (forward parsed inputs b n))))))))

    delta_resume_keeps : Comes → (n : ℕ) → Keeps (delta_resume_files recipe base save report n)
    unfolding delta_resume_files
    delta_resume_keeps came n =
        let last : RecipeContents → List (List ℕ) → Position → Position → Plan = λ parsed inputs b p. came_to parsed (delta_text_of parsed inputs b) save report (forward parsed inputs p n) in
        let relative : RecipeContents → List ℕ → List (List ℕ) → Position → Plan = λ parsed delta inputs b. needs_position_relative parsed inputs b delta (last parsed inputs b) in
        let placed : RecipeContents → List ℕ → List ℕ → List (List ℕ) → Plan = λ parsed text delta inputs. needs_position parsed inputs text (relative parsed delta inputs) in
        let found : RecipeContents → List ℕ → List ℕ → Plan = λ parsed text delta. needs_inputs parsed (placed parsed text delta) in
        recipe_keeps _ (λ parsed. apart_keeps parsed report _ (apart_keeps parsed base _ (apart_keeps parsed save _
        (load_keeps base (λ text. needs save most_save (found parsed text)) (λ text. load_keeps save (found parsed text) (λ delta.
        inputs_keep parsed (placed parsed text delta) (λ inputs. position_keeps parsed inputs text (relative parsed delta inputs) (λ b.
        relative_keeps parsed inputs b delta (last parsed inputs b) (λ p. came parsed (delta_text_of parsed inputs b) (forward parsed inputs p n))))))))))

    delta_start_leaves : (IsTrue (are_four_files recipe base save report) → Comes) → (steps : ℕ) → P (delta_start recipe base save report steps files)
    delta_start_leaves came steps =
        worded (delta_start_files recipe base save report) (as_steps (decimal steps)) (are_four_files recipe base save report) (λ four. delta_start_keeps (came four))

    delta_resume_leaves : (IsTrue (are_four_files recipe base save report) → Comes) → (steps : ℕ) → P (delta_resume recipe base save report steps files)
    delta_resume_leaves came steps =
        worded (delta_resume_files recipe base save report) (as_steps (decimal steps)) (are_four_files recipe base save report) (λ four. delta_resume_keeps (came four))

-- ---- other names

module _ (recipe save report : List ℕ) (files : NamedFiles) (name : List ℕ) (no_save : name ≢ save) (no_report : name ≢ report) where
  abbrev Stays : Outcome → Type 0
  Stays o = finite.get o.files name ≡ finite.get files name

  stays : (parsed : RecipeContents) (kept : Position → List ℕ) (current : Phase) → Stays (outcome (came_to parsed kept save report current) files)
  unfolding paused completed
  stays parsed kept (On p) = (others-insert files save (kept p)).others name no_save
  stays parsed kept (Over (Completes made)) = (others-insert files report (report_text made)).others name no_report
  stays parsed kept (Over (Fails number (Runs cause step))) = refl
  stays parsed kept (Over (Fails number (Checks cause))) = refl

pub part_stays : (recipe save report : List ℕ) (steps : ℕ) (files : NamedFiles) → LeavesOthers save report files (part recipe save report steps files)
part_stays recipe save report steps files name no_save no_report =
    part_leaves recipe save report files (Stays recipe save report files name no_save no_report) (λ status text. refl)
    (λ three. stays recipe save report files name no_save no_report) steps

pub resume_stays : (recipe save report : List ℕ) (steps : ℕ) (files : NamedFiles) → LeavesOthers save report files (resume recipe save report steps files)
resume_stays recipe save report steps files name no_save no_report =
    resume_leaves recipe save report files (Stays recipe save report files name no_save no_report) (λ status text. refl)
    (λ three. stays recipe save report files name no_save no_report) steps

pub delta_start_stays : (recipe base patch report : List ℕ) (steps : ℕ) (files : NamedFiles) → LeavesOthers patch report files (delta_start recipe base patch report steps files)
delta_start_stays recipe base patch report steps files name no_patch no_report =
    delta_start_leaves recipe patch report files (Stays recipe patch report files name no_patch no_report) (λ status text. refl) base
    (λ four. stays recipe patch report files name no_patch no_report) steps

pub delta_resume_stays : (recipe base patch report : List ℕ) (steps : ℕ) (files : NamedFiles) → LeavesOthers patch report files (delta_resume recipe base patch report steps files)
delta_resume_stays recipe base patch report steps files name no_patch no_report =
    delta_resume_leaves recipe patch report files (Stays recipe patch report files name no_patch no_report) (λ status text. refl) base
    (λ four. stays recipe patch report files name no_patch no_report) steps

-- what each command keeps of the files, all of them in turn keep
module _ (Kept : NamedFiles → Type 0) where
  either_keeps : (b : Bool) (later piece : Outcome) → Kept later.files → Kept piece.files → Kept (cond b later piece).files
  either_keeps true later piece after before = after
  either_keeps false later piece after before = before

  in_turn_keeps : (next : ℕ → NamedFiles → Outcome) → ((steps : ℕ) (files : NamedFiles) → Kept files → Kept (next steps files).files) → (counts : List ℕ) (piece : Outcome)
      → Kept piece.files → Kept (in_turn next piece counts).files
  in_turn_keeps next keeps [] piece held = held
  in_turn_keeps next keeps (steps ∷ counts) piece held =
      either_keeps (is_paused piece.status) (in_turn next (next steps piece.files) counts) piece
      (in_turn_keeps next keeps counts (next steps piece.files) (keeps steps piece.files held)) held

-- every name but these is as in other files
abbrev Others : (save report : List ℕ) → NamedFiles → NamedFiles → Type 0
Others save report files now = (name : List ℕ) → name ≢ save → name ≢ report → finite.get now name ≡ finite.get files name

abbrev AllBut : (base patch report : List ℕ) → NamedFiles → NamedFiles → Type 0
AllBut base patch report files now = (name : List ℕ) → name ≢ base → name ≢ patch → name ≢ report → finite.get now name ≡ finite.get files name

pub pieces_stay : (recipe save report : List ℕ) (steps : ℕ) (counts : List ℕ) (files : NamedFiles) → LeavesOthers save report files (in_pieces recipe save report steps counts files)
pieces_stay recipe save report steps counts files =
    in_turn_keeps (Others save report files) (resume recipe save report)
    (λ more now leaves name no_save no_report. resume_stays recipe save report more now name no_save no_report ∙ leaves name no_save no_report)
    counts (part recipe save report steps files) (part_stays recipe save report steps files)

-- by differences also the base is changed, by the first piece
after_stay : (recipe base patch report : List ℕ) (files : NamedFiles) (counts : List ℕ) (piece : Outcome) → AllBut base patch report files piece.files
    → AllBut base patch report files (after_save recipe base patch report piece counts).files
after_stay recipe base patch report files [] piece leaves = leaves
after_stay recipe base patch report files (steps ∷ counts) piece leaves =
    let first : Outcome = delta_start recipe base patch report steps piece.files in
    either_keeps (AllBut base patch report files) (is_paused piece.status) (in_turn (delta_resume recipe base patch report) first counts) piece
    (in_turn_keeps (AllBut base patch report files) (delta_resume recipe base patch report)
    (λ more now stays name no_base no_patch no_report. delta_resume_stays recipe base patch report more now name no_patch no_report ∙ stays name no_base no_patch no_report) counts first
    (λ name no_base no_patch no_report. delta_start_stays recipe base patch report steps piece.files name no_patch no_report ∙ leaves name no_base no_patch no_report))
    leaves

pub differences_stay : (recipe base patch report : List ℕ) (steps : ℕ) (counts : List ℕ) (files : NamedFiles)
    → LeavesAllBut base patch report files (in_differences recipe base patch report steps counts files)
differences_stay recipe base patch report steps counts files =
    after_stay recipe base patch report files counts (part recipe base report steps files)
    (λ name no_base no_patch no_report. part_stays recipe base report steps files name no_base no_report)

-- ---- the one that is not written

no_pause : (lines : List CompareLine) → compared_status lines ≢ Paused
no_pause lines = λ is. let both : false ≡ true = sym (never_paused lines) ∙ ap is_paused is in absurd cc

module _ (recipe save report : List ℕ) (files : NamedFiles) where
  unwritten : (status : Status) (text : List ℕ) → LeavesUnwritten save report files (told files status text)
  unwritten status text = record { report_stays = λ _. refl; save_stays = λ _. refl }

  comes : IsTrue (are_three_files recipe save report) → (parsed : RecipeContents) (kept : Position → List ℕ) (current : Phase)
      → LeavesUnwritten save report files (outcome (came_to parsed kept save report current) files)
  unfolding paused completed
  comes three parsed kept (On p) =
      let apart = not_equal save report (three_apart recipe save report three).save_report in
      record {
        report_stays = λ _. (others-insert files save (kept p)).others report (λ same. apart (sym same));
        save_stays = λ no. absurd (no refl);
      }
  comes three parsed kept (Over (Completes made)) =
      let apart = not_equal save report (three_apart recipe save report three).save_report in
      record {
        report_stays = λ is. absurd (no_pause made.compare is);
        save_stays = λ _. (others-insert files report (report_text made)).others save apart;
      }
  comes three parsed kept (Over (Fails number (Runs cause step))) = record { report_stays = λ _. refl; save_stays = λ _. refl }
  comes three parsed kept (Over (Fails number (Checks cause))) = record { report_stays = λ _. refl; save_stays = λ _. refl }

  pub part_writes : (steps : ℕ) → LeavesUnwritten save report files (part recipe save report steps files)
  part_writes steps = part_leaves recipe save report files (LeavesUnwritten save report files) unwritten comes steps

  pub resume_writes : (steps : ℕ) → LeavesUnwritten save report files (resume recipe save report steps files)
  resume_writes steps = resume_leaves recipe save report files (LeavesUnwritten save report files) unwritten comes steps

  module _ (base : List ℕ) where
    pub delta_start_writes : (steps : ℕ) → LeavesUnwritten save report files (delta_start recipe base save report steps files)
    delta_start_writes steps =
        delta_start_leaves recipe save report files (LeavesUnwritten save report files) unwritten base (λ four. comes (three_of_four recipe base save report four)) steps

    pub delta_resume_writes : (steps : ℕ) → LeavesUnwritten save report files (delta_resume recipe base save report steps files)
    delta_resume_writes steps =
        delta_resume_leaves recipe save report files (LeavesUnwritten save report files) unwritten base (λ four. comes (three_of_four recipe base save report four)) steps

is_pause : (status : Status) → is_paused status ≡ true → status ≡ Paused
is_pause Paused is = refl
is_pause _ is = absurd cc

resumed_wait : (recipe save report : List ℕ) (files : NamedFiles) (counts : List ℕ) (piece : Outcome) → (piece.status ≡ Paused → finite.get piece.files report ≡ finite.get files report)
    → (in_turn (resume recipe save report) piece counts).status ≡ Paused → finite.get (in_turn (resume recipe save report) piece counts).files report ≡ finite.get files report
resumed_wait recipe save report files [] piece before = before
resumed_wait recipe save report files (steps ∷ counts) piece before =
    by (is_paused piece.status) refl (λ was. resumed_wait recipe save report files counts (resume recipe save report steps piece.files)
    (λ again. (resume_writes recipe save report piece.files steps).report_stays again ∙ before was)) where
      later : Outcome
      later = in_turn (resume recipe save report) (resume recipe save report steps piece.files) counts

      by : (b : Bool) → is_paused piece.status ≡ b → (piece.status ≡ Paused → later.status ≡ Paused → finite.get later.files report ≡ finite.get files report)
          → (cond b later piece).status ≡ Paused → finite.get (cond b later piece).files report ≡ finite.get files report
      by true is waits = waits (is_pause piece.status is)
      by false is waits = before

pub pieces_wait : (recipe save report : List ℕ) (steps : ℕ) (counts : List ℕ) (files : NamedFiles) → (in_pieces recipe save report steps counts files).status ≡ Paused
    → finite.get (in_pieces recipe save report steps counts files).files report ≡ finite.get files report
pieces_wait recipe save report steps counts files =
    resumed_wait recipe save report files counts (part recipe save report steps files) (part_writes recipe save report files steps).report_stays
