-- Each text has one answer as a save, since what the rules ask of it is decided by tests.
use Rattle.std.proofs.Common.{◌≡◌, ◌≢◌, ℕ, ◌^◌, List, [], ◌∷◌, length, map, Result, Ok, Err, Contains, refl, sym, ap, ◌∙◌, subst₂}
use Rattle.std.specs.Bool.{Decides}
use Rattle.std.specs.List.{list_any}
use Rattle.std.proofs.lemmas.Bool.Decides.{Decides-by_or, Decides-eqb, Decides-like, Decides-ltb}
use Rattle.std.proofs.lemmas.List.Elements.{Decides-contains}
use Rattle.std.proofs.lemmas.Slice.Eq.{bytes_eq-Decides}
use Rattle.checkpoints.proofs.Decisions.{are_all, both, by_case, chosen, is_at_most, is_test, passed}
use Rattle.checkpoints.proofs.Decided.{are_bytes, is_content, is_in_range, is_joined}
use Rattle.ddc_base.specs.declared.digests.Digest.{Digest}
use Rattle.ddc_base.specs.Limits.{most_artefacts, most_names}
use Rattle.mem_files.specs.Names.{is_stripped_name}
use Rattle.recipe.specs.declared.contents.RecipeContents.{RecipeContents}
use Rattle.recipe.specs.declared.parts.Output.{Output}
use Rattle.recipe.specs.declared.parts.Output.TheVariants.{Stream, File}
use Rattle.recipe.specs.declared.parts.Stage.{Stage}
use Rattle.report.specs.declared.types.LeftLine.{LeftLine}
use Rattle.report.specs.declared.types.Mark.{Mark}
use Rattle.report.specs.Reports.{ascend}
use Rattle.save_format.specs.SaveText.{SaveText, parsed_save}
use Rattle.audit_rules.specs.declared.answer.Finished.{Finished}
use Rattle.audit_rules.specs.Positions.{Position, todo}
use Rattle.report.specs.Marks.{mark_of}
use Rattle.audit_rules.specs.Stages.{artefact_bytes}
use Rattle.audit_rules.specs.Valid.{AreDone, AreFinished, HasMark, IsFinished, IsLeftLine, IsSmallMark}
use Rattle.audit_run.specs.Save.Inside.Tests as test
use Rattle.audit_run.specs.Save.Judged.{judged, judged_as}
use Rattle.audit_run.specs.Save.Saves.{SaveAnswer, IsOf, IsSavedPosition, IsSavedPositionIn, Resumes, digest_of, done_in}
use Rattle.audit_run.specs.declared.save.reading.SaveRefusal.{SaveRefusal}
use Rattle.audit_run.specs.declared.save.reading.SaveRefusal.TheVariants.{Form, OtherRecipe, State, OutOfMemory}

-- marks

same_digest : (a b : Digest) → Decides (test.same_digest a b) (a ≡ b)
same_digest a b = Decides-like _ (λ e i. record { 0 = e i }) (λ e. cc) (bytes_eq-Decides a.0 b.0)

same_digests : (xs ys : List Digest) → Decides (test.same_digests xs ys) (xs ≡ ys)
same_digests [] [] = (λ t. refl, λ e. refl)
same_digests [] (b ∷ others) = (λ t. cc, λ e. cc)
same_digests (a ∷ rest) [] = (λ t. cc, λ e. cc)
same_digests (a ∷ rest) (b ∷ others) = Decides-like _ (λ h. cc) (λ e. (cc, cc)) (both (same_digest a b) (same_digests rest others))

same_mark : (a b : Mark) → Decides (test.same_mark a b) (a ≡ b)
same_mark a b = Decides-like _ (λ h i. record { length = h.0 i; digest = h.1 i }) (λ e. (cc, cc)) (both (Decides-eqb a.length b.length) (same_digest a.digest b.digest))

same_line : (a b : LeftLine) → Decides (test.same_line a b) (a ≡ b)
same_line a b = Decides-like _ (λ h i. record { name = h.0 i; mark = h.1 i }) (λ e. (cc, cc)) (both (bytes_eq-Decides a.name b.name) (same_mark a.mark b.mark))

is_small_mark : (mark : Mark) → Decides (test.is_small_mark mark) (IsSmallMark mark)
is_small_mark mark =
    Decides-like _ (λ h. record { length = h.0; digest = assumption }) (λ h. assumption)
    (both (Decides-ltb mark.length (2 ^ 32)) (both (Decides-eqb (length mark.digest.0) 32) (are_bytes mark.digest.0)))

-- stages that are done

is_left_line : (file : LeftLine) → Decides (test.is_left_line file) (IsLeftLine file)
is_left_line file =
    Decides-like _ (λ h. assumption) (λ h. assumption) (both (is_test (is_stripped_name file.name)) (both (are_bytes file.name) (is_small_mark file.mark)))

has_line : (line : LeftLine) (lines : List LeftLine) → Decides (list_any (λ other. test.same_line other line) lines) (Contains lines line)
has_line line lines =
    Decides-contains lines line _ (Decides-by_or (λ other. test.same_line other line) (λ other. other ≡ line) (list_any (λ other. test.same_line other line)) (λ other. same_line other line) refl (λ other rest. refl) lines)

has_mark : (output : Output) (f : Finished) → Decides (test.has_mark output f) (HasMark output f)
has_mark Stream f = same_mark f.stream1 (mark_of f.made)
has_mark (File path) f = has_line (record { name = path; mark = mark_of f.made }) f.left

is_finished : (stage : Stage) (f : Finished) → Decides (test.is_finished stage f) (IsFinished stage f)
unfolding test.is_finished
is_finished stage f =
    Decides-like _ (λ h. assumption) (λ h. assumption)
    (both (is_at_most 1 f.steps)
    (both (is_at_most f.steps stage.steps)
    (both (is_small_mark f.stream1)
    (both (is_small_mark f.stream2)
    (both (are_all is_left_line f.left)
    (both (is_at_most (length f.left) most_names) (both (is_test (ascend f.left)) (both (is_content f.made) (has_mark stage.output f)))))))))

are_finished : (stages : List Stage) (done : List Finished) → Decides (test.are_finished stages done) (AreFinished stages done)
are_finished stages [] = (λ t. tt, λ h. refl)
are_finished [] (f ∷ done) = (λ t. cc, λ h. absurd h)
are_finished (stage ∷ stages) (f ∷ done) = both (is_finished stage f) (are_finished stages done)

are_done : (recipe : RecipeContents) (done : List Finished) → Decides (test.are_done recipe done) (AreDone recipe done)
unfolding test.are_done
are_done recipe done =
    Decides-like _ (λ h. assumption) (λ h. assumption) (both (are_finished recipe.stages done) (is_at_most (artefact_bytes done) most_artefacts))

-- saves

pub is_of : (recipe : RecipeContents) (inputs : List (List ℕ)) (save : SaveText) → Decides (test.is_of recipe inputs save) (IsOf recipe inputs save)
unfolding test.is_of
is_of recipe inputs save =
    Decides-like _ (λ h. assumption) (λ h. assumption) (both (same_digest save.recipe recipe.digest) (same_digests save.inputs (map digest_of inputs)))

pub is_saved_position : (recipe : RecipeContents) (save : SaveText) → Decides (test.is_saved_position recipe save) (IsSavedPosition recipe save)
unfolding test.is_saved_position
is_saved_position recipe save = at (todo recipe (done_in save)) refl
  where
    at : (left : List Stage) → todo recipe (done_in save) ≡ left → Decides (test.is_saved_position_before recipe save left) (IsSavedPosition recipe save)
    at [] is = (λ t. cc, λ h. let other = h.2.left in cc)
    at (stage ∷ stages) is =
        Decides-like _ (λ h. (stage, stages, assumption)) (λ h. let other = h.2.left in let same : IsSavedPositionIn recipe save stage stages = subst₂ (IsSavedPositionIn recipe save) (cc) (cc) h.2 in assumption)
        (both (are_done recipe (done_in save))
        (both (is_in_range save.state)
        (both (is_joined save.state) (both (Decides-ltb save.state.steps stage.steps) (Decides-eqb save.state.heap.limit stage.heap)))))

-- texts

module _ (recipe : RecipeContents) (inputs : List (List ℕ)) (text : List ℕ) where
  abbrev IsAnswer : Result Position SaveRefusal → Type 0
  IsAnswer result = Resumes recipe inputs text result × (result ≢ Err OutOfMemory)

  judges : (parsed : Result SaveText ℕ) → parsed_save text ≡ parsed → IsAnswer (judged_as recipe inputs parsed)
  judges (Err offset) is = (is, λ e. cc)
  judges (Ok save) is =
      by_case IsAnswer (test.is_of recipe inputs save) (is_of recipe inputs save) _ _
      (λ of. by_case IsAnswer (test.is_saved_position recipe save) (is_saved_position recipe save) _ _ (λ position. ((save, is, of, position, refl), λ e. cc)) (λ not. ((save, is, of, not), λ e. cc)))
      (λ not. ((save, is, not), λ e. cc))

  pub is_resumed : Resumes recipe inputs text (judged recipe inputs text)
  unfolding judged
  is_resumed = (judges (parsed_save text) refl).0

  pub is_settled : judged recipe inputs text ≢ Err OutOfMemory
  unfolding judged
  is_settled = (judges (parsed_save text) refl).1

  abbrev pub answered : SaveAnswer recipe inputs text
  answered = record { result = judged recipe inputs text; resumes = is_resumed; settled = is_settled }

  pub is_answer : (result : Result Position SaveRefusal) → Resumes recipe inputs text result → result ≢ Err OutOfMemory → judged recipe inputs text ≡ result
  unfolding judged
  is_answer (Ok p) (save, is, of, position, same) settled =
      ap (judged_as recipe inputs) is ∙ chosen _ (is_of recipe inputs save) _ _ of ∙ chosen _ (is_saved_position recipe save) _ _ position ∙ ap Ok (sym same)
  is_answer (Err (Form offset)) is settled = ap (judged_as recipe inputs) is
  is_answer (Err OtherRecipe) (save, is, not) settled = ap (judged_as recipe inputs) is ∙ passed _ (is_of recipe inputs save) _ _ not
  is_answer (Err State) (save, is, of, not) settled = ap (judged_as recipe inputs) is ∙ chosen _ (is_of recipe inputs save) _ _ of ∙ passed _ (is_saved_position recipe save) _ _ not
  is_answer (Err OutOfMemory) resumes settled = absurd (settled refl)

  pub one_answer : (first second : SaveAnswer recipe inputs text) → first.result ≡ second.result
  one_answer first second = sym (is_answer first.result first.resumes first.settled) ∙ is_answer second.result second.resumes second.settled
