-- What a cut that comes to 0 leaves: the texts of the states along the run, and the end of the run after the last one.
use Rattle.std.proofs.Common.{◌≡◌, ◌≢◌, ℕ, zero, suc, ◌+◌, ◌*◌, ◌<◌, ◌≤◌, ◌^◌, Bool, true, false, cond, Option, Some, None, List, ◌∷◌, decimal, unwrap_or, refl, sym, ap, ◌∙◌, subst, arith}
use Rattle.std.specs.Prelude.{nat_lt, ◌==◌, Err}
use Rattle.std.specs.Cmp.Lexicographic.{nat_list_cmp_total}
use Rattle.std.specs.FinMap as finite
use Rattle.std.proofs.Math.Decide.{dec_lt}
use Rattle.std.proofs.Math.Nat.{suc-mul}
use Rattle.std.proofs.lemmas.Bool.Decides.{Decides-eqb, Decides-ltb}
use Rattle.std.proofs.lemmas.Fmt.{decimal_injective}
use Rattle.std.proofs.lemmas.List.{append_cancel_left}
use Rattle.std.proofs.lemmas.Map.Text.{is_eq-slice_cmp}
use Rattle.std.proofs.lemmas.Slice.Eq.{bytes_eq-Decides}
use Rattle.ddc_base.specs.Outside.{NamedFiles}
use Rattle.ddc_base.proofs.StoredFiles.{others-insert}
use Rattle.ddc_base.specs.Limits.{most_states}
use Rattle.mem_files.specs.Outputs.{out}
use Rattle.guest_run.specs.Run.{End, Exited, Trapped, UnknownCall, after, first_end}
use Rattle.guest_run.specs.State.{GuestState}
use Rattle.guest_run.proofs.Running.{after-counted}
use Rattle.guest_run.proofs.RunLaws.{after-sum, no_end-goes_on}
use Rattle.recipe.specs.declared.parts.Stage.{Stage}
use Rattle.audit_rules.specs.Stages.{output_of}
use Rattle.audit_rules.specs.declared.cause.RunCause.TheVariants as run
use Rattle.segments.specs.Segments.{second_text}
use Rattle.command_plan.specs.declared.status.Status.TheVariants.{Yes}
use Rattle.command_plan.specs.Plan.{Outcome, Plan, answers, outcome, unless_refused}
use Rattle.stage_commands.specs.Cut.{came_on, next_steps, saved_from}
use Rattle.stage_commands.specs.Exits.{run_ended, run_failed, unless_absent}
use Rattle.stage_commands.specs.Names.{piece_name}
use Rattle.stage_commands.specs.States.{state_after}
use Rattle.stage_commands.specs.Texts.{cut_line}

-- names of two states are two
pub two_names : (prefix : List ℕ) (a b : ℕ) → a < 2 ^ 64 → b < 2 ^ 64 → a ≢ b → piece_name prefix a ≢ piece_name prefix b
two_names prefix a b small few differ = λ same.
    let following : 46 ∷ decimal a ≡ 46 ∷ decimal b = append_cancel_left prefix (46 ∷ decimal a) (46 ∷ decimal b) same in
    let digits : decimal a ≡ decimal b = cc in
    differ (decimal_injective a b small few digits)

held_again : (files : NamedFiles) (name content : List ℕ) → finite.get (finite.insert files name content) name ≡ Some content
held_again files name content =
    finite.get-insert nat_list_cmp_total files name content name
    ∙ ap (λ b. cond b (Some content) (finite.get files name)) (is_eq-slice_cmp name name ∙ (bytes_eq-Decides name name).1 refl)

pub times_more : (number every : ℕ) → (number + 1) * every ≡ number * every + every
times_more number every = let next : number + 1 ≡ suc number = omega arith in ap (λ n. n * every) next ∙ suc-mul number every

module _ (stage : Stage) (every : ℕ) (prefix : List ℕ) (begun : GuestState) where
  -- the state of a number: the run takes so many times EVERY steps to it, and its text is held
  pub record IsSaved (files : NamedFiles) (number : ℕ) : Type 0 where
    pub state : GuestState
    pub reached : after begun (number * every) ≡ Some state
    pub below : state.steps < stage.steps
    pub held : finite.get files (piece_name prefix number) ≡ Some (second_text state)

  -- what is saved from the state of a number on, and how the run ends after it
  pub record IsCutFrom (number left : ℕ) (before : NamedFiles) (came : Outcome) : Type 0 where
    pub more : ℕ
    pub few : more < left
    pub states : (k : ℕ) → number ≤ k → k ≤ number + more → IsSaved came.files k
    pub from : GuestState
    pub reached : after begun ((number + more) * every) ≡ Some from
    pub below : from.steps < stage.steps
    pub end : GuestState
    pub ends : first_end from (next_steps stage every from) ≡ Some (Exited 0, end)
    pub made : List ℕ
    pub there : out end.world (output_of stage.output) ≡ Some made
    pub printed : came.text ≡ cut_line (number + more + 1) (end.steps + 1)
    pub others : (name : List ℕ) → ((k : ℕ) → number ≤ k → k ≤ number + more → name ≢ piece_name prefix k) → finite.get came.files name ≡ finite.get before name

  reported : ℕ → End → GuestState → Plan
  reported saved end guest = run_ended stage end guest (λ _. answers Yes (cut_line saved (guest.steps + 1)))

  abbrev cut_reported : ℕ → GuestState → NamedFiles → Outcome
  cut_reported saved guest files = record { status = Yes; text = cut_line saved (guest.steps + 1); files = files }

  -- an end that is answered with 0 is an exit that left the stage's output
  record Exits (saved : ℕ) (end : End) (guest : GuestState) (files : NamedFiles) : Type 0 where
    is : end ≡ Exited 0
    made : List ℕ
    there : out guest.world (output_of stage.output) ≡ Some made
    same : outcome (reported saved end guest) files ≡ cut_reported saved guest files

  -- what an exit comes to, by whether its status is 0 and by what is at the output
  abbrev exit_plan : ℕ → ℕ → GuestState → Bool → Option (List ℕ) → Plan
  exit_plan saved status guest none left =
      unless_refused (cond none (unless_absent left) (Err (run.Status status))) (λ cause. run_failed stage cause (guest.steps + 1)) (λ _. answers Yes (cut_line saved (guest.steps + 1)))

  by_exit : (saved status : ℕ) (guest : GuestState) (files : NamedFiles) (none : Bool) (left : Option (List ℕ)) → (status == 0) ≡ none → out guest.world (output_of stage.output) ≡ left
      → (outcome (exit_plan saved status guest none left) files).status ≡ Yes → Exits saved (Exited status) guest files
  unfolding reported
  by_exit saved status guest files true (Some made) is there done = record {
    is = ap Exited ((Decides-eqb status 0).0 is);
    made = made;
    there = there;
    same = λ i. outcome (exit_plan saved status guest (is i) (there i)) files;
  }
  by_exit saved status guest files true None is there done = absurd cc
  by_exit saved status guest files false left is there done = absurd cc

  exits : (saved : ℕ) (end : End) (guest : GuestState) (files : NamedFiles) → (outcome (reported saved end guest) files).status ≡ Yes → Exits saved end guest files
  unfolding reported
  exits saved (Exited status) guest files done = by_exit saved status guest files (status == 0) (out guest.world (output_of stage.output)) refl refl done
  exits saved (Trapped cause) guest files done = absurd cc
  exits saved (UnknownCall number) guest files done = absurd cc

  module _ (number left : ℕ) (guest : GuestState) (files : NamedFiles) (bound : number + suc left ≤ most_states)
      (reached : after begun (number * every) ≡ Some guest) (below : guest.steps < stage.steps) where
    abbrev name : List ℕ
    name = piece_name prefix number

    abbrev saved : NamedFiles
    saved = finite.insert files name (second_text guest)

    -- this state, where its text is held
    here : (later : NamedFiles) (k : ℕ) → number ≡ k → finite.get later name ≡ Some (second_text guest) → IsSaved later k
    here later k same held = subst (IsSaved later) same (record { state = guest; reached = reached; below = below; held = held })

    -- the run ended after this state
    ends_here : (end : End) (to : GuestState) → first_end guest (next_steps stage every guest) ≡ Some (end, to) → (outcome (reported (number + 1) end to) saved).status ≡ Yes
        → IsCutFrom number (suc left) files (outcome (reported (number + 1) end to) saved)
    ends_here end to is done =
        let e = exits (number + 1) end to saved done in
        let none : number ≡ number + 0 = omega arith in
        subst (IsCutFrom number (suc left) files) (sym e.same) (record {
          more = 0;
          few = omega arith;
          states = λ k low high. here saved k (omega (arith, low, high)) (held_again files name (second_text guest));
          from = guest;
          reached = ap (λ n. after begun (n * every)) (sym none) ∙ reached;
          below = below;
          end = to;
          ends = is ∙ ap (λ (x : End). Some (x, to)) e.is;
          made = e.made;
          there = e.there;
          printed = ap (λ n. cut_line (n + 1) (to.steps + 1)) none;
          others = λ other apart. (others-insert files name (second_text guest)).others other (apart number (omega arith) (omega arith));
        })

    -- it went on to another
    goes_on : (o : Outcome) → IsCutFrom (number + 1) left saved o → IsCutFrom number (suc left) files o
    goes_on o r =
        let apart : (k : ℕ) → number + 1 ≤ k → k ≤ number + 1 + r.more → name ≢ piece_name prefix k =
        λ k low high. two_names prefix number k (omega (arith, bound)) (omega (arith, bound, high, r.few)) (λ same. omega (arith, low, same)) in
        let held : finite.get o.files name ≡ Some (second_text guest) = r.others name apart ∙ held_again files name (second_text guest) in
        let last : number + 1 + r.more ≡ number + suc r.more = omega arith in
        record {
          more = suc r.more;
          few = omega (arith, r.few);
          states = λ k low high. elim (dec_lt number k) [
            | yes less ↦ r.states k (omega (arith, less)) (omega (arith, high))
            | no not ↦ let same : number ≡ k = omega (arith, low, not) in here o.files k same held
          ];
          from = r.from;
          reached = ap (λ n. after begun (n * every)) (sym last) ∙ r.reached;
          below = r.below;
          end = r.end;
          ends = r.ends;
          made = r.made;
          there = r.there;
          printed = r.printed ∙ ap (λ n. cut_line (n + 1) (r.end.steps + 1)) last;
          others = λ other away.
              r.others other (λ k low high. away k (omega (arith, low)) (omega (arith, high)))
              ∙ (others-insert files name (second_text guest)).others other (away number (omega arith) (omega arith));
        }

    module _ (later : (to : GuestState) → after begun ((number + 1) * every) ≡ Some to → to.steps < stage.steps → (outcome (saved_from stage every prefix left (number + 1) to) saved).status ≡ Yes
        → IsCutFrom (number + 1) left saved (outcome (saved_from stage every prefix left (number + 1) to) saved)) where
      abbrev rest : GuestState → Plan
      rest to = saved_from stage every prefix left (number + 1) to

      went : (to : GuestState) → after guest (next_steps stage every guest) ≡ Some to → (b : Bool) → nat_lt to.steps stage.steps ≡ b
          → (outcome (cond b (rest to) (run_failed stage run.Spent stage.steps)) saved).status ≡ Yes
          → IsCutFrom number (suc left) files (outcome (cond b (rest to) (run_failed stage run.Spent stage.steps)) saved)
      went to there true lower done =
          let less : to.steps < stage.steps = (Decides-ltb to.steps stage.steps).0 lower in
          let counted : to.steps ≡ guest.steps + next_steps stage every guest = after-counted guest to (next_steps stage every guest) there in
          let all : next_steps stage every guest ≡ every = omega (arith, counted, less, below) in
          let on : after begun ((number + 1) * every) ≡ Some to =
          ap (after begun) (times_more number every) ∙ after-sum begun guest (number * every) every reached ∙ ap (after guest) (sym all) ∙ there in
          goes_on (outcome (rest to) saved) (later to on less done)
      went to there false lower done = absurd cc

      by_end : (e : Option (End × GuestState)) → first_end guest (next_steps stage every guest) ≡ e
          → (outcome (came_on stage (number + 1) e (state_after guest (next_steps stage every guest)) rest) saved).status ≡ Yes
          → IsCutFrom number (suc left) files (outcome (came_on stage (number + 1) e (state_after guest (next_steps stage every guest)) rest) saved)
      unfolding reported
      by_end (Some (end, to)) is done = ends_here end to is done
      by_end None none done =
          let on = no_end-goes_on guest (next_steps stage every guest) none in
          let at : state_after guest (next_steps stage every guest) ≡ on.0 = ap (λ o. unwrap_or o guest) on.1 in
          let P : GuestState → Type 0 = λ to. (outcome (came_on stage (number + 1) None to rest) saved).status ≡ Yes → IsCutFrom number (suc left) files (outcome (came_on stage (number + 1) None to rest) saved) in
          subst P (sym at) (went on.0 on.1 (nat_lt on.0.steps stage.steps) refl) done

  pub walk : (left number : ℕ) (guest : GuestState) (files : NamedFiles) → number + left ≤ most_states → after begun (number * every) ≡ Some guest → guest.steps < stage.steps
      → (outcome (saved_from stage every prefix left number guest) files).status ≡ Yes
      → IsCutFrom number left files (outcome (saved_from stage every prefix left number guest) files)
  unfolding saved_from
  walk zero number guest files bound reached below done = absurd cc
  walk (suc left) number guest files bound reached below done =
      by_end number left guest files bound reached below
      (λ to there lower. walk left (number + 1) to (finite.insert files (piece_name prefix number) (second_text guest)) (omega (arith, bound)) there lower)
      (first_end guest (next_steps stage every guest)) refl done
