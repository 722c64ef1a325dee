-- What `segment` with 0 says, and what `ends` and every `segment` with 0 say together.
use Rattle.std.proofs.Common.{◌≡◌, ℕ, zero, suc, ◌+◌, ◌-◌, ◌<◌, ◌≤◌, ◌==◌, Bool, true, false, cond, IsTrue, Option, None, Some, Result, Ok, Err, List, [], ◌∷◌, decimal, length, refl, sym, ap, ◌∙◌, subst, arith}
use Rattle.std.specs.Prelude.{slice_get}
use Rattle.std.proofs.Math.Decide.{dec_lt}
use Rattle.std.proofs.lemmas.Bool.Decides.{Decides-eqb}
use Rattle.ddc_base.specs.ByteLists.{AreBytes}
use Rattle.ddc_base.specs.Difference.{first_difference}
use Rattle.ddc_base.proofs.Decimals.{as_decimal-is}
use Rattle.ddc_base.specs.declared.outside.Loaded.TheVariants.{Bytes}
use Rattle.ddc_base.specs.Outside.{NamedFiles, loaded}
use Rattle.ddc_base.specs.Limits.{most_state}
use Rattle.mem_files.specs.Outputs.{out}
use Rattle.guest_run.specs.declared.run.RunEnd.TheVariants as ending
use Rattle.guest_run.specs.Run.{End, Exited, Trapped, UnknownCall, after, first_end}
use Rattle.guest_run.specs.Start.{Refusal}
use Rattle.guest_run.specs.State.{GuestState}
use Rattle.guest_run.proofs.Running.{after-none}
use Rattle.guest_run.proofs.RunLaws.{after-sum, first_end-sum}
use Rattle.recipe.specs.declared.parts.Stage.{Stage}
use Rattle.audit_rules.specs.Stages.{contents, finished, output_of, stage_result, start_stage}
use Rattle.audit_rules.specs.declared.answer.Finished.{Finished}
use Rattle.audit_rules.specs.declared.cause.RunCause.TheVariants as cause
use Rattle.segments.specs.Segments.{ChecksPiece, EndsWith, IsStateOf, second_text}
use Rattle.segments.specs.declared.answers.SegmentFault.{SegmentFault}
use Rattle.segments.specs.declared.answers.StateFault.{StateFault}
use Rattle.command_plan.specs.declared.status.Status.TheVariants.{Yes}
use Rattle.command_plan.specs.Plan.{LoadsBytes, Outcome, Plan, answers, needs, outcome, unless_refused}
use Rattle.command_plan.specs.Words.{are_two_files, or_usage, usage}
use Rattle.stage_commands.specs.Checked.{AreChecked, EndShows, HoldPiece, IsRunReported, piece_reported_yes}
use Rattle.stage_commands.specs.Cutting.{ends_over, segment_over}
use Rattle.stage_commands.specs.Ends.{ends_files, ends_judged, ends_plan, needs_first, needs_last, unless_other_start}
use Rattle.stage_commands.specs.Exits.{run_failed, unless_absent}
use Rattle.stage_commands.specs.Names.{are_stage_words, as_states, piece_name, within_states}
use Rattle.stage_commands.specs.Ready.{needs_ready}
use Rattle.stage_commands.specs.Segment.{piece_reported, segment_files, segment_plan}
use Rattle.stage_commands.specs.States.{ReadsAs, end_after, piece_answer, piece_of, state_parsed}
use Rattle.stage_commands.specs.Texts.{run_record}
use Rattle.stage_commands.specs.declared.ready.Ready.{Ready}
use Rattle.stage_commands.proofs.Cutting.{count_again, is_benched, segment_reported}
use Rattle.stage_commands.proofs.EarlierStages.{StartsValid, starts_valid}
use Rattle.stage_commands.proofs.PiecesShown.{end_shown, piece_shown}
use Rattle.stage_commands.proofs.ReadyAgain.{Finds, IsYes, follows_load, found_again, load_bytes, load_found, yes_as}
use Rattle.stage_commands.proofs.Reading.{is_read, is_reported, reads}
use Rattle.stage_commands.proofs.StatesRead.{is_read_valid, no_difference, one_text}

-- a text is that of one state, and a name holds one text
one_parsed : (text : List ℕ) (a b : GuestState) → IsStateOf text a → IsStateOf text b → a ≡ b
one_parsed text a b first second =
    let both : ◌≡◌ {A = Result GuestState StateFault} (Ok a) (Ok b) = sym (is_read text (Ok a) first) ∙ is_read text (Ok b) second in
    cc

one_held : (files : NamedFiles) (name : List ℕ) (limit : ℕ) (a b : List ℕ) → loaded files name limit ≡ Bytes a → loaded files name limit ≡ Bytes b → a ≡ b
one_held files name limit a b first second = let both : Bytes a ≡ Bytes b = sym first ∙ second in cc

pub piece_is_reported : (from to : List ℕ) (files : NamedFiles) (steps : ℕ) → IsTrue (are_two_files from to) → HoldPiece from to files steps → segment_over from to files ≡ piece_reported_yes steps files
piece_is_reported from to files steps two h =
    segment_reported files from to h.former h.latter steps two h.former_is h.latter_is (is_reported h.former h.latter (Ok steps) h.piece)

-- ---- `segment`

module _ (files : NamedFiles) where
  module _ (from to : List ℕ) where
    abbrev Shown : Outcome → Type 0
    Shown o = (steps : ℕ) × HoldPiece from to files steps × (o ≡ piece_reported_yes steps files)

    by_piece : (former latter : List ℕ) → loaded files from most_state ≡ Bytes former → loaded files to most_state ≡ Bytes latter → AreBytes former → AreBytes latter
        → (r : Result ℕ SegmentFault) → piece_of former latter ≡ r → IsYes (piece_reported r) files → Shown (outcome (piece_reported r) files)
    by_piece former latter first second one two (Ok steps) is zeroed =
        let shown = piece_shown former latter one two in (
          steps,
          record {
            former = former;
            former_is = first;
            latter = latter;
            latter_is = second;
            piece = subst (λ result. ChecksPiece former latter (piece_answer result)) is shown;
          },
          refl,
        )
    by_piece former latter first second one two (Err why) is zeroed = absurd cc

    by_files : LoadsBytes (segment_files from to) files → IsYes (segment_files from to) files → Shown (outcome (segment_files from to) files)
    unfolding segment_files
    by_files bytes zeroed =
        let with_former : List ℕ → Plan = λ former. needs to most_state (λ latter. piece_reported (piece_of former latter)) in
        let a = load_found from most_state with_former files zeroed in
        let one = follows_load from most_state with_former files a.0 a.1 in
        let with_latter : List ℕ → Plan = λ latter. piece_reported (piece_of a.0 latter) in
        let b = load_found to most_state with_latter files (yes_as (segment_files from to) (with_former a.0) files one zeroed) in
        let comes = one ∙ follows_load to most_state with_latter files b.0 b.1 in
        let formers = load_bytes from most_state with_former files a.0 a.1 bytes in
        let latters = load_bytes to most_state with_latter files b.0 b.1 formers.1 in
        subst Shown (sym comes) (by_piece a.0 b.0 a.1 b.1 formers.0 latters.0 (piece_of a.0 b.0) refl (yes_as (segment_files from to) (with_latter b.0) files comes zeroed))

    pub segment_shown : LoadsBytes (segment_plan (from ∷ to ∷ [])) files → (segment_over from to files).status ≡ Yes → Shown (segment_over from to files)
    segment_shown bytes zeroed = by (are_two_files from to) bytes zeroed where
      by : (two : Bool) → LoadsBytes (cond two (segment_files from to) usage) files → IsYes (cond two (segment_files from to) usage) files
          → Shown (outcome (cond two (segment_files from to) usage) files)
      by true bytes zeroed = by_files bytes zeroed
      by false bytes zeroed = absurd cc

-- ---- all together

module _ (files : NamedFiles) where
  module _ (recipe stage prefix : List ℕ) (count : ℕ) (some : 1 ≤ count)
      (pieces : (number : ℕ) → number + 1 < count → (segment_over (piece_name prefix number) (piece_name prefix (number + 1)) files).status ≡ Yes)
      (pieces_bytes : (number : ℕ) → number + 1 < count → LoadsBytes (segment_plan (piece_name prefix number ∷ piece_name prefix (number + 1) ∷ [])) files) where
    abbrev Reported : Outcome → Type 0
    Reported o = IsRunReported recipe stage prefix files o

    module _ (fa : Finds prefix files recipe stage (needs_ready recipe stage prefix)) (first last : List ℕ) (first_bytes : AreBytes first)
        (first_is : loaded files (piece_name prefix 0) most_state ≡ Bytes first)
        (last_is : loaded files (piece_name prefix (count - 1)) most_state ≡ Bytes last) (of : Stage) (there : slice_get fa.ready.recipe.stages (length fa.ready.done) ≡ Some of) where
      module _ (begun : GuestState) (starts : start_stage fa.ready.recipe (contents fa.ready.inputs fa.ready.done) of ≡ Ok begun) where
        v : StartsValid fa.ready.recipe fa.ready.inputs fa.is fa.given of begun
        v = starts_valid fa.ready.recipe fa.ready.inputs fa.is fa.given fa.ready.done of begun fa.done there starts

        -- the run goes on to the state that a name holds
        record IsReached (name : List ℕ) : Type 0 where
          text : List ℕ
          held : loaded files name most_state ≡ Bytes text
          state : GuestState
          is : IsStateOf text state
          reached : after begun state.steps ≡ Some state

        one_on : (from to : List ℕ) → IsReached from → LoadsBytes (segment_plan (from ∷ to ∷ [])) files → (segment_over from to files).status ≡ Yes
            → IsReached to
        one_on from to at bytes zeroed =
            let s = segment_shown files from to bytes zeroed in
            let piece = s.1.piece in
            let text : at.text ≡ s.1.former = one_held files from most_state at.text s.1.former at.held s.1.former_is in
            let same : piece.states.first ≡ at.state = one_parsed s.1.former piece.states.first at.state piece.states.from_is (subst (λ t. IsStateOf t at.state) text at.is) in
            let counted : piece.states.last.steps ≡ at.state.steps + s.0 = piece.piece.counted ∙ ap (λ (g : GuestState). g.steps + s.0) same in
            let on : after at.state s.0 ≡ Some piece.states.last = ap (λ (g : GuestState). after g s.0) (sym same) ∙ piece.piece.reached in
            record {
              text = s.1.latter;
              held = s.1.latter_is;
              state = piece.states.last;
              is = piece.states.to_is;
              reached = ap (after begun) counted ∙ after-sum begun at.state at.state.steps s.0 at.reached ∙ on;
            }

        all_on : IsReached (piece_name prefix 0) → (number : ℕ) → number < count → IsReached (piece_name prefix number)
        all_on at zero less = at
        all_on at (suc number) less =
            let next : number + 1 ≡ suc number = omega arith in
            let before = all_on at number (omega (arith, less)) in
            let below : number + 1 < count = omega (arith, less) in
            subst (λ n. IsReached (piece_name prefix n)) next
            (one_on (piece_name prefix number) (piece_name prefix (number + 1)) before (pieces_bytes number below) (pieces number below))

        module _ (parsed : GuestState) (parsed_is : IsStateOf first parsed) (none : first_difference (second_text begun) (second_text parsed) ≡ None) where
          is_start : begun ≡ parsed
          is_start =
              one_text begun parsed (record { valid = v.valid; small = omega (arith, v.fresh) }) (is_read_valid first parsed first_bytes parsed_is)
              (no_difference (second_text begun) (second_text parsed) none)

          from_start : IsReached (piece_name prefix 0)
          from_start = record {
            text = first;
            held = first_is;
            state = parsed;
            is = parsed_is;
            reached = ap (after begun) (ap (λ (g : GuestState). g.steps) (sym is_start) ∙ v.fresh) ∙ after-none begun ∙ ap Some is_start;
          }

          module _ (guest : GuestState) (ends : end_after last of.steps ≡ Ok (Some (Exited 0, guest))) (made : List ℕ) (left : out guest.world (output_of of.output) ≡ Some made) where
            e : EndsWith last of.steps guest (ending.Exited 0)
            e = subst (EndShows last of.steps) ends (end_shown last of.steps)

            at : IsReached (piece_name prefix (count - 1))
            at = all_on from_start (count - 1) (omega (arith, some))

            same_last : e.from ≡ at.state
            same_last =
                one_parsed last e.from at.state e.is
                (subst (λ t. IsStateOf t at.state) (one_held files (piece_name prefix (count - 1)) most_state at.text last at.held last_is) at.is)

            following : (from : GuestState) → e.from ≡ from → (from.steps < of.steps) × (first_end from (of.steps - from.steps) ≡ Some (Exited 0, guest))
            following from same = subst (λ (g : GuestState). (g.steps < of.steps) × (first_end g (of.steps - g.steps) ≡ Some (Exited 0, guest))) same (e.below, e.ends)

            whole : first_end begun of.steps ≡ Some (Exited 0, guest)
            whole =
                let b = following at.state same_last in
                let below = b.0 in
                let all : of.steps ≡ at.state.steps + (of.steps - at.state.steps) = omega (arith, below) in
                ap (first_end begun) all ∙ first_end-sum begun at.state at.state.steps (of.steps - at.state.steps) at.reached ∙ b.1

            abbrev text : List ℕ
            text = run_record of.name (finished (guest.steps + 1) guest.world made)

            as_benched : (f : Finished) → stage_result fa.ready.recipe fa.ready.inputs fa.ready.done of ≡ Ok f → text ≡ run_record of.name f
            as_benched f result = ap (run_record of.name) (sym (is_benched fa.ready of begun guest starts whole made left f result))

            is_run : Reported (record { status = Yes; text = text; files = files })
            is_run = record {
              run = record {
                start = record {
                  ready = fa.ready;
                  begins = fa.begins;
                  found = fa.found files (λ name apart. refl);
                  named = of;
                  there = there;
                  begun = begun;
                  starts = starts;
                };
                last = guest;
                exits = whole;
                made = made;
                left = left;
                benched = is_benched fa.ready of begun guest starts whole made left;
              };
              reported = refl;
              as_benched = as_benched;
            }

          -- an exit, by whether its status is 0 and by what is at the output
          abbrev exit_reported : ℕ → GuestState → Bool → Option (List ℕ) → Plan
          exit_reported status guest none left =
              unless_refused (cond none (unless_absent left) (Err (cause.Status status))) (λ why. run_failed of why (guest.steps + 1))
              (λ made. answers Yes (run_record of.name (finished (guest.steps + 1) guest.world made)))

          by_exit : (status : ℕ) (guest : GuestState) (none : Bool) (left : Option (List ℕ)) → (status == 0) ≡ none → out guest.world (output_of of.output) ≡ left
              → end_after last of.steps ≡ Ok (Some (Exited status, guest)) → IsYes (exit_reported status guest none left) files → Reported (outcome (exit_reported status guest none left) files)
          by_exit status guest true (Some made) is left ends zeroed =
              is_run guest (ends ∙ ap (λ n. Ok (Some (Exited n, guest))) ((Decides-eqb status 0).0 is)) made left
          by_exit status guest true None is left ends zeroed = absurd cc
          by_exit status guest false left is there ends zeroed = absurd cc

          by_last : (r : Result (Option (End × GuestState)) StateFault) → end_after last of.steps ≡ r → IsYes (needs_last of r) files → Reported (outcome (needs_last of r) files)
          by_last (Err why) is zeroed = absurd cc
          by_last (Ok None) is zeroed = absurd cc
          by_last (Ok (Some (Exited status, guest))) is zeroed = by_exit status guest (status == 0) (out guest.world (output_of of.output)) refl refl is zeroed
          by_last (Ok (Some (Trapped why, guest))) is zeroed = absurd cc
          by_last (Ok (Some (UnknownCall number, guest))) is zeroed = absurd cc

        abbrev rest : Plan
        rest = needs_last of (end_after last of.steps)

        by_difference : (parsed : GuestState) → IsStateOf first parsed → (d : Option ℕ) → first_difference (second_text begun) (second_text parsed) ≡ d
            → IsYes (unless_other_start d rest) files → Reported (outcome (unless_other_start d rest) files)
        by_difference parsed is None none zeroed = by_last parsed is none (end_after last of.steps) refl zeroed
        by_difference parsed is (Some offset) differs zeroed = absurd cc

        by_first : (r : Result GuestState StateFault) → ReadsAs first r → IsYes (needs_first of (Ok begun) r rest) files → Reported (outcome (needs_first of (Ok begun) r rest) files)
        by_first (Err why) is zeroed = absurd cc
        by_first (Ok parsed) is zeroed = by_difference parsed is (first_difference (second_text begun) (second_text parsed)) refl zeroed

      by_start_of : (s : Result GuestState Refusal) → start_stage fa.ready.recipe (contents fa.ready.inputs fa.ready.done) of ≡ s
          → IsYes (needs_first of s (state_parsed first) (needs_last of (end_after last of.steps))) files → Reported (outcome (needs_first of s (state_parsed first) (needs_last of (end_after last of.steps))) files)
      by_start_of (Err why) starts zeroed = absurd cc
      by_start_of (Ok begun) starts zeroed = by_first begun starts (state_parsed first) (reads first) zeroed

    module _ (fa : Finds prefix files recipe stage (needs_ready recipe stage prefix)) where
      abbrev judge : List ℕ → List ℕ → Stage → Plan
      judge first last of = needs_first of (start_stage fa.ready.recipe (contents fa.ready.inputs fa.ready.done) of) (state_parsed first) (needs_last of (end_after last of.steps))

      by_texts : (first last : List ℕ) → AreBytes first → loaded files (piece_name prefix 0) most_state ≡ Bytes first → loaded files (piece_name prefix (count - 1)) most_state ≡ Bytes last
          → IsYes (ends_judged fa.ready first last) files → Reported (outcome (ends_judged fa.ready first last) files)
      unfolding ends_judged
      by_texts first last first_bytes first_is last_is zeroed = by (slice_get fa.ready.recipe.stages (length fa.ready.done)) refl zeroed where
        by : (found : Option Stage) → slice_get fa.ready.recipe.stages (length fa.ready.done) ≡ found → IsYes (or_usage found (judge first last)) files → Reported (outcome (or_usage found (judge first last)) files)
        by (Some of) there zeroed = by_start_of fa first last first_bytes first_is last_is of there (start_stage fa.ready.recipe (contents fa.ready.inputs fa.ready.done) of) refl zeroed
        by None there zeroed = absurd cc

    by_ends : LoadsBytes (ends_files recipe stage prefix count) files → IsYes (ends_files recipe stage prefix count) files
        → Reported (outcome (ends_files recipe stage prefix count) files)
    unfolding ends_files
    by_ends bytes zeroed =
        let with_last : Ready → List ℕ → Plan = λ ready first. needs (piece_name prefix (count - 1)) most_state (λ last. ends_judged ready first last) in
        let with_first : Ready → Plan = λ ready. needs (piece_name prefix 0) most_state (with_last ready) in
        let fa = found_again prefix files recipe stage with_first zeroed bytes in
        let one = fa.found files (λ name apart. refl) with_first in
        let a = load_found (piece_name prefix 0) most_state (with_last fa.ready) files (yes_as (ends_files recipe stage prefix count) (with_first fa.ready) files one zeroed) in
        let first = load_bytes (piece_name prefix 0) most_state (with_last fa.ready) files a.0 a.1 (fa.loads with_first bytes) in
        let two = one ∙ follows_load (piece_name prefix 0) most_state (with_last fa.ready) files a.0 a.1 in
        let b = load_found (piece_name prefix (count - 1)) most_state (λ last. ends_judged fa.ready a.0 last) files
        (yes_as (ends_files recipe stage prefix count) (with_last fa.ready a.0) files two zeroed) in
        let comes = two ∙ follows_load (piece_name prefix (count - 1)) most_state (λ last. ends_judged fa.ready a.0 last) files b.0 b.1 in
        subst Reported (sym comes) (by_texts fa a.0 b.0 first.0 a.1 b.1 (yes_as (ends_files recipe stage prefix count) (ends_judged fa.ready a.0 b.0) files comes zeroed))

    by_words : (are : Bool) → LoadsBytes (cond are (ends_files recipe stage prefix count) usage) files
        → IsYes (cond are (ends_files recipe stage prefix count) usage) files
        → Reported (outcome (cond are (ends_files recipe stage prefix count) usage) files)
    by_words true bytes zeroed = by_ends bytes zeroed
    by_words false bytes zeroed = absurd cc

  -- COUNT is spelled as its decimal
  abbrev with_states : List ℕ → List ℕ → List ℕ → Option ℕ → Plan
  with_states recipe stage prefix n = or_usage n (λ states. cond (are_stage_words recipe stage prefix) (ends_files recipe stage prefix states) usage)

  no_states : as_states (decimal 0) ≡ None
  unfolding as_states
  no_states = ap within_states (as_decimal-is (decimal 0) 0 (record { small = omega arith; encoded = refl }))

  pub run_is_reported : (recipe stage prefix : List ℕ) (count : ℕ) → LoadsBytes (ends_plan (recipe ∷ stage ∷ prefix ∷ decimal count ∷ [])) files
      → ((number : ℕ) → number + 1 < count
      → LoadsBytes (segment_plan (piece_name prefix number ∷ piece_name prefix (number + 1) ∷ [])) files)
      → AreChecked recipe stage prefix count files → IsRunReported recipe stage prefix files (ends_over recipe stage prefix count files)
  run_is_reported recipe stage prefix count bytes pieces_bytes checked = elim (dec_lt 0 count) [
    | yes some ↦ by_count some
    | no not ↦ absurd (none_given (omega (arith, not)))
  ] where
    by_count : 0 < count → IsRunReported recipe stage prefix files (ends_over recipe stage prefix count files)
    by_count some =
        let again = count_again count (omega (arith, some)) checked.few in
        let comes : ends_over recipe stage prefix count files ≡ outcome (with_states recipe stage prefix (Some count)) files = ap (λ n. outcome (with_states recipe stage prefix n) files) again in
        subst (IsRunReported recipe stage prefix files) (sym comes)
        (by_words recipe stage prefix count (omega (arith, some)) checked.pieces pieces_bytes (are_stage_words recipe stage prefix)
        (subst (λ n. LoadsBytes (with_states recipe stage prefix n) files) again bytes) (ap (λ (o : Outcome). o.status) (sym comes) ∙ checked.both_ends))

    none_given : count ≡ 0 → ⊥
    none_given none =
        let comes : ends_over recipe stage prefix count files ≡ outcome usage files = ap (λ n. outcome (with_states recipe stage prefix (as_states (decimal n))) files) none ∙ ap (λ n. outcome (with_states recipe stage prefix n) files) no_states in
        let status = ap (λ (o : Outcome). o.status) (sym comes) ∙ checked.both_ends in
        cc
