-- A cut that came to 0 is right by the commands on pieces.
use Rattle.std.proofs.Common.{◌≡◌, ℕ, ◌+◌, ◌-◌, ◌*◌, ◌<◌, ◌≤◌, ◌^◌, ◌&&◌, Bool, true, false, cond, IsTrue, inl, Option, Some, None, Result, Ok, Err, List, [], ◌∷◌, decimal, length, nat_le, refl, sym, ap, ◌∙◌, subst, arith}
use Rattle.std.specs.Prelude.{slice_get}
use Rattle.std.specs.FinMap as finite
use Rattle.std.proofs.Math.Nat.{zero-mul}
use Rattle.std.proofs.lemmas.Bool.{and_parts, leb-true}
use Rattle.std.proofs.lemmas.Bool.Decides.{nat_tests}
use Rattle.std.proofs.lemmas.Option.{same_Some}
use Rattle.ddc_base.specs.Decimals.{as_decimal}
use Rattle.ddc_base.proofs.Decimals.{as_decimal-is}
use Rattle.ddc_base.proofs.Differences.{first_difference-same}
use Rattle.ddc_base.specs.declared.outside.Loaded.TheVariants.{Bytes, TooLong}
use Rattle.ddc_base.specs.Outside.{NamedFiles, loaded, loaded_of}
use Rattle.ddc_base.specs.Limits.{most_state, most_states, most_steps}
use Rattle.mem_files.specs.Outputs.{out}
use Rattle.checkpoints.proofs.StateLengths.{texts_short}
use Rattle.guest_run.specs.Run.{Exited, after, first_end}
use Rattle.guest_run.specs.Start.{Refusal}
use Rattle.guest_run.specs.State.{GuestState}
use Rattle.guest_run.specs.Valid.{IsValid}
use Rattle.guest_run.proofs.Running.{after-counted, after-none}
use Rattle.guest_run.proofs.RunLaws.{after-sum, first_end-sum, stays}
use Rattle.guest_run.proofs.Validity.{after-valid}
use Rattle.recipe.specs.declared.parts.Stage.{Stage}
use Rattle.audit_rules.specs.Stages.{by_end, by_start, contents, ending, finished, output_of, stage_result, start_stage}
use Rattle.audit_rules.specs.declared.answer.Finished.{Finished}
use Rattle.audit_rules.proofs.Endings.{ended}
use Rattle.segments.specs.Segments.{second_text}
use Rattle.command_plan.specs.declared.status.Status.TheVariants.{Yes}
use Rattle.command_plan.specs.Plan.{LoadsBytes, Outcome, Plan, answers, needs, outcome, unless_refused}
use Rattle.command_plan.specs.Words.{are_two_files, as_steps, has_no_zero_byte, is_file_word, or_usage, usage, within_steps}
use Rattle.stage_commands.specs.Cut.{cut_files, cut_from, cut_plan, cut_ready, next_steps, saved_from}
use Rattle.stage_commands.specs.Cutting.{CutRun, IsRightCut, cut_over, ends_over, segment_over}
use Rattle.stage_commands.specs.Ends.{ends_files, ends_judged, needs_first, needs_last, unless_other_start}
use Rattle.stage_commands.specs.Exits.{run_failed, unless_absent}
use Rattle.stage_commands.specs.Names.{are_stage_words, as_states, is_prefix, piece_name, within_states}
use Rattle.stage_commands.specs.Ready.{needs_ready}
use Rattle.stage_commands.specs.Segment.{piece_reported, segment_files}
use Rattle.stage_commands.specs.States.{end_after, piece_of}
use Rattle.stage_commands.specs.Texts.{cut_line, run_record, segment_line}
use Rattle.stage_commands.specs.declared.ready.Ready.{Ready}
use Rattle.stage_commands.proofs.CutWalk.{IsCutFrom, IsSaved, times_more, walk}
use Rattle.stage_commands.proofs.EarlierStages.{StartsValid, starts_valid}
use Rattle.stage_commands.proofs.Judging.{judged_one}
use Rattle.stage_commands.proofs.Neighbours.{neighbours, of_text, text_parsed}
use Rattle.stage_commands.proofs.ReadyAgain.{AreAlike, Finds, IsYes, follows_load, found_again, yes_as}
use Rattle.stage_commands.proofs.Reading.{an_end}
use Rattle.stage_commands.proofs.TwoPieces.{two_pieces}

-- ---- numbers and words

within : (word : Option ℕ) (steps : ℕ) → within_steps word ≡ Some steps → (1 ≤ steps) × (steps ≤ most_steps)
within None steps is = absurd cc
within (Some n) steps is = by (nat_le 1 n && nat_le n most_steps) refl is where
  by : (b : Bool) → (nat_le 1 n && nat_le n most_steps) ≡ b → cond b (Some n) None ≡ Some steps → (1 ≤ steps) × (steps ≤ most_steps)
  by true fits is =
      let parts = and_parts (nat_le 1 n) (nat_le n most_steps) fits in
      subst (λ m. (1 ≤ m) × (m ≤ most_steps)) (same_Some n steps is) (leb-true 1 n parts.0, leb-true n most_steps parts.1)
  by false fits is = absurd cc

pub few_steps : (every : List ℕ) (steps : ℕ) → as_steps every ≡ Some steps → (1 ≤ steps) × (steps ≤ most_steps)
unfolding as_steps
few_steps every steps is = within (as_decimal every) steps is

states_within : (n : ℕ) → 1 ≤ n → n ≤ most_states → within_states (Some n) ≡ Some n
states_within n some few = grind (arith, nat_tests)

pub count_again : (n : ℕ) → 1 ≤ n → n ≤ most_states → as_states (decimal n) ≡ Some n
unfolding as_states
count_again n some few =
    ap within_states (as_decimal-is (decimal n) n (record { small = omega (arith, few); encoded = refl })) ∙ states_within n some few

-- ---- the text of a state is loaded

fits : (size : ℕ) → size ≤ 1_892_769_097 → nat_le size most_state ≡ true
fits size small = grind (arith, nat_tests)

state_loaded : (files : NamedFiles) (name : List ℕ) (g : GuestState) → IsValid g → finite.get files name ≡ Some (second_text g)
    → loaded files name most_state ≡ Bytes (second_text g)
state_loaded files name g valid held =
    ap (loaded_of most_state) held
    ∙ ap (λ b. cond b (Bytes (second_text g)) TooLong) (fits (length (second_text g)) (texts_short g (second_text g) valid (inl refl)))

-- ---- what both commands come to

pub segment_reported : (files : NamedFiles) (a b from to : List ℕ) (steps : ℕ) → are_two_files a b ≡ true → loaded files a most_state ≡ Bytes from → loaded files b most_state ≡ Bytes to
    → piece_of from to ≡ Ok steps → segment_over a b files ≡ record { status = Yes; text = segment_line steps; files = files }
unfolding segment_files
segment_reported files a b from to steps two first second piece =
    ap (λ t. outcome (cond t (segment_files a b) usage) files) two
    ∙ follows_load a most_state (λ former. needs b most_state (λ latter. piece_reported (piece_of former latter))) files from first
    ∙ follows_load b most_state (λ latter. piece_reported (piece_of from latter)) files to second
    ∙ ap (λ r. outcome (piece_reported r) files) piece

-- a run that exits with 0 and leaves the output is the bench's own, where that has the stage done
pub is_benched : (ready : Ready) (of : Stage) (begun end : GuestState) → start_stage ready.recipe (contents ready.inputs ready.done) of ≡ Ok begun
    → first_end begun of.steps ≡ Some (Exited 0, end) → (made : List ℕ) → out end.world (output_of of.output) ≡ Some made
    → (f : Finished) → stage_result ready.recipe ready.inputs ready.done of ≡ Ok f → f ≡ finished (end.steps + 1) end.world made
is_benched ready of begun end starts exits made left f result =
    let comes : stage_result ready.recipe ready.inputs ready.done of ≡ ending ready.recipe ready.inputs ready.done of (Exited 0) end =
    ap (by_start ready.recipe ready.inputs ready.done of) starts ∙ ap (by_end ready.recipe ready.inputs ready.done of) exits in
    let e = ended ready.recipe ready.inputs ready.done of (Exited 0) end f (sym comes ∙ result) in
    e.is ∙ ap (finished (end.steps + 1) end.world) (same_Some e.made made (sym e.there ∙ left))

-- the stage's start and the state after which the run exits
module _ (ready : Ready) (of : Stage) (there : slice_get ready.recipe.stages (length ready.done) ≡ Some of) (begun from end : GuestState)
    (starts : start_stage ready.recipe (contents ready.inputs ready.done) of ≡ Ok begun) (good : IsValid begun) (fresh : begun.steps ≡ 0)
    (valid : IsValid from) (small : from.steps < 2 ^ 64) (ends : first_end from (of.steps - from.steps) ≡ Some (Exited 0, end))
    (made : List ℕ) (left : out end.world (output_of of.output) ≡ Some made) where
  abbrev record_text : List ℕ
  record_text = run_record of.name (finished (end.steps + 1) end.world made)

  following : needs_last of (end_after (second_text from) of.steps) ≡ answers Yes record_text
  following =
      ap (needs_last of) (an_end (second_text from) of.steps from end (Exited 0) (of_text from valid small) ends)
      ∙ ap (λ o. unless_refused (unless_absent o) (λ cause. run_failed of cause (end.steps + 1))
      (λ made. answers Yes (run_record of.name (finished (end.steps + 1) end.world made)))) left

  both_judged : ends_judged ready (second_text begun) (second_text from) ≡ answers Yes record_text
  both_judged =
      let next : Plan = needs_last of (end_after (second_text from) of.steps) in
      judged_one ready (second_text begun) (second_text from) of there
      ∙ (λ i. needs_first of (starts i) (text_parsed begun good (omega (arith, fresh)) i) next)
      ∙ ap (λ difference. unless_other_start difference next) (first_difference-same (second_text begun))
      ∙ following

module _ (recipe stage every prefix : List ℕ) (files : NamedFiles) (steps : ℕ) (steps_are : as_steps every ≡ Some steps) (words : are_stage_words recipe stage prefix ≡ true) where
  module _ (fa : Finds prefix files recipe stage (needs_ready recipe stage prefix)) (of : Stage) (there : slice_get fa.ready.recipe.stages (length fa.ready.done) ≡ Some of) (begun : GuestState)
      (starts : start_stage fa.ready.recipe (contents fa.ready.inputs fa.ready.done) of ≡ Ok begun) (zeroed : IsYes (saved_from of steps prefix most_states 0 begun) files) where
    abbrev came : Outcome
    came = outcome (saved_from of steps prefix most_states 0 begun) files

    v : StartsValid fa.ready.recipe fa.ready.inputs fa.is fa.given of begun
    v = starts_valid fa.ready.recipe fa.ready.inputs fa.is fa.given fa.ready.done of begun fa.done there starts

    at_start : after begun (0 * steps) ≡ Some begun
    at_start = ap (after begun) (zero-mul steps) ∙ after-none begun

    w : IsCutFrom of steps prefix begun 0 most_states files came
    w = walk of steps prefix begun most_states 0 begun files (omega arith) at_start v.below zeroed

    after_start : 0 + w.more ≡ w.more
    after_start = omega arith

    state : (k : ℕ) → k ≤ w.more → IsSaved of steps prefix begun came.files k
    state k le = w.states k (omega arith) (omega (arith, le))

    state_valid : (k : ℕ) (le : k ≤ w.more) → IsValid (state k le).state
    state_valid k le = after-valid begun (state k le).state (k * steps) v.valid (state k le).reached

    last_ends : first_end w.from (of.steps - w.from.steps) ≡ Some (Exited 0, w.end)
    last_ends =
        let next : ℕ = next_steps of steps w.from in
        let all : next + ((of.steps - w.from.steps) - next) ≡ of.steps - w.from.steps = omega arith in
        ap (first_end w.from) (sym all) ∙ stays w.from next ((of.steps - w.from.steps) - next) (Exited 0, w.end) w.ends

    -- the whole run
    whole : first_end begun of.steps ≡ Some (Exited 0, w.end)
    whole =
        let counted : w.from.steps ≡ begun.steps + (0 + w.more) * steps = after-counted begun w.from ((0 + w.more) * steps) w.reached in
        let leading : of.steps ≡ w.from.steps + (of.steps - w.from.steps) = omega (arith, w.below) in
        let passed : w.from.steps ≡ (0 + w.more) * steps = omega (arith, counted, v.fresh) in
        ap (first_end begun) (leading ∙ ap (λ n. n + (of.steps - w.from.steps)) passed)
        ∙ first_end-sum begun w.from ((0 + w.more) * steps) (of.steps - w.from.steps) w.reached
        ∙ last_ends

    -- ---- what the commands come to over the files afterwards

    abbrev run : CutRun recipe stage prefix files
    run = record {
      start = record {
        ready = fa.ready;
        begins = fa.begins;
        found = fa.found files (λ name apart. refl);
        named = of;
        there = there;
        begun = begun;
        starts = starts;
      };
      last = w.end;
      exits = whole;
      made = w.made;
      left = w.there;
      benched = is_benched fa.ready of begun w.end starts whole w.made w.there;
    }

    bounds : (1 ≤ steps) × (steps ≤ most_steps)
    bounds = few_steps every steps steps_are

    small : (k : ℕ) (le : k ≤ w.more) → (state k le).state.steps < 2 ^ 64
    small k le = omega (arith, (state k le).below, v.few)

    is_word : IsTrue (is_prefix prefix)
    is_word = (and_parts (is_file_word recipe && has_no_zero_byte stage) (is_prefix prefix) words).1

    piece : (number : ℕ) → number + 1 < w.more + 1
        → segment_over (piece_name prefix number) (piece_name prefix (number + 1)) came.files ≡ record { status = Yes; text = segment_line steps; files = came.files }
    piece number less =
        let low : number ≤ w.more = omega (arith, less) in
        let high : number + 1 ≤ w.more = omega (arith, less) in
        let first = state number low in
        let second = state (number + 1) high in
        let on : after first.state steps ≡ Some second.state =
        sym (after-sum begun first.state (number * steps) steps first.reached) ∙ ap (after begun) (sym (times_more number steps)) ∙ second.reached in
        segment_reported came.files (piece_name prefix number) (piece_name prefix (number + 1)) (second_text first.state) (second_text second.state) steps
        (two_pieces prefix number is_word (omega (arith, less, w.few)))
        (state_loaded came.files (piece_name prefix number) first.state (state_valid number low) first.held)
        (state_loaded came.files (piece_name prefix (number + 1)) second.state (state_valid (number + 1) high) second.held)
        (neighbours first.state second.state steps (state_valid number low) (state_valid (number + 1) high) (small (number + 1) high) bounds.0 bounds.1 on)

    alike : AreAlike prefix files came.files
    alike name apart = w.others name (λ k low high. apart k (omega (arith, high, w.few)))

    first_state : IsSaved of steps prefix begun came.files 0
    first_state = state 0 (omega arith)

    first_is : first_state.state ≡ begun
    first_is = same_Some first_state.state begun (sym first_state.reached ∙ at_start)

    last_state : IsSaved of steps prefix begun came.files w.more
    last_state = state w.more (omega arith)

    last_is : last_state.state ≡ w.from
    last_is = same_Some last_state.state w.from (sym last_state.reached ∙ ap (λ n. after begun (n * steps)) (sym after_start) ∙ w.reached)

    first_loaded : loaded came.files (piece_name prefix 0) most_state ≡ Bytes (second_text begun)
    first_loaded = state_loaded came.files (piece_name prefix 0) begun v.valid (first_state.held ∙ ap (λ g. Some (second_text g)) first_is)

    last_valid : IsValid w.from
    last_valid = after-valid begun w.from ((0 + w.more) * steps) v.valid w.reached

    last_loaded : loaded came.files (piece_name prefix (w.more + 1 - 1)) most_state ≡ Bytes (second_text w.from)
    last_loaded =
        let same : w.more ≡ w.more + 1 - 1 = omega arith in
        state_loaded came.files (piece_name prefix (w.more + 1 - 1)) w.from last_valid
        (ap (λ n. finite.get came.files (piece_name prefix n)) (sym same) ∙ last_state.held ∙ ap (λ g. Some (second_text g)) last_is)

    both_ends : ends_over recipe stage prefix (w.more + 1) came.files
        ≡ record { status = Yes; text = run_record of.name (finished (w.end.steps + 1) w.end.world w.made); files = came.files }
    unfolding ends_files
    both_ends =
        let count : ℕ = w.more + 1 in
        let with_last : Ready → List ℕ → Plan = λ ready first. needs (piece_name prefix (count - 1)) most_state (λ last. ends_judged ready first last) in
        let with_first : Ready → Plan = λ ready. needs (piece_name prefix 0) most_state (with_last ready) in
        ap (λ n. outcome (or_usage n (λ states. cond (are_stage_words recipe stage prefix) (ends_files recipe stage prefix states) usage)) came.files)
        (count_again count (omega arith) (omega (arith, w.few)))
        ∙ ap (λ b. outcome (cond b (ends_files recipe stage prefix count) usage) came.files) words
        ∙ fa.found came.files alike with_first
        ∙ follows_load (piece_name prefix 0) most_state (with_last fa.ready) came.files (second_text begun) first_loaded
        ∙ follows_load (piece_name prefix (count - 1)) most_state (λ last. ends_judged fa.ready (second_text begun) last) came.files (second_text w.from) last_loaded
        ∙ ap (λ p. outcome p came.files)
        (both_judged fa.ready of there begun w.from w.end starts v.valid v.fresh last_valid (omega (arith, w.below, v.few)) last_ends w.made w.there)

    as_benched : (f : Finished) → stage_result fa.ready.recipe fa.ready.inputs fa.ready.done of ≡ Ok f
        → (ends_over recipe stage prefix (w.more + 1) came.files).text ≡ run_record of.name f
    as_benched f result =
        ap (λ (o : Outcome). o.text) both_ends ∙ ap (run_record of.name) (sym (is_benched fa.ready of begun w.end starts whole w.made w.there f result))

    is_cut : IsRightCut recipe stage every prefix files came
    is_cut = record {
      run = run;
      steps = steps;
      steps_are = steps_are;
      count = w.more + 1;
      some = omega arith;
      few = omega (arith, w.few);
      printed = w.printed ∙ ap (λ n. cut_line (n + 1) (w.end.steps + 1)) after_start;
      states = λ number less. let s = state number (omega (arith, less)) in record { state = s.state; reached = s.reached; held = s.held };
      others = λ name apart. w.others name (λ k low high. apart k (omega (arith, high)));
      pieces = piece;
      both_ends = both_ends;
      as_benched = as_benched;
    }

  abbrev Cut : Plan → Type 0
  Cut plan = IsRightCut recipe stage every prefix files (outcome plan files)

  module _ (fa : Finds prefix files recipe stage (needs_ready recipe stage prefix)) where
    by_start_of : (of : Stage) → slice_get fa.ready.recipe.stages (length fa.ready.done) ≡ Some of → (s : Result GuestState Refusal)
        → start_stage fa.ready.recipe (contents fa.ready.inputs fa.ready.done) of ≡ s → IsYes (cut_from of steps prefix s) files → Cut (cut_from of steps prefix s)
    by_start_of of there (Ok begun) starts zeroed = is_cut fa of there begun starts zeroed
    by_start_of of there (Err why) starts zeroed = absurd cc

    by_stage : (found : Option Stage) → slice_get fa.ready.recipe.stages (length fa.ready.done) ≡ found
        → IsYes (or_usage found (λ of. cut_from of steps prefix (start_stage fa.ready.recipe (contents fa.ready.inputs fa.ready.done) of))) files
        → Cut (or_usage found (λ of. cut_from of steps prefix (start_stage fa.ready.recipe (contents fa.ready.inputs fa.ready.done) of)))
    by_stage (Some of) there zeroed = by_start_of of there (start_stage fa.ready.recipe (contents fa.ready.inputs fa.ready.done) of) refl zeroed
    by_stage None none zeroed = absurd cc

    from_ready : IsYes (cut_ready steps prefix fa.ready) files → Cut (cut_ready steps prefix fa.ready)
    unfolding cut_ready
    from_ready zeroed = by_stage (slice_get fa.ready.recipe.stages (length fa.ready.done)) refl zeroed

  from_files : LoadsBytes (cut_files recipe stage steps prefix) files → IsYes (cut_files recipe stage steps prefix) files → Cut (cut_files recipe stage steps prefix)
  unfolding cut_files
  from_files bytes zeroed =
      let fa = found_again prefix files recipe stage (cut_ready steps prefix) zeroed bytes in
      let comes : outcome (cut_files recipe stage steps prefix) files ≡ outcome (cut_ready steps prefix fa.ready) files = fa.found files (λ name apart. refl) (cut_ready steps prefix) in
      subst (λ (o : Outcome). IsRightCut recipe stage every prefix files o) (sym comes) (from_ready fa (yes_as (cut_files recipe stage steps prefix) (cut_ready steps prefix fa.ready) files comes zeroed))

-- what `cut` comes to is judged by its words, and those by EVERY
abbrev by_stage_words : List ℕ → List ℕ → List ℕ → ℕ → Bool → Plan
by_stage_words recipe stage prefix steps are = cond are (cut_files recipe stage steps prefix) usage

abbrev by_every : List ℕ → List ℕ → List ℕ → Option ℕ → Plan
by_every recipe stage prefix word = or_usage word (λ steps. by_stage_words recipe stage prefix steps (are_stage_words recipe stage prefix))

pub cut_is_right : (recipe stage every prefix : List ℕ) (files : NamedFiles) → LoadsBytes (cut_plan (recipe ∷ stage ∷ every ∷ prefix ∷ [])) files
    → (cut_over recipe stage every prefix files).status ≡ Yes → IsRightCut recipe stage every prefix files (cut_over recipe stage every prefix files)
cut_is_right recipe stage every prefix files bytes zeroed = by_steps (as_steps every) refl bytes zeroed where
  by_words : (steps : ℕ) → as_steps every ≡ Some steps → (b : Bool) → are_stage_words recipe stage prefix ≡ b
      → LoadsBytes (by_stage_words recipe stage prefix steps b) files → IsYes (by_stage_words recipe stage prefix steps b) files
      → IsRightCut recipe stage every prefix files (outcome (by_stage_words recipe stage prefix steps b) files)
  by_words steps are true words bytes zeroed = from_files recipe stage every prefix files steps are words bytes zeroed
  by_words steps are false words bytes zeroed = absurd cc

  by_steps : (word : Option ℕ) → as_steps every ≡ word → LoadsBytes (by_every recipe stage prefix word) files → IsYes (by_every recipe stage prefix word) files
      → IsRightCut recipe stage every prefix files (outcome (by_every recipe stage prefix word) files)
  by_steps (Some steps) are bytes zeroed = by_words steps are (are_stage_words recipe stage prefix) refl bytes zeroed
  by_steps None none bytes zeroed = absurd cc
