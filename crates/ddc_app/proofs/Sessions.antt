-- The clauses of the top call, from how it left things: a command's ending was said, or its session was held.
use Rattle.std.proofs.Common.{◌≡◌, ◌∙◌, ℕ, ◌⊎◌, inl, inr, Bool, true, false, IsTrue, IsFalse, None, Some, Result, Ok, Err, List, [], ◌∷◌, refl, sym, ap, subst}
use Rattle.ddc_base.specs.declared.outside.PutFail.{PutFail}
use Rattle.ddc_base.specs.declared.outside.PutFail.TheVariants as putting
use Rattle.ddc_base.specs.Outside.{ShelfState, SinkState, after_piece}
use Rattle.prompt.specs.Converses.{Converses, Exchanged, SaysAll, after_pieces}
use Rattle.prompt.specs.Prompts.{PromptState}
use Rattle.prompt.specs.Talks.{Talk, pieces_of}
use Rattle.command_plan.specs.declared.status.Status.{Status}
use Rattle.command_plan.specs.declared.status.Status.TheVariants.{Yes, ShelfFault, OutFault, OutOfMemory}
use Rattle.command_plan.specs.declared.answer.Answer.{Answer}
use Rattle.command_plan.specs.declared.stop.Stop.{Stop}
use Rattle.command_plan.specs.Answered.{is_answer}
use Rattle.command_plan.specs.Plan.{Plan, outcome, talk_of, IsSettled}
use Rattle.command_plan.specs.Endings.{Completes}
use Rattle.command_plan.specs.Performs.{HoldsTalk, OutsideState, Performs, PerformsTalk, WantsMemory, outside}
use Rattle.command_plan.proofs.Performing.{says, stops_complete}
use Rattle.command_plan.specs.Words.{or_usage, usage}
use Rattle.ddc_app.specs.Commands.{command_read, reads_step, is_step, may_begin_session, plan_of, plan_of_command}
use Rattle.ddc_app.specs.declared.command_word.CommandWord.{CommandWord}
use Rattle.ddc_app.specs.Run.{LosesText, NamesFault, TakesOne}
use Rattle.ddc_app.specs.Inside.Concluding.{Closes, Leaves, SaysEnding, concluded, conversed, unless_lost}
use Rattle.ddc_app.proofs.Ending as ending

-- a status that no answer has
no_answer : {A : Type 0} (result status : Status) → IsTrue (is_answer result) → result ≡ status → is_answer status ≡ false → A
no_answer result status answers is none = absurd (let gone : true ≡ false = sym answers ∙ ap is_answer is ∙ none in cc)

-- what a conversation leaves of what tells
tells-after : (pieces : List (List ℕ)) (sink : SinkState) → (after_pieces pieces sink).tells ≡ sink.tells
tells-after [] sink = refl
tells-after (piece ∷ pieces) sink = tells-after pieces (after_piece piece sink)

module _ (steps : Bool) (plan : Plan) (before after : OutsideState) (result : Status) where
  -- how the command ended, and was said
  abbrev IsEnded : Type 0
  IsEnded = ending.Ends plan before.shelf after.shelf before.sink after.sink result

  ended : (end : Result Answer Stop) → Performs plan before.shelf after.shelf end → SaysEnding before.sink end after.sink result → IsEnded
  ended = ending.ends plan before.shelf after.shelf before.sink after.sink result

  abbrev IsOne : Type 0
  IsOne = IsFalse steps ⊎ (IsSettled plan before.shelf.tells × (talk_of plan before.shelf.files ≡ None))

  abbrev Session : Result (Unit {0}) PutFail → Type 0
  Session end = HoldsTalk plan before after end

  -- what says one text holds no session
  no_session : {A : Type 0} (end : Result (Unit {0}) PutFail) → IsOne → IsTrue steps → Session end → A
  no_session end one is h = absurd (elim one [
    | inl other ↦ (let both : true ≡ false = sym is ∙ other in cc)
    | inr none ↦ (let both : Some h.talk ≡ None = sym (h.speaks.talk none.0) ∙ none.1 in cc)
  ])

  in_one : IsOne → Leaves steps plan before after result → IsEnded × (after.prompt ≡ before.prompt)
  in_one one (concluded end p c same) = (ended end p c, same)
  in_one one (conversed end is h ends) = no_session end one is h

  pub status : Leaves steps plan before after result → IsSettled plan before.shelf.tells → IsTrue (is_answer result) → result ≡ (outcome plan before.shelf.files).status
  status (concluded end p c same) settled answers = ending.status_of plan before.shelf after.shelf before.sink after.sink result (ended end p c) settled answers
  status (conversed (Ok done) is h ends) settled answers = ends ∙ h.speaks.status settled
  status (conversed (Err putting.Failed) is h ends) settled answers = no_answer result OutFault answers ends refl
  status (conversed (Err putting.OutOfMemory) is h ends) settled answers = no_answer result OutOfMemory answers ends refl

  pub calls : Leaves steps plan before after result → IsTrue (is_answer result) → Completes plan before.shelf after.shelf
  calls (concluded end p c same) answers = ending.calls_of plan before.shelf after.shelf before.sink after.sink result (ended end p c) answers
  calls (conversed end is h ends) answers = h.speaks.shelf

  pub text : Leaves steps plan before after result → IsOne → IsSettled plan before.shelf.tells → IsTrue (is_answer result) → after.sink ≡ after_piece (outcome plan before.shelf.files).text before.sink
  text l one settled answers = ending.text_of plan before.shelf after.shelf before.sink after.sink result (in_one one l).0 settled answers

  pub one_put : Leaves steps plan before after result → IsOne → IsTrue (is_answer result) → TakesOne before.sink after.sink
  one_put l one answers = ending.put_of plan before.shelf after.shelf before.sink after.sink result (in_one one l).0 answers

  pub out_fault : Leaves steps plan before after result → IsOne → result ≡ OutFault → LosesText plan before.shelf after.shelf before.sink after.sink
  out_fault l one claimed = ending.out_fault_of plan before.shelf after.shelf before.sink after.sink result (in_one one l).0 claimed

  pub silent : Leaves steps plan before after result → IsOne → result ≡ OutOfMemory → after.sink ≡ before.sink
  silent l one claimed = ending.silent_of plan before.shelf after.shelf before.sink after.sink result (in_one one l).0 claimed

  -- the talk that was held is the plan's
  parsed : (talk : List ℕ → Talk) (end : Result (Unit {0}) PutFail) → (h : Session end) → IsSettled plan before.shelf.tells → talk_of plan before.shelf.files ≡ Some talk → Converses talk before.sink after.sink before.prompt after.prompt end
  parsed talk end h settled ends =
      let both : Some h.talk ≡ Some talk = sym (h.speaks.talk settled) ∙ ends in
      let same : h.talk ≡ talk = cc in
      subst (λ t. Converses t before.sink after.sink before.prompt after.prompt end) same h.went

  -- an answer that was said ends no plan that talks
  says_none : (talk : List ℕ → Talk) → IsEnded → IsSettled plan before.shelf.tells → talk_of plan before.shelf.files ≡ Some talk → IsTrue (is_answer result) → SaysAll talk before.sink after.sink before.prompt after.prompt
  says_none talk (ending.says answer a is put) settled ends answers = absurd (let both : None ≡ Some talk = sym (a.talk settled) ∙ ends in cc)
  says_none talk (ending.names text f is put) settled ends answers = no_answer result ShelfFault answers is refl
  says_none talk (ending.loses_answer answer a is put) settled ends answers = no_answer result OutFault answers is refl
  says_none talk (ending.loses_fault text f is put) settled ends answers = no_answer result OutFault answers is refl
  says_none talk (ending.wants w is none) settled ends answers = no_answer result OutOfMemory answers is refl

  pub session : Leaves steps plan before after result → IsSettled plan before.shelf.tells → (talk : List ℕ → Talk) → talk_of plan before.shelf.files ≡ Some talk → IsTrue (is_answer result)
      → SaysAll talk before.sink after.sink before.prompt after.prompt
  session (concluded end p c same) settled talk ends answers = says_none talk (ended end p c) settled ends answers
  session (conversed (Ok done) is h end_is) settled talk ends answers = (parsed talk (Ok done) h settled ends).by_result
  session (conversed (Err putting.Failed) is h end_is) settled talk ends answers = no_answer result OutFault answers end_is refl
  session (conversed (Err putting.OutOfMemory) is h end_is) settled talk ends answers = no_answer result OutOfMemory answers end_is refl

  pub replies : Leaves steps plan before after result → IsTrue (is_answer result) → (TakesOne before.sink after.sink × (after.prompt ≡ before.prompt)) ⊎ Session (Ok tt)
  replies (concluded end p c same) answers = inl (ending.put_of plan before.shelf after.shelf before.sink after.sink result (ended end p c) answers, same)
  replies (conversed (Ok done) is h ends) answers = inr h
  replies (conversed (Err putting.Failed) is h ends) answers = no_answer result OutFault answers ends refl
  replies (conversed (Err putting.OutOfMemory) is h ends) answers = no_answer result OutOfMemory answers ends refl

  -- a session ends with no fault of a shelf
  no_shelf : {A : Type 0} (end : Result (Unit {0}) PutFail) → result ≡ unless_lost end Yes → result ≡ ShelfFault → A
  no_shelf (Ok done) is claimed = absurd (let both : Yes ≡ ShelfFault = sym is ∙ claimed in cc)
  no_shelf (Err putting.Failed) is claimed = absurd (let both : OutFault ≡ ShelfFault = sym is ∙ claimed in cc)
  no_shelf (Err putting.OutOfMemory) is claimed = absurd (let both : OutOfMemory ≡ ShelfFault = sym is ∙ claimed in cc)

  pub shelf_fault : Leaves steps plan before after result → result ≡ ShelfFault → NamesFault plan before.shelf after.shelf before.sink after.sink
  shelf_fault (concluded end p c same) claimed = ending.shelf_fault_of plan before.shelf after.shelf before.sink after.sink result (ended end p c) claimed
  shelf_fault (conversed end is h ends) claimed = no_shelf end ends claimed

  pub prompt_stays : Leaves steps plan before after result → IsOne ⊎ (result ≡ ShelfFault) → after.prompt ≡ before.prompt
  prompt_stays (concluded end p c same) why = same
  prompt_stays (conversed end is h ends) (inl one) = no_session end one is h
  prompt_stays (conversed end is h ends) (inr claimed) = no_shelf end ends claimed

  pub talk_fault : Leaves steps plan before after result → result ≡ OutFault → (LosesText plan before.shelf after.shelf before.sink after.sink × (after.prompt ≡ before.prompt)) ⊎ Session (Err putting.Failed)
  talk_fault (concluded end p c same) claimed = inl (ending.out_fault_of plan before.shelf after.shelf before.sink after.sink result (ended end p c) claimed, same)
  talk_fault (conversed (Ok done) is h ends) claimed = absurd (let both : Yes ≡ OutFault = sym ends ∙ claimed in cc)
  talk_fault (conversed (Err putting.Failed) is h ends) claimed = inr h
  talk_fault (conversed (Err putting.OutOfMemory) is h ends) claimed = absurd (let both : OutOfMemory ≡ OutFault = sym ends ∙ claimed in cc)

  pub talk_want : Leaves steps plan before after result → result ≡ OutOfMemory → ((after.sink ≡ before.sink) × (after.prompt ≡ before.prompt)) ⊎ Session (Err putting.OutOfMemory)
  talk_want (concluded end p c same) claimed = inl (ending.silent_of plan before.shelf after.shelf before.sink after.sink result (ended end p c) claimed, same)
  talk_want (conversed (Ok done) is h ends) claimed = absurd (let both : Yes ≡ OutOfMemory = sym ends ∙ claimed in cc)
  talk_want (conversed (Err putting.Failed) is h ends) claimed = absurd (let both : OutFault ≡ OutOfMemory = sym ends ∙ claimed in cc)
  talk_want (conversed (Err putting.OutOfMemory) is h ends) claimed = inr h

  pub want : Leaves steps plan before after result → result ≡ OutOfMemory → WantsMemory plan before.shelf after.shelf
  want (concluded end p c same) claimed = ending.want_of plan before.shelf after.shelf before.sink after.sink result (ended end p c) claimed
  want (conversed end is h ends) claimed = record { by_cause = inl (stops_complete plan before.shelf after.shelf h.speaks.shelf) }

  pub shelf_tells : Leaves steps plan before after result → after.shelf.tells ≡ before.shelf.tells
  shelf_tells (concluded end p c same) = ending.shelf_tells_of plan before.shelf after.shelf before.sink after.sink result (ended end p c)
  shelf_tells (conversed end is h ends) = h.speaks.shelf.tells

  -- what tells goes on to tell
  held_tells : (done : Talk) (between : SinkState) (then : PromptState) → Exchanged done before.sink between before.prompt then → (between.tells ≡ before.sink.tells) × (then.tells ≡ before.prompt.tells)
  held_tells done between then held = (ap (λ s. s.tells) held.put ∙ tells-after (pieces_of done) before.sink, ap (λ p. p.tells) held.asked)

  talked : (talk : List ℕ → Talk) (end : Result (Unit {0}) PutFail) → Converses talk before.sink after.sink before.prompt after.prompt end → (after.sink.tells ≡ before.sink.tells) × (after.prompt.tells ≡ before.prompt.tells)
  talked talk (Ok done) c = held_tells c.by_result.done after.sink after.prompt c.by_result.held
  talked talk (Err putting.Failed) c = elim c.by_result [
    | inl lost ↦ (let held = held_tells lost.done after.sink lost.between lost.held in (held.0, ap (λ p. p.tells) lost.line.failed ∙ held.1))
    | inr lost ↦ (let held = held_tells lost.done lost.between after.prompt lost.held in (ap (λ s. s.tells) lost.put.failed ∙ held.0, held.1))
  ]
  talked talk (Err putting.OutOfMemory) c = held_tells c.by_result.done after.sink after.prompt c.by_result.held

  pub out_tells : Leaves steps plan before after result → after.sink.tells ≡ before.sink.tells
  out_tells (concluded end p c same) = ending.out_tells_of plan before.shelf after.shelf before.sink after.sink result (ended end p c)
  out_tells (conversed end is h ends) = (talked h.talk end h.went).0

  pub prompt_tells : Leaves steps plan before after result → after.prompt.tells ≡ before.prompt.tells
  prompt_tells (concluded end p c same) = ap (λ p. p.tells) same
  prompt_tells (conversed end is h ends) = (talked h.talk end h.went).1

-- ---- how a command line leaves things

-- a text was written
pub text_leaves : (steps : Bool) (plan : Plan) (old new : ShelfState) (before after : SinkState) (asked : PromptState) (ending : Result Answer Stop) (result : Status)
    → SaysEnding before ending after result → Performs plan old new ending → Leaves steps plan (outside old before asked) (outside new after asked) result
text_leaves steps plan old new before after asked ending result s p = concluded ending p s refl

-- a session was held, or the command ended before
pub step_leaves : (steps : Bool) (plan : Plan) (first : OutsideState) (new : ShelfState) (mid after : SinkState) (now : PromptState) (ended : Result (Result (Unit {0}) PutFail) Stop)
    (result : Status) → Closes mid ended after result → PerformsTalk plan first (outside new mid now) ended → IsTrue steps → Leaves steps plan first (outside new after now) result
step_leaves steps plan first new mid after now (Ok end) result c h is =
    conversed end is (subst (λ sink. HoldsTalk plan first (outside new sink now) end) (sym c.by_ended.1) h.by_result) c.by_ended.0
step_leaves steps plan first new mid after now (Err ending) result c h is =
    concluded (Err ending) h.by_result.0 (subst (λ sink. SaysEnding sink (Err ending) after result) h.by_result.1 c.by_ended) h.by_result.2

-- a command line that was read
pub read_leaves : (words : List (List ℕ)) (line : CommandWord × List (List ℕ)) (first last : OutsideState) (result : Status) → Some line ≡ command_read words
    → Leaves (may_begin_session line.0) (plan_of_command line.0 line.1) first last result → Leaves (is_step words) (plan_of words) first last result
read_leaves words line first last result is leaves =
    subst (λ read. Leaves (reads_step read) (or_usage read (λ line. plan_of_command line.0 line.1)) first last result) is leaves

-- words that name no command
pub usage_leaves : (words : List (List ℕ)) (first last : OutsideState) (result : Status) → None ≡ command_read words → Leaves false usage first last result
    → Leaves (is_step words) (plan_of words) first last result
usage_leaves words first last result is leaves = subst (λ read. Leaves (reads_step read) (or_usage read (λ line. plan_of_command line.0 line.1)) first last result) is leaves

-- what a command left, from how it ended and what was written of that
pub ruleset performing = (text_leaves, step_leaves, says)
