-- What the top call leaves, from how its command ended and what was said of that.
use Rattle.std.proofs.Common.{◌≡◌, ℕ, IsTrue, inl, inr, Result, Ok, Err, List, true, false, refl, sym, ap, ◌∙◌}
use Rattle.ddc_base.specs.declared.outside.PutFail.{PutFail}
use Rattle.ddc_base.specs.declared.outside.PutFail.TheVariants as putting
use Rattle.ddc_base.specs.Outside.{ShelfState, SinkState, PutFails, PutLeaves, after_piece}
use Rattle.command_plan.specs.declared.status.Status.{Status}
use Rattle.command_plan.specs.declared.status.Status.TheVariants.{ShelfFault, OutFault, OutOfMemory}
use Rattle.command_plan.specs.declared.answer.Answer.{Answer}
use Rattle.command_plan.specs.declared.stop.Stop.{Stop}
use Rattle.command_plan.specs.declared.stop.Stop.TheVariants as stop
use Rattle.command_plan.specs.Answered.{is_answer}
use Rattle.command_plan.specs.Plan.{Plan, outcome, IsSettled}
use Rattle.command_plan.specs.Endings.{Completes}
use Rattle.command_plan.specs.Performs.{Answers, Faults, WantsMemory, Performs}
use Rattle.command_plan.proofs.Performing.{stops_complete}
use Rattle.ddc_app.specs.Run.{TakesOne, NamesFault, LosesText}
use Rattle.ddc_app.specs.Inside.Concluding.{PutEnds, SaysEnding, unless_lost}

-- the five ways in which the top call ends: an answer or a fault that was said, either of them lost in the put, or want of memory
pub data Ends (plan : Plan) (old new : ShelfState) (before after : SinkState) (result : Status) : Type 0 where
  says : (answer : Answer) → Answers plan old new answer → result ≡ answer.status → after ≡ after_piece answer.text before → Ends plan old new before after result
  names : (text : List ℕ) → Faults plan old new text → result ≡ ShelfFault → after ≡ after_piece text before → Ends plan old new before after result
  loses_answer : (answer : Answer) → Answers plan old new answer → result ≡ OutFault → PutFails answer.text before after → Ends plan old new before after result
  loses_fault : (text : List ℕ) → Faults plan old new text → result ≡ OutFault → PutFails text before after → Ends plan old new before after result
  wants : WantsMemory plan old new → result ≡ OutOfMemory → after ≡ before → Ends plan old new before after result

-- what a put leaves, and the status
pub put_ends : (before : SinkState) (text : List ℕ) (after : SinkState) (put : Result (Unit {0}) PutFail) (status result : Status) → PutLeaves before text put after → result ≡ unless_lost put status
    → PutEnds before text after status result
put_ends before text after (Ok done) status result leaves is = inl (is, leaves)
put_ends before text after (Err putting.Failed) status result leaves is = inr (inl (is, leaves))
put_ends before text after (Err putting.OutOfMemory) status result leaves is = inr (inr (is, leaves))

module _ (plan : Plan) (old new : ShelfState) (before after : SinkState) (result : Status) where
  answer_ends : (answer : Answer) → Answers plan old new answer → PutEnds before answer.text after answer.status result → Ends plan old new before after result
  answer_ends answer a put = elim put [
    | inl whole ↦ says answer a whole.0 whole.1
    | inr not_whole ↦ elim not_whole [
      | inl cut ↦ loses_answer answer a cut.0 cut.1
      | inr want ↦ wants (record { by_cause = inl (stops_complete plan old new a.shelf) }) want.0 want.1
    ]
  ]

  fault_ends : (text : List ℕ) → Faults plan old new text → PutEnds before text after ShelfFault result → Ends plan old new before after result
  fault_ends text f put = elim put [
    | inl whole ↦ names text f whole.0 whole.1
    | inr not_whole ↦ elim not_whole [
      | inl cut ↦ loses_fault text f cut.0 cut.1
      | inr want ↦ wants (record { by_cause = inr (f.call, f.failed) }) want.0 want.1
    ]
  ]

  pub ends : (ending : Result Answer Stop) → Performs plan old new ending → SaysEnding before ending after result → Ends plan old new before after result
  ends (Ok answer) p c = answer_ends answer p.by_result c.by_ending
  ends (Err (stop.Answered answer)) p c = answer_ends answer p.by_result c.by_ending
  ends (Err (stop.ShelfFault text)) p c = fault_ends text p.by_result c.by_ending
  ends (Err stop.OutOfMemory) p c = wants p.by_result c.by_ending.0 c.by_ending.1

-- a status answers or it does not
clash : {A : Type 0} (status : Status) → is_answer status ≡ true → is_answer status ≡ false → A
clash status answers differs = absurd (let gone : false ≡ true = sym differs ∙ answers in cc)

-- no answer is a fault or want of memory
other : {A : Type 0} (answer : Answer) (result status : Status) → result ≡ answer.status → result ≡ status → is_answer status ≡ false → A
other answer result status is claimed differs = clash answer.status answer.answered (ap is_answer (sym is ∙ claimed) ∙ differs)

-- a fault or want of memory is no answer
none : {A : Type 0} (result status : Status) → is_answer result ≡ true → result ≡ status → is_answer status ≡ false → A
none result status parsed is differs = clash result parsed (ap is_answer is ∙ differs)

module _ (plan : Plan) (old new : ShelfState) (before after : SinkState) (result : Status) where
  pub status_of : Ends plan old new before after result → IsSettled plan old.tells → IsTrue (is_answer result) → result ≡ (outcome plan old.files).status
  status_of (says answer a is put) settled parsed = is ∙ a.status settled
  status_of (names text f is put) settled parsed = none result ShelfFault parsed is refl
  status_of (loses_answer answer a is put) settled parsed = none result OutFault parsed is refl
  status_of (loses_fault text f is put) settled parsed = none result OutFault parsed is refl
  status_of (wants w is same) settled parsed = none result OutOfMemory parsed is refl

  pub text_of : Ends plan old new before after result → IsSettled plan old.tells → IsTrue (is_answer result) → after ≡ after_piece (outcome plan old.files).text before
  text_of (says answer a is put) settled parsed = put ∙ ap (λ text. after_piece text before) (a.text settled)
  text_of (names text f is put) settled parsed = none result ShelfFault parsed is refl
  text_of (loses_answer answer a is put) settled parsed = none result OutFault parsed is refl
  text_of (loses_fault text f is put) settled parsed = none result OutFault parsed is refl
  text_of (wants w is same) settled parsed = none result OutOfMemory parsed is refl

  pub calls_of : Ends plan old new before after result → IsTrue (is_answer result) → Completes plan old new
  calls_of (says answer a is put) parsed = a.shelf
  calls_of (names text f is put) parsed = none result ShelfFault parsed is refl
  calls_of (loses_answer answer a is put) parsed = none result OutFault parsed is refl
  calls_of (loses_fault text f is put) parsed = none result OutFault parsed is refl
  calls_of (wants w is same) parsed = none result OutOfMemory parsed is refl

  pub put_of : Ends plan old new before after result → IsTrue (is_answer result) → TakesOne before after
  put_of (says answer a is put) parsed = (answer.text, put)
  put_of (names text f is put) parsed = none result ShelfFault parsed is refl
  put_of (loses_answer answer a is put) parsed = none result OutFault parsed is refl
  put_of (loses_fault text f is put) parsed = none result OutFault parsed is refl
  put_of (wants w is same) parsed = none result OutOfMemory parsed is refl

  pub shelf_fault_of : Ends plan old new before after result → result ≡ ShelfFault → NamesFault plan old new before after
  shelf_fault_of (says answer a is put) claimed = other answer result ShelfFault is claimed refl
  shelf_fault_of (names text f is put) claimed = record { call = f.call; failed = f.failed; put = put ∙ ap (λ text. after_piece text before) f.names }
  shelf_fault_of (loses_answer answer a is put) claimed = absurd cc
  shelf_fault_of (loses_fault text f is put) claimed = absurd cc
  shelf_fault_of (wants w is same) claimed = absurd cc

  pub out_fault_of : Ends plan old new before after result → result ≡ OutFault → LosesText plan old new before after
  out_fault_of (says answer a is put) claimed = other answer result OutFault is claimed refl
  out_fault_of (names text f is put) claimed = absurd cc
  out_fault_of (loses_answer answer a is put) claimed = record { piece = answer.text; put = put; cause = inl (a.shelf, λ settled. (a.text settled, a.talk settled)) }
  out_fault_of (loses_fault text f is put) claimed = record { piece = text; put = put; cause = inr (f.call, f.failed, f.names) }
  out_fault_of (wants w is same) claimed = absurd cc

  pub silent_of : Ends plan old new before after result → result ≡ OutOfMemory → after ≡ before
  silent_of (says answer a is put) claimed = other answer result OutOfMemory is claimed refl
  silent_of (names text f is put) claimed = absurd cc
  silent_of (loses_answer answer a is put) claimed = absurd cc
  silent_of (loses_fault text f is put) claimed = absurd cc
  silent_of (wants w is same) claimed = same

  pub want_of : Ends plan old new before after result → result ≡ OutOfMemory → WantsMemory plan old new
  want_of (says answer a is put) claimed = other answer result OutOfMemory is claimed refl
  want_of (names text f is put) claimed = absurd cc
  want_of (loses_answer answer a is put) claimed = absurd cc
  want_of (loses_fault text f is put) claimed = absurd cc
  want_of (wants w is same) claimed = w

  pub shelf_tells_of : Ends plan old new before after result → new.tells ≡ old.tells
  shelf_tells_of (says answer a is put) = a.shelf.tells
  shelf_tells_of (names text f is put) = f.failed.tells
  shelf_tells_of (loses_answer answer a is put) = a.shelf.tells
  shelf_tells_of (loses_fault text f is put) = f.failed.tells
  shelf_tells_of (wants w is same) = elim w.by_cause [ inl s ↦ s.tells | inr f ↦ f.1.tells ]

  pub out_tells_of : Ends plan old new before after result → after.tells ≡ before.tells
  out_tells_of (says answer a is put) = ap (λ sink. sink.tells) put
  out_tells_of (names text f is put) = ap (λ sink. sink.tells) put
  out_tells_of (loses_answer answer a is put) = ap (λ sink. sink.tells) put.failed
  out_tells_of (loses_fault text f is put) = ap (λ sink. sink.tells) put.failed
  out_tells_of (wants w is same) = ap (λ sink. sink.tells) same
