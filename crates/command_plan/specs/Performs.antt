-- What a command did to a file store (`Shelf`), by how it ended, compared with its plan.
use Rattle.std.specs.Prelude.{◌≡◌, ℕ, ◌⊎◌, None, Some, Result, Ok, Err, List}
use Rattle.ddc_base.specs.declared.outside.Operation.{Operation}
use Rattle.ddc_base.specs.declared.outside.PutFail.{PutFail}
use Rattle.ddc_base.specs.Outside.{ShelfState, SinkState}
use Rattle.prompt.specs.Converses.{Converses}
use Rattle.prompt.specs.Prompts.{PromptState}
use Rattle.prompt.specs.Talks.{Talk}
use Rattle.command_plan.specs.declared.status.Status.TheVariants.{Yes}
use Rattle.command_plan.specs.declared.answer.Answer.{Answer}
use Rattle.command_plan.specs.declared.stop.Stop.{Stop}
use Rattle.command_plan.specs.declared.stop.Stop.TheVariants as stop
use Rattle.command_plan.specs.Plan.{Plan, outcome, talk_of, IsSettled}
use Rattle.command_plan.specs.Endings.{Completes, Stops, Fails}
use Rattle.command_plan.specs.Texts.{shelf_fault_line}

-- the plan's calls were all answered. If its outcome is settled, the answer is the outcome's, and the plan ends with no session
pub record Answers (plan : Plan) (old new : ShelfState) (answer : Answer) : Type 0 where
  pub shelf : Completes plan old new
  pub status : IsSettled plan old.tells → answer.status ≡ (outcome plan old.files).status
  pub text : IsSettled plan old.tells → answer.text ≡ (outcome plan old.files).text
  pub talk : IsSettled plan old.tells → talk_of plan old.files ≡ None

-- the plan's calls were all answered; if its outcome is settled, the plan ends with this session
pub record Speaks (plan : Plan) (old new : ShelfState) (spoken : List ℕ → Talk) : Type 0 where
  pub shelf : Completes plan old new
  pub status : IsSettled plan old.tells → Yes ≡ (outcome plan old.files).status
  pub talk : IsSettled plan old.tells → talk_of plan old.files ≡ Some spoken

-- a call of the plan failed, and the text names it
pub record Faults (plan : Plan) (old new : ShelfState) (text : List ℕ) : Type 0 where
  pub call : Operation × List ℕ
  pub failed : Fails plan call old new
  pub names : text ≡ shelf_fault_line call.1

-- the command ran out of memory, after some of the plan's calls or after one that failed
pub record WantsMemory (plan : Plan) (old new : ShelfState) : Type 0 where
  pub by_cause : Stops plan old new ⊎ ((call : Operation × List ℕ) × Fails plan call old new)

abbrev pub PerformsBy : Plan → ShelfState → ShelfState → Result Answer Stop → Type 0
PerformsBy plan old new (Ok answer) = Answers plan old new answer
PerformsBy plan old new (Err (stop.Answered answer)) = Answers plan old new answer
PerformsBy plan old new (Err (stop.ShelfFault text)) = Faults plan old new text
PerformsBy plan old new (Err stop.OutOfMemory) = WantsMemory plan old new

-- a command did to a file store what its plan says
pub record Performs (plan : Plan) (old new : ShelfState) (result : Result Answer Stop) : Type 0 where
  pub by_result : PerformsBy plan old new result

-- everything outside of a command, at one moment: file store (`Shelf`), output (`Sink`) and standard input (`Prompt`)
pub record OutsideState : Type 0 where
  pub shelf : ShelfState
  pub sink : SinkState
  pub prompt : PromptState

abbrev pub outside : ShelfState → SinkState → PromptState → OutsideState
outside shelf sink prompt = record { shelf = shelf; sink = sink; prompt = prompt }

-- a session was held: every call of the plan was answered, the plan ends with this session, and it went as far as the result says
pub record HoldsTalk (plan : Plan) (before after : OutsideState) (end : Result (Unit {0}) PutFail) : Type 0 where
  pub talk : List ℕ → Talk
  pub speaks : Speaks plan before.shelf after.shelf talk
  pub went : Converses talk before.sink after.sink before.prompt after.prompt end

abbrev pub HoldsBy : Plan → OutsideState → OutsideState → Result (Result (Unit {0}) PutFail) Stop → Type 0
HoldsBy plan before after (Ok end) = HoldsTalk plan before after end
HoldsBy plan before after (Err ending) =
    Performs plan before.shelf after.shelf (Err ending) × (after.sink ≡ before.sink) × (after.prompt ≡ before.prompt)

-- a command that may hold a session held its plan's, or ended before it, with nothing written and no line read
pub record PerformsTalk (plan : Plan) (before after : OutsideState) (result : Result (Result (Unit {0}) PutFail) Stop) : Type 0 where
  pub by_result : HoldsBy plan before after result
