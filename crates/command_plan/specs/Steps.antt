-- What the steps of a command do to a file store (`Shelf`). It serves the split of the code: no promise depends on its being read.
use Rattle.std.specs.Prelude.{◌≡◌, ℕ, ◌<◌, ◌≤◌, ◌⊎◌, All, Result, Ok, Err, List, length}
use Rattle.std.specs.Bool.{OnTrue}
use Rattle.ddc_base.specs.declared.outside.Operation.TheVariants as operation
use Rattle.ddc_base.specs.declared.outside.Call.TheVariants.{Load, Save}
use Rattle.ddc_base.specs.declared.outside.Loaded.TheVariants as content
use Rattle.ddc_base.specs.Outside.{ShelfState, SaveFails, after_call, after_fault, after_setting, loaded}
use Rattle.prompt.specs.Talks.{Talk}
use Rattle.command_plan.specs.declared.status.Status.TheVariants as status
use Rattle.command_plan.specs.declared.answer.Answer.{Answer}
use Rattle.command_plan.specs.declared.stop.Stop.{Stop}
use Rattle.command_plan.specs.declared.stop.Stop.TheVariants as stop
use Rattle.command_plan.specs.Performs.{Answers, Faults, Performs, Speaks, WantsMemory}
use Rattle.command_plan.specs.Plan.{Plan, answers}
use Rattle.command_plan.specs.Texts.{absent_line, too_long_line, shelf_fault_line}

abbrev pub SaysBy : Plan → Result Answer Stop → Type 0
SaysBy plan (Ok answer) = plan ≡ answers answer.status (answer.text)
SaysBy plan (Err ending) = ending ≡ stop.OutOfMemory

-- the plan's answer is given without a call of the file store, or memory ran out
pub record Says (plan : Plan) (result : Result Answer Stop) : Type 0 where
  pub by_result : SaysBy plan result

-- a needed name was refused: it does not exist, or its content is too long
abbrev pub IsRefusal : ShelfState → List ℕ → ℕ → Answer → Type 0
IsRefusal shelf name limit answer =
    (answer.status ≡ status.FileRefused)
    × OnTrue shelf.tells (
    ((loaded shelf.files name limit ≡ content.Absent) × (answer.text ≡ absent_line name))
    ⊎ ((loaded shelf.files name limit ≡ content.TooLong) × (answer.text ≡ too_long_line name)))

abbrev pub FetchesBy : List ℕ → ℕ → ShelfState → ShelfState → Result (List ℕ) Stop → Type 0
FetchesBy name limit old new (Ok bytes) =
    (new ≡ after_call (Load name limit) old)
    × OnTrue old.tells (loaded old.files name limit ≡ content.Bytes bytes)
    × (length bytes ≤ limit)
    × All (λ byte. byte < 256) bytes
FetchesBy name limit old new (Err (stop.Answered answer)) = (new ≡ after_call (Load name limit) old) × IsRefusal old name limit answer
FetchesBy name limit old new (Err (stop.ShelfFault text)) = (new ≡ after_fault operation.Load name old) × (text ≡ shelf_fault_line name)
FetchesBy name limit old new (Err stop.OutOfMemory) =
    (new ≡ old) ⊎ ((new ≡ after_call (Load name limit) old) ⊎ (new ≡ after_fault operation.Load name old))

-- a needed name was loaded, or ended the command
pub record Fetches (name : List ℕ) (limit : ℕ) (old new : ShelfState) (result : Result (List ℕ) Stop) : Type 0 where
  pub by_result : FetchesBy name limit old new result

abbrev pub SavesBy : List ℕ → List ℕ → ShelfState → ShelfState → Result (Unit {0}) Stop → Type 0
SavesBy name content old new (Ok _) = new ≡ after_call (Save name content) (after_setting name content old)
SavesBy name content old new (Err (stop.Answered answer)) = ⊥
SavesBy name content old new (Err (stop.ShelfFault text)) = SaveFails name old new × (text ≡ shelf_fault_line name)
SavesBy name content old new (Err stop.OutOfMemory) = (new ≡ old) ⊎ SaveFails name old new

-- a content was saved under a name, or ended the command
pub record Saves (name content : List ℕ) (old new : ShelfState) (result : Result (Unit {0}) Stop) : Type 0 where
  pub by_result : SavesBy name content old new result

-- how a plan ends: with an answer, with a session, at a failed call, or out of memory
pub data PlanEnding : Type 0 where
  concluding : Answer → PlanEnding
  talking : (List ℕ → Talk) → PlanEnding
  faulting : List ℕ → PlanEnding
  wanting : PlanEnding

abbrev pub EndsBy : Plan → ShelfState → ShelfState → PlanEnding → Type 0
EndsBy plan old new (concluding answer) = Answers plan old new answer
EndsBy plan old new (talking talk) = Speaks plan old new talk
EndsBy plan old new (faulting text) = Faults plan old new text
EndsBy plan old new wanting = WantsMemory plan old new

-- the plan ended this way
pub record EndsAs (plan : Plan) (old new : ShelfState) (ending : PlanEnding) : Type 0 where
  pub by_ending : EndsBy plan old new ending

-- from the file store's present state the plan continues as its rest, whatever follows both
abbrev pub LeadsOn : {A : Type 0} → ((A → Plan) → Plan) → ((A → Plan) → Plan) → ShelfState → ShelfState → Type 0
LeadsOn {A} plan rest old now = (next : A → Plan) (final : ShelfState) (ending : PlanEnding)
    → EndsAs (rest next) now final ending → EndsAs (plan next) old final ending

abbrev pub ObtainsBy : {A : Type 0} → ((A → Plan) → Plan) → ShelfState → ShelfState → Result A Stop → Type 0
ObtainsBy plan old new (Ok value) = LeadsOn plan (λ next. next value) old new
ObtainsBy {A} plan old new (Err ending) = (next : A → Plan) → Performs (plan next) old new (Err ending)

-- what a plan needs first was obtained, or ended the command, whatever follows it
pub record Obtains {A : Type 0} (plan : (A → Plan) → Plan) (old new : ShelfState) (result : Result A Stop) : Type 0 where
  pub by_result : ObtainsBy plan old new result
