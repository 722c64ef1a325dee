-- The outcome of the top call, by its status. docs/reference/command-line.md says the same for people.
use Rattle.std.specs.Prelude.{◌≡◌, ℕ, ◌⊎◌, IsFalse, None, List, map}
use Rattle.std.specs.Borrow.{Bor}
use Rattle.ddc_base.specs.declared.outside.Operation.{Operation}
use Rattle.ddc_base.specs.Outside.{ShelfState, SinkState, PutFails, after_piece}
use Rattle.command_plan.specs.Plan.{Plan, Outcome, outcome, talk_of, IsSettled}
use Rattle.command_plan.specs.Endings.{Completes, Fails}
use Rattle.command_plan.specs.Texts.{shelf_fault_line}
use Rattle.ddc_app.specs.Commands.{is_step, plan_of}

-- the plan of these words
abbrev pub plan_for : List (Bor (List ℕ)) → Plan
plan_for words = plan_of (map (λ word. word.now) words)

-- the outcome of these words on what a store holds; it is determined if the store's contents are known or the plan loads nothing
abbrev pub expected : List (Bor (List ℕ)) → ShelfState → Outcome
expected words shelf = outcome (plan_for words) shelf.files

abbrev pub IsExpected : List (Bor (List ℕ)) → ShelfState → Type 0
IsExpected words shelf = IsSettled (plan_for words) shelf.tells

-- these words write one text: they name another command than `step`, or a `step` whose plan is no session
abbrev pub IsOneText : List (Bor (List ℕ)) → ShelfState → Type 0
IsOneText words shelf =
    IsFalse (is_step (map (λ word. word.now) words)) ⊎ (IsExpected words shelf × (talk_of (plan_for words) shelf.files ≡ None))

-- exactly one text was written, in one piece
abbrev pub TakesOne : SinkState → SinkState → Type 0
TakesOne before after = (piece : List ℕ) × (after ≡ after_piece piece before)

-- a call of the plan failed, and the line that names its file was written
pub record NamesFault (plan : Plan) (old new : ShelfState) (before after : SinkState) : Type 0 where
  pub call : Operation × List ℕ
  pub failed : Fails plan call old new
  pub put : after ≡ after_piece (shelf_fault_line call.1) before

-- The one write failed. It was that of the outcome's text, where there was no session, or of the line of a failed call of the plan
pub record LosesText (plan : Plan) (old new : ShelfState) (before after : SinkState) : Type 0 where
  pub piece : List ℕ
  pub put : PutFails piece before after
  pub cause :
      (Completes plan old new × (IsSettled plan old.tells → (piece ≡ (outcome plan old.files).text) × (talk_of plan old.files ≡ None)))
      ⊎ ((call : Operation × List ℕ) × Fails plan call old new × (piece ≡ shelf_fault_line call.1))
