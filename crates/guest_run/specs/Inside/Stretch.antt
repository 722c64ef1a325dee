-- A stretch of steps, the unit in which the code takes them. To read the promises, this file is not needed.
use Rattle.std.specs.Prelude.{◌≡◌, ℕ, ◌+◌, ◌<◌, Option, Some}
use Rattle.guest_run.specs.declared.run.RunEnd.{RunEnd}
use Rattle.guest_run.specs.Run.{after, Steps}
use Rattle.guest_run.specs.State.{GuestState}
use Rattle.guest_run.specs.Travels.{travel}

-- `count` steps lead from one state to another without a stop, and both states continue to the same result
pub record Leads (stop : Option ℕ) (old last : GuestState) (count : ℕ) : Type 0 where
  pub reached : after old count ≡ Some last
  pub same : (left : ℕ) → travel stop old (count + left) ≡ travel stop last left

-- fewer than `most` steps without a stop, and then one step with this answer
pub record Stretches (stop : Option ℕ) (old : GuestState) (most : ℕ) (end : Option RunEnd) (new : GuestState) : Type 0 where
  pub count : ℕ
  pub last : GuestState
  pub few : count < most
  pub leads : Leads stop old last count
  pub step : Steps last end new
