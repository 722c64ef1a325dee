-- A command that saves what it loaded under two names: it is no command of ddc, and tries the rules of saves.
use Rattle.std.specs.Prelude.{ℕ, List, length}
use Rattle.command_plan.specs.declared.status.Status.TheVariants.{Yes}
use Rattle.command_plan.specs.Texts.{equal_line}
use Rattle.command_plan.specs.Plan.{Plan, answers, needs, sets}

-- the content is saved under one name, and then under the other
unfoldable pub kept_twice : List ℕ → List ℕ → List ℕ → Plan
kept_twice first second content = sets first content (sets second content (answers Yes (equal_line (length content))))

-- the source is needed, of at most four bytes
unfoldable pub copied_twice : List ℕ → List ℕ → List ℕ → Plan
copied_twice source first second = needs source 4 (λ content. kept_twice first second content)
