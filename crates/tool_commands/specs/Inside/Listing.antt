-- A list of files none of which is to be written.
use Rattle.std.specs.Prelude.{ℕ, List}
use Rattle.ddc_base.specs.Limits.{most_files}
use Rattle.command_plan.specs.Lists.{needs_list}
use Rattle.command_plan.specs.Plan.{Plan}
use Rattle.tool_commands.specs.Scripts.{file_line, needs_unlisted}

-- loads the list, of at most 4,096 lines, none of which names the same file as REPORT
abbrev pub needs_unlisted_words : List ℕ → List ℕ → (List (List ℕ) → Plan) → Plan
needs_unlisted_words list report next = needs_list file_line most_files list (λ words. needs_unlisted words report (λ _. next words))
