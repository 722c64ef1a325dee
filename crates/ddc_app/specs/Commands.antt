-- The commands by their first word. docs/reference/command-line.md says the same for people.
use Rattle.std.specs.Prelude.{ℕ, Bool, false, true, List, [], ◌∷◌, Option, None, Some, bytes_eq, codes, if◌then◌else◌, option_map}
use Rattle.command_plan.specs.Plan.{Plan}
use Rattle.command_plan.specs.Words.{or_usage}
use Rattle.audit_commands.specs.Audit.{audit_plan}
use Rattle.stage_commands.specs.Left.{left_plan}
use Rattle.audit_commands.specs.Show.{show_plan}
use Rattle.tool_commands.specs.Asm.{asm_plan}
use Rattle.tool_commands.specs.Hex0.{hex0_plan}
use Rattle.tool_commands.specs.Kaem.{kaem_plan}
use Rattle.tool_commands.specs.KaemLeft.{kaem_left_plan}
use Rattle.tool_commands.specs.KaemVerify.{kaem_verify_plan}
use Rattle.tool_commands.specs.List.{list_plan}
use Rattle.tool_commands.specs.RunProgram.{run_plan}
use Rattle.tool_commands.specs.Where.{where_plan}
use Rattle.audit_commands.specs.Pause.{part_plan, resume_plan}
use Rattle.audit_commands.specs.Delta.{delta_resume_plan, delta_start_plan}
use Rattle.stage_commands.specs.Step.{step_plan}
use Rattle.verify_commands.specs.Chain.{chain_plan}
use Rattle.audit_commands.specs.Demo.{demo_plan}
use Rattle.stage_commands.specs.Cut.{cut_plan}
use Rattle.stage_commands.specs.Ends.{ends_plan}
use Rattle.stage_commands.specs.Segment.{segment_plan}
use Rattle.verify_commands.specs.Rests.{rests_plan}
use Rattle.verify_commands.specs.Verify.{provenance_plan, verify_plan}
use Rattle.ddc_app.specs.Help.{command_named, help_plan}
use Rattle.ddc_app.specs.Version.{version_plan}
use Rattle.ddc_app.specs.declared.command_word.CommandWord.{CommandWord}
use Rattle.ddc_app.specs.declared.command_word.CommandWord.TheVariants as command

-- the plan of each command, for the words after its name
abbrev pub plan_of_command : CommandWord → List (List ℕ) → Plan
plan_of_command command.Hex0 words = hex0_plan words
plan_of_command command.Asm words = asm_plan words
plan_of_command command.Where words = where_plan words
plan_of_command command.List words = list_plan words
plan_of_command command.Run words = run_plan words
plan_of_command command.Audit words = audit_plan words
plan_of_command command.Part words = part_plan words
plan_of_command command.Resume words = resume_plan words
plan_of_command command.DeltaStart words = delta_start_plan words
plan_of_command command.DeltaResume words = delta_resume_plan words
plan_of_command command.Show words = show_plan words
plan_of_command command.Verify words = verify_plan words
plan_of_command command.Provenance words = provenance_plan words
plan_of_command command.Chain words = chain_plan words
plan_of_command command.Rests words = rests_plan words
plan_of_command command.Step words = step_plan words
plan_of_command command.Left words = left_plan words
plan_of_command command.Cut words = cut_plan words
plan_of_command command.Segment words = segment_plan words
plan_of_command command.Ends words = ends_plan words
plan_of_command command.Kaem words = kaem_plan words
plan_of_command command.KaemVerify words = kaem_verify_plan words
plan_of_command command.KaemLeft words = kaem_left_plan words
plan_of_command command.Demo words = demo_plan words
plan_of_command command.Help words = help_plan words
plan_of_command command.Version words = version_plan words

-- the command that a first word names; `--help` and `--version` name `help` and `version`
abbrev pub command_first : List ℕ → Option CommandWord
command_first word =
    if bytes_eq word (codes "--help") then Some command.Help
    else (if bytes_eq word (codes "--version") then Some command.Version
    else command_named word)

-- the command that a command line names, and the words after its name; None if it names no command
abbrev pub command_read : List (List ℕ) → Option (CommandWord × List (List ℕ))
command_read [] = None
command_read (word ∷ words) = option_map (λ command. (command, words)) (command_first word)

-- the plan of a command line
abbrev pub plan_of : List (List ℕ) → Plan
plan_of words = or_usage (command_read words) (λ line. plan_of_command line.0 line.1)

-- whether a command may begin a session: only `step`
abbrev pub may_begin_session : CommandWord → Bool
may_begin_session command.Step = true
may_begin_session _ = false

-- whether a command line that was read, if it names a command, may begin a session
abbrev pub reads_step : Option (CommandWord × List (List ℕ)) → Bool
reads_step None = false
reads_step (Some line) = may_begin_session line.0

abbrev pub is_step : List (List ℕ) → Bool
is_step words = reads_step (command_read words)
