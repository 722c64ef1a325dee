-- `help` and `help COMMAND`: lists the commands with their arguments, or prints what one does. docs/reference/command-line.md says the same
-- for people.
use Rattle.std.specs.Prelude.{ℕ, List, [], ◌∷◌, ◌++◌, Option, bytes_eq, codes, find, flat_map}
use Rattle.ddc_base.specs.Lines.{line}
use Rattle.command_plan.specs.declared.status.Status.TheVariants.{Yes}
use Rattle.command_plan.specs.Plan.{Plan, answers}
use Rattle.command_plan.specs.Words.{or_usage, usage}
use Rattle.ddc_app.specs.declared.command_word.CommandWord.{CommandWord}
use Rattle.ddc_app.specs.declared.command_word.CommandWord.TheVariants as command

-- the commands, in the order in which they are listed
abbrev pub all_commands : List CommandWord
all_commands =
    command.Hex0 ∷
    command.Asm ∷
    command.Where ∷
    command.List ∷
    command.Run ∷
    command.Audit ∷
    command.Part ∷
    command.Resume ∷
    command.DeltaStart ∷
    command.DeltaResume ∷
    command.Show ∷
    command.Verify ∷
    command.Provenance ∷
    command.Chain ∷
    command.Rests ∷
    command.Step ∷
    command.Left ∷
    command.Cut ∷
    command.Segment ∷
    command.Ends ∷
    command.Kaem ∷
    command.KaemVerify ∷
    command.KaemLeft ∷
    command.Demo ∷
    command.Help ∷
    command.Version ∷ []

-- the word that names a command
abbrev pub command_name : CommandWord → List ℕ
command_name command.Hex0 = codes "hex0"
command_name command.Asm = codes "asm"
command_name command.Where = codes "where"
command_name command.List = codes "list"
command_name command.Run = codes "run"
command_name command.Audit = codes "audit"
command_name command.Part = codes "part"
command_name command.Resume = codes "resume"
command_name command.DeltaStart = codes "delta-start"
command_name command.DeltaResume = codes "delta-resume"
command_name command.Show = codes "show"
command_name command.Verify = codes "verify"
command_name command.Provenance = codes "provenance"
command_name command.Chain = codes "chain"
command_name command.Rests = codes "rests"
command_name command.Step = codes "step"
command_name command.Left = codes "left"
command_name command.Cut = codes "cut"
command_name command.Segment = codes "segment"
command_name command.Ends = codes "ends"
command_name command.Kaem = codes "kaem"
command_name command.KaemVerify = codes "kaem-verify"
command_name command.KaemLeft = codes "kaem-left"
command_name command.Demo = codes "demo"
command_name command.Help = codes "help"
command_name command.Version = codes "version"

-- the word of a command and the names of its arguments
unfoldable pub command_form : CommandWord → List ℕ
command_form command.Hex0 = codes "hex0 SOURCE BINARY"
command_form command.Asm = codes "asm LANG BASE SOURCE OUT"
command_form command.Where = codes "where LANG SOURCE NUMBER PLACE"
command_form command.List = codes "list BINARY"
command_form command.Run = codes "run PROGRAM STEPS ARG.."
command_form command.Audit = codes "audit RECIPE REPORT"
command_form command.Part = codes "part RECIPE SAVE REPORT STEPS"
command_form command.Resume = codes "resume RECIPE SAVE REPORT STEPS"
command_form command.DeltaStart = codes "delta-start RECIPE BASE PATCH REPORT STEPS"
command_form command.DeltaResume = codes "delta-resume RECIPE BASE PATCH REPORT STEPS"
command_form command.Show = codes "show REPORT"
command_form command.Verify = codes "verify RECIPE REPORT"
command_form command.Provenance = codes "provenance RECIPE REPORT"
command_form command.Chain = codes "chain LIST"
command_form command.Rests = codes "rests RECIPE STAGE"
command_form command.Step = codes "step RECIPE STAGE"
command_form command.Left = codes "left RECIPE STAGE FILE OUT"
command_form command.Cut = codes "cut RECIPE STAGE EVERY PREFIX"
command_form command.Segment = codes "segment FROM TO"
command_form command.Ends = codes "ends RECIPE STAGE PREFIX COUNT"
command_form command.Kaem = codes "kaem SCRIPT LIST REPORT STEPS"
command_form command.KaemVerify = codes "kaem-verify SCRIPT LIST REPORT"
command_form command.KaemLeft = codes "kaem-left SCRIPT LIST STEPS COMMAND FILE OUT"
command_form command.Demo = codes "demo N"
command_form command.Help = codes "help [COMMAND]"
command_form command.Version = codes "version"

-- what a command does
unfoldable pub command_answers : CommandWord → List ℕ
command_answers command.Hex0 = codes "compares the hex0 value of SOURCE with BINARY, byte for byte"
command_answers command.Asm = codes "assembles SOURCE in LANG (hex0, hex1, hex2, m1) at the address BASE, and saves under OUT its bytes, or for m1 the text of its items"
command_answers command.Where = codes "prints the line, the column and the word of SOURCE that a refusal of asm means, by its number and its place"
command_answers command.List = codes "lists the words of BINARY with their values and instructions"
command_answers command.Run = codes "runs PROGRAM for at most STEPS steps, and prints how it ended and what it left"
command_answers command.Audit = codes "runs the stages of RECIPE, compares their artefacts, and saves the report under REPORT"
command_answers command.Part = codes "runs the audit of RECIPE for at most STEPS steps, and saves its state under SAVE, or its report under REPORT if it ends"
command_answers command.Resume = codes "continues from SAVE for at most STEPS steps, as part does"
command_answers command.DeltaStart = codes "continues from BASE, and saves under PATCH what differs"
command_answers command.DeltaResume = codes "continues from BASE and PATCH, as delta-start does"
command_answers command.Show = codes "prints the report in REPORT, or the line where it is wrong"
command_answers command.Verify = codes "replays RECIPE's stages, and answers whether REPORT is true"
command_answers command.Provenance = codes "does as verify, and lists by length and digest what each compared artefact depends on"
command_answers command.Chain = codes "replays the audits that LIST names, and prints the assumptions that are left for all of them together"
command_answers command.Rests = codes "lists the texts, runs and assumptions behind STAGE's artefact"
command_answers command.Step = codes "steps through the program of STAGE by commands on standard input"
command_answers command.Left = codes "runs STAGE, and saves under OUT what it left at FILE"
command_answers command.Cut = codes "runs STAGE, and saves its state after every EVERY steps as PREFIX.0, PREFIX.1 and so on"
command_answers command.Segment = codes "answers whether the state FROM runs on to the state TO"
command_answers command.Ends = codes "answers whether PREFIX.0 is the start of STAGE, and how the run ends after the last of COUNT states"
command_answers command.Kaem = codes "runs the commands of SCRIPT over the files that LIST names, and saves their report under REPORT"
command_answers command.KaemVerify = codes "replays the commands, and answers whether REPORT is true"
command_answers command.KaemLeft = codes "runs the commands of SCRIPT up to the one of number COMMAND, and saves under OUT what that left at FILE"
command_answers command.Demo = codes "makes and verifies an audit of N bytes with copy.elf and copy.hex0, and saves nothing"
command_answers command.Help = codes "lists the commands, or what COMMAND does and its statuses"
command_answers command.Version = codes "names this release of ddc, and the logic that proves it"

-- a command's own statuses
unfoldable pub command_statuses : CommandWord → List ℕ
command_statuses command.Hex0 = codes "0 3"
command_statuses command.Asm = codes "0 7"
command_statuses command.Where = codes "0 1"
command_statuses command.List = codes "0"
command_statuses command.Run = codes "0 6"
command_statuses command.Audit = codes "0 3 4 6 7"
command_statuses command.Part = codes "0 3 4 6 7 8"
command_statuses command.Resume = codes "0 3 4 6 7 8 9"
command_statuses command.DeltaStart = codes "0 3 4 6 7 8 9"
command_statuses command.DeltaResume = codes "0 3 4 6 7 8 9"
command_statuses command.Show = codes "0 5"
command_statuses command.Verify = codes "0 1 3 4 5"
command_statuses command.Provenance = codes "0 1 3 4 5"
command_statuses command.Chain = codes "0 1 3 4 5 16"
command_statuses command.Rests = codes "0 4"
command_statuses command.Step = codes "0 4 6 7"
command_statuses command.Left = codes "0 4 6 7 10"
command_statuses command.Cut = codes "0 4 6 7 14"
command_statuses command.Segment = codes "0 1"
command_statuses command.Ends = codes "0 1 4 6 7"
command_statuses command.Kaem = codes "0 6 15 16"
command_statuses command.KaemVerify = codes "0 1 5 15 16"
command_statuses command.KaemLeft = codes "0 6 10 15 16"
command_statuses command.Demo = codes "0 3 6 7"
command_statuses command.Help = codes "0"
command_statuses command.Version = codes "0"

-- the command that a word names, if there is one
abbrev pub command_named : List ℕ → Option CommandWord
command_named word = find (λ command. bytes_eq (command_name command) word) all_commands

-- the line of a command: its word and the names of its arguments
abbrev pub form_line : CommandWord → List ℕ
form_line command = line (command_form command ∷ [])

abbrev pub help_text : List ℕ
help_text = flat_map form_line all_commands

-- the lines of a command: its arguments, what it does, and its statuses
abbrev pub command_page : CommandWord → List ℕ
command_page command = form_line command ++ line (command_answers command ∷ []) ++ line (codes "statuses" ∷ command_statuses command ∷ [])

-- the plan for the words after `help`
abbrev pub help_plan : List (List ℕ) → Plan
help_plan [] = answers Yes help_text
help_plan (word ∷ []) = or_usage (command_named word) (λ command. answers Yes (command_page command))
help_plan _ = usage
