-- The report on a script's commands, and how an audit of a script ends. docs/reference/kaem.md says the same for people. Digests are
-- SHA-256 (FIPS 180-4).
use Rattle.std.specs.Prelude.{ℕ, Ok, Err, List, map}
use Rattle.mem_files.specs.World.{World}
use Rattle.mem_files.specs.Outputs.{left}
use Rattle.report.specs.declared.types.LeftLine.{LeftLine}
use Rattle.report.specs.Marks.{mark_of}
use Rattle.report.specs.declared.script.types.CommandLine.{CommandLine}
use Rattle.report.specs.declared.script.types.ScriptReport.{ScriptReport}
use Rattle.kaem_script.specs.Script.{ScriptContents}
use Rattle.kaem_script.specs.FilesListed.{FilesListed, listed_files}
use Rattle.kaem_script.specs.Fold.{RanAll, Folded, Ran, ScriptResult, Stopped, folded}

-- a file by its name, with the mark of its bytes
abbrev pub marked : List ℕ × List ℕ → LeftLine
marked file = record { name = file.0; mark = mark_of file.1 }

-- the lines of a command that ran: its step, and what it wrote to its streams
abbrev pub command_line : Ran → CommandLine
command_line ran = record { steps = ran.steps; stream1 = mark_of ran.world.stream1; stream2 = mark_of ran.world.stream2 }

-- the report of a script whose commands all ran and left these files
unfoldable pub script_report : ScriptContents → FilesListed → List Ran → World → ScriptReport
script_report script listed ran world = record {
  script = script.digest;
  files = map marked (listed_files listed);
  commands = map command_line ran;
  left = map marked (left world);
}

abbrev pub script_ended : ScriptContents → FilesListed → Folded → ScriptResult ScriptReport
script_ended script listed (RanAll ran world) = Ok (script_report script listed ran world)
script_ended script listed (Stopped number why step) = Err (number, why, step)

-- the result of a script on the listed files, each of its commands within `most` steps
abbrev pub end_of_script : ℕ → ScriptContents → FilesListed → ScriptResult ScriptReport
end_of_script most script listed = script_ended script listed (folded most listed.world script.commands)
