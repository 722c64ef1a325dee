use Rattle.std.proofs.Common.{◌≡◌, ◌++◌, length, filter, option_copied}
use Rattle.std.specs.FinMap as map
use Rattle.mem_files.specs.Calls.{is_after}
use Rattle.tool_commands.proofs.LeftNames.{name_lines}
use Rattle.tool_commands.proofs.run_texts.put_left.Given as goal

abbrev pub invariant-loop-name : goal.invariant-loop-name
invariant-loop-name l =
    l.text ++ name_lines l.files (filter (is_after (option_copied l.last)) (map.keys l.files.names))
    ≡ l.initial.text ++ name_lines l.files (map.keys l.files.names)

abbrev pub decreases-loop-name : goal.decreases-loop-name
decreases-loop-name l = length (filter (is_after (option_copied l.last)) (map.keys l.files.names))
