use Rattle.std.proofs.Common.{refl}
use Rattle.std.specs.List.{flat_map}
use Rattle.std.proofs.lemmas.List.{drop_all}
use Rattle.report.specs.Script.Lines.{script_line_words}
use Rattle.report.specs.Script.Reports.{command_block}
use Rattle.report.proofs.Written.{writes_next, writes_all}
use Rattle.report.proofs.script.writing.put_commands.Goals as goal

pub loop-command-preserved : goal.loop-command-preserved
loop-command-preserved c =
    writes_next script_line_words (flat_map command_block) command_block (λ x xs. refl) c.args.out.now c.args.commands.now c.loop-command.command-index _
    c.loop-command.out c.put_command.new.out c.loop-command-test.true c.loop-command.invariant c.in_ok-put_command.ensures

pub returns : goal.returns
returns c =
    writes_all script_line_words (flat_map command_block) refl c.args.out.now c.args.commands.now c.loop-command.command-index c.loop-command.out
    (drop_all c.loop-command.command-index c.args.commands.now c.loop-command-test.false) c.loop-command.invariant
