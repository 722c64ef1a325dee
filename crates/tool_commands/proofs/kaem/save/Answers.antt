use Rattle.std.proofs.Common.{◌∙◌}
use Rattle.tool_commands.proofs.ScriptEnds.{saved-so}
use Rattle.tool_commands.proofs.kaem.save.Goals as goal

pub returns : goal.returns
returns g c =
    saved-so c.args.file.now c.as_slice-2.result.now c.as_slice.result.now c.args.made.now c.in_ok-answer.answer _ _ c.keep.result (c.as_slice-2.ensures ∙ c.in_ok-text.ensures.value) c.as_slice.ensures
    c.in_ok-answer.ensures c.keep.ensures
