use Rattle.std.proofs.Common.{sym, ◌∙◌}
use Rattle.tool_commands.proofs.FileWords.{word-named}
use Rattle.tool_commands.proofs.listed_file.FileLineListed.read.Goals as goal

pub invariant_of-result : goal.invariant_of-result
invariant_of-result c =
    word-named c.args.earlier.now c.args.line.now c.in-Some.word (sym c.in-Some.is ∙ c.in_ok-word.ensures) c.show_listed.ensures (sym c.names_another.ensures ∙ c.if-not-names_another.false)
