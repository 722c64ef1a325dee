use Rattle.std.proofs.Common.{arith, sym}
use Rattle.std.proofs.lemmas.List.{length-take-le}
use Rattle.tool_commands.proofs.shown_words.shown_word.Goals as goal

pub slice_bounds-shown_each-end : goal.slice_bounds-shown_each-end
slice_bounds-shown_each-end c = sym (length-take-le 64 c.args.word.now (omega arith))
