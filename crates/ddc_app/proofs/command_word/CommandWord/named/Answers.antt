use Rattle.std.proofs.Common.{bytes_eq, find, ap, ◌∙◌}
use Rattle.ddc_app.specs.Help.{command_name}
use Rattle.ddc_app.proofs.command_word.CommandWord.named.Goals as goal

pub returns-in-Some : goal.returns-in-Some
returns-in-Some c = c.in-Some.ensures ∙ ap (λ commands. find (λ command. bytes_eq (command_name command) c.args.word.now) commands) c.all.ensures
