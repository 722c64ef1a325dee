use Rattle.std.proofs.Common.{◌≡◌, ◌++◌, take}
use Rattle.std.specs.List.{flat_map}
use Rattle.ddc_app.specs.Help.{form_line}
use Rattle.ddc_app.proofs.help.put_forms.Given as goal

abbrev pub invariant-loop-command : goal.invariant-loop-command
invariant-loop-command l = l.text ≡ l.fn.text ++ flat_map form_line (take l.command-index l.commands)
