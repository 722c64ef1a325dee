use Rattle.guest_run.specs.Setting.{IsText}
use Rattle.guest_tests.proofs.programs.long_text.Given as goal

abbrev pub invariant-long : goal.invariant-long
invariant-long l = IsText l.text.items
