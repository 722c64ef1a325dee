use Rattle.verify_commands.proofs.PrintedMarks.{printed-marks}
use Rattle.verify_commands.proofs.laws.what_is_printed_settles_it.Goals as goal

pub returns : goal.returns
returns c recipe inputs others report other name stage ok one two is was at printed =
    c.the_marks_settle_it.ensures recipe inputs others report other name stage ok one two is was at
    (printed-marks recipe inputs others report other ok one two is was name printed)
