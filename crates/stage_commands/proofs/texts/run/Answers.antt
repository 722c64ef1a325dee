use Rattle.stage_commands.proofs.RunTexts.{run_written}
use Rattle.stage_commands.proofs.texts.run.Goals as goal

pub returns : goal.returns
returns c =
    rw (c.in_ok-put_made.ensures, c.in_ok-put_world.ensures, c.in_ok-put_stage.ensures, c.new-text.ensures)
    (run_written c.args.name.now c.args.steps c.args.files.now c.args.made.now)
