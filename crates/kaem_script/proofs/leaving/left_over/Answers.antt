use Rattle.kaem_script.specs.Inside.Commands.{world_in}
use Rattle.kaem_script.specs.Leaving.{command_left}
use Rattle.kaem_script.proofs.LeftByCommands.{ran_over}
use Rattle.kaem_script.proofs.leaving.left_over.Goals as goal

pub returns-in-Ok-clause-leaves : goal.returns-in-Ok-clause-leaves
returns-in-Ok-clause-leaves c number =
    ran_over (command_left c.args.most number (world_in c.args.present) c.args.words.now) number _ c.run_over.result
    (rw (c.in-Ok.is, c.files_in.ensures) at (c.in_ok-guest.ensures.leaves c.args.most number)) c.run_over.ensures

pub returns-in-Err-clause-leaves : goal.returns-in-Err-clause-leaves
returns-in-Err-clause-leaves c number = rw (c.in-Err.is, c.files_in.ensures) at (c.in_ok-guest.ensures.leaves c.args.most number)
