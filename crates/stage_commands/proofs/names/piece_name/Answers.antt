use Rattle.stage_commands.proofs.PieceNames.{names_file}
use Rattle.stage_commands.proofs.names.piece_name.Goals as goal

pub returns-in_err-format-clause-file : goal.returns-in_err-format-clause-file
returns-in_err-format-clause-file c = names_file c.args.prefix.now c.args.number c.text-prefix.ensures.prefix c.requires

pub returns-clause-file : goal.returns-clause-file
returns-clause-file c = names_file c.args.prefix.now c.args.number c.text-prefix.ensures.prefix c.requires
