use Rattle.std.proofs.Common.{◌≡◌, refl}
use denote.Enum.Declared.{tag_of}
use Rattle.rv64_table.specs.contracts.Op.{the_type}
use Rattle.rv64_table.specs.declared.Op.{Op}
use Rattle.rv64_table.specs.declared.Op.TheVariants.{Lui}
use Rattle.rv64_table.specs.Table.{op_number}
use Rattle.rv64_table.proofs.Op.number.Goals as goal

tags : (op : Op) → tag_of the_type op ≡ op_number op
tags Lui = refl
tags _ = refl

pub returns : goal.returns
returns c = tags c.args.self
