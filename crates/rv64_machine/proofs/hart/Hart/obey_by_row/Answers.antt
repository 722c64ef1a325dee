use Rattle.std.proofs.Common.{refl, sym, ap}
use Rattle.rv64_decode.proofs.Decoding.{decoded-none}
use Rattle.rv64_machine.specs.Hart.{runs}
use Rattle.rv64_machine.proofs.hart.Hart.obey_by_row.Goals as goal

pub returns-in-None : goal.returns-in-None
returns-in-None g c = (ap (runs c.args.self.now c.args.word) (decoded-none c.args.word (sym c.in-None.ensures)), refl)
