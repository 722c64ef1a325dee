use Rattle.std.proofs.Common.{sym}
use Rattle.paged_mem.specs.Ram.{count_of}
use Rattle.rv64_machine.proofs.Keeping.{found-placed, wide-some}
use Rattle.rv64_machine.proofs.hart.Hart.load_reserved.Goals as goal

pub set_reservation-requires : goal.set_reservation-requires
set_reservation-requires g c =
    let placed = found-placed c.args.self.now.memory c.args.at (count_of c.args.width) c.in-Some.value (sym c.in-Some.ensures.value) c.show_rules.ensures.hart.whole
    (wide-some c.args.width c.requires.wide) in
    (c.requires.wide, placed.0, placed.1)
