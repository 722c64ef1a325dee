use Rattle.mem_files.specs.Names.{stripped}
use Rattle.guest_run.proofs.Boxes.{placed-box}
use Rattle.guest_run.proofs.run_box.RunBox.place.Goals as goal

pub invariant_of-self : goal.invariant_of-self
invariant_of-self c =
    placed-box (record { args = c.self.inside.args.items; env = c.self.inside.env.items; files = c.self.inside.files; heap = c.self.inside.heap })
    (stripped c.args.name.now) c.args.content.now c.place_in.result c.place_in.new.files c.self.invariant c.place_in.ensures.answer c.place_in.ensures.each
