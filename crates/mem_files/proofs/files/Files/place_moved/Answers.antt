use Rattle.std.proofs.Common.{◌<◌, arith, subst}
use Rattle.mem_files.specs.Sound.{AreBytes}
use Rattle.std.proofs.lemmas.List.Elements.{All-from_get_or}
use Rattle.mem_files.proofs.AnswersLemmas.{places-sound}
use Rattle.mem_files.proofs.Rules.{placed-sound}
use Rattle.mem_files.proofs.files.Files.place_moved.Goals as goal

pub invariant_of-self : goal.invariant_of-self
invariant_of-self c =
    places-sound c.place_moved.result c.self.inside.table c.place_moved.new.self _ c.place_moved.ensures c.self.invariant (placed-sound c.self.inside.table c.args.name.now c.args.content.items c.self.invariant
    (All-from_get_or (λ byte. byte < 256) c.args.name.now 0 (λ i less. omega (arith, c.type_inv.name i)))
    (subst AreBytes c.as_slice.ensures.value c.show_bytes.ensures))
