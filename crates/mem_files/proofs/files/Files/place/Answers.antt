use Rattle.std.proofs.Common.{◌<◌, arith}
use Rattle.std.proofs.lemmas.List.Elements.{All-from_get_or}
use Rattle.mem_files.proofs.AnswersLemmas.{places-sound}
use Rattle.mem_files.proofs.Rules.{placed-sound}
use Rattle.mem_files.proofs.files.Files.place.Goals as goal

pub invariant_of-self : goal.invariant_of-self
invariant_of-self c =
    places-sound c.place.result c.self.inside.table c.place.new.self _ c.place.ensures c.self.invariant (placed-sound c.self.inside.table c.args.name.now c.args.content.now c.self.invariant
    (All-from_get_or (λ byte. byte < 256) c.args.name.now 0 (λ i less. omega (arith, c.type_inv.name i)))
    (All-from_get_or (λ byte. byte < 256) c.args.content.now 0 (λ i less. omega (arith, c.type_inv.content i))))
