use Rattle.std.proofs.Common.{◌<◌, arith}
use Rattle.std.proofs.lemmas.List.Elements.{All-from_get_or}
use Rattle.mem_files.proofs.AnswersLemmas.{answers-sound}
use Rattle.mem_files.proofs.Rules.{opened-sound}
use Rattle.mem_files.proofs.files.Files.open_name.Goals as goal

pub invariant_of-self : goal.invariant_of-self
invariant_of-self c =
    answers-sound c.open_name.result c.self.inside.table c.open_name.new.self _ c.open_name.ensures c.self.invariant (opened-sound c.self.inside.table c.args.name.now c.args.flags c.self.invariant c.requires
    (All-from_get_or (λ byte. byte < 256) c.args.name.now 0 (λ i less. omega (arith, c.type_inv.name i))))
