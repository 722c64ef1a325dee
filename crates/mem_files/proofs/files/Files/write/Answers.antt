use Rattle.std.proofs.Common.{◌≡◌, ◌<◌, Result, Ok, Err, OnOk, OnErr, ap, subst, sym, arith}
use Rattle.std.proofs.lemmas.List.Elements.{All-from_get_or}
use Rattle.ddc_base.specs.declared.byte_list.OutOfMemory.{OutOfMemory}
use Rattle.mem_files.specs.Calls.{written}
use Rattle.mem_files.specs.Sound.{IsSound}
use Rattle.mem_files.proofs.Rules.{written-sound}
use Rattle.mem_files.proofs.files.Files.write.Goals as goal

pub invariant_of-self : goal.invariant_of-self
invariant_of-self c =
    let meant = written-sound c.self.inside.table c.args.fd c.args.bytes.now c.self.invariant
    (All-from_get_or (λ byte. byte < 256) c.args.bytes.now 0 (λ i less. omega (arith, c.type_inv.bytes i))) in
    elim c.write.result as (λ (result : Result (Unit {0}) OutOfMemory). OnOk result (written c.self.inside.table c.args.fd c.args.bytes.now ≡ (Ok tt, c.write.new.self)) → OnErr result (c.write.new.self ≡ c.self.inside.table) → IsSound c.write.new.self) [
      | Ok done ↦ λ is _. subst IsSound (ap (λ answer. answer.1) is) meant
      | Err error ↦ λ _ is. subst IsSound (sym is) c.self.invariant
    ] c.write.ensures.ok c.write.ensures.err
