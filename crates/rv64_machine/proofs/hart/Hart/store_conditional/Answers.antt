use Rattle.std.proofs.Common.{◌≡◌, ◌∙◌, sym, ap, false}
use Rattle.std.proofs.lemmas.Bool.{false≢true}
use Rattle.paged_mem.specs.Memory.{maps}
use Rattle.paged_mem.specs.Ram.{count_of}
use Rattle.paged_mem.proofs.Numbers.{length-bytes_of}
use Rattle.rv64_machine.proofs.ActLemmas.{found-mapped}
use Rattle.rv64_machine.proofs.hart.Hart.store_conditional.Goals as goal

-- bytes that were found are mapped
pub returns-in-Err-Unmapped : goal.returns-in-Err-Unmapped
returns-in-Err-Unmapped g c =
    let memory = c.args.self.now.memory in
    let count = count_of c.args.width in
    let gone = rw c.in-Err-Unmapped.field-0-is at c.in-Err-Unmapped.ensures.stores in
    let none : maps memory c.args.at count ≡ false = sym (ap (maps memory c.args.at) (length-bytes_of count _)) ∙ gone.0 in
    absurd (false≢true (sym none ∙ found-mapped memory c.args.at count c.in-Some.field-0 (sym c.in-Some.ensures.value)))
