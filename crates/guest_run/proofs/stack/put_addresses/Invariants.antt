use Rattle.std.proofs.Common.{◌≡◌, ◌+◌, ◌++◌, drop, length}
use Rattle.std.specs.List.{flat_map}
use Rattle.paged_mem.specs.Memory.{bytes_of}
use Rattle.guest_run.specs.Stack.{addresses, ended_texts}
use Rattle.guest_run.proofs.stack.put_addresses.Given as goal

abbrev pub invariant-loop-text : goal.invariant-loop-text
invariant-loop-text l =
    (l.bytes.items ++ flat_map (bytes_of 8) (addresses l.next (drop l.text-index l.texts))
    ≡ l.fn.bytes.items ++ flat_map (bytes_of 8) (addresses l.at l.texts))
    × (l.next + length (ended_texts (drop l.text-index l.texts)) ≡ l.at + length (ended_texts l.texts))
