use Rattle.std.proofs.Common.{◌≡◌, ◌-◌, ◌++◌, take, drop, replicate}
use Rattle.std.specs.List.{range_with_len}
use Rattle.paged_mem.proofs.gaps.insert_numbers.Given as goal

-- the numbers stand as far as the loop has come, and the room is still filled with zeros past them
abbrev pub invariant-loop-i : goal.invariant-loop-i
invariant-loop-i l =
    l.pages.items ≡ take l.at l.fn.pages.items ++ (range_with_len l.number l.i ++ (replicate (l.count - l.i) 0 ++ drop l.at l.fn.pages.items))
