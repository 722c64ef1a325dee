use Rattle.std.proofs.Common.{◌≡◌, ◌-◌, ◌++◌, map}
use Rattle.std.specs.FinMap as fin
use Rattle.save_format.specs.StateText.Seen.{descriptor_view}
use Rattle.save_format.proofs.StateTextLemmas.Listed.{from_on}
use Rattle.save_format.proofs.state_text.listing.descriptors_of.Given as goal

abbrev pub decreases-loop-fd : goal.decreases-loop-fd
decreases-loop-fd l = 1024 - l.number

abbrev pub invariant-loop-fd : goal.invariant-loop-fd
invariant-loop-fd l = map descriptor_view l.list.items ++ from_on l.number (fin.entries l.files.open_files) ≡ from_on 0 (fin.entries l.files.open_files)
