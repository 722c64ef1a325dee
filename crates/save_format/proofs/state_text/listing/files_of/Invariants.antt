use Rattle.std.proofs.Common.{◌≡◌, ◌-◌, ◌++◌, map}
use Rattle.ddc_base.specs.Limits.{file_number_end}
use Rattle.save_format.specs.StateText.Seen.{file_view}
use Rattle.save_format.proofs.StateTextLemmas.Listed.{files_from}
use Rattle.save_format.proofs.state_text.listing.files_of.Given as goal

abbrev pub decreases-loop-file : goal.decreases-loop-file
decreases-loop-file l = file_number_end - l.number

abbrev pub invariant-loop-file : goal.invariant-loop-file
invariant-loop-file l = map file_view l.list.items ++ files_from l.files l.number ≡ files_from l.files 0
