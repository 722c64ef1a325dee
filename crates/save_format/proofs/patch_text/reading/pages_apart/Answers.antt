use Rattle.std.proofs.Common.{map}
use Rattle.save_format.specs.StateText.Seen.{page_view}
use Rattle.save_format.specs.PatchText.Seen.{change_view}
use Rattle.save_format.proofs.PatchTextLemmas.Listing.{changes_rise}
use Rattle.save_format.proofs.PatchTextLemmas.Pages.{pages_rise}
use Rattle.save_format.proofs.patch_text.reading.pages_apart.Goals as goal

pub several_changes-requires : goal.several_changes-requires
several_changes-requires c = pages_rise 0 (map page_view c.args.base.now) c.requires

pub changed-requires-clause-changes : goal.changed-requires-clause-changes
changed-requires-clause-changes c =
    rw c.as_slice.ensures.value
    (changes_rise (map page_view c.args.base.now) c.in_ok-count.count 0 c.u32.new.self (map change_view c.in_ok-changes.changes.items) c.several_changes.new.cursor c.in_ok-changes.ensures)
