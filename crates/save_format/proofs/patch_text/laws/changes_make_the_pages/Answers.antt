use Rattle.save_format.proofs.PatchTextLemmas.Pages.{changed_changes}
use Rattle.save_format.proofs.patch_text.laws.changes_make_the_pages.Goals as goal

pub returns : goal.returns
returns c = changed_changes
