use Rattle.std.proofs.Common.{map, get_or, [], refl, take, ◌∙◌}
use Rattle.save_format.specs.declared.state_text.parts.Page.{Page}
use Rattle.save_format.specs.StateText.Seen.{page_view}
use Rattle.checkpoints.proofs.MemoryPartsLemmas.Filling.{all_filled, fill_step, filled_on, turned}
use Rattle.checkpoints.proofs.MemoryPartsLemmas.Filled.{no_hole, still_alike}
use Rattle.checkpoints.proofs.memory_parts.making.fill_pages.Goals as goal

no_page : Page
no_page = record { number = 0; bytes = record { ref_ptr = (0, 0); now = [] } }

pub loop-page-init : goal.loop-page-init
unfolding filled_on
loop-page-init g c = record { written = refl; alike = λ q. refl }

pub unreachable-requires : goal.unreachable-requires
unfolding no_page
unreachable-requires g c =
    let page : Page = get_or c.args.pages.now c.loop-page.page-index no_page in
    let refused = rw c.in-Err-Unmapped.field-0-is at c.in-Err-Unmapped.ensures in
    no_hole (g.R.Ram.bytes c.loop-page.ram) (g.R.Ram.bytes c.args.ram.now) c.from.result page.number page.bytes.now c.loop-page.invariant.alike
    (c.requires.mapped c.loop-page.page-index no_page c.loop-page-test.true) (c.requires.full c.loop-page.page-index no_page c.loop-page-test.true) c.from.ensures refused.0

pub loop-page-preserved : goal.loop-page-preserved
unfolding no_page
loop-page-preserved g c =
    let page : Page = get_or c.args.pages.now c.loop-page.page-index no_page in
    record {
      written = fill_step (g.R.Ram.bytes c.args.ram.now) (g.R.Ram.bytes c.loop-page.ram) (g.R.Ram.bytes c.write_from.new.self) c.args.pages.now c.loop-page.page-index c.from.result no_page page c.loop-page-test.true refl c.from.ensures c.loop-page.invariant.written c.in-Ok.ensures.1;
      alike = still_alike (g.R.Ram.bytes c.loop-page.ram) (g.R.Ram.bytes c.write_from.new.self) (g.R.Ram.bytes c.args.ram.now) _ _ c.loop-page.invariant.alike c.in-Ok.ensures.0 c.in-Ok.ensures.1;
    }

pub returns-clause-ok : goal.returns-clause-ok
returns-clause-ok g c =
    all_filled (g.R.Ram.bytes c.args.ram.now) (g.R.Ram.bytes c.loop-page.ram) c.args.pages.now c.loop-page.page-index c.loop-page-test.false c.loop-page.invariant.written
    ∙ turned (g.R.Ram.bytes c.args.ram.now) (map page_view c.args.pages.now)

pub returns-in-Err-OutOfMemory-clause-err : goal.returns-in-Err-OutOfMemory-clause-err
returns-in-Err-OutOfMemory-clause-err g c =
    let wanted = rw c.in-Err-OutOfMemory.field-0-is at c.in-Err-OutOfMemory.ensures in
    (c.loop-page.page-index, wanted.1 ∙ c.loop-page.invariant.written ∙ turned (g.R.Ram.bytes c.args.ram.now) (map page_view (take c.loop-page.page-index c.args.pages.now)))
