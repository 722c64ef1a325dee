use Rattle.std.proofs.Common.{sym, ◌∙◌}
use Rattle.mem_files.proofs.Walks.{walk-name, walk-shorter}
use Rattle.kaem_script.proofs.Renewing.{placing-begins, placing-ends, placing-fits, placing-goes-on}
use Rattle.kaem_script.proofs.present.copy_all.Goals as goal

pub loop-name-init : goal.loop-name-init
loop-name-init c = placing-begins c.args.given.now _ c.show_sound.ensures c.requires

pub bytes_of-requires : goal.bytes_of-requires
bytes_of-requires c = walk-name c.args.given.now _ _ c.show_sound.ensures (sym c.in-Some.ensures)

pub place-requires : goal.place-requires
place-requires c =
    placing-fits c.args.given.now _ c.loop-name.files c.in-Some.name.now _ c.loop-name.invariant (sym c.in-Some.ensures) (c.in_ok-content.ensures.items ∙ c.bytes_of.ensures)

pub loop-name-smaller : goal.loop-name-smaller
loop-name-smaller c = walk-shorter c.args.given.now _ _ (sym c.in-Some.ensures)

pub loop-name-preserved : goal.loop-name-preserved
loop-name-preserved c =
    placing-goes-on c.args.given.now _ c.loop-name.files _ c.in-Some.name.now _ c.loop-name.invariant (sym c.in-Some.ensures) (c.in_ok-content.ensures.items ∙ c.bytes_of.ensures) c.in_ok-place.ensures

pub returns : goal.returns
returns c = placing-ends c.args.given.now _ _ c.loop-name.invariant (sym c.in_default.ensures)
