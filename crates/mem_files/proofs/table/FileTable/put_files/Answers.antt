use Rattle.std.proofs.Common.{ap, sym, ◌∙◌, ◌+◌, ◌≡◌, ◌<◌, ◌≤◌, take, map, sum_by, length, arith, get_or, None, []}
use Rattle.ddc_base.specs.Limits.{file_number_end}
use Rattle.std.specs.FinMap as map
use Rattle.mem_files.specs.World.{World, total}
use Rattle.mem_files.specs.declared.view.FileView.{FileView}
use Rattle.mem_files.specs.Lists.{listed}
use Rattle.mem_files.specs.Inside.Listing.{with_listed}
use Rattle.mem_files.proofs.First.{no_bytes}
use Rattle.mem_files.proofs.ListWorlds.{of_files, size_of, if_some, next_unused, next_absent, next_holds, next_named, next_size, next_sum, next_world, next_total}
use Rattle.mem_files.proofs.table.FileTable.put_files.Goals as goal

abbrev blank : FileView
blank = record { number = 0; name = None; content = record { ref_ptr = (0, 0); now = [] } }

pub loop-file-init : goal.loop-file-init
loop-file-init c = record { world = c.requires.bare; total = ap total c.requires.bare ∙ no_bytes }

pub put_file-requires-clause-unused : goal.put_file-requires-clause-unused
put_file-requires-clause-unused c =
    ap (λ (w : World). map.get w.files (get_or c.args.files.now c.loop-file.file-index blank).number) c.loop-file.invariant.world ∙ next_unused c.args.files.now c.loop-file.file-index blank c.loop-file-test.true c.requires.rise c.requires.distinct

pub put_file-requires-clause-low : goal.put_file-requires-clause-low
put_file-requires-clause-low c = next_holds c.args.files.now c.loop-file.file-index blank c.loop-file-test.true (λ file. file.number < file_number_end) c.requires.low

pub put_file-requires-clause-absent : goal.put_file-requires-clause-absent
put_file-requires-clause-absent c = if_some _ _ (λ name is.
    ap (λ (w : World). map.get w.names name) c.loop-file.invariant.world ∙ next_absent c.args.files.now c.loop-file.file-index blank c.loop-file-test.true c.requires.rise c.requires.distinct name is)

pub put_file-requires-clause-short : goal.put_file-requires-clause-short
put_file-requires-clause-short c = if_some _ _ (next_named c.args.files.now c.loop-file.file-index blank c.loop-file-test.true (λ e. length e.0 ≤ 255) c.requires.short)

pub put_file-requires-clause-small : goal.put_file-requires-clause-small
put_file-requires-clause-small c = omega (arith, c.loop-file.invariant.total, next_size c.args.files.now c.loop-file.file-index blank c.loop-file-test.true, c.requires.small)

pub loop-file-preserved : goal.loop-file-preserved
loop-file-preserved c =
    let at = c.loop-file.file-index in
    let file = listed (get_or c.args.files.now at blank) in
    let before : total (of_files (take at (map listed c.args.files.now))) ≡ sum_by size_of (take at (map listed c.args.files.now)) = ap total (sym c.loop-file.invariant.world) ∙ c.loop-file.invariant.total in
    let world : c.put_file.new.self ≡ of_files (take (at + 1) (map listed c.args.files.now)) =
    c.in_ok-put_file.ensures ∙ ap (λ (w : World). with_listed w file) c.loop-file.invariant.world ∙ next_world c.args.files.now at blank c.loop-file-test.true c.requires.rise c.requires.distinct in
    record {
      world = world;
      total = ap total world ∙ next_total c.args.files.now at blank c.loop-file-test.true c.requires.rise c.requires.distinct _ before ∙ sym (next_sum c.args.files.now at blank c.loop-file-test.true);
    }
