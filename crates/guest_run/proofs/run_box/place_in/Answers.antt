use Rattle.std.proofs.Common.{◌≡◌, true}
use Rattle.mem_files.specs.Names.{is_file_name, stripped}
use Rattle.guest_run.proofs.GivenLists.{good_name}
use Rattle.guest_run.proofs.run_box.place_in.Goals as goal

pub insert-requires-clause-named : goal.insert-requires-clause-named
insert-requires-clause-named c =
    let is : is_file_name (stripped c.args.name.now) ≡ true = cc in
    rw c.strip-name.ensures (good_name c.args.name.now is)
