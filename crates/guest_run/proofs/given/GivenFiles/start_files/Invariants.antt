use Rattle.std.proofs.Common.{◌≡◌}
use Rattle.std.specs.List.{fold}
use Rattle.mem_files.specs.Inside.Cells.{keyed}
use Rattle.guest_run.specs.Start.{start_world, with_given}
use Rattle.guest_run.proofs.GivenLists.{CanPlace}
use Rattle.guest_run.proofs.given.GivenFiles.start_files.Given as goal

abbrev pub invariant-loop-name : goal.invariant-loop-name
invariant-loop-name l =
    (fold with_given l.files (keyed (λ name. name.items) l.name-iterator) ≡ start_world l.self)
    × CanPlace l.files (keyed (λ name. name.items) l.name-iterator)
