use Rattle.std.proofs.Common.{◌≡◌, Some, sym}
use Rattle.mem_files.specs.Calls.{content_at}
use Rattle.kaem_script.specs.Fold.{program_name}
use Rattle.kaem_script.proofs.Folding.{unless-stopped}
use Rattle.kaem_script.proofs.Starting.{command-refused, command-starts, has-program, left-refused, left-starts, program-named}
use Rattle.kaem_script.proofs.command.begun.Goals as goal

pub content-requires : goal.content-requires
content-requires c = rw c.program_name.ensures (program-named c.args.words.now c.requires)

pub returns-in_ok-guest-in-Ok-clause-begins : goal.returns-in_ok-guest-in-Ok-clause-begins
returns-in_ok-guest-in-Ok-clause-begins c most =
    let there : content_at c.args.files.now (program_name c.args.words.now) ≡ Some c.in-Some.program.now = rw c.program_name.ensures at (sym c.in-Some.ensures) in
    command-starts most c.args.files.now c.args.words.now c.in-Some.program.now c.in_ok-guest-in-Ok.guest c.show_sound.ensures c.requires there c.in_ok-guest-in-Ok.ensures.meant

pub returns-in_ok-guest-in-Ok-clause-program : goal.returns-in_ok-guest-in-Ok-clause-program
returns-in_ok-guest-in-Ok-clause-program c =
    let there : content_at c.args.files.now (program_name c.args.words.now) ≡ Some c.in-Some.program.now = rw c.program_name.ensures at (sym c.in-Some.ensures) in
    has-program c.args.files.now c.args.words.now c.in-Some.program.now _ c.show_sound.ensures c.requires there c.in-Ok.ensures.value

pub returns-in_err-guest-in-Ok-clause-program : goal.returns-in_err-guest-in-Ok-clause-program
returns-in_err-guest-in-Ok-clause-program c =
    let there : content_at c.args.files.now (program_name c.args.words.now) ≡ Some c.in-Some.program.now = rw c.program_name.ensures at (sym c.in-Some.ensures) in
    unless-stopped c.from_residual.result (has-program c.args.files.now c.args.words.now c.in-Some.program.now _ c.show_sound.ensures c.requires there c.in-Ok.ensures.value)

pub returns-in-Err-clause-begins : goal.returns-in-Err-clause-begins
returns-in-Err-clause-begins c most =
    let there : content_at c.args.files.now (program_name c.args.words.now) ≡ Some c.in-Some.program.now = rw c.program_name.ensures at (sym c.in-Some.ensures) in
    command-refused most c.args.files.now c.args.words.now c.in-Some.program.now c.in-Err.refusal c.show_sound.ensures c.requires there (sym c.in-Err.ensures.value)

pub returns-in_ok-guest-in-Ok-clause-leaves : goal.returns-in_ok-guest-in-Ok-clause-leaves
returns-in_ok-guest-in-Ok-clause-leaves c most number =
    let there : content_at c.args.files.now (program_name c.args.words.now) ≡ Some c.in-Some.program.now = rw c.program_name.ensures at (sym c.in-Some.ensures) in
    left-starts most number c.args.files.now c.args.words.now c.in-Some.program.now c.in_ok-guest-in-Ok.guest c.show_sound.ensures c.requires there c.in_ok-guest-in-Ok.ensures.meant

pub returns-in-Err-clause-leaves : goal.returns-in-Err-clause-leaves
returns-in-Err-clause-leaves c most number =
    let there : content_at c.args.files.now (program_name c.args.words.now) ≡ Some c.in-Some.program.now = rw c.program_name.ensures at (sym c.in-Some.ensures) in
    left-refused most number c.args.files.now c.args.words.now c.in-Some.program.now c.in-Err.refusal c.show_sound.ensures c.requires there (sym c.in-Err.ensures.value)
