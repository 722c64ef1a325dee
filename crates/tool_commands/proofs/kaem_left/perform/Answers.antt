use Rattle.std.proofs.Common.{ℕ, ◌-◌, List, ap, length, refl, subst, sym, take}
use Rattle.command_plan.proofs.Obtaining.{ends_before, ends_with, goes_on_with, on_words}
use Rattle.command_plan.proofs.Performing.{says}
use Rattle.kaem_script.specs.Kept.{AreCommands}
use Rattle.kaem_script.specs.Leaving.{left_of_command}
use Rattle.std.proofs.lemmas.Option.{slice_get_past, slice_get_read}
use Rattle.tool_commands.proofs.ScriptEnds.{where_stopped}
use Rattle.tool_commands.proofs.NumberedCommands.{as_found, command_there, commands_before, none_there}
use Rattle.tool_commands.specs.KaemLeft.{command_left_plan, kaem_left_files}
use Rattle.tool_commands.proofs.kaem_left.perform.Goals as goal

pub returns-in_default : goal.returns-in_default
returns-in_default g c = on_words kaem_left_files refl c.in_default.ensures (says _ _ _ c.usage.ensures)

pub returns-in_err-script : goal.returns-in_err-script
returns-in_err-script g c =
    on_words kaem_left_files refl c.in-Some.ensures
    (ends_with c.from_residual.ensures.1 (ends_before c.in_err-script.ensures))

pub returns-in-None : goal.returns-in-None
returns-in-None g c =
    on_words kaem_left_files refl c.in-Some.ensures
    (let commands = c.in_ok-script.script.commands in
    let earlier = c.in-Some.words.command - 1 in
    let past = rw (c.commands-commands.ensures.value, c.number.ensures.value) at c.in-None.ensures.lookup in
    goes_on_with c.in_ok-script.ensures (none_there commands earlier _ _ _ (slice_get_past commands earlier past.3) c.usage-in-None.ensures))

pub returns-in_err-names : goal.returns-in_err-names
returns-in_err-names g c =
    on_words kaem_left_files refl c.in-Some.ensures
    (let commands = c.in_ok-script.script.commands in
    let earlier = c.in-Some.words.command - 1 in
    let found = rw (c.commands-commands.ensures.value, c.number.ensures.value) at c.in-Some-get.ensures.lookup in
    goes_on_with c.in_ok-script.ensures
    (command_there commands earlier _ c.in-Some-get.command.now _ _ _
    (slice_get_read commands (length commands) earlier c.in-Some-get.command.now refl found.3.0 found.1)
    (ends_with c.from_residual-in_err-names.ensures.1 (ends_before c.in_err-names.ensures.obtained))))

pub returns-in_err-files : goal.returns-in_err-files
returns-in_err-files g c =
    on_words kaem_left_files refl c.in-Some.ensures
    (let commands = c.in_ok-script.script.commands in
    let earlier = c.in-Some.words.command - 1 in
    let found = rw (c.commands-commands.ensures.value, c.number.ensures.value) at c.in-Some-get.ensures.lookup in
    goes_on_with c.in_ok-script.ensures
    (command_there commands earlier _ c.in-Some-get.command.now _ _ _
    (slice_get_read commands (length commands) earlier c.in-Some-get.command.now refl found.3.0 found.1)
    (ends_with c.from_residual-in_err-files.ensures.1 (goes_on_with c.in_ok-names.ensures.obtained (ends_before c.in_err-files.ensures)))))

pub returns-in-Ok : goal.returns-in-Ok
returns-in-Ok g c =
    on_words kaem_left_files refl c.in-Some.ensures
    (let commands = c.in_ok-script.script.commands in
    let earlier = c.in-Some.words.command - 1 in
    let found = rw (c.commands-commands.ensures.value, c.number.ensures.value) at c.in-Some-get.ensures.lookup in
    goes_on_with c.in_ok-script.ensures
    (command_there commands earlier _ c.in-Some-get.command.now _ _ _
    (slice_get_read commands (length commands) earlier c.in-Some-get.command.now refl found.3.0 found.1)
    (goes_on_with c.in_ok-names.ensures.obtained (goes_on_with c.in_ok-files.ensures
    (as_found _ _ _ (rw (c.count.ensures.value, c.commands-commands.ensures.value, c.number.ensures.value) at c.in-Ok.ensures.answer) c.save.ensures)))))

pub returns : goal.returns
returns g c =
    on_words kaem_left_files refl c.in-Some.ensures
    (let commands = c.in_ok-script.script.commands in
    let earlier = c.in-Some.words.command - 1 in
    let found = rw (c.commands-commands.ensures.value, c.number.ensures.value) at c.in-Some-get.ensures.lookup in
    goes_on_with c.in_ok-script.ensures
    (command_there commands earlier _ c.in-Some-get.command.now _ _ _
    (slice_get_read commands (length commands) earlier c.in-Some-get.command.now refl found.3.0 found.1)
    (goes_on_with c.in_ok-names.ensures.obtained (goes_on_with c.in_ok-files.ensures
    (where_stopped _ (left_of_command c.count.result c.in_ok-files.files.world (take (c.number.result - 1) c.commands-commands.result.now) c.in-Some-get.command.now)
    (left_of_command c.in-Some.words.steps c.in_ok-files.files.world (take earlier commands) c.in-Some-get.command.now) c.in-Err.stop _ c.stopped.result
    (rw (c.count.ensures.value, c.number.ensures.value, c.commands-commands.ensures.value) refl)
    (λ number why step is. ap (command_left_plan c.in-Some.words.command c.in-Some.words.wanted.file c.in-Some.words.wanted.out) is)
    c.in-Err.ensures.answer c.stopped.ensures)))))

-- the commands before it are some of the script's
pub left-requires-clause-earlier : goal.left-requires-clause-earlier
left-requires-clause-earlier g c =
    subst (λ (all : List (List (List ℕ))). AreCommands (take (c.number.result - 1) all)) (sym c.commands-commands.ensures.value)
    (commands_before (c.number.result - 1) c.in_ok-script.script.commands c.commands-commands.ensures.kept)
