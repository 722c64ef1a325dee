use Rattle.std.proofs.Common.{◌++◌, sym, refl, ap, ◌∙◌}
use Rattle.mem_files.proofs.Walks.{walk-start, walk-name, walk-shorter}
use Rattle.tool_commands.proofs.LeftNames.{walk-step, walk-whole, name_lines-left}
use Rattle.tool_commands.proofs.run_texts.put_left.Goals as goal

pub loop-name-init : goal.loop-name-init
loop-name-init c = rw walk-start refl

pub put_left_file-requires : goal.put_left_file-requires
put_left_file-requires c = walk-name c.args.files.now _ _ c.requires (sym c.in-Some.ensures)

pub loop-name-smaller : goal.loop-name-smaller
loop-name-smaller c = walk-shorter c.args.files.now _ _ (sym c.in-Some.ensures)

pub loop-name-preserved : goal.loop-name-preserved
loop-name-preserved c =
    rw c.in_ok-put_left_file.ensures
    (walk-step c.args.files.now _ _ _ _ (sym c.in-Some.ensures) c.loop-name.invariant)

pub returns : goal.returns
returns c =
    walk-whole c.args.files.now _ _ _ (sym c.in_default.ensures) c.loop-name.invariant ∙ ap (λ lines. c.args.text.now ++ lines) (name_lines-left c.args.files.now)
