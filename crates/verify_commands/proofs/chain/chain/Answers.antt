use Rattle.std.proofs.Common.{List, subst}
use Rattle.command_plan.proofs.Obtaining.{ends_before, ends_with, goes_on_with}
use Rattle.command_plan.specs.Performs.{Performs}
use Rattle.verify_commands.specs.declared.pair.Pair.{Pair}
use Rattle.verify_commands.specs.Chain.{chain_files, chained_lines}
use Rattle.verify_commands.proofs.chain.chain.Goals as goal

pub returns-in_err-pairs : goal.returns-in_err-pairs
unfolding chain_files
returns-in_err-pairs g c = ends_with c.from_residual.ensures.1 (ends_before c.in_err-pairs.ensures.obtained)

pub returns : goal.returns
unfolding chain_files
returns g c =
    goes_on_with c.in_ok-pairs.ensures.obtained
    (subst (λ (pairs : List Pair). Performs (chained_lines pairs) (g.S.Shelf.state c.fetch_list.new.shelf) (g.S.Shelf.state c.verify_lines.new.shelf) c.verify_lines.result)
    c.as_slice.ensures c.verify_lines.ensures)
