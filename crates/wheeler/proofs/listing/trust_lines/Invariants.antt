use Rattle.std.proofs.Common.{◌≡◌, ◌++◌, take, filter_map}
use Rattle.wheeler.specs.Assumptions.{input_assumption, stage_assumption}
use Rattle.wheeler.specs.Inside.Trusting.{trusts}
use Rattle.wheeler.proofs.listing.trust_lines.Given as goal

abbrev pub invariant-loop-input : goal.invariant-loop-input
invariant-loop-input l = l.lines ≡ filter_map (input_assumption (trusts l.recipe l.trusted) l.recipe) (take l.input-index l.recipe.inputs)

abbrev pub invariant-loop-stage : goal.invariant-loop-stage
invariant-loop-stage l =
    l.lines
    ≡ filter_map (input_assumption (trusts l.recipe l.trusted) l.recipe) l.recipe.inputs
    ++ filter_map (stage_assumption (trusts l.recipe l.trusted) l.recipe) (take l.stage-index l.recipe.stages)
