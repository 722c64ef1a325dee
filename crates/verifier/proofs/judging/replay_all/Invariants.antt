use Rattle.std.proofs.Common.{◌≡◌, ◌≤◌, ℕ, Option, [], length, drop, take, sum_by, All}
use Rattle.ddc_base.specs.Limits.{most_artefacts}
use Rattle.mem_files.specs.Outputs.{IsContent}
use Rattle.audit_rules.specs.Contents.{Contents}
use Rattle.verifier.specs.declared.part.Part.{Part}
use Rattle.verifier.specs.Faults.{stages_fault}
use Rattle.verifier.specs.Inside.Replays.{whole_fault}
use Rattle.verifier.specs.Verdicts.{AreReplayed}
use Rattle.verifier.proofs.judging.replay_all.Given as goal

abbrev pub invariant-loop-index : goal.invariant-loop-index
invariant-loop-index l =
    (length l.artefacts ≡ l.index) × (l.total ≡ sum_by length l.artefacts) × (l.total ≤ most_artefacts) × All IsContent l.artefacts
    × ((last : Contents → Option (Part × ℕ)) → whole_fault l.recipe l.inputs l.lines last
    ≡ stages_fault l.recipe last (record { inputs = l.inputs; artefacts = l.artefacts }) (drop l.index l.stages) (drop l.index l.lines))
    × AreReplayed l.recipe (record { inputs = l.inputs; artefacts = [] }) (take l.index l.stages) (take l.index l.lines) (record { inputs = l.inputs; artefacts = l.artefacts })
