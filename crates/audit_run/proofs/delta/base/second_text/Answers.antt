use Rattle.std.proofs.Common.{◌<◌, ◌^◌, List, All, length, map, sym, subst}
use Rattle.save_format.specs.Seen.{stage_view}
use Rattle.save_format.specs.Encoded.{IsShortStage}
use Rattle.save_format.specs.declared.parts.StagePart.{StagePart}
use Rattle.audit_run.proofs.SaveLemmas.PositionParsed.{all_of}
use Rattle.audit_run.proofs.DeltaLemmas.Bases.{few_parts, short_parts}
use Rattle.audit_run.proofs.delta.base.second_text.Goals as goal

pub put_stages-requires-clause-few : goal.put_stages-requires-clause-few
put_stages-requires-clause-few c = subst (λ (parts : List StagePart). length parts < 2 ^ 32) (sym c.deref.ensures.value) (few_parts c.args.known.now.done.items c.requires.stages.0)

pub put_stages-requires-clause-short : goal.put_stages-requires-clause-short
put_stages-requires-clause-short c =
    subst (All (λ (part : StagePart). IsShortStage (stage_view part))) (sym c.deref.ensures.value)
    (short_parts c.args.known.now.done.items (all_of 0 (map stage_view c.args.known.now.done.items) c.requires.stages.1))
