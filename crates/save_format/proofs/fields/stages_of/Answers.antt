use Rattle.std.proofs.Common.{◌≡◌, ◌++◌, ◌∷◌, [], map, refl}
use Rattle.std.proofs.lemmas.Result.{err_from_is_err_and}
use Rattle.std.proofs.lemmas.List.{map_push}
use Rattle.save_format.specs.SaveText.{saved_stage_at}
use Rattle.save_format.specs.Seen.{stage_view}
use Rattle.save_format.proofs.ByteFieldsLemmas.Loop.{fails, goes_on, is_done}
use Rattle.save_format.proofs.fields.stages_of.Goals as goal

pub returns-in_err-stage : goal.returns-in_err-stage
returns-in_err-stage c =
    let p = err_from_is_err_and c.from_residual-in_err-stage.result c.from_residual-in_err-stage.ensures.1 in
    rw (p.1, p.2) (fails saved_stage_at (λ stage. 0) 0 c.in_err-stage.field-0.0 (map stage_view c.loop.stages.items) c.in_ok-count.count c.loop.counter c.loop.cursor _ c.loop-test.true c.in_err-stage.ensures c.loop.invariant)

pub loop-preserved : goal.loop-preserved
loop-preserved c =
    let more : map stage_view c.push.new.self.items ≡ map stage_view c.loop.stages.items ++ stage_view c.in_ok-stage.stage ∷ [] = rw c.in_ok-push.ensures.items (map_push _ c.loop.stages.items c.in_ok-stage.stage) in
    rw more (goes_on saved_stage_at (λ stage. 0) 0 0 (map stage_view c.loop.stages.items) c.in_ok-count.count c.loop.counter c.loop.cursor (stage_view c.in_ok-stage.stage) c.stage_of.new.cursor _ c.loop-test.true c.in_ok-stage.ensures refl c.loop.invariant)

pub returns : goal.returns
returns c = is_done saved_stage_at (λ stage. 0) 0 (map stage_view c.loop.stages.items) c.in_ok-count.count c.loop.counter c.loop.cursor _ c.loop-test.false c.loop.invariant
