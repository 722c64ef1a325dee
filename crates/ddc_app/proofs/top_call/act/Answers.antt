use Rattle.std.proofs.Common.{ℕ, List, map}
use Rattle.std.specs.Borrow.{Bor}
use Rattle.ddc_app.proofs.Sessions.{performing, read_leaves, usage_leaves}
use Rattle.ddc_app.proofs.top_call.act.Goals as goal

texts : List (Bor (List ℕ)) → List (List ℕ)
texts words = map (λ word. word.now) words

pub returns-in-Some : goal.returns-in-Some
unfolding texts
returns-in-Some g c = read_leaves (texts c.args.words.now) (c.in-Some.line.0, texts c.in-Some.line.1.now) _ _ _ c.in-Some.ensures (search)

pub returns-in-None : goal.returns-in-None
unfolding texts
returns-in-None g c = usage_leaves (texts c.args.words.now) _ _ _ c.in-None.ensures (search performing)
