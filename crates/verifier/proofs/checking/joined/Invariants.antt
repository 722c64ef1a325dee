use Rattle.std.proofs.Common.{◌≡◌, ◌∷◌, ◌++◌, take}
use Rattle.std.specs.List.{flat_map}
use Rattle.verifier.specs.Inside.Holdings.{so_far}
use Rattle.audit_rules.specs.Contents.{content}
use Rattle.verifier.proofs.checking.joined.Given as goal

abbrev pub invariant-loop-name : goal.invariant-loop-name
invariant-loop-name l =
    l.text ≡ l.initial.text ++ flat_map (λ name. 10 ∷ content l.held.recipe.now (so_far l.held) name) (take l.name-index l.others)
