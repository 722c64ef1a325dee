use Rattle.std.proofs.Common.{◌≤◌, ◌∙◌, ap, arith, drop, length, List, ℕ, map}
use Rattle.std.proofs.lemmas.List.{length-drop}
use Rattle.hex_langs.specs.declared.items.token.Token.TheVariants.{Byte}
use Rattle.hex_langs.specs.Items.Reading.{formed, with_prefix}
use Rattle.m1_lang.specs.Expansion.{at_once}
use Rattle.m1_lang.proofs.Takings.{prefix-short}
use Rattle.m1_lang.proofs.taking.take_pairs.Goals as goal

pub returns-clause-takes : goal.returns-clause-takes
returns-clause-takes c at later =
    let short : length (drop c.loop-at.at c.args.digits.now) ≤ 1 = omega (arith, length-drop c.loop-at.at c.args.digits.now) in
    c.loop-at.invariant.so_far at later
    ∙ ap (λ (l : List ℕ). with_prefix c.loop-at.items (formed c.loop-at.word (at_once at (map Byte l) later))) (prefix-short (drop c.loop-at.at c.args.digits.now) short)
