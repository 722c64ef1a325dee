use Rattle.std.proofs.Common.{◌≡◌, ℕ, ◌+◌, ◌-◌, ◌*◌, ◌/◌, ◌%◌, ◌^◌, ◌++◌, List, [], ◌∷◌, length, append_assoc, length-append, refl, ap, ◌∙◌, arith, rules}
use Rattle.std.proofs.lemmas.Nat.{and_mask}
use Rattle.rv64_decode.specs.Text.{hex_digit, hex_digits}
use Rattle.rv64_decode.proofs.Hex.{length-hex_digits, hex_digits-more}
use Rattle.rv64_decode.proofs.text.InstText.push_hex.Goals as goal

-- the length of what the loop has written
written : (self old before : List ℕ) (i n : ℕ) → self ≡ old ++ before ++ hex_digits i n → length self ≡ length old + length before + i
written self old before i n e = rw (e, length-append (old ++ before) (hex_digits i n), length-append old before, length-hex_digits i n) (refl)

pub loop-i-init : goal.loop-i-init
unfolding hex_digits
loop-i-init c = search rules

pub push-requires-in-loop-i : goal.push-requires-in-loop-i
push-requires-in-loop-i c = let so_far = written c.loop-i.self c.args.self.now c.args.before.now c.loop-i.i _ c.loop-i.invariant in omega (arith, so_far)

pub loop-i-preserved : goal.loop-i-preserved
loop-i-preserved c =
    let shifted = c.args.number / 2 ^ (4 * (c.args.count - 1 - c.loop-i.i)) in
    let digit : c.hex_digit.result ≡ hex_digit (shifted % 16) = c.hex_digit.ensures ∙ ap hex_digit (and_mask shifted 4) in
    rw (c.push-in-loop-i.ensures, c.loop-i.invariant, digit, hex_digits-more c.args.count c.loop-i.i c.args.number c.loop-i-test.true)
    (append_assoc (c.args.self.now ++ c.args.before.now) _ (hex_digit (shifted % 16) ∷ []))

pub returns-clause-capacity : goal.returns-clause-capacity
returns-clause-capacity c = let all = written c.loop-i.self c.args.self.now c.args.before.now c.loop-i.i _ c.loop-i.invariant in omega (arith, all)
