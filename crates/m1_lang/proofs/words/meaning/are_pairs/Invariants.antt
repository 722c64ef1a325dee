use Rattle.std.proofs.Common.{◌≡◌, ◌≤◌, ◌-◌, length, drop, is_some}
use Rattle.m1_lang.specs.Words.Digits.{digit_bytes}
use Rattle.m1_lang.proofs.words.meaning.are_pairs.Given as goal

abbrev pub invariant-loop-at : goal.invariant-loop-at
invariant-loop-at l = record {
  whole : is_some (digit_bytes l.text) ≡ is_some (digit_bytes (drop l.at l.text));
  within : l.at ≤ length l.text;
}

abbrev pub decreases-loop-at : goal.decreases-loop-at
decreases-loop-at l = length l.text - l.at
