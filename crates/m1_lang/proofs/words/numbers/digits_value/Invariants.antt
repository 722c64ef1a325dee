use Rattle.std.proofs.Common.{◌≡◌, ◌≤◌, drop}
use Rattle.m1_lang.specs.Words.Numbers.{more_digits}
use Rattle.m1_lang.specs.Words.Representation.Capped.{capped_value}
use Rattle.m1_lang.proofs.words.numbers.digits_value.Given as goal

-- the whole has the value of what is left after the value so far
abbrev pub invariant-loop-byte : goal.invariant-loop-byte
invariant-loop-byte l = record {
  whole : capped_value (more_digits l.base 0 l.text) ≡ capped_value (more_digits l.base l.value (drop l.byte-index l.text));
  few : l.value ≤ 1099511627776;
}
