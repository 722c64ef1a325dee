use Rattle.std.proofs.Common.{◌≡◌, ◌++◌, take}
use Rattle.std.specs.List.{flat_map}
use Rattle.recipe_tests.specs.Reports.Texts.{encoded_byte}
use Rattle.recipe_tests.proofs.reports.put_text.Given as goal

abbrev pub invariant-loop-byte : goal.invariant-loop-byte
invariant-loop-byte l = l.out ≡ l.fn.out ++ flat_map encoded_byte (take l.byte-index l.text)
