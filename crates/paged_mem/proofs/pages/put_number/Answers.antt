use Rattle.std.proofs.Common.{◌≡◌, ℕ, ◌≤◌, List, take, sym, ap, ◌∙◌, arith}
use Rattle.std.specs.Int.{to_le_bytes, w64}
use Rattle.paged_mem.specs.Inside.Flat.{overwritten}
use Rattle.paged_mem.specs.Memory.{bytes_of}
use Rattle.paged_mem.specs.Ram.{count_of}
use Rattle.paged_mem.specs.declared.ram.Width.{Width}
use Rattle.paged_mem.specs.declared.ram.Width.TheVariants.{W1, W2, W4, W8}
use Rattle.paged_mem.proofs.Numbers.{take-to_le_bytes, all-to_le_bytes}
use Rattle.paged_mem.proofs.pages.put_number.Goals as goal

by_width : (old new low : List ℕ) (start value : ℕ) (width is : Width) → width ≡ is → low ≡ bytes_of (count_of is) value → new ≡ overwritten old start low → new ≡ overwritten old start (bytes_of (count_of width) value)
by_width old new low start value width is same low_is put = put ∙ ap (overwritten old start) (low_is ∙ ap (λ w. bytes_of (count_of w) value) (sym same))

low_bytes : (low : List ℕ) (count value : ℕ) → count ≤ 8 → low ≡ to_le_bytes w64 value → take count low ≡ bytes_of count value
low_bytes low count value le is = ap (take count) is ∙ take-to_le_bytes count value le

pub returns-in-W1 : goal.returns-in-W1
returns-in-W1 c = by_width _ _ _ c.args.start c.args.value c.args.width W1 c.in-W1.is (low_bytes _ 1 c.args.value (omega arith) c.to_le_bytes-low.ensures) c.put.ensures

pub returns-in-W2 : goal.returns-in-W2
returns-in-W2 c = by_width _ _ _ c.args.start c.args.value c.args.width W2 c.in-W2.is (low_bytes _ 2 c.args.value (omega arith) c.to_le_bytes-low.ensures) c.put-in-W2.ensures

pub returns-in-W4 : goal.returns-in-W4
returns-in-W4 c = by_width _ _ _ c.args.start c.args.value c.args.width W4 c.in-W4.is (low_bytes _ 4 c.args.value (omega arith) c.to_le_bytes-low.ensures) c.put-in-W4.ensures

pub returns-in-W8 : goal.returns-in-W8
returns-in-W8 c = by_width _ _ _ c.args.start c.args.value c.args.width W8 c.in-W8.is (c.to_le_bytes-low.ensures ∙ all-to_le_bytes c.args.value) c.put-in-W8.ensures
