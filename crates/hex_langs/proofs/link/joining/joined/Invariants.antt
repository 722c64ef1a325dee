use Rattle.std.proofs.Common.{◌≡◌, ◌≤◌, ◌+◌, ◌*◌, length, drop}
use Rattle.hex_langs.specs.Link.Link.{bytes_from, onto}
use Rattle.hex_langs.specs.Link.Representation.Tables.{address_in}
use Rattle.hex_langs.proofs.link.joining.joined.Given as goal

-- the bytes so far, and those of what is left, make up the whole
abbrev pub invariant-loop-index : goal.invariant-loop-index
invariant-loop-index l = record {
  whole : bytes_from (address_in l.table) l.base 0 l.items
      ≡ onto l.out (bytes_from (address_in l.table) (l.base + length l.out) l.index (drop l.index l.items));
  small : length l.out ≤ 4 * l.index;
}
