-- The mark of some content in a report. docs/reference/report.md is the page for readers. Digests are SHA-256 (FIPS 180-4).
use Rattle.std.specs.Prelude.{ℕ, ◌==◌, ◌&&◌, Bool, bytes_eq, List, length}
use Rattle.sha2.specs.Sha256.{sha256}
use Rattle.report.specs.declared.types.Mark.{Mark}

-- the mark of bytes: their number and their digest
abbrev pub mark_of : List ℕ → Mark
mark_of bytes = record { length = length bytes; digest = record { 0 = sha256 bytes } }

-- whether a mark is the mark of these bytes
unfoldable pub is_mark_of : Mark → List ℕ → Bool
is_mark_of mark bytes = mark.length == length bytes && bytes_eq mark.digest.0 (sha256 bytes)
