-- The base that a text names. It is judged before the fields that follow it.
use Rattle.std.specs.Prelude.{ℕ, Bool, false, not, bytes_eq, List, Ok, Err}
use Rattle.ddc_base.specs.declared.digests.Digest.{Digest}
use Rattle.save_format.specs.ByteFields.Reader.{Read}
use Rattle.save_format.specs.DeltaText.DeltaText.{delta_header_at}

abbrev pub is_other_digest : Digest → Read Digest → Bool
is_other_digest base (Ok found) = not (bytes_eq found.0.0 base.0)
is_other_digest base (Err left) = false

-- a text begins as a delta, and the 32 bytes after its magic are not this digest
abbrev pub is_of_other_base : Digest → List ℕ → Bool
is_of_other_base base text = is_other_digest base (delta_header_at text)
