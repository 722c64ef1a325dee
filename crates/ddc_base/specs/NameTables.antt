-- How tables over names are hashed: by SipHash whose first input is a digest of all the names.
-- docs/reference/linking.md gives the reason.
use Rattle.std.specs.Prelude.{ℕ, nat_lt, if◌then◌else◌, List, ◌∷◌, ◌++◌, length}
use Rattle.std.specs.Hash.DefaultHasher as sip
use Rattle.std.specs.Int.{w64, to_le_bytes}
use Rattle.std.specs.declared.hash.DefaultHasher.{DefaultHasher}

-- a name as the digest reads it: its length, in one byte if it is below 255, then its bytes; no two lists of names give the same message
abbrev pub framed : List ℕ → List ℕ
framed name = if nat_lt (length name) 255 then length name ∷ name else 255 ∷ to_le_bytes w64 (length name) ++ name

-- SipHash with both keys 0, after these bytes
abbrev pub begun_with : List ℕ → DefaultHasher
begun_with bytes = sip.write sip.initial bytes
