-- The key of a table of names begins with the SHA-256 digest of all of them. docs/reference/linking.md says why.
use Rattle.std.specs.Prelude.{◌≡◌, ℕ, Bool, true, false, List, [], ◌∷◌, ◌++◌}
use Rattle.std.specs.Hash.DefaultHasher as sip
use Rattle.std.specs.declared.hash.DefaultHasher.{DefaultHasher}
use Rattle.sha2.specs.Hashers.{Holds256}
use Rattle.sha2.specs.Sha256.{sha256}
use Rattle.indexmap.specs.IndexMap.{IndexMap, hasher_of}
use Rattle.ddc_base.specs.NameTables.{begun_with, framed}
use Rattle.ddc_base.specs.declared.name_tables.NamesKey.{NamesKey}
use Rattle.hex_langs.specs.declared.name_keys.KeyNames.{KeyNames}

-- the names one after the other, each after its length
abbrev pub message_of : List (List ℕ) → List ℕ
message_of [] = []
message_of (name ∷ names) = framed name ++ message_of names

-- the state with which the hash of each name of a table begins: the digest of all names, or the initial state for no names
abbrev pub begun_by : List (List ℕ) → DefaultHasher
begun_by [] = sip.initial
begun_by (name ∷ names) = begun_with (sha256 (message_of (name ∷ names)))

-- a table has the key of these names
abbrev pub IsKeyedBy : {V : Type 0} → List (List ℕ) → IndexMap (List ℕ) V NamesKey → Type 0
IsKeyedBy names table = (hasher_of table).begun ≡ begun_by names

abbrev pub are_none : List (List ℕ) → Bool
are_none [] = true
are_none (name ∷ names) = false

-- these names are digested so far
pub record Took (taken : KeyNames) (names : List (List ℕ)) : Type 0 where
  pub digest : Holds256 taken.digest.taken (message_of names)
  pub none : taken.are_none ≡ are_none names
