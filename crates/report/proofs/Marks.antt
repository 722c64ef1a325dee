-- Marks: the length and the SHA-256 digest of some bytes are one.
use Rattle.std.proofs.Common.{ℕ, zero, suc, ◌/◌, ◌%◌, ◌<◌, ◌^◌, List, length, lit<, refl, arith}
use Rattle.std.specs.Prelude.{replicate, slice_index}
use Rattle.std.specs.Int.{byte_at, to_be_bytes, bytes_high_first, w32}
use Rattle.std.proofs.lemmas.List.Elements.{All-append, All-cons, All-nil, All-replicate}
use Rattle.sha2.specs.Sha256.{digest_bytes, final_hash, initial_hash_256, sha256}
use Rattle.sha2.proofs.Facts256.{length-sha256}
use Rattle.ddc_base.specs.declared.digests.Digest.{Digest}
use Rattle.report.specs.declared.types.Mark.{Mark}
use Rattle.report.specs.Reports.{AreBytes, IsDigest, IsMark}

abbrev small : ℕ → Type 0
small byte = byte < 256

byte_small : (i n : ℕ) → byte_at i n < 256
byte_small zero n = omega arith
byte_small (suc i) n = mod-small (n / 256 ^ suc i)
  where
    mod-small : (x : ℕ) → x % 256 < 256
    mod-small x = omega arith

high_small : (k n : ℕ) → AreBytes (bytes_high_first k n)
high_small zero n = All-nil small
high_small (suc k) n = All-cons small (byte_at k n) (bytes_high_first k n) (byte_small k n) (high_small k n)

hash_bytes : (h : List ℕ) (n : ℕ) → AreBytes (digest_bytes h n)
unfolding digest_bytes
hash_bytes h zero = All-nil small
hash_bytes h (suc n) = All-append small (digest_bytes h n) (to_be_bytes w32 (slice_index h n)) (hash_bytes h n) (high_small 4 (slice_index h n))

pub is_digest : (bytes : List ℕ) → IsDigest (record { 0 = sha256 bytes })
unfolding sha256
is_digest bytes = record { count = length-sha256 bytes; bytes = hash_bytes (final_hash initial_hash_256 bytes) 8 }

pub is_mark : (bytes : List ℕ) → length bytes < 2 ^ 64 → IsMark (record { length = length bytes; digest = record { 0 = sha256 bytes } })
is_mark bytes small = record { length = small; digest = is_digest bytes }

-- ---- some mark

pub some_digest : Digest
some_digest = record { 0 = replicate 32 0 }

pub some_digest_is : IsDigest some_digest
unfolding some_digest
some_digest_is = record { count = refl; bytes = All-replicate (λ byte. byte < 256) 32 0 (lit< tt) }

pub some_mark : Mark
some_mark = record { length = 0; digest = some_digest }

pub some_mark_is : IsMark some_mark
unfolding some_mark
some_mark_is = record { length = lit< tt; digest = some_digest_is }
