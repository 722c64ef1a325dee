-- Texts of the tests.
use Rattle.std.specs.Prelude.{ℕ, ◌==◌, List, [], ◌∷◌, codes, if◌then◌else◌}

-- `*` stands for the SHA-256 digest of no bytes, and every other byte for itself
unfoldable pub encoded_byte : ℕ → List ℕ
encoded_byte byte = if byte == 42 then codes "e3b0c44298fc1c149afbf4c8996fb92427ae41e4649b934ca495991b7852b855" else byte ∷ []
