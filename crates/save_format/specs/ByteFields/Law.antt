-- The law of a field: reading and writing it are inverse, and a wrong field begins within the bytes left. For a text of
-- two formats, the law is alike.
use Rattle.std.specs.Prelude.{◌≡◌, ℕ, ◌≤◌, List, ◌++◌, length, Ok, Err}
use Rattle.mem_files.specs.Sound.{AreBytes}
use Rattle.save_format.specs.ByteFields.Reader.{Reader}
use Rattle.save_format.specs.declared.byte_fields.form.TextForm.{TextForm}

-- a value that was read has this text before the bytes left, and fits; a value that fits is read from its text, whatever follows;
-- a wrong field begins within the bytes left
pub record IsReadAsEncoded {A : Type 0} (field : Reader A) (text : A → List ℕ) (Fits : A → Type 0) : Type 0 where
  pub takes : (remaining : List ℕ) (x : A) (rest : List ℕ) → AreBytes remaining → field remaining ≡ Ok (x, rest) → (remaining ≡ text x ++ rest) × Fits x
  pub again : (x : A) (rest : List ℕ) → Fits x → field (text x ++ rest) ≡ Ok (x, rest)
  pub within : (remaining : List ℕ) (at : ℕ) → AreBytes remaining → field remaining ≡ Err at → at ≤ length remaining

-- A value that was read has a text in one of the formats before the bytes left, and fits that format. A value that fits a format
-- is read from its text in that format, whatever follows. A wrong field begins within the bytes left.
pub record IsReadInForms {A : Type 0} (field : Reader A) (text : TextForm → A → List ℕ) (Fits : TextForm → A → Type 0) : Type 0 where
  pub takes : (remaining : List ℕ) (x : A) (rest : List ℕ) → AreBytes remaining → field remaining ≡ Ok (x, rest) → (form : TextForm) × (remaining ≡ text form x ++ rest) × Fits form x
  pub again : (form : TextForm) (x : A) (rest : List ℕ) → Fits form x → field (text form x ++ rest) ≡ Ok (x, rest)
  pub within : (remaining : List ℕ) (at : ℕ) → AreBytes remaining → field remaining ≡ Err at → at ≤ length remaining
