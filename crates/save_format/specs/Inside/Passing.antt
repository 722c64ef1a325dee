-- Skipping fields, so that the format of a text is checked without allocation.
use Rattle.std.specs.Prelude.{◌≡◌, ℕ, IsOk, List, Result, Ok, Err}
use Rattle.save_format.specs.ByteFields.Reader.{Read}
use Rattle.save_format.specs.declared.byte_fields.cursor.WrongField.{WrongField}
use Rattle.save_format.specs.declared.state_text.reading.TextRefusal.{TextRefusal}
use Rattle.save_format.specs.declared.state_text.reading.TextRefusal.TheVariants.{Form, OutOfMemory}

-- a function skipped a field that can be read, or found it wrong
abbrev pub GoesPast : {Y : Type 0} → Result (Unit {0}) WrongField → List ℕ → Read Y → Type 0
GoesPast {Y} (Ok past) remaining read = (y : Y) × (read ≡ Ok (y, remaining))
GoesPast (Err field) remaining read = read ≡ Err field.remaining

-- whether a text is well-formed, and otherwise its first wrong field
abbrev pub JudgesForm : {Y : Type 0} → Result (Unit {0}) TextRefusal → Result Y ℕ → Type 0
JudgesForm (Ok formed) read = IsOk read
JudgesForm (Err (Form offset)) read = read ≡ Err offset
JudgesForm (Err OutOfMemory) read = ⊥
