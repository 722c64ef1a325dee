-- Skipping a stage relative to one of a base.
use Rattle.std.specs.Prelude.{◌≡◌, ℕ, Bool, false, List, [], ◌∷◌, Result, Ok, Err}
use Rattle.report.specs.declared.types.LeftLine.{LeftLine}
use Rattle.save_format.specs.ByteFields.Reader.{Read}
use Rattle.save_format.specs.DeltaText.Stages.{equal_left}
use Rattle.save_format.specs.declared.byte_fields.cursor.WrongField.{WrongField}

-- a function skipped a field and returned whether it meets a test; or found it wrong
abbrev pub PassesRelative : {Y : Type 0} → (Y → Bool) → Result Bool WrongField → List ℕ → Read Y → Type 0
PassesRelative {Y} test (Ok same) left read = (y : Y) × (read ≡ Ok (y, left)) × (same ≡ test y)
PassesRelative test (Err field) left read = read ≡ Err field.remaining

-- whether the first of these files is this one
abbrev pub IsLeftNext : List LeftLine → LeftLine → Bool → Type 0
IsLeftNext [] line result = result ≡ false
IsLeftNext (file ∷ files) line result = result ≡ equal_left file line
