-- The result of the loop over a text's lines, for any kind of lines. To read the promises, this file is not needed.
use Rattle.std.specs.Prelude.{◌≡◌, ℕ, ◌+◌, List, [], Option, None, Result, Ok, Err}
use Rattle.report.specs.declared.refusal.ReportRefusal.{ReportRefusal}
use Rattle.report.specs.declared.refusal.ReportRefusal.TheVariants.{Form, OutOfMemory}
use Rattle.report.specs.Inside.LineByLine.{Reader, next_line, HasRead}
use Rattle.report.specs.Texts.{Refuses}

-- why the bytes do not begin with a line of this number
abbrev pub HasNoLine : {Line : Type 0} → (List ℕ → Option Line) → List ℕ → ℕ → ReportRefusal → Type 0
HasNoLine line_of bytes number (Form found) = (found ≡ number) × (next_line line_of bytes ≡ None)
HasNoLine line_of bytes number OutOfMemory = Unit {0}

-- for a text with this reading: the state after all lines and the number of the next one, or the refusal
abbrev pub ReadsLines : {Line State Report : Type 0} → Reader Line State Report → Result Report ℕ → List ℕ → Result (State × ℕ) ReportRefusal → Type 0
ReadsLines reader meant bytes (Ok found) = (n : ℕ) × (found.1 ≡ n + 1) × HasRead reader bytes n found.0 []
ReadsLines reader meant bytes (Err refusal) = Refuses meant refusal
