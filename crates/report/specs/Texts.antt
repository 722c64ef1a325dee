-- Texts of lines of any kind: how one begins, its first fault, its reading, and the result of a call that reads it.
use Rattle.std.specs.Prelude.{◌≡◌, ◌≢◌, ◌<◌, ◌≤◌, ℕ, List, ◌++◌, length, take, Result, Ok, Err}
use Rattle.std.specs.List.{flat_map}
use Rattle.ddc_base.specs.Lines.{line}
use Rattle.report.specs.declared.refusal.ReportRefusal.{ReportRefusal}
use Rattle.report.specs.declared.refusal.ReportRefusal.TheVariants.{Form, OutOfMemory}

-- the texts of one kind of report: which reports are well-formed, the lines of a report, and the words of a line
pub record Texts (Line Report : Type 0) : Type 1 where
  pub Is : Report → Type 0
  pub lines : Report → List Line
  pub words : Line → List (List ℕ)

-- the text of lines, each with its LF
abbrev pub text_of_lines : {Line : Type 0} → (Line → List (List ℕ)) → List Line → List ℕ
text_of_lines words lines = flat_map (λ l. line (words l)) lines

-- the first n lines of a text, each with its LF, begin the text of some report
pub record BeginsText {Line Report : Type 0} (texts : Texts Line Report) (n : ℕ) (bytes : List ℕ) : Type 0 where
  pub report : Report
  pub is : texts.Is report
  pub within : n ≤ length (texts.lines report)
  pub rest : List ℕ
  pub text : bytes ≡ text_of_lines texts.words (take n (texts.lines report)) ++ rest

-- the least number of lines that no report begins with
pub record IsFirstFault {Line Report : Type 0} (texts : Texts Line Report) (number : ℕ) (bytes : List ℕ) : Type 0 where
  pub not_here : ¬ (BeginsText texts number bytes)
  pub before : (m : ℕ) → m < number → BeginsText texts m bytes

-- the one reading of a text: the report with this text; or, if there is no such report, the least number of lines that
-- no report begins with
abbrev pub IsReading : {Line Report : Type 0} → Texts Line Report → List ℕ → Result Report ℕ → Type 0
IsReading texts bytes (Ok report) = texts.Is report × (bytes ≡ text_of_lines texts.words (texts.lines report))
IsReading {Report = Report} texts bytes (Err number) =
    IsFirstFault texts number bytes × ((report : Report) → texts.Is report → bytes ≢ text_of_lines texts.words (texts.lines report))

-- the possible results of reading the text of this report
abbrev pub IsRead : {Report : Type 0} → Report → Result Report ReportRefusal → Type 0
IsRead report (Ok found) = found ≡ report
IsRead report (Err OutOfMemory) = Unit {0}
IsRead report (Err (Form number)) = ⊥

-- a valid refusal of a text
abbrev pub IsFault : {Line Report : Type 0} → Texts Line Report → List ℕ → ReportRefusal → Type 0
IsFault texts bytes (Form number) = IsFirstFault texts number bytes
IsFault texts bytes OutOfMemory = Unit {0}

-- a valid refusal of a text with this reading
abbrev pub Refuses : {Report : Type 0} → Result Report ℕ → ReportRefusal → Type 0
Refuses meant (Form number) = meant ≡ Err number
Refuses meant OutOfMemory = Unit {0}

-- a valid result of a call that reads a text with this reading
abbrev pub ReadsText : {Report : Type 0} → Result Report ℕ → Result Report ReportRefusal → Type 0
ReadsText meant (Ok report) = meant ≡ Ok report
ReadsText meant (Err refusal) = Refuses meant refusal
