-- The lines of a report, as words. docs/reference/report.md is the page for readers.
use Rattle.std.specs.Prelude.{ℕ, List, [], ◌∷◌, Option, Some, None, decimal, codes, ◌==◌, if◌then◌else◌}
use Rattle.std.specs.List.{flat_map}
use Rattle.hex.specs.Hex.{encode_lower}
use Rattle.ddc_base.specs.Lines.{line}
use Rattle.ddc_base.specs.Languages.Words.{language_word}
use Rattle.ddc_base.specs.declared.languages.Language.{Language}
use Rattle.report.specs.declared.line.ReportLine.{ReportLine}
use Rattle.report.specs.declared.line.ReportLine.TheVariants.{Header, Recipe, Input, Stage, Stream1, Stream2, Left, Made, Checked, Compare, End}
use Rattle.report.specs.declared.types.Mark.{Mark}
use Rattle.report.specs.declared.types.Compared.{Compared}
use Rattle.report.specs.declared.types.Compared.TheVariants.{Equal, Differs}

-- a length and a digest
abbrev pub mark_words : Mark → List (List ℕ)
mark_words mark = decimal mark.length ∷ encode_lower mark.digest.0 ∷ []

abbrev pub checked_words : Option Language → List (List ℕ)
checked_words None = codes "unchecked" ∷ []
checked_words (Some language) = codes "checked" ∷ language_word language ∷ []

abbrev pub compared_words : Compared → List (List ℕ)
compared_words (Equal length) = codes "equal" ∷ decimal length ∷ []
compared_words (Differs offset ours theirs) = codes "differs" ∷ decimal offset ∷ decimal ours ∷ decimal theirs ∷ []

-- the text of a report's format number
abbrev pub form_word : ℕ → List ℕ
form_word form = if form == 1 then codes "1" else codes "2"

-- the words of a line
abbrev pub line_words : ReportLine → List (List ℕ)
line_words (Header form) = codes "ddc-report" ∷ form_word form ∷ []
line_words (Recipe digest) = codes "recipe" ∷ encode_lower digest.0 ∷ []
line_words (Input input) = codes "input" ∷ input.name ∷ mark_words input.mark
line_words (Stage name steps) = codes "stage" ∷ name ∷ decimal steps ∷ []
line_words (Stream1 mark) = codes "stream" ∷ codes "1" ∷ mark_words mark
line_words (Stream2 mark) = codes "stream" ∷ codes "2" ∷ mark_words mark
line_words (Left file) = codes "left" ∷ encode_lower file.name ∷ mark_words file.mark
line_words (Made mark) = codes "made" ∷ mark_words mark
line_words (Checked language) = checked_words language
line_words (Compare compare) = codes "compare" ∷ compare.stage ∷ compare.binary ∷ compared_words compare.result
line_words End = codes "end" ∷ []

-- the text of lines: in each, a space between neighbouring words, and an LF at the end
abbrev pub lines_text : List ReportLine → List ℕ
lines_text lines = flat_map (λ l. line (line_words l)) lines
