-- The lines of a script's report, as words. docs/reference/kaem-report.md is the page for readers.
use Rattle.std.specs.Prelude.{ℕ, List, [], ◌∷◌, decimal, codes}
use Rattle.std.specs.List.{flat_map}
use Rattle.hex.specs.Hex.{encode_lower}
use Rattle.ddc_base.specs.Lines.{line}
use Rattle.report.specs.Lines.{mark_words}
use Rattle.report.specs.declared.script.line.ScriptLine.{ScriptLine}
use Rattle.report.specs.declared.script.line.ScriptLine.TheVariants.{Header, Script, File, Command, Stream1, Stream2, Left, End}

-- the words of a line
abbrev pub script_line_words : ScriptLine → List (List ℕ)
script_line_words Header = codes "kaem-report" ∷ codes "1" ∷ []
script_line_words (Script digest) = codes "script" ∷ encode_lower digest.0 ∷ []
script_line_words (File file) = codes "file" ∷ encode_lower file.name ∷ mark_words file.mark
script_line_words (Command steps) = codes "command" ∷ decimal steps ∷ []
script_line_words (Stream1 mark) = codes "stream" ∷ codes "1" ∷ mark_words mark
script_line_words (Stream2 mark) = codes "stream" ∷ codes "2" ∷ mark_words mark
script_line_words (Left file) = codes "left" ∷ encode_lower file.name ∷ mark_words file.mark
script_line_words End = codes "end" ∷ []

-- the text of lines: in each, a space between neighbouring words, and an LF at the end
abbrev pub script_lines_text : List ScriptLine → List ℕ
script_lines_text lines = flat_map (λ l. line (script_line_words l)) lines
