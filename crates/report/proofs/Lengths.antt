-- The text of a report is short.
use Rattle.std.proofs.Common.{◌≡◌, ℕ, ◌*◌, ◌<◌, ◌≤◌, ◌^◌, List, [], ◌∷◌, ◌++◌, length, map, codes, decimal, Some, None, Result, Ok, Err, arith, length-append, lit<, Bool, true, false, cond, inl, inr}
use Rattle.std.specs.Prelude.{All, IfOk, ◌==◌}
use Rattle.std.specs.List.{flat_map}
use Rattle.std.proofs.lemmas.Fmt.{length-decimal-le}
use Rattle.std.proofs.lemmas.List.Elements.{All-head, All-tail}
use Rattle.hex.specs.Hex.{encode_lower, lower_digits}
use Rattle.hex.proofs.HexLemmas.{length-encode_with}
use Rattle.ddc_base.specs.Lines.{line as line_text}
use Rattle.ddc_base.proofs.NameTexts.{fits}
use Rattle.ddc_base.specs.Languages.Words.{language_word}
use Rattle.ddc_base.specs.declared.languages.Language.{Language}
use Rattle.ddc_base.specs.declared.languages.Language.TheVariants.{Hex0, Hex1, Hex2, M1}
use Rattle.ddc_base.specs.Limits.{most_report}
use Rattle.report.specs.declared.line.ReportLine.{ReportLine}
use Rattle.report.specs.declared.line.ReportLine.TheVariants.{Header, Recipe, Input, Stage, Stream1, Stream2, Left, Made, Checked, Compare, End}
use Rattle.report.specs.declared.types.Mark.{Mark}
use Rattle.report.specs.declared.types.StageLine.{StageLine}
use Rattle.report.specs.declared.types.Compared.{Compared}
use Rattle.report.specs.declared.types.Compared.TheVariants.{Equal, Differs}
use Rattle.report.specs.declared.types.Report.{Report}
use Rattle.report.specs.Lines.{line_words, mark_words, compared_words, lines_text}
use Rattle.report.specs.Reports.{stage_block, report_lines, report_text, most_comparisons, IsMark, IsStageLine, IsCompared, IsReport}
use Rattle.report.proofs.Counts.{mapped}
use Rattle.report.proofs.LineTexts.{IsLine}
use Rattle.report.proofs.Keeps.{lines_are}

pub number_short : (n : ℕ) → n < 2 ^ 64 → length (decimal n) ≤ 20
number_short n small =
    let wide : n < 10 ^ 20 = omega arith in
    length-decimal-le 20 n (lit< tt) wide small

pub hex_long : (bytes : List ℕ) → length (encode_lower bytes) ≡ 2 * length bytes
hex_long bytes = length-encode_with lower_digits bytes

word_short : (language : Language) → length (language_word language) ≤ 4
unfolding language_word
word_short Hex0 = omega arith
word_short Hex1 = omega arith
word_short Hex2 = omega arith
word_short M1 = omega arith

pub mark_short : (mark : Mark) → IsMark mark → length (line_text (mark_words mark)) ≤ 86
mark_short mark is =
    let hex = encode_lower mark.digest.0 in
    omega (arith, length-append (decimal mark.length) (32 ∷ (hex ++ 10 ∷ [])), length-append hex (10 ∷ []), number_short mark.length is.length, hex_long mark.digest.0, is.digest.count)

compared_short : (found : Compared) → IsCompared found → length (line_text (compared_words found)) ≤ 80
compared_short (Equal n) is = omega (arith, length-append (decimal n) (10 ∷ []), number_short n is)
compared_short (Differs o a b) is =
    let small : o < 2 ^ 64 = omega (arith, is.within_ours, is.small_ours) in
    omega (
      arith,
      length-append (decimal o) (32 ∷ (decimal a ++ 32 ∷ (decimal b ++ 10 ∷ []))),
      length-append (decimal a) (32 ∷ (decimal b ++ 10 ∷ [])),
      length-append (decimal b) (10 ∷ []),
      number_short o small,
      number_short a is.small_ours,
      number_short b is.small_theirs,
    )

line_short : (l : ReportLine) → IsLine l → length (line_text (line_words l)) ≤ 602
line_short (Header form) (inl one) = rw one (omega arith)
line_short (Header form) (inr two) = rw two (omega arith)
line_short (Recipe d) is = omega (arith, length-append (encode_lower d.0) (10 ∷ []), hex_long d.0, is.count)
line_short (Input i) is = omega (arith, length-append i.name (32 ∷ line_text (mark_words i.mark)), fits i.name is.name, mark_short i.mark is.mark)
line_short (Stage n s) is = omega (arith, length-append n (32 ∷ (decimal s ++ 10 ∷ [])), length-append (decimal s) (10 ∷ []), fits n is.0, number_short s is.1)
line_short (Stream1 m) is = omega (arith, mark_short m is)
line_short (Stream2 m) is = omega (arith, mark_short m is)
line_short (Left f) is =
    omega (arith, length-append (encode_lower f.name) (32 ∷ line_text (mark_words f.mark)), hex_long f.name, is.count.1, mark_short f.mark is.mark)
line_short (Made m) is = omega (arith, mark_short m is)
line_short (Checked None) is = omega arith
line_short (Checked (Some l)) is = omega (arith, length-append (language_word l) (10 ∷ []), word_short l)
line_short (Compare c) is = on c.result is.result
  where
    on : (found : Compared) → IsCompared found → length (line_text (codes "compare" ∷ c.stage ∷ c.binary ∷ compared_words found)) ≤ 602
    on (Equal n) k = omega (arith, length-append c.stage (32 ∷ (c.binary ++ 32 ∷ line_text (compared_words (Equal n)))), length-append c.binary (32 ∷ line_text (compared_words (Equal n))), fits c.stage is.stage, fits c.binary is.binary, compared_short (Equal n) k)
    on (Differs o a b) k = omega (arith, length-append c.stage (32 ∷ (c.binary ++ 32 ∷ line_text (compared_words (Differs o a b)))), length-append c.binary (32 ∷ line_text (compared_words (Differs o a b))), fits c.stage is.stage, fits c.binary is.binary, compared_short (Differs o a b) k)
line_short End is = omega arith

lines_short : (ls : List ReportLine) → All IsLine ls → length (lines_text ls) ≤ 602 * length ls
lines_short [] each = omega arith
lines_short (l ∷ ls) each =
    omega (arith, length-append (line_text (line_words l)) (lines_text ls), line_short l (All-head IsLine l ls each), lines_short ls (All-tail IsLine l ls each))

-- ---- how many lines there are

block_few : (stage : StageLine) → IsStageLine stage → length (stage_block stage) ≤ 4101
block_few stage is = omega (arith, length-append (map Left stage.left) (Made stage.made ∷ Checked stage.checked ∷ []), mapped Left stage.left, is.count)

blocks_few : (stages : List StageLine) → All IsStageLine stages → length (flat_map stage_block stages) ≤ 4101 * length stages
blocks_few [] each = omega arith
blocks_few (stage ∷ stages) each =
    omega (arith, length-append (stage_block stage) (flat_map stage_block stages), block_few stage (All-head IsStageLine stage stages each), blocks_few stages (All-tail IsStageLine stage stages each))

few_compared : (form : ℕ) → most_comparisons form ≤ 16
few_compared form = by_test (form == 1)
  where
    by_test : (t : Bool) → cond t 1 16 ≤ 16
    by_test true = omega arith
    by_test false = omega arith

lines_few : (report : Report) → IsReport report → length (report_lines report) ≤ 1050131
lines_few report is =
    let inputs = map Input report.inputs in
    let stages = flat_map stage_block report.stages in
    let compares = map Compare report.compare in
    omega (
      arith,
      length-append ((inputs ++ stages) ++ compares) (End ∷ []),
      length-append (inputs ++ stages) compares,
      length-append inputs stages,
      mapped Input report.inputs,
      mapped Compare report.compare,
      blocks_few report.stages is.each_stage,
      is.inputs.1,
      is.stages.1,
      is.compares.1,
      few_compared report.form,
    )

pub short : (report : Report) → IsReport report → length (report_text report) < most_report
short report is = omega (arith, lines_short (report_lines report) (lines_are report is), lines_few report is)

pub short_result : {E : Type 0} (text : List ℕ) (result : Result (List ℕ) E) → length text < most_report → IfOk result (λ found. found ≡ text)
    → IfOk result (λ found. length found < most_report)
short_result text (Ok found) short gives = rw gives short
short_result text (Err e) short gives = tt
