-- What `run` prints of a program's files is what a report's block says of them.
use Rattle.std.proofs.Common.{◌≡◌, ℕ, List, [], ◌∷◌, ◌++◌, map, append_assoc, append-nil, lit<, refl, sym, ap, ◌∙◌}
use Rattle.std.specs.List.{flat_map}
use Rattle.std.proofs.lemmas.Fmt.{decimal_digit}
use Rattle.ddc_base.specs.Lines.{line}
use Rattle.mem_files.specs.World.{World}
use Rattle.mem_files.specs.Outputs.{left}
use Rattle.report.specs.Lines.{line_words, lines_text}
use Rattle.report.specs.declared.line.ReportLine.{ReportLine}
use Rattle.report.specs.declared.line.ReportLine.TheVariants.{Stage, Stream1, Stream2, Left, Made}
use Rattle.report.specs.Marks.{mark_of}
use Rattle.audit_rules.specs.Stages.{finished, marked_left}
use Rattle.tool_commands.specs.RunProgram.{left_line, stream_line, world_text}
use Rattle.stage_commands.specs.Texts.{run_record}

left_same : (file : List ℕ × List ℕ) → left_line file ≡ line (line_words (Left (marked_left file)))
unfolding left_line
left_same file = refl

lines_left : (files : List (List ℕ × List ℕ)) (rest : List ReportLine) → flat_map left_line files ++ lines_text rest ≡ lines_text (map Left (map marked_left files) ++ rest)
lines_left [] rest = refl
lines_left (file ∷ files) rest =
    append_assoc (left_line file) (flat_map left_line files) (lines_text rest)
    ∙ (λ i. left_same file i ++ lines_left files rest i)

first_same : (bytes : List ℕ) → stream_line 1 bytes ≡ line (line_words (Stream1 (mark_of bytes)))
unfolding stream_line
first_same bytes = rw (decimal_digit 1 (lit< tt)) refl

second_same : (bytes : List ℕ) → stream_line 2 bytes ≡ line (line_words (Stream2 (mark_of bytes)))
unfolding stream_line
second_same bytes = rw (decimal_digit 2 (lit< tt)) refl

world_lines : (w : World) → world_text w ≡ line (line_words (Stream1 (mark_of w.stream1))) ++ (line (line_words (Stream2 (mark_of w.stream2))) ++ flat_map left_line (left w))
unfolding world_text
world_lines w = λ i. first_same w.stream1 i ++ (second_same w.stream2 i ++ flat_map left_line (left w))

pub run_written : (name : List ℕ) (steps : ℕ) (w : World) (made : List ℕ)
    → (line (line_words (Stage name steps)) ++ world_text w) ++ line (line_words (Made (mark_of made))) ≡ run_record name (finished steps w made)
unfolding run_record finished
run_written name steps w made =
    let stage : List ℕ = line (line_words (Stage name steps)) in
    let first : List ℕ = line (line_words (Stream1 (mark_of w.stream1))) in
    let second : List ℕ = line (line_words (Stream2 (mark_of w.stream2))) in
    let files : List ℕ = flat_map left_line (left w) in
    let last : List ℕ = line (line_words (Made (mark_of made))) in
    ap (λ text. (stage ++ text) ++ last) (world_lines w)
    ∙ append_assoc stage (first ++ (second ++ files)) last
    ∙ ap (λ text. stage ++ text)
    (append_assoc first (second ++ files) last
    ∙ ap (λ text. first ++ text)
    (append_assoc second files last
    ∙ ap (λ text. second ++ text) (ap (λ text. files ++ text) (sym (append-nil last)) ∙ lines_left (left w) (Made (mark_of made) ∷ []))))
