use Rattle.std.proofs.Common.{◌≡◌, ◌++◌, ℕ, List, OnOk, ap, subst, ◌∙◌, append_assoc, map}
use Rattle.ddc_base.specs.Lines.{line as line_text}
use Rattle.report.specs.Script.Lines.{script_lines_text, script_line_words}
use Rattle.report.specs.declared.script.line.ScriptLine.TheVariants.{File, Header, Script}
use Rattle.report.proofs.script.writing.put_prefix.Goals as goal

pub returns : goal.returns
returns c =
    let out = c.args.out.now in
    let head = line_text (script_line_words Header) in
    let script = line_text (script_line_words (Script c.args.script.now)) in
    let files = script_lines_text (map File c.args.files.now) in
    let whole : c.put_script.new.out ++ files ≡ out ++ (head ++ (script ++ files)) =
    ap (λ (t : List ℕ). t ++ files) (c.in_ok-put_script.ensures ∙ ap (λ (t : List ℕ). t ++ script) c.in_ok-extend.ensures.ok)
    ∙ append_assoc (out ++ head) script files ∙ append_assoc out head (script ++ files) in
    subst (λ (t : List ℕ). OnOk c.put_files.result (c.put_files.new.out ≡ t)) whole c.put_files.ensures
