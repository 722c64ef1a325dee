use Rattle.std.proofs.Common.{◌≡◌, length, ap, sym, subst, ◌∙◌, Some, None, Ok}
use Rattle.std.proofs.lemmas.Result.{err_from_is_err_and}
use Rattle.elf_load.specs.declared.Image.{Image}
use Rattle.elf_load.specs.Fields.{e_entry}
use Rattle.elf_load.specs.Segments.{segments_of, break_after}
use Rattle.elf_load.specs.Image.{first_refusal, placing_rules, entry_rules, accepted_image, IsLoadable}
use Rattle.elf_load.proofs.Judging.{by_header, by_table, by_placing, by_entry, same_image}
use Rattle.elf_load.proofs.Soundness.{sound}
use Rattle.elf_load.proofs.read_image.Goals as goal

pub returns-in_err-check_header-clause-value : goal.returns-in_err-check_header-clause-value
returns-in_err-check_header-clause-value c =
    let p = err_from_is_err_and c.from_residual.result c.from_residual.ensures.1 in
    rw (p.1, p.2) (by_header c.args.file.now _ c.in_err-check_header.ensures.judged)

pub returns-in_err-segments-clause-value : goal.returns-in_err-segments-clause-value
returns-in_err-segments-clause-value c =
    let p = err_from_is_err_and c.from_residual-in_err-segments.result c.from_residual-in_err-segments.ensures.1 in
    rw (p.1, p.2) (by_table c.args.file.now _ c.in_ok-check_header.ensures.judged c.in_err-segments.ensures.judged)

pub returns-in_err-check_placing-clause-value : goal.returns-in_err-check_placing-clause-value
returns-in_err-check_placing-clause-value c =
    let p = err_from_is_err_and c.from_residual-in_err-check_placing.result c.from_residual-in_err-check_placing.ensures.1 in
    rw (p.1, p.2) (by_placing c.args.file.now _ c.deref.result.now (c.deref.ensures.0 ∙ c.in_ok-segments.ensures.value)
    c.in_ok-check_header.ensures.judged c.in_ok-segments.ensures.judged c.in_err-check_placing.ensures.judged)

pub returns-in_err-check_entry-clause-value : goal.returns-in_err-check_entry-clause-value
returns-in_err-check_entry-clause-value c =
    let p = err_from_is_err_and c.from_residual-in_err-check_entry.result c.from_residual-in_err-check_entry.ensures.1 in
    let placed : first_refusal (placing_rules (length c.args.file.now) (segments_of c.args.file.now)) ≡ None =
    ap (λ list. first_refusal (placing_rules (length c.args.file.now) list)) (sym (c.deref.ensures.0 ∙ c.in_ok-segments.ensures.value))
    ∙ c.in_ok-check_placing.ensures.judged in
    let entered : first_refusal (entry_rules (e_entry c.args.file.now) (segments_of c.args.file.now)) ≡ Some c.in_err-check_entry.field-0.0 =
    ap (λ list. first_refusal (entry_rules (e_entry c.args.file.now) list)) (sym (c.deref-2.ensures.0 ∙ c.in_ok-segments.ensures.value))
    ∙ ap (λ entry. first_refusal (entry_rules entry c.deref-2.result.now)) (sym c.entry-entry.ensures)
    ∙ c.in_err-check_entry.ensures in
    rw (p.1, p.2) (by_entry c.args.file.now (Some c.in_err-check_entry.field-0.0)
    c.in_ok-check_header.ensures.judged c.in_ok-segments.ensures.judged placed entered)

-- the image that is returned is the accepted one
same : (c : goal.After-break_after-first_break)
    → ◌≡◌ {A = Image} (record { entry = c.entry-entry.result; segments = c.in_ok-segments.segments; first_break = c.break_after-first_break.result })
    (accepted_image c.args.file.now)
same c =
    same_image c.args.file.now _ c.entry-entry.ensures c.in_ok-segments.ensures.value
    (c.break_after-first_break.ensures ∙ ap break_after (c.deref-3.ensures.0 ∙ c.in_ok-segments.ensures.value))

-- no rule of the last two groups fits
placed : (c : goal.After-break_after-first_break) → first_refusal (placing_rules (length c.args.file.now) (segments_of c.args.file.now)) ≡ None
placed c =
    ap (λ list. first_refusal (placing_rules (length c.args.file.now) list)) (sym (c.deref.ensures.0 ∙ c.in_ok-segments.ensures.value))
    ∙ c.in_ok-check_placing.ensures.judged

entered : (c : goal.After-break_after-first_break) → first_refusal (entry_rules (e_entry c.args.file.now) (segments_of c.args.file.now)) ≡ None
entered c =
    ap (λ list. first_refusal (entry_rules (e_entry c.args.file.now) list)) (sym (c.deref-2.ensures.0 ∙ c.in_ok-segments.ensures.value))
    ∙ ap (λ entry. first_refusal (entry_rules entry c.deref-2.result.now)) (sym c.entry-entry.ensures)
    ∙ c.in_ok-check_entry.ensures

pub returns-clause-value : goal.returns-clause-value
returns-clause-value c =
    ap Ok (same c)
    ∙ by_entry c.args.file.now None c.in_ok-check_header.ensures.judged c.in_ok-segments.ensures.judged (placed c) (entered c)

pub returns-clause-sound : goal.returns-clause-sound
returns-clause-sound c =
    subst (IsLoadable (length c.args.file.now)) (sym (same c))
    (sound c.args.file.now (length c.args.file.now) c.in_ok-segments.ensures.judged (placed c) (entered c))
