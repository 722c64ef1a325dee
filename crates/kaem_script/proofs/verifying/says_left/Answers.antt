use Rattle.std.proofs.Common.{◌≡◌, ◌∙◌, ℕ, List, true, false, sym, ap, is_none, option_copied}
use Rattle.mem_files.proofs.Walks.{walk-name}
use Rattle.kaem_script.specs.Faults.{says_file, says_files}
use Rattle.kaem_script.specs.FilesListed.{named_in}
use Rattle.kaem_script.proofs.Relative.{all-reported, empty-is, first-is, left-begins, next-reported, no-file-reported, none-told}
use Rattle.kaem_script.proofs.Renewing.{files_after}
use Rattle.kaem_script.proofs.verifying.says_left.Goals as goal

pub loop-ahead-init : goal.loop-ahead-init
loop-ahead-init c = ap (says_files c.args.lines.now) (left-begins c.args.files.now)

pub returns-in_default-name_after : goal.returns-in_default-name_after
returns-in_default-name_after c =
    sym (sym c.loop-ahead.invariant
    ∙ no-file-reported c.args.files.now _ c.loop-ahead.ahead.now _ c.line-item.result (first-is c.loop-ahead.ahead.now c.line-item.result c.in-len1-up.len_at_least c.line-item.is)
    (sym c.in_default-name_after.ensures))

pub bytes_of-requires : goal.bytes_of-requires
bytes_of-requires c = walk-name c.args.files.now _ _ c.show_sound.ensures (sym c.in-Some.ensures)

pub returns-then-not-says_file : goal.returns-then-not-says_file
returns-then-not-says_file c =
    let parsed : says_file c.line-item.result (named_in c.args.files.now c.in-Some.name.now) ≡ false =
    ap (λ (content : List ℕ). says_file c.line-item.result (c.in-Some.name.now, content)) (sym c.bytes_of.ensures) ∙ sym c.if-not-says_file.ensures in
    sym (sym c.loop-ahead.invariant
    ∙ next-reported c.args.files.now _ c.in-Some.name.now c.loop-ahead.ahead.now _ c.line-item.result false
    (first-is c.loop-ahead.ahead.now c.line-item.result c.in-len1-up.len_at_least c.line-item.is) (sym c.in-Some.ensures) parsed)

pub loop-ahead-preserved : goal.loop-ahead-preserved
loop-ahead-preserved c =
    let parsed : says_file c.line-item.result (named_in c.args.files.now c.in-Some.name.now) ≡ true =
    ap (λ (content : List ℕ). says_file c.line-item.result (c.in-Some.name.now, content)) (sym c.bytes_of.ensures) ∙ sym c.if-not-says_file.ensures in
    sym (next-reported c.args.files.now _ c.in-Some.name.now c.loop-ahead.ahead.now _ c.line-item.result true
    (first-is c.loop-ahead.ahead.now c.line-item.result c.in-len1-up.len_at_least c.line-item.is) (sym c.in-Some.ensures) parsed)
    ∙ c.loop-ahead.invariant

pub returns : goal.returns
returns c =
    let none = empty-is c.loop-ahead.ahead.now c.in_default.len_below in
    none-told c.name_after-2.result c.is_none.result c.is_none.ensures ∙ ap is_none c.name_after-2.ensures
    ∙ sym (all-reported c.args.files.now (option_copied c.loop-ahead.last))
    ∙ sym (ap (λ lines. says_files lines (files_after c.args.files.now (option_copied c.loop-ahead.last))) none)
    ∙ c.loop-ahead.invariant
