use Rattle.std.proofs.Common.{◌≡◌, ◌∙◌, ◌+◌, ◌&&◌, true, false, Some, [], arith, drop, sym, ap, unwrap_or}
use Rattle.std.specs.Prelude.{bytes_eq, is_none}
use Rattle.std.specs.Option.{option_copied}
use Rattle.mem_files.specs.Calls.{content_at}
use Rattle.mem_files.proofs.Walks.{walk-name}
use Rattle.report.specs.Marks.{is_mark_of}
use Rattle.verifier.specs.Faults.{names_left}
use Rattle.verifier.proofs.LeftFiles.{left-start, left_after, line-end, line-missing, line-turn, none-told, not-false, not-true}
use Rattle.verifier.proofs.left.names_left.Goals as goal

pub loop-line-init : goal.loop-line-init
loop-line-init c = ap (names_left c.args.lines.now) (left-start c.args.files.now)

pub returns-in_default : goal.returns-in_default
returns-in_default c =
    sym (c.loop-line.invariant
    ∙ line-missing c.args.lines.now c.loop-line.line-index c.line-item.result c.args.files.now (option_copied c.loop-line.last) (omega arith)
    (sym c.name_after.ensures ∙ ap option_copied c.in_default.is))

pub bytes_of-requires : goal.bytes_of-requires
bytes_of-requires c =
    walk-name c.args.files.now (option_copied c.loop-line.last) c.in-Some.name.now c.requires (sym c.name_after.ensures ∙ ap option_copied c.in-Some.is)

pub returns-then-ne : goal.returns-then-ne
returns-then-ne c =
    let bytes = unwrap_or (content_at c.args.files.now c.in-Some.name.now) [] in
    let rest = names_left (drop (c.loop-line.line-index + 1) c.args.lines.now) (left_after c.args.files.now (Some c.in-Some.name.now)) in
    let differ : bytes_eq c.line-item.result.name c.in-Some.name.now ≡ false =
    ap (λ name. bytes_eq name c.in-Some.name.now) (sym c.as_slice.ensures) ∙ not-true (bytes_eq c.as_slice.result.now c.in-Some.name.now) c.if-ne.ensures in
    sym (c.loop-line.invariant
    ∙ line-turn c.args.lines.now c.loop-line.line-index c.line-item.result c.args.files.now (option_copied c.loop-line.last) c.in-Some.name.now (omega arith) c.line-item.is
    (sym c.name_after.ensures ∙ ap option_copied c.in-Some.is)
    ∙ ap (λ b. b && is_mark_of c.line-item.result.mark bytes && rest) differ)

pub returns-then-not-is_of : goal.returns-then-not-is_of
returns-then-not-is_of c =
    let bytes = unwrap_or (content_at c.args.files.now c.in-Some.name.now) [] in
    let rest = names_left (drop (c.loop-line.line-index + 1) c.args.lines.now) (left_after c.args.files.now (Some c.in-Some.name.now)) in
    let same : bytes_eq c.line-item.result.name c.in-Some.name.now ≡ true =
    ap (λ name. bytes_eq name c.in-Some.name.now) (sym c.as_slice.ensures) ∙ not-false (bytes_eq c.as_slice.result.now c.in-Some.name.now) c.if-ne.ensures in
    let wrong : is_mark_of c.line-item.result.mark bytes ≡ false = ap (is_mark_of c.line-item.result.mark) (sym c.bytes_of.ensures) ∙ sym c.if-not-is_of.ensures in
    sym (c.loop-line.invariant
    ∙ line-turn c.args.lines.now c.loop-line.line-index c.line-item.result c.args.files.now (option_copied c.loop-line.last) c.in-Some.name.now (omega arith) c.line-item.is
    (sym c.name_after.ensures ∙ ap option_copied c.in-Some.is)
    ∙ (λ i. same i && wrong i && rest))

pub loop-line-preserved : goal.loop-line-preserved
loop-line-preserved c =
    let bytes = unwrap_or (content_at c.args.files.now c.in-Some.name.now) [] in
    let rest = names_left (drop (c.loop-line.line-index + 1) c.args.lines.now) (left_after c.args.files.now (Some c.in-Some.name.now)) in
    let same : bytes_eq c.line-item.result.name c.in-Some.name.now ≡ true =
    ap (λ name. bytes_eq name c.in-Some.name.now) (sym c.as_slice.ensures) ∙ not-false (bytes_eq c.as_slice.result.now c.in-Some.name.now) c.if-ne.ensures in
    let right : is_mark_of c.line-item.result.mark bytes ≡ true = ap (is_mark_of c.line-item.result.mark) (sym c.bytes_of.ensures) ∙ sym c.if-not-is_of.ensures in
    c.loop-line.invariant
    ∙ line-turn c.args.lines.now c.loop-line.line-index c.line-item.result c.args.files.now (option_copied c.loop-line.last) c.in-Some.name.now (omega arith) c.line-item.is
    (sym c.name_after.ensures ∙ ap option_copied c.in-Some.is)
    ∙ (λ i. same i && right i && rest)

pub returns : goal.returns
returns c =
    none-told c.name_after-2.result c.is_none.result c.is_none.ensures ∙ ap is_none c.name_after-2.ensures
    ∙ sym (c.loop-line.invariant
    ∙ line-end c.args.lines.now c.loop-line.line-index c.args.files.now (option_copied c.loop-line.last) (omega arith))
