use Rattle.std.proofs.Common.{◌≡◌, ◌≢◌, ◌==◌, ℕ, List, false, Ok, ap, sym, ◌∙◌, length, subst, arith}
use Rattle.std.specs.Prelude.{IsTrue}
use Rattle.std.proofs.lemmas.Bool.{eqb-false}
use Rattle.mem_files.specs.Names.{stripped, is_stripped_name}
use Rattle.ddc_base.specs.Results.{◌>>=◌}
use Rattle.linux_calls.specs.Paths.{not_empty}
use Rattle.linux_calls.proofs.Texts.{text_at-is, name_of_text, not_empty-some, stripped-is}
use Rattle.linux_calls.proofs.path.read_path.Goals as goal

some : (shown name : List ℕ) → (length shown == 0) ≡ false → shown ≡ name → length name ≢ 0
some shown name not same e = eqb-false (length shown) 0 not (ap length same ∙ e)

pub unreachable-requires : goal.unreachable-requires
unreachable-requires g c =
    let is = text_at-is (g.R.Ram.bytes c.args.ram.now) c.args.at 256 c.in_ok-text.text.items c.in_ok-text.ensures in
    omega (arith, is.0, (stripped-is c.in_ok-text.text.items is.1).0, ap length (c.strip-name.ensures ∙ ap stripped c.deref.ensures.0), c.in-Err.ensures)

pub returns-clause-value : goal.returns-clause-value
returns-clause-value g c =
    let shown = c.strip-name.ensures ∙ ap stripped c.deref.ensures.0 in
    ap (λ reading. reading >>= λ text. not_empty (stripped text)) c.in_ok-text.ensures
    ∙ not_empty-some (stripped c.in_ok-text.text.items) (some c.strip-name.result.now _ (sym c.is_empty.ensures ∙ c.if-is_empty.false) shown)
    ∙ ap Ok (sym (c.in-Ok.ensures.0 ∙ shown))

pub returns-clause-name : goal.returns-clause-name
returns-clause-name g c =
    let shown = c.strip-name.ensures ∙ ap stripped c.deref.ensures.0 in
    let is = text_at-is (g.R.Ram.bytes c.args.ram.now) c.args.at 256 c.in_ok-text.text.items c.in_ok-text.ensures in
    subst (λ name. IsTrue (is_stripped_name name)) (sym (c.in-Ok.ensures.0 ∙ shown))
    (name_of_text c.in_ok-text.text.items is.0 is.1 (some c.strip-name.result.now _ (sym c.is_empty.ensures ∙ c.if-is_empty.false) shown))
