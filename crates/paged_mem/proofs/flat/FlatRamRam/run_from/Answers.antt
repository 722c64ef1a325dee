use Rattle.std.proofs.Common.{ℕ, ap, subst, arith, ◌/◌, ◌*◌, ◌∙◌, sym, length}
use Rattle.std.specs.FinMap.{get}
use Rattle.paged_mem.specs.Ram.{IsRun}
use Rattle.paged_mem.specs.Inside.Flat.{IsRank, IsRowAt}
use Rattle.paged_mem.proofs.Runs.{no_run, run_of_row}
use Rattle.paged_mem.proofs.flat.FlatRamRam.run_from.Goals as goal

run : (c : goal.In-Some) → IsRun c.args.self.now.bytes c.args.at (4096 * c.in-Some.first) c.in-Some.count
run c =
    let row = subst (λ pages. (start : ℕ) × IsRowAt pages (c.args.at / 4096) start c.in-Some.first c.in-Some.count) c.deref.ensures.value c.in-Some.ensures in
    subst (λ m. IsRun m c.args.at (4096 * c.in-Some.first) c.in-Some.count) (ap (λ held. held.bytes) c.self.view_is)
    (run_of_row c.self.inside.pages.items c.self.inside.bytes.items c.self.inside.sound c.args.at row.0 c.in-Some.first c.in-Some.count row.1)

pub overflow_mul-result : goal.overflow_mul-result
overflow_mul-result c = omega (arith, (run c).low)

pub returns-in-None : goal.returns-in-None
returns-in-None c address from =
    let rank = subst (λ pages. IsRank pages (c.args.at / 4096) (length pages)) c.deref.ensures.value c.in-None.ensures in
    ap (λ held. get held.bytes address) (sym c.self.view_is)
    ∙ no_run c.self.inside.pages.items c.self.inside.bytes.items c.self.inside.sound c.args.at rank address from

pub returns-in-Some : goal.returns-in-Some
returns-in-Some c = run c
