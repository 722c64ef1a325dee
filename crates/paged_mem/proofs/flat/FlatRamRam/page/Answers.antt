use Rattle.std.proofs.Common.{◌≡◌, ◌+◌, ◌-◌, sym, ap, ◌∙◌, take, drop, Some, arith}
use Rattle.paged_mem.proofs.Seen.{no_bytes_seen, bytes_seen}
use Rattle.paged_mem.proofs.flat.FlatRamRam.page.Goals as goal

pub returns-in-None : goal.returns-in-None
returns-in-None c =
    sym (no_bytes_seen c.self.inside.pages.items c.self.inside.bytes.items c.deref.result.now c.args.self.now.bytes c.self.inside.sound
    c.deref.ensures.value (ap (λ held. held.bytes) c.self.view_is) c.args.first 4096 c.in-None.ensures)

pub returns-in-Some : goal.returns-in-Some
returns-in-Some c =
    let page : c.in-Some.start + 4096 - c.in-Some.start ≡ 4096 = omega arith in
    ap Some (ap (λ n. take n (drop c.in-Some.start c.deref-in-Some.result.now)) page ∙ ap (λ bytes. take 4096 (drop c.in-Some.start bytes)) c.deref-in-Some.ensures.value)
    ∙ sym (bytes_seen c.self.inside.pages.items c.self.inside.bytes.items c.deref.result.now c.args.self.now.bytes c.self.inside.sound
    c.deref.ensures.value (ap (λ held. held.bytes) c.self.view_is) c.args.first 4096 c.in-Some.start c.in-Some.ensures)
