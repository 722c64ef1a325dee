use Rattle.std.proofs.Common.{◌≡◌, refl, ap, subst, length, None, Some, ◌∙◌, sym, arith, ◌+◌, ◌≤◌, get_or}
use Rattle.paged_mem.specs.Memory.{bytes_of}
use Rattle.paged_mem.specs.Ram.{count_of}
use Rattle.paged_mem.specs.Inside.Flat.{Spans}
use Rattle.paged_mem.proofs.Numbers.{length-bytes_of, bytes_of-small}
use Rattle.paged_mem.proofs.Seen.{maps_seen, written}
use Rattle.paged_mem.proofs.Views.{length-overwritten, small-overwritten}
use Rattle.paged_mem.proofs.flat.FlatRamRam.store.Goals as goal

pub invariant_of-self-inside : goal.invariant_of-self-inside
invariant_of-self-inside c =
    let source = bytes_of (count_of c.args.width) c.args.value in
    let within : c.in-Some.start + length source ≤ length c.self.inside.bytes.items =
    omega (arith, c.in-Some.ensures.0, ap length c.deref.ensures.value, c.self.inside.sound.full, c.count.ensures, length-bytes_of (count_of c.args.width) c.args.value) in (
      record {
        rising = c.self.inside.sound.rising;
        low = c.self.inside.sound.low;
        full = ap length c.put_number.ensures ∙ length-overwritten c.self.inside.bytes.items c.in-Some.start source within ∙ c.self.inside.sound.full;
        small = λ i.
            omega (arith, ap (λ bytes. get_or bytes i 0) c.put_number.ensures, small-overwritten c.self.inside.bytes.items c.in-Some.start source within c.self.inside.sound.small (bytes_of-small (count_of c.args.width) c.args.value) i);
      },
      tt,
    )

pub returns-in-None-clause-stores : goal.returns-in-None-clause-stores
returns-in-None-clause-stores c =
    let size : c.count.result ≡ length (bytes_of (count_of c.args.width) c.args.value) = c.count.ensures ∙ sym (length-bytes_of (count_of c.args.width) c.args.value) in (
      maps_seen c.self.inside.pages.items c.self.inside.bytes.items c.deref.result.now c.args.self.now.bytes c.self.inside.sound
          c.deref.ensures.value (ap (λ held. held.bytes) c.self.view_is) c.args.at _ None (subst (λ count. Spans c.deref.result.now c.args.at count None) size c.in-None.ensures),
      refl,
    )

pub returns-in-Some-clause-stores : goal.returns-in-Some-clause-stores
returns-in-Some-clause-stores c =
    let size : c.count.result ≡ length (bytes_of (count_of c.args.width) c.args.value) = c.count.ensures ∙ sym (length-bytes_of (count_of c.args.width) c.args.value) in
    let span = subst (λ count. Spans c.deref.result.now c.args.at count (Some c.in-Some.start)) size c.in-Some.ensures in (
      maps_seen c.self.inside.pages.items c.self.inside.bytes.items c.deref.result.now c.args.self.now.bytes c.self.inside.sound
          c.deref.ensures.value (ap (λ held. held.bytes) c.self.view_is) c.args.at _ (Some c.in-Some.start) span,
      written c.self.inside.pages.items c.self.inside.bytes.items c.deref.result.now c.args.self.now.bytes c.self.inside.sound
          c.deref.ensures.value (ap (λ held. held.bytes) c.self.view_is) c.args.at c.in-Some.start _ _ span c.put_number.ensures,
    )
