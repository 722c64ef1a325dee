use Rattle.std.proofs.Common.{◌+◌, ◌<◌, ap, ◌∙◌, sym, length, subst, arith}
use Rattle.std.specs.FinMap as fin
use Rattle.std.proofs.lemmas.List.Elements.{All-from_get_or}
use Rattle.mem_files.specs.Inside.Cells.{keyed}
use Rattle.ddc_base.specs.Limits.{most_names}
use Rattle.mem_files.proofs.Directory.{keyed-insert}
use Rattle.guest_run.specs.Inside.Given.{IsGiven}
use Rattle.guest_run.proofs.GivenLists.{absent-given, each-given, given_more, len-given, put-given}
use Rattle.guest_run.proofs.given.GivenFiles.insert.Goals as goal

pub invariant_of-self-2 : goal.invariant_of-self-2
invariant_of-self-2 c =
    let listed = ap (keyed (λ name. name.items)) c.in_ok-insert.ensures.entries ∙ keyed-insert (λ name. name.items) c.self.inside.entries.entries c.in_ok-key.key c.new.result in
    let now = rw (c.in_ok-key.ensures.items, c.new.ensures) at listed in
    let long = len-given (keyed (λ name. name.items) c.self.inside.entries.entries) c.self.invariant.sorted in
    let seen = ap fin.len c.self.view_is in
    let few : length (keyed (λ name. name.items) c.self.inside.entries.entries) < most_names = omega (arith, long, seen, c.requires.few) in
    subst (λ es. IsGiven es (c.self.inside.size + length c.args.content.now)) (sym now)
    (given_more (keyed (λ name. name.items) c.self.inside.entries.entries) c.self.inside.size c.args.name.now c.args.content.now
    c.self.invariant (record {
      named = c.requires.named;
      name_bytes = All-from_get_or (λ byte. byte < 256) c.args.name.now 0 (λ i less. omega (arith, c.type_inv.name i));
      small = c.requires.small;
      content_bytes = All-from_get_or (λ byte. byte < 256) c.args.content.now 0 (λ i less. omega (arith, c.type_inv.content i));
    })
    (absent-given (keyed (λ name. name.items) c.self.inside.entries.entries) c.args.name.now c.self.invariant.sorted
    (ap (λ m. fin.contains_key m c.args.name.now) c.self.view_is ∙ c.requires.absent))
    few)

pub returns-clause-each : goal.returns-clause-each
returns-clause-each c =
    let listed = ap (keyed (λ name. name.items)) c.in_ok-insert.ensures.entries ∙ keyed-insert (λ name. name.items) c.self.inside.entries.entries c.in_ok-key.key c.new.result in
    let now = rw (c.in_ok-key.ensures.items, c.new.ensures) at listed in
    let long = len-given (keyed (λ name. name.items) c.self.inside.entries.entries) c.self.invariant.sorted in
    let seen = ap fin.len c.self.view_is in
    let few : length (keyed (λ name. name.items) c.self.inside.entries.entries) < most_names = omega (arith, long, seen, c.requires.few) in
    each-given (keyed (λ name. name.items) c.insert.new.self.entries) (c.self.inside.size + length c.args.content.now)
    (subst (λ es. IsGiven es (c.self.inside.size + length c.args.content.now)) (sym now)
    (given_more (keyed (λ name. name.items) c.self.inside.entries.entries) c.self.inside.size c.args.name.now c.args.content.now
    c.self.invariant (record {
      named = c.requires.named;
      name_bytes = All-from_get_or (λ byte. byte < 256) c.args.name.now 0 (λ i less. omega (arith, c.type_inv.name i));
      small = c.requires.small;
      content_bytes = All-from_get_or (λ byte. byte < 256) c.args.content.now 0 (λ i less. omega (arith, c.type_inv.content i));
    })
    (absent-given (keyed (λ name. name.items) c.self.inside.entries.entries) c.args.name.now c.self.invariant.sorted
    (ap (λ m. fin.contains_key m c.args.name.now) c.self.view_is ∙ c.requires.absent))
    few))

pub returns-clause-ok : goal.returns-clause-ok
returns-clause-ok c =
    let listed = ap (keyed (λ name. name.items)) c.in_ok-insert.ensures.entries ∙ keyed-insert (λ name. name.items) c.self.inside.entries.entries c.in_ok-key.key c.new.result in
    let now = rw (c.in_ok-key.ensures.items, c.new.ensures) at listed in
    ap fin.from_sorted now
    ∙ put-given (keyed (λ name. name.items) c.self.inside.entries.entries) c.args.name.now c.args.content.now c.self.invariant.sorted
    ∙ ap (λ m. fin.insert m c.args.name.now c.args.content.now) c.self.view_is
