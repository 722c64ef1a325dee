use Rattle.std.proofs.Common.{◌≡◌, sym, ◌∙◌}
use Rattle.mem_files.specs.declared.open_file.PlaceRefusal.TheVariants.{BadName, Twice, Full, OutOfMemory}
use Rattle.verifier.proofs.Placing.{only-want, placed-new}
use Rattle.verifier.proofs.context.place.Goals as goal

pub unreachable-requires : goal.unreachable-requires
unreachable-requires c =
    let want : BadName ≡ OutOfMemory =
    sym c.in-Err-BadName.field-0-is
    ∙ only-want c.args.context.now.files c.args.path.now c.args.content.now c.place.result c.place.new.self.files c.in-Err-BadName.field-0
    c.requires.named c.requires.absent c.requires.small c.requires.few c.place.ensures.files c.in-Err-BadName.is in
    cc

pub unreachable-requires-in-Err-Twice : goal.unreachable-requires-in-Err-Twice
unreachable-requires-in-Err-Twice c =
    let want : Twice ≡ OutOfMemory =
    sym c.in-Err-Twice.field-0-is
    ∙ only-want c.args.context.now.files c.args.path.now c.args.content.now c.place.result c.place.new.self.files c.in-Err-Twice.field-0
    c.requires.named c.requires.absent c.requires.small c.requires.few c.place.ensures.files c.in-Err-Twice.is in
    cc

pub unreachable-requires-in-Err-Full : goal.unreachable-requires-in-Err-Full
unreachable-requires-in-Err-Full c =
    let want : Full ≡ OutOfMemory =
    sym c.in-Err-Full.field-0-is
    ∙ only-want c.args.context.now.files c.args.path.now c.args.content.now c.place.result c.place.new.self.files c.in-Err-Full.field-0
    c.requires.named c.requires.absent c.requires.small c.requires.few c.place.ensures.files c.in-Err-Full.is in
    cc

pub returns-in-Ok : goal.returns-in-Ok
returns-in-Ok c =
    let files = placed-new c.args.context.now.files c.args.path.now c.args.content.now c.place.result c.place.new.self.files c.in-Ok.field-0 c.requires.named c.place.ensures.files c.in-Ok.is in
    c.place.ensures.others
    ∙ (λ i. record { args = c.args.context.now.args; env = c.args.context.now.env; files = files i; heap = c.args.context.now.heap })
