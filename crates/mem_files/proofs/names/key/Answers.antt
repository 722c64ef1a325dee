use Rattle.std.proofs.Common.{◌∙◌, ap, take}
use Rattle.ddc_base.specs.Limits.{most_name}
use Rattle.mem_files.proofs.After.{take_min}
use Rattle.mem_files.proofs.names.key.Goals as goal

pub returns-in-Ok : goal.returns-in-Ok
returns-in-Ok c = c.in-Ok.ensures.0 ∙ ap (λ n. take n c.args.name.now) c.min-len.ensures ∙ take_min c.args.name.now most_name
