use Rattle.std.proofs.Common.{sym, ap, ◌∙◌, Some}
use Rattle.std.specs.Option.{option_copied}
use Rattle.mem_files.specs.Calls.{is_after}
use Rattle.ddc_base.specs.Limits.{most_name}
use Rattle.mem_files.proofs.After.{first_passes, in_range, none_passes}
use Rattle.mem_files.proofs.table.next_name.Goals as goal

pub returns-in-Some : goal.returns-in-Some
returns-in-Some c =
    ap Some c.as_slice.ensures.value
    ∙ sym (first_passes (λ key. key.items) most_name _ (is_after (option_copied c.args.name)) (λ e short. in_range c.start_after.result e.0 ∙ c.start_after.ensures e.0.items short) c.args.names.now.entries c.requires
    _ _ (sym (c.range.ensures.between tt) ∙ c.in-Some.ensures.steps))

pub returns-in-None : goal.returns-in-None
returns-in-None c =
    sym (none_passes (λ key. key.items) most_name _ (is_after (option_copied c.args.name)) (λ e short. in_range c.start_after.result e.0 ∙ c.start_after.ensures e.0.items short) c.args.names.now.entries c.requires
    (sym (c.range.ensures.between tt) ∙ c.in-None.ensures.steps.0))
