use Rattle.std.proofs.Common.{sym, ap, ◌∙◌}
use Rattle.std.specs.Option.{option_copied}
use Rattle.std.specs.Ordering.{is_lt}
use Rattle.mem_files.specs.Names.{bytes_cmp}
use Rattle.mem_files.specs.Calls.{is_after}
use Rattle.ddc_base.specs.Limits.{most_name}
use Rattle.mem_files.proofs.After.{after_prefix}
use Rattle.mem_files.proofs.table.start_after.Goals as goal

pub returns-in-Some : goal.returns-in-Some
returns-in-Some c = λ held short.
    ap (λ bytes. is_lt (bytes_cmp bytes held)) c.key.ensures ∙ after_prefix most_name c.in-Some.name.now held short ∙ ap (λ name. is_after (option_copied name) held) (sym c.in-Some.is)
