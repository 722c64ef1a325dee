use Rattle.std.proofs.Common.{ap, subst, sym, ◌∙◌}
use Rattle.ddc_base.specs.Difference.{first_difference}
use Rattle.segments.specs.Inside.Recorded.{NotRead}
use Rattle.segments.specs.Segments.{IsNoState, IsStateOf, second_text}
use Rattle.segments.proofs.Pieces.{one_text}
use Rattle.segments.proofs.checking.check_first.Goals as goal

pub returns-in-Ok-None : goal.returns-in-Ok-None
returns-in-Ok-None c =
    let told = c.in-Ok.ensures in
    let same = one_text told.guest c.args.guest.now told.valid c.difference.ensures.valid told.small c.difference.ensures.small
    (sym told.written ∙ sym c.as_slice.ensures ∙ c.in-Ok-None.ensures.none c.in-Ok-None.field-0-is) in
    record { guest = c.args.guest.now; starts = c.requires; is = subst (IsStateOf c.args.first.now) same told.is }

pub returns-in-Ok-Some : goal.returns-in-Ok-Some
returns-in-Ok-Some c =
    let told = c.in-Ok.ensures in
    record {
      guest = c.args.guest.now;
      starts = c.requires;
      other = told.guest;
      is = told.is;
      differs =
          ap (first_difference (second_text c.args.guest.now)) (sym told.written ∙ sym c.as_slice.ensures)
          ∙ sym (sym c.in-Ok-Some.field-0-is ∙ c.in-Ok-Some.ensures.offset);
    }

pub returns-in-Err-Fault : goal.returns-in-Err-Fault
returns-in-Err-Fault c =
    ((c.args.guest.now, c.requires), subst (IsNoState c.args.first.now) (sym c.in-Err-Fault.why-is) (subst (NotRead c.args.first.now) c.in-Err-Fault.field-0-is c.in-Err-Fault.ensures))
