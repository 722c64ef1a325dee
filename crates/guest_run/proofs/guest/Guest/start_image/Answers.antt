use Rattle.std.proofs.Common.{◌≡◌, ◌≤◌, ◌<◌, true, false, sym, ap, subst, refl, ◌∙◌, Ok, arith}
use Rattle.std.specs.Prelude.{IsOk, nat_le}
use Rattle.ddc_base.specs.Limits.{most_texts, most_total}
use Rattle.guest_run.specs.Stack.{start_size}
use Rattle.guest_run.specs.Setting.{files_size}
use Rattle.guest_run.specs.Start.{start_of, start_state}
use Rattle.guest_run.specs.State.{GuestState}
use Rattle.guest_run.proofs.Starting.{args_too_long, box_too_large, fits_if, starts, steps_at_start}
use Rattle.guest_run.proofs.guest.Guest.start_image.Goals as goal

pub returns-then-not-fits-clause-answer : goal.returns-then-not-fits-clause-answer
returns-then-not-fits-clause-answer g c =
    let long : nat_le (start_size c.args.setting.now.args c.args.setting.now.env) most_texts ≡ false = cc in
    args_too_long c.args.program.now c.args.setting.now c.args.image.now c.requires.read long

pub returns-then-size-gt-MOST_TOTAL-clause-answer : goal.returns-then-size-gt-MOST_TOTAL-clause-answer
returns-then-size-gt-MOST_TOTAL-clause-answer g c =
    let within : nat_le (start_size c.args.setting.now.args c.args.setting.now.env) most_texts ≡ true = cc in
    let size : c.size.result ≡ files_size c.args.setting.now.files = cc in
    let large : most_total < files_size c.args.setting.now.files = omega arith in
    box_too_large c.args.program.now c.args.setting.now c.args.image.now c.requires.read (fits_if _ within) large

pub returns-in-Ok-clause-answer : goal.returns-in-Ok-clause-answer
returns-in-Ok-clause-answer g c =
    let within : nat_le (start_size c.args.setting.now.args c.args.setting.now.env) most_texts ≡ true = cc in
    let size : c.size.result ≡ files_size c.args.setting.now.files = cc in
    let small : files_size c.args.setting.now.files ≤ most_total = omega arith in
    starts c.args.program.now c.args.setting.now c.args.image.now c.requires.read (fits_if _ within) small ∙ ap Ok (sym c.in-Ok.ensures)

pub returns-in-Err-clause-answer : goal.returns-in-Err-clause-answer
returns-in-Err-clause-answer g c =
    let within : nat_le (start_size c.args.setting.now.args c.args.setting.now.env) most_texts ≡ true = cc in
    let size : c.size.result ≡ files_size c.args.setting.now.files = cc in
    let small : files_size c.args.setting.now.files ≤ most_total = omega arith in
    subst (λ meant. IsOk meant) (sym (starts c.args.program.now c.args.setting.now c.args.image.now c.requires.read (fits_if _ within) small)) refl

pub returns-in-Ok-clause-fresh : goal.returns-in-Ok-clause-fresh
returns-in-Ok-clause-fresh g c =
    ap (λ (guest : GuestState). guest.steps) c.in-Ok.ensures ∙ steps_at_start c.args.program.now c.args.setting.now c.args.image.now
