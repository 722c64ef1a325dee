use Rattle.std.proofs.Common.{◌≡◌, ◌^◌, ◌<◌, subst}
use Rattle.std.specs.Prelude.{IfOk}
use Rattle.guest_run.specs.State.{GuestState}
use Rattle.guest_run.specs.Valid.{IsValid}
use Rattle.save_format.specs.PatchText.Encoded.{text_of_patch}
use Rattle.save_format.specs.StateText.StateText.{StateText}
use Rattle.checkpoints.specs.Checkpoint.{IsReadAs, state_of}
use Rattle.checkpoints.specs.Patching.{AppliesPatchTo}
use Rattle.checkpoints.proofs.Patched.{listed_first}
use Rattle.checkpoints.proofs.patching.apply_patch.Goals as goal

pub returns-in-Ok-clause-found : goal.returns-in-Ok-clause-found
returns-in-Ok-clause-found g c =
    subst (λ (b : StateText). IfOk c.guest_relative.result (λ guest. c.args.text.now ≡ text_of_patch b (state_of guest))) c.in-Ok.ensures.seen c.guest_relative.ensures.found

pub returns-in-Ok-clause-only : goal.returns-in-Ok-clause-only
returns-in-Ok-clause-only g c =
    subst (λ (b : StateText). (made : GuestState) → IsValid made → made.steps < 2 ^ 64 → c.args.text.now ≡ text_of_patch b (state_of made) → IsReadAs made c.guest_relative.result)
    c.in-Ok.ensures.seen c.guest_relative.ensures.only

pub returns-in-Ok-clause-exact : goal.returns-in-Ok-clause-exact
returns-in-Ok-clause-exact g c =
    subst (λ (b : StateText). AppliesPatchTo b c.args.text.now c.guest_relative.result) c.in-Ok.ensures.seen
    (listed_first _ c.args.text.now c.guest_relative.result c.guest_relative.ensures.exact)
