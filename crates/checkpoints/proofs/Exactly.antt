-- Exactly the texts of valid states are read, each as its guest.
use Rattle.std.proofs.Common.{◌≡◌, ℕ, ◌^◌, ◌<◌, List, Result, Ok, Err, sym, ap, subst, ◌∙◌}
use Rattle.std.specs.Prelude.{IfOk}
use Rattle.save_format.proofs.ByteFieldsLemmas.Encodes.{AreBytes}
use Rattle.guest_run.specs.State.{GuestState}
use Rattle.guest_run.specs.Valid.{IsValid}
use Rattle.save_format.specs.StateText.StateText.{StateText, parsed_state}
use Rattle.save_format.specs.StateText.Encoded.{IsTextOfState}
use Rattle.save_format.proofs.StateTextLemmas.Texts.{formed_again, encoded}
use Rattle.checkpoints.specs.declared.reading.StateRefusal.{StateRefusal}
use Rattle.checkpoints.specs.declared.reading.StateRefusal.TheVariants as state
use Rattle.checkpoints.specs.Checkpoint.{IsInRange, IsJoined, IsReadAs, ReadsState, guest_of, state_of}
use Rattle.checkpoints.proofs.SameText.{same_text}
use Rattle.checkpoints.proofs.States.{in_range, is_text, joined, same_guest}

pub is_found : (text : List ℕ) (result : Result GuestState StateRefusal) → AreBytes text → ReadsState text result → IfOk result (λ guest. IsTextOfState (state_of guest) text)
is_found text (Ok guest) fits reads =
    let s = reads.0 in
    let encoding = encoded text s fits reads.1 in
    let parsed : state_of guest ≡ s = ap state_of reads.4 ∙ same_text s encoding.0 reads.2 in
    subst (λ (t : StateText). IsTextOfState t text) (sym parsed) encoding.1
is_found text (Err refusal) fits reads = tt

-- what a text says is one thing

same_parsed : (text : List ℕ) (s t : StateText) → parsed_state text ≡ Ok s → parsed_state text ≡ Ok t → s ≡ t
same_parsed text s t a b = let both : ◌≡◌ {A = Result StateText ℕ} (Ok s) (Ok t) = sym a ∙ b in cc

pub is_only : (text : List ℕ) (result : Result GuestState StateRefusal) → ReadsState text result → (g : GuestState) → IsValid g → g.steps < 2 ^ 64 → IsTextOfState (state_of g) text → IsReadAs g result
is_only text (Ok guest) reads g valid few is =
    let formed_is : parsed_state text ≡ Ok (state_of g) = formed_again (state_of g) text (is_text g valid few) is in
    reads.4 ∙ ap guest_of (same_parsed text reads.0 (state_of g) reads.1 formed_is) ∙ same_guest g valid
is_only text (Err state.OutOfMemory) reads g valid few is = tt
is_only text (Err (state.Form offset)) reads g valid few is =
    let formed_is : parsed_state text ≡ Ok (state_of g) = formed_again (state_of g) text (is_text g valid few) is in
    let both : ◌≡◌ {A = Result StateText ℕ} (Err offset) (Ok (state_of g)) = sym reads ∙ formed_is in
    cc
is_only text (Err state.Range) reads g valid few is =
    let formed_is : parsed_state text ≡ Ok (state_of g) = formed_again (state_of g) text (is_text g valid few) is in
    reads.2 (subst IsInRange (sym (same_parsed text reads.0 (state_of g) reads.1 formed_is)) (in_range g valid))
is_only text (Err state.FileRef) reads g valid few is =
    let formed_is : parsed_state text ≡ Ok (state_of g) = formed_again (state_of g) text (is_text g valid few) is in
    reads.3 (subst IsJoined (sym (same_parsed text reads.0 (state_of g) reads.1 formed_is)) (joined g valid))
