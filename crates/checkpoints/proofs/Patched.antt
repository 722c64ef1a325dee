-- Exactly the patches of valid states are read, each as its guest.
use Rattle.std.proofs.Common.{◌≡◌, ℕ, ◌^◌, ◌<◌, ◌≤◌, List, length, Result, Ok, Err, sym, ap, subst, ◌∙◌}
use Rattle.std.specs.Prelude.{IfOk}
use Rattle.ddc_base.specs.Limits.{page_number_end}
use Rattle.save_format.proofs.ByteFieldsLemmas.Encodes.{AreBytes}
use Rattle.guest_run.specs.State.{GuestState}
use Rattle.guest_run.specs.Valid.{IsValid}
use Rattle.save_format.specs.StateText.StateText.{StateText}
use Rattle.save_format.specs.StateText.Encoded.{IsStateText}
use Rattle.checkpoints.specs.declared.reading.StateRefusal.{StateRefusal}
use Rattle.checkpoints.specs.declared.reading.StateRefusal.TheVariants as state
use Rattle.checkpoints.specs.Checkpoint.{IsInRange, IsJoined, IsReadAs, guest_of, state_of}
use Rattle.checkpoints.proofs.SameText.{same_text}
use Rattle.checkpoints.proofs.States.{in_range, is_text, joined, same_guest}
use Rattle.save_format.specs.PatchText.PatchText.{parsed_patch}
use Rattle.save_format.specs.PatchText.Encoded.{text_of_patch}
use Rattle.save_format.proofs.PatchTextLemmas.Texts.{parsed_again, parsed_takes}
use Rattle.checkpoints.specs.Patching.{AppliesPatch, AppliesPatchTo}
use Rattle.checkpoints.proofs.PatchCounts.{counted_text, has_patch, range_few}

module _ (base : StateText) (text : List ℕ) (is : IsStateText base) where
  pub is_found : (result : Result GuestState StateRefusal) → AreBytes text → AppliesPatch base text result → IfOk result (λ guest. text ≡ text_of_patch base (state_of guest))
  is_found (Ok guest) fits reads =
      let s = reads.0 in
      let encoding = parsed_takes base text s is fits reads.1 in
      let whole : IsStateText s = counted_text base s encoding.0 (range_few base s encoding.0 reads.2) in
      let parsed : state_of guest ≡ s = ap state_of reads.4 ∙ same_text s whole reads.2 in
      encoding.1 ∙ ap (text_of_patch base) (sym parsed)
  is_found (Err refusal) fits reads = tt

  same_parsed : (s t : StateText) → parsed_patch base text ≡ Ok s → parsed_patch base text ≡ Ok t → s ≡ t
  same_parsed s t a b = let both : ◌≡◌ {A = Result StateText ℕ} (Ok s) (Ok t) = sym a ∙ b in cc

  formed_so : length base.pages ≤ page_number_end → (g : GuestState) → IsValid g → g.steps < 2 ^ 64 → text ≡ text_of_patch base (state_of g) → parsed_patch base text ≡ Ok (state_of g)
  formed_so pages g valid few e = parsed_again base (state_of g) text is (has_patch base g is pages (is_text g valid few)) e

  pub is_only : length base.pages ≤ page_number_end → (result : Result GuestState StateRefusal) → AppliesPatch base text result → (g : GuestState) → IsValid g → g.steps < 2 ^ 64 → text ≡ text_of_patch base (state_of g) → IsReadAs g result
  is_only pages (Ok guest) reads g valid few e = reads.4 ∙ ap guest_of (same_parsed reads.0 (state_of g) reads.1 (formed_so pages g valid few e)) ∙ same_guest g valid
  is_only pages (Err state.OutOfMemory) reads g valid few e = tt
  is_only pages (Err (state.Form offset)) reads g valid few e =
      let both : ◌≡◌ {A = Result StateText ℕ} (Err offset) (Ok (state_of g)) = sym reads ∙ formed_so pages g valid few e in
      cc
  is_only pages (Err state.Range) reads g valid few e =
      reads.2 (subst IsInRange (sym (same_parsed reads.0 (state_of g) reads.1 (formed_so pages g valid few e))) (in_range g valid))
  is_only pages (Err state.FileRef) reads g valid few e =
      reads.3 (subst IsJoined (sym (same_parsed reads.0 (state_of g) reads.1 (formed_so pages g valid few e))) (joined g valid))

-- what becomes of a patch where memory for the base was there
pub listed_first : (base : StateText) (text : List ℕ) (result : Result GuestState StateRefusal) → AppliesPatch base text result → AppliesPatchTo base text result
listed_first base text (Ok guest) applies = applies
listed_first base text (Err (state.Form offset)) applies = applies
listed_first base text (Err state.Range) applies = applies
listed_first base text (Err state.FileRef) applies = applies
listed_first base text (Err state.OutOfMemory) applies = tt
