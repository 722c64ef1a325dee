-- Exactly the deltas of positions of an audit are read beside the saves of their bases, each as its position.
use Rattle.std.proofs.Common.{◌≡◌, ℕ, suc, ◌≤◌, Bool, true, false, cond, not, bytes_eq, List, [], ◌∷◌, ◌++◌, length, map, Result, Ok, Err, refl, sym, ap, subst, ◌∙◌, arith}
use Rattle.std.specs.Prelude.{IfOk}
use Rattle.std.proofs.lemmas.List.{length-drop}
use Rattle.std.proofs.lemmas.Slice.Eq.{bytes_eq-Decides}
use Rattle.ddc_base.specs.declared.digests.Digest.{Digest}
use Rattle.guest_run.specs.Valid.{IsValid}
use Rattle.recipe.specs.declared.contents.RecipeContents.{RecipeContents}
use Rattle.recipe.specs.Kept as kept
use Rattle.report.proofs.Marks.{is_digest}
use Rattle.checkpoints.specs.Checkpoint.{state_of}
use Rattle.checkpoints.proofs.PatchCounts.{counted_text, few_of, has_patch, range_few}
use Rattle.checkpoints.proofs.SameText.{same_text}
use Rattle.save_format.specs.SaveText.{StageText}
use Rattle.save_format.specs.Encoded.{IsSavedDigest, digest_text, text_of_save}
use Rattle.save_format.specs.StateText.Encoded.{IsStateText}
use Rattle.save_format.specs.DeltaText.DeltaText.{DeltaText, IsDelta, delta_header_at, delta_magic, parsed_delta, text_of_delta}
use Rattle.save_format.specs.DeltaText.Header.{is_of_other_base, is_other_digest}
use Rattle.save_format.specs.DeltaText.Stages.{equal_stages, kept_stages, stages_relative_text}
use Rattle.save_format.specs.PatchText.Encoded.{text_of_patch}
use Rattle.save_format.specs.SaveText.{SaveText}
use Rattle.save_format.proofs.ByteFieldsLemmas.Encodes.{AreBytes, Nothing, Encodes, encodes, encodes_begun, then}
use Rattle.save_format.proofs.Texts.{encodes_digest}
use Rattle.save_format.proofs.DeltaTextLemmas.Texts.{parsed_again, parsed_takes}
use Rattle.audit_rules.specs.Positions.{Position}
use Rattle.audit_rules.specs.Valid.{IsInputs, IsPosition}
use Rattle.audit_run.specs.Save.Judged.{judged}
use Rattle.audit_run.specs.Save.Saves.{IsSavedPosition, IsResumedAs, Resumes, position_of, save_of, stage_of}
use Rattle.audit_run.specs.Delta.Deltas.{GoesOnRelative, HasDelta, IsBaseAt, IsResumedRelativeAs, NamesAnotherBase, ResumesRelative, base_digest, delta_of, delta_text_of, save_relative}
use Rattle.audit_run.specs.Delta.Judged.{judged_relative}
use Rattle.audit_run.specs.declared.delta.reading.DeltaRefusal.{DeltaRefusal}
use Rattle.audit_run.specs.declared.delta.reading.DeltaRefusal.TheVariants.{Base, Form, OtherBase, State, OutOfMemory}
use Rattle.audit_run.specs.declared.save.reading.SaveRefusal.{SaveRefusal}
use Rattle.audit_run.specs.declared.save.reading.SaveRefusal.TheVariants as save
use Rattle.audit_run.proofs.DeltaLemmas.Answered as delta
use Rattle.audit_run.proofs.SaveLemmas.Answered as answer
use Rattle.audit_run.proofs.SaveLemmas.Exactly as saves
use Rattle.audit_run.proofs.SaveLemmas.PositionParsed.{all_of}
use Rattle.audit_run.proofs.SaveLemmas.Written.{has_text}

-- ---- a base

pub base_read : (recipe : RecipeContents) (inputs : List (List ℕ)) (text : List ℕ) → kept.IsRecipe recipe → IsInputs recipe inputs → (b : Position) → IsBaseAt recipe inputs b text
    → judged recipe inputs text ≡ Ok b
base_read recipe inputs text is given b at =
    by (judged recipe inputs text) (saves.is_only recipe inputs text (judged recipe inputs text) is given (answer.is_resumed recipe inputs text) b at.0 at.1)
    (λ wants. answer.is_settled recipe inputs text wants)
  where
    by : (result : Result Position SaveRefusal) → IsResumedAs b result → ¬ (result ≡ Err save.OutOfMemory) → result ≡ Ok b
    by (Ok found) same settled = ap Ok same
    by (Err save.OutOfMemory) same settled = absurd (settled refl)
    by (Err (save.Form offset)) same settled = absurd same
    by (Err save.OtherRecipe) same settled = absurd same
    by (Err save.State) same settled = absurd same

-- a text says one position as a base
pub same_base : (recipe : RecipeContents) (inputs : List (List ℕ)) (text : List ℕ) → kept.IsRecipe recipe → IsInputs recipe inputs → (b c : Position) → IsBaseAt recipe inputs b text
    → IsBaseAt recipe inputs c text → b ≡ c
same_base recipe inputs text is given b c first second =
    let both : ◌≡◌ {A = Result Position SaveRefusal} (Ok b) (Ok c) = sym (base_read recipe inputs text is given b first) ∙ base_read recipe inputs text is given c second in
    cc

-- ---- the base that a delta names

encodes_header : Encodes delta_header_at (λ digest. delta_magic ++ digest_text digest) IsSavedDigest
unfolding delta_header_at
encodes_header =
    encodes (
    then {G = IsSavedDigest} {K = Nothing} (λ (digest : Digest). tt) (encodes_begun delta_magic refl) (λ begun f.
    encodes encodes_digest (λ digest g. refl) (λ digest g. ((tt, refl), g)) (λ digest g. g.1)))
    (λ digest f. refl) (λ digest f. f.1.1) (λ digest f. (tt, (tt, f)))

-- whether a delta names another base turns on its digest alone
named : (base : SaveText) (delta : DeltaText) (digest : Digest) (text : List ℕ) → IsSavedDigest delta.base → text ≡ text_of_delta base delta
    → is_of_other_base digest text ≡ not (bytes_eq delta.base.0 digest.0)
named base delta digest text is e =
    ap (is_of_other_base digest) e
    ∙ ap (is_other_digest digest) (encodes_header.again delta.base (stages_relative_text base.stages delta.stages ++ text_of_patch base.state delta.state) is)

same_named : (base : SaveText) (delta : DeltaText) (digest : Digest) (text : List ℕ) → IsSavedDigest delta.base → text ≡ text_of_delta base delta
    → ¬ (is_of_other_base digest text ≡ true) → delta.base ≡ digest
same_named base delta digest text is e other = by (bytes_eq delta.base.0 digest.0) refl
  where
    by : (same : Bool) → bytes_eq delta.base.0 digest.0 ≡ same → delta.base ≡ digest
    by true same = let bytes = (bytes_eq-Decides delta.base.0 digest.0).0 same in λ i. record { 0 = bytes i }
    by false same = absurd (other (named base delta digest text is e ∙ ap not same))

-- ---- the delta of a position has a text

pub few_kept : (base stages : List StageText) → kept_stages base stages ≤ length stages
unfolding kept_stages
few_kept [] stages = omega arith
few_kept (known ∷ more) [] = omega arith
few_kept (known ∷ more) (stage ∷ stages) =
    elim (equal_stages known stage) as (λ c. cond c (suc (kept_stages more stages)) 0 ≤ suc (length stages)) [
      | true ↦ omega (arith, few_kept more stages)
      | false ↦ omega arith
    ]

pub has_delta : (recipe : RecipeContents) (inputs : List (List ℕ)) (b p : Position) → kept.IsRecipe recipe → IsInputs recipe inputs → IsPosition recipe b → IsPosition recipe p
    → IsDelta (save_of recipe inputs b) (delta_of recipe inputs b p)
has_delta recipe inputs b p is given base position =
    let known = has_text recipe inputs b is given base in
    let parsed = has_text recipe inputs p is given position in
    let few = parsed.stages.0 in
    let base_stages = map stage_of b.done in
    let stages = map stage_of p.done in
    record {
      digest = record { full = (is_digest (text_of_save (save_of recipe inputs b))).count };
      stages = record {
        all = all_of 0 stages parsed.stages.1;
        kept = omega (arith, few, few_kept base_stages stages);
        few = omega (arith, few, length-drop (kept_stages base_stages stages) stages);
      };
      state = has_patch (state_of b.at) p.at known.state (few_of b.at) parsed.state;
    }

-- ---- each answer

pub is_position : (recipe : RecipeContents) (inputs : List (List ℕ)) (base text : List ℕ) (result : Result Position DeltaRefusal) → IfOk result (λ p. IsValid p.at) → ResumesRelative recipe inputs base text result
    → IfOk result (λ p. IsPosition recipe p)
is_position recipe inputs base text (Ok p) valid (b, r, (own, delta, formed, position, found)) = saves.saved_is_position recipe (save_relative (save_of recipe inputs b) delta) p valid position found
is_position recipe inputs base text (Err refusal) valid resumes = tt

-- what was read is what its delta says
delta_again : (recipe : RecipeContents) (inputs : List (List ℕ)) (b p : Position) (delta : DeltaText) → delta.base ≡ base_digest (save_of recipe inputs b) → IsStateText delta.state
    → IsSavedPosition recipe (save_relative (save_of recipe inputs b) delta) → p ≡ position_of (save_relative (save_of recipe inputs b) delta) → delta_of recipe inputs b p ≡ delta
delta_again recipe inputs b p delta digest text (stage, stages, position) found =
    let stages_are : map stage_of p.done ≡ delta.stages = ap (λ (q : Position). map stage_of q.done) found ∙ saves.same_stages delta.stages in
    let state_is : state_of p.at ≡ delta.state = ap (λ (q : Position). state_of q.at) found ∙ same_text delta.state text position.range in
    λ i. record { base = sym digest i; stages = stages_are i; state = state_is i }

pub is_found : (recipe : RecipeContents) (inputs : List (List ℕ)) (base text : List ℕ) (result : Result Position DeltaRefusal) → kept.IsRecipe recipe → IsInputs recipe inputs → AreBytes base → AreBytes text
    → IfOk result (λ (p : Position). (b : Position) → Resumes recipe inputs base (Ok b) → IsPosition recipe b) → ResumesRelative recipe inputs base text result → IfOk result (HasDelta recipe inputs base text)
unfolding delta_text_of
is_found recipe inputs base text (Ok p) is given base_fits fits positions (b, r, (own, delta, formed, position, found)) =
    let known = save_of recipe inputs b in
    let at = positions b r in
    let encoding = parsed_takes known text delta (has_text recipe inputs b is given at) fits formed in
    let digest = same_named known delta (base_digest known) text encoding.0.digest encoding.1 own in
    let whole : IsStateText delta.state = counted_text known.state delta.state encoding.0.state (range_few known.state delta.state encoding.0.state position.2.range) in
    (b, (at, saves.is_found recipe inputs base (Ok b) base_fits r), encoding.1 ∙ ap (text_of_delta known) (sym (delta_again recipe inputs b p delta digest whole position found)))
is_found recipe inputs base text (Err refusal) is given base_fits fits positions resumes = tt

-- the delta of a position against its base

module _ (recipe : RecipeContents) (inputs : List (List ℕ)) (text : List ℕ) (is : kept.IsRecipe recipe) (given : IsInputs recipe inputs) (b p : Position) (base : IsPosition recipe b)
    (position : IsPosition recipe p) (e : text ≡ delta_text_of recipe inputs b p) where
  pub formed_so : parsed_delta (save_of recipe inputs b) text ≡ Ok (delta_of recipe inputs b p)
  unfolding delta_text_of
  formed_so = parsed_again (save_of recipe inputs b) (delta_of recipe inputs b p) text (has_text recipe inputs b is given base) (has_delta recipe inputs b p is given base position) e

  only_delta : (delta : DeltaText) → parsed_delta (save_of recipe inputs b) text ≡ Ok delta → delta ≡ delta_of recipe inputs b p
  only_delta delta formed = let both : ◌≡◌ {A = Result DeltaText ℕ} (Ok delta) (Ok (delta_of recipe inputs b p)) = sym formed ∙ formed_so in cc

  not_another : ¬ (NamesAnotherBase (save_of recipe inputs b) text)
  unfolding delta_text_of
  not_another other =
      let digest = base_digest (save_of recipe inputs b) in
      let none : false ≡ true =
      ap not (sym ((bytes_eq-Decides digest.0 digest.0).1 refl)) ∙ sym (named (save_of recipe inputs b) (delta_of recipe inputs b p) digest text (has_delta recipe inputs b p is given base position).digest e) ∙ other in
      absurd cc

  goes : (result : Result Position DeltaRefusal) → GoesOnRelative recipe (save_of recipe inputs b) text result → IsResumedRelativeAs p result
  goes (Ok found) (own, delta, formed, saved, same) =
      same ∙ ap (λ (d : DeltaText). position_of (save_relative (save_of recipe inputs b) d)) (only_delta delta formed) ∙ saves.same_position recipe inputs p position.2.valid
  goes (Err OutOfMemory) from = tt
  goes (Err OtherBase) other = not_another other
  goes (Err (Form offset)) (own, formed) =
      let both : ◌≡◌ {A = Result DeltaText ℕ} (Err offset) (Ok (delta_of recipe inputs b p)) = sym formed ∙ formed_so in
      cc
  goes (Err State) (own, delta, formed, none) =
      none (subst (λ (d : DeltaText). IsSavedPosition recipe (save_relative (save_of recipe inputs b) d)) (sym (only_delta delta formed)) (saves.saves_a_position recipe inputs p position))
  goes (Err (Base refusal)) from = absurd from

module _ (recipe : RecipeContents) (inputs : List (List ℕ)) (base text : List ℕ) (is : kept.IsRecipe recipe) (given : IsInputs recipe inputs) (b p : Position) (at : IsBaseAt recipe inputs b base)
    (position : IsPosition recipe p) (e : text ≡ delta_text_of recipe inputs b p) where
  -- relative to the base's own position
  from : (c : Position) (result : Result Position DeltaRefusal) → Resumes recipe inputs base (Ok c) → GoesOnRelative recipe (save_of recipe inputs c) text result → IsResumedRelativeAs p result
  from c result r goes_on =
      let same : c ≡ b = saves.is_only recipe inputs base (Ok c) is given r b at.0 at.1 in
      goes recipe inputs text is given b p at.0 position e result (subst (λ (q : Position). GoesOnRelative recipe (save_of recipe inputs q) text result) same goes_on)

  refused : (refusal : SaveRefusal) → IsResumedAs b (Err refusal) → ¬ (refusal ≡ save.OutOfMemory) → ⊥
  refused save.OutOfMemory read other = other refl
  refused (save.Form offset) read other = read
  refused save.OtherRecipe read other = read
  refused save.State read other = read

  pub resumed_as : (result : Result Position DeltaRefusal) → ResumesRelative recipe inputs base text result → IsResumedRelativeAs p result
  resumed_as (Ok found) (c, r, goes_on) = from c (Ok found) r goes_on
  resumed_as (Err OtherBase) (c, r, goes_on) = from c (Err OtherBase) r goes_on
  resumed_as (Err (Form offset)) (c, r, goes_on) = from c (Err (Form offset)) r goes_on
  resumed_as (Err State) (c, r, goes_on) = from c (Err State) r goes_on
  resumed_as (Err OutOfMemory) wants = tt
  resumed_as (Err (Base refusal)) (r, other) = refused refusal (saves.is_only recipe inputs base (Err refusal) is given r b at.0 at.1) (λ same. other same)

pub is_only : (recipe : RecipeContents) (inputs : List (List ℕ)) (base text : List ℕ) (result : Result Position DeltaRefusal) → kept.IsRecipe recipe → IsInputs recipe inputs → ResumesRelative recipe inputs base text result
    → (b p : Position) → IsBaseAt recipe inputs b base → IsPosition recipe p → text ≡ delta_text_of recipe inputs b p → IsResumedRelativeAs p result
is_only recipe inputs base text result is given resumes b p at position e = resumed_as recipe inputs base text is given b p at position e result resumes

-- ---- one delta

pub one_delta : (recipe : RecipeContents) (inputs : List (List ℕ)) (base first second : List ℕ) (p : Position) → kept.IsRecipe recipe → IsInputs recipe inputs → HasDelta recipe inputs base first p
    → HasDelta recipe inputs base second p → first ≡ second
one_delta recipe inputs base first second p is given (b, at, e) (c, there, f) = e ∙ ap (λ (q : Position). delta_text_of recipe inputs q p) (same_base recipe inputs base is given b c at there) ∙ sym f

pub delta_read : (recipe : RecipeContents) (inputs : List (List ℕ)) (base text : List ℕ) (p : Position) → kept.IsRecipe recipe → IsInputs recipe inputs → IsPosition recipe p → HasDelta recipe inputs base text p
    → judged_relative recipe inputs base text ≡ Ok p
delta_read recipe inputs base text p is given position (b, at, e) =
    by (judged_relative recipe inputs base text) (is_only recipe inputs base text (judged_relative recipe inputs base text) is given (delta.is_resumed recipe inputs base text) b p at position e)
    (λ wants. delta.is_settled recipe inputs base text wants)
  where
    by : (result : Result Position DeltaRefusal) → IsResumedRelativeAs p result → ¬ (result ≡ Err OutOfMemory) → result ≡ Ok p
    by (Ok found) same settled = ap Ok same
    by (Err OutOfMemory) same settled = absurd (settled refl)
    by (Err (Base refusal)) same settled = absurd same
    by (Err (Form offset)) same settled = absurd same
    by (Err OtherBase) same settled = absurd same
    by (Err State) same settled = absurd same
