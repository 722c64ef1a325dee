-- What is written relative to a base is the delta against its position.
use Rattle.std.proofs.Common.{◌≡◌, ℕ, zero, suc, ◌-◌, ◌^◌, ◌<◌, ◌≤◌, Some, List, [], ◌∷◌, ◌++◌, length, map, take, drop, All, IsOk, Result, Ok, Err, inl, refl, sym, ap, subst, ◌∙◌, arith, append_assoc}
use Rattle.std.specs.Prelude.{IfOk, OnOk}
use Rattle.std.specs.Int.{w32}
use Rattle.std.proofs.lemmas.List.Elements.{All-drop}
use Rattle.ddc_base.specs.declared.byte_list.OutOfMemory.{OutOfMemory}
use Rattle.ddc_base.specs.Limits.{page_number_end}
use Rattle.guest_run.specs.State.{GuestState}
use Rattle.recipe.specs.declared.contents.RecipeContents.{RecipeContents}
use Rattle.recipe.specs.Kept.{IsRecipe}
use Rattle.checkpoints.specs.Checkpoint.{state_of}
use Rattle.checkpoints.proofs.PatchCounts.{few_of}
use Rattle.save_format.specs.ByteFields.Spelling.{list_text, number_text}
use Rattle.save_format.specs.declared.parts.StagePart.{StagePart}
use Rattle.save_format.specs.SaveText.{SaveText, parsed_save}
use Rattle.save_format.specs.Seen.{stage_view}
use Rattle.save_format.specs.Encoded.{IsShortStage, stage_text, text_of_save}
use Rattle.save_format.specs.DeltaText.DeltaText.{text_of_delta}
use Rattle.save_format.specs.DeltaText.Stages.{kept_stages, stages_relative_text}
use Rattle.audit_rules.specs.declared.answer.Finished.{Finished}
use Rattle.audit_rules.specs.Positions.{Position, On, at}
use Rattle.audit_rules.specs.Valid.{IsInputs, IsPosition}
use Rattle.audit_rules.proofs.Rules.{rules}
use Rattle.audit_run.specs.Inside.Parts.{IsPhaseAfter, seen}
use Rattle.audit_run.specs.Seen.{AuditState}
use Rattle.audit_run.specs.declared.phase.AuditPhase.{AuditPhase}
use Rattle.audit_run.specs.declared.phase.AuditPhase.TheVariants.{Running}
use Rattle.audit_run.specs.Save.Saves.{save_of, stage_of}
use Rattle.audit_run.specs.Delta.Deltas.{IsBaseAt, base_digest, delta_text_of}
use Rattle.audit_run.proofs.SaveLemmas.Exactly.{formed_of}
use Rattle.audit_run.proofs.SaveLemmas.Written.{few_done}

module _ (recipe : RecipeContents) (inputs : List (List ℕ)) (base : List ℕ) (is : IsRecipe recipe) (given : IsInputs recipe inputs) (b : Position) (parsed : IsBaseAt recipe inputs b base) where
  pub is_read : IsOk (parsed_save base)
  is_read = rw (formed_of recipe inputs base b is given parsed.0 parsed.1) refl

  pub known_at : (known : SaveText) → parsed_save base ≡ Ok known → known ≡ save_of recipe inputs b
  known_at known read =
      let both : ◌≡◌ {A = Result SaveText ℕ} (Ok known) (Ok (save_of recipe inputs b)) = sym read ∙ formed_of recipe inputs base b is given parsed.0 parsed.1 in
      cc

  pub few_pages : (known : SaveText) → parsed_save base ≡ Ok known → length known.state.pages ≤ page_number_end
  few_pages known read = subst (λ (save : SaveText). length save.state.pages ≤ page_number_end) (sym (known_at known read)) (few_of b.at)

  pub delta_is : (known : SaveText) (p : Position) (text : List ℕ) → parsed_save base ≡ Ok known
      → text ≡ text_of_delta known (record { base = base_digest known; stages = map stage_of p.done; state = state_of p.at }) → text ≡ delta_text_of recipe inputs b p
  unfolding delta_text_of
  delta_is known p text read e =
      e ∙ ap (λ (save : SaveText). text_of_delta save (record { base = base_digest save; stages = map stage_of p.done; state = state_of p.at })) (known_at known read)

pub few_stages : (recipe : RecipeContents) (p : Position) → IsRecipe recipe → IsPosition recipe p → length p.done < 2 ^ 32
few_stages recipe p is (stage, stages, ok) = let few = (rules recipe is).few_stages in omega (arith, few, few_done recipe.stages p.done ok.done.each)

pub deltas_are : (recipe : RecipeContents) (inputs : List (List ℕ)) (base : List ℕ) (known : SaveText) (p : Position) (result : Result (List ℕ) OutOfMemory) → IsRecipe recipe → IsInputs recipe inputs
    → parsed_save base ≡ Ok known
    → IfOk result (λ text. text ≡ text_of_delta known (record { base = base_digest known; stages = map stage_of p.done; state = state_of p.at }))
    → IfOk result (λ text. (b : Position) → IsBaseAt recipe inputs b base → text ≡ delta_text_of recipe inputs b p)
deltas_are recipe inputs base known p (Ok text) is given parsed e = λ b base_is. delta_is recipe inputs base is given b base_is known p text parsed e
deltas_are recipe inputs base known p (Err error) is given parsed e = tt

-- what an audit saves is a base at its position
pub base_saved : (audit : AuditState) (recipe : RecipeContents) (inputs given : List (List ℕ)) (done so_far : List Finished) (where_it_is : AuditPhase) (guest : GuestState) (result : Result (List ℕ) OutOfMemory)
    → audit ≡ record { recipe = recipe; inputs = inputs; current = seen done where_it_is } → where_it_is ≡ Running guest → IsPhaseAfter recipe done where_it_is → given ≡ inputs → so_far ≡ done
    → IfOk result (λ text. text ≡ text_of_save (save_of recipe given (at so_far guest)))
    → IfOk result (λ text. (p : Position) × (audit.current ≡ Some (On p)) × IsBaseAt audit.recipe audit.inputs p text)
base_saved audit recipe inputs given done so_far where_it_is guest (Ok text) view is stood given_is done_is e =
    subst (λ (a : AuditState). (p : Position) × (a.current ≡ Some (On p)) × IsBaseAt a.recipe a.inputs p text) (sym view)
    (at done guest, ap (seen done) is, (subst (IsPhaseAfter recipe done) is stood, inl (e ∙ (λ i. text_of_save (save_of recipe (given_is i) (at (done_is i) guest))))))
base_saved audit recipe inputs given done so_far where_it_is guest (Err error) view is stood given_is done_is e = tt

-- ---- stages

take_all : (xs : List Finished) → take (length xs) xs ≡ xs
take_all [] = refl
take_all (x ∷ xs) = ap (λ (ys : List Finished). x ∷ ys) (take_all xs)

pub rest_is : (count : ℕ) (xs : List Finished) → take (length xs - count) (drop count xs) ≡ drop count xs
rest_is zero xs = let same : length xs - 0 ≡ length xs = omega arith in ap (λ n. take n xs) same ∙ take_all xs
rest_is (suc count) [] = let same : 0 - suc count ≡ 0 = omega arith in ap (λ n. take {A = Finished} n []) same
rest_is (suc count) (x ∷ xs) = let same : suc (length xs) - suc count ≡ length xs - count = omega arith in ap (λ n. take n (drop count xs)) same ∙ rest_is count xs

after_map : (count : ℕ) (xs : List Finished) → map stage_of (drop count xs) ≡ drop count (map stage_of xs)
after_map zero xs = refl
after_map (suc count) [] = refl
after_map (suc count) (x ∷ xs) = after_map count xs

pub short_after : (count : ℕ) (done : List Finished) → All (λ f. IsShortStage (stage_of f)) done → All (λ f. IsShortStage (stage_of f)) (take (length done - count) (drop count done))
short_after count done short = subst (All (λ (f : Finished). IsShortStage (stage_of f))) (sym (rest_is count done)) (All-drop (λ (f : Finished). IsShortStage (stage_of f)) count done short)

pub put_after : (old mid new : List ℕ) (known : List StagePart) (done : List Finished) (kept : ℕ) (result : Result (Unit {0}) OutOfMemory) → kept ≡ kept_stages (map stage_view known) (map stage_of done)
    → mid ≡ old ++ number_text w32 kept → OnOk result (new ≡ mid ++ list_text stage_text (map stage_of (take (length done - kept) (drop kept done))))
    → OnOk result (new ≡ old ++ stages_relative_text (map stage_view known) (map stage_of done))
put_after old mid new known done kept (Ok none) is mid_is e =
    let further : map stage_of (take (length done - kept) (drop kept done)) ≡ drop kept (map stage_of done) = ap (map stage_of) (rest_is kept done) ∙ after_map kept done in
    e ∙ (λ i. mid_is i ++ list_text stage_text (further i)) ∙ append_assoc old (number_text w32 kept) (list_text stage_text (drop kept (map stage_of done)))
    ∙ ap (λ n. old ++ (number_text w32 n ++ list_text stage_text (drop n (map stage_of done)))) is
put_after old mid new known done kept (Err error) is mid_is e = tt
