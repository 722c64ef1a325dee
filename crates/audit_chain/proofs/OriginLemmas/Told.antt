-- Where no place of the audited binary is told, it is not met.
use Rattle.std.proofs.Common.{◌≡◌, ◌≢◌, ℕ, ◌==◌, ◌&&◌, true, cond, not, Option, None, Some, List, [], ◌∷◌, get_or, refl, sym, ap, ap₂, ◌∙◌, subst, eq-eqb, All, inl, inr}
use Rattle.std.specs.Prelude.{IsSome, bytes_eq, filter_map, option_map}
use Rattle.std.specs.List.{cons_option}
use Rattle.std.specs.Option.{option_or}
use Rattle.std.proofs.lemmas.Bool.{and_from, cases_Bool}
use Rattle.std.proofs.lemmas.List.Elements.{All-cons, All-nil}
use Rattle.std.proofs.lemmas.List.Quantifiers.{position-Some}
use Rattle.std.proofs.lemmas.Slice.Eq.{bytes_eq-Decides}
use Rattle.recipe.specs.declared.contents.RecipeContents.{RecipeContents}
use Rattle.recipe.specs.declared.parts.Content.TheVariants.{Input as Given, Stage as Artefact}
use Rattle.recipe.specs.declared.parts.Input.{Input}
use Rattle.recipe.specs.declared.parts.Stage.{Stage}
use Rattle.recipe.specs.Kept.{IsMade, IsRecipe}
use Rattle.recipe.specs.Lookups.{content_named, input_at, stage_at}
use Rattle.report.specs.declared.types.Report.{Report}
use Rattle.report.specs.Marks.{mark_of}
use Rattle.audit_rules.specs.declared.answer.AuditAnswer.TheVariants.{Completes}
use Rattle.audit_rules.specs.Bench.{bench}
use Rattle.audit_rules.specs.Contents.{content}
use Rattle.audit_rules.specs.Valid.{IsInputs}
use Rattle.wheeler.specs.AllContents.{all_contents}
use Rattle.audit_chain.specs.declared.origin.meeting.Meeting.{Meeting}
use Rattle.audit_chain.specs.declared.origin.meeting.Meeting.TheVariants.{Read, Run}
use Rattle.audit_chain.specs.Provenance.{audited_met, audited_input, audited_name, audited_stage, is_audited, is_met, same_artefacts, same_mark}
use Rattle.audit_chain.specs.Rests.Walk.{meets, runs_meet, walk}
use Rattle.audit_chain.proofs.OriginLemmas.Marked.{marks-are}
use Rattle.audit_chain.proofs.RestsLemmas.Whole.{met-either}

none-left : {X A : Type 0} (f : X → Option A) (xs : List X) → filter_map f xs ≡ [] → All (λ x. f x ≡ None) xs
none-left f [] is = All-nil _
none-left {X} {A} f (x ∷ xs) is = by (f x) refl is (none-left f xs) where
  by : (o : Option A) → f x ≡ o → cons_option o (filter_map f xs) ≡ [] → (filter_map f xs ≡ [] → All (λ y. f y ≡ None) xs) → All (λ y. f y ≡ None) (x ∷ xs)
  by None at is later = All-cons (λ y. f y ≡ None) x xs at (later is)
  by (Some a) at is later = absurd cc

own-mark : (bytes : List ℕ) → same_mark (Some (mark_of bytes)) (Some (mark_of bytes)) ≡ true
own-mark bytes =
    let mark = mark_of bytes in
    and_from (mark.length == mark.length) (bytes_eq mark.digest.0 mark.digest.0) (eq-eqb mark.length mark.length refl) ((bytes_eq-Decides mark.digest.0 mark.digest.0).1 refl)

module _ (recipe : RecipeContents) (inputs : List (List ℕ)) (report : Report) (given : IsInputs recipe inputs) (is : bench recipe inputs ≡ Completes report) where
  -- no name among the inputs and the stages is told, so a name that stands for one of them is not
  untold : (how : Meeting) (own name : List ℕ) → audited_met recipe report how own ≡ [] → same_artefacts recipe report how own ≡ [] → IsMade recipe recipe.stages name
      → audited_name recipe report how (walk recipe own) own name ≡ None
  unfolding content_named audited_met same_artefacts
  untold how own name no_input no_stage made = by_input (input_at recipe.inputs name) refl made where
    of_input : Input → Option (List ℕ)
    of_input = audited_input recipe report how (walk recipe own) own

    of_stage : Stage → Option (List ℕ)
    of_stage = audited_stage recipe report how (walk recipe own) own

    Untold : List ℕ → Type 0
    Untold n = audited_name recipe report how (walk recipe own) own n ≡ None

    at_stage : (stages : List Stage) (k : ℕ) → All (λ (s : Stage). of_stage s ≡ None) stages → stage_at stages name ≡ Some k → Untold name
    at_stage [] k each at = absurd cc
    at_stage (d ∷ stages) k each at =
        let here = position-Some (λ (s : Stage). bytes_eq s.name name) (d ∷ stages) k d at in
        subst Untold ((bytes_eq-Decides (get_or (d ∷ stages) k d).name name).0 here.1) (each k d here.0)

    at_input : (rows : List Input) (k : ℕ) → All (λ (i : Input). of_input i ≡ None) rows → input_at rows name ≡ Some k → Untold name
    at_input [] k each at = absurd cc
    at_input (d ∷ rows) k each at =
        let here = position-Some (λ (i : Input). bytes_eq i.name name) (d ∷ rows) k d at in
        subst Untold ((bytes_eq-Decides (get_or (d ∷ rows) k d).name name).0 here.1) (each k d here.0)

    by_stage : (o : Option ℕ) → stage_at recipe.stages name ≡ o → IsSome (option_map Artefact o) → Untold name
    by_stage None at made = absurd cc
    by_stage (Some k) at made = at_stage recipe.stages k (none-left of_stage recipe.stages no_stage) at

    by_input : (o : Option ℕ) → input_at recipe.inputs name ≡ o → IsSome (option_or (option_map Given o) (option_map Artefact (stage_at recipe.stages name)))
        → Untold name
    by_input None at made = by_stage (stage_at recipe.stages name) refl made
    by_input (Some k) at made = at_input recipe.inputs k (none-left of_input recipe.inputs no_input) at

  -- what has the binary's bytes has its mark
  binary-made : IsRecipe recipe → IsMade recipe recipe.stages recipe.compare.binary
  unfolding content_named
  binary-made ok = by (input_at recipe.inputs recipe.compare.binary) ok.binary where
    by : (o : Option ℕ) → IsSome o → IsSome (option_or (option_map Given o) (option_map Artefact (stage_at recipe.stages recipe.compare.binary)))
    by None there = absurd cc
    by (Some k) there = refl

  has-mark : IsRecipe recipe → (name : List ℕ) → IsMade recipe recipe.stages name
      → content recipe (all_contents recipe inputs) name ≡ content recipe (all_contents recipe inputs) recipe.compare.binary → is_audited recipe report name ≡ true
  has-mark ok name made same =
      let binary = content recipe (all_contents recipe inputs) recipe.compare.binary in
      ap₂ same_mark (marks-are recipe inputs report name given is made ∙ ap (λ bytes. Some (mark_of bytes)) same)
      (marks-are recipe inputs report recipe.compare.binary given is (binary-made ok))
      ∙ own-mark binary

  pub not-met : IsRecipe recipe → (own : List ℕ) → audited_met recipe report Read own ≡ [] → audited_met recipe report Run own ≡ []
      → same_artefacts recipe report Read own ≡ [] → same_artefacts recipe report Run own ≡ []
      → (name : List ℕ) → IsMade recipe recipe.stages name → meets (walk recipe own) name ≡ true → name ≢ own
      → content recipe (all_contents recipe inputs) name ≢ content recipe (all_contents recipe inputs) recipe.compare.binary
  not-met ok own read run same_read same_run name made met other same = elim (cases_Bool (runs_meet (walk recipe own) name)) [
    | inl here ↦ contrary Run here (untold Run own name run same_run made)
    | inr none ↦ contrary Read (met-either recipe ok own name met none) (untold Read own name read same_read made)
  ] where
    not-own : not (bytes_eq own name) ≡ true
    not-own = elim (cases_Bool (bytes_eq own name)) [
      | inl equal ↦ absurd (other (sym ((bytes_eq-Decides own name).0 equal)))
      | inr differ ↦ ap not differ
    ]

    contrary : (how : Meeting) → is_met how (walk recipe own) name ≡ true → audited_name recipe report how (walk recipe own) own name ≡ None → ⊥
    contrary how here none =
        let told : audited_name recipe report how (walk recipe own) own name ≡ Some name =
        ap (λ b. cond b (Some name) None)
        (and_from (is_met how (walk recipe own) name && not (bytes_eq own name)) (is_audited recipe report name)
        (and_from (is_met how (walk recipe own) name) (not (bytes_eq own name)) here not-own) (has-mark ok name made same)) in
        let both : None ≡ Some name = sym none ∙ told in
        absurd cc
