-- Of which recipe and inputs a text is a save, told at its front.
use Rattle.std.proofs.Common.{◌≡◌, ◌≢◌, ◌∙◌, ◌-◌, ◌≤◌, ℕ, Bool, false, true, List, [], ◌∷◌, drop, get_or, length, map, take, Ok, Err, refl, sym, ap, subst, arith}
use Rattle.std.specs.Prelude.{◌↔◌, IsOk, IsTrue, Result}
use Rattle.std.proofs.lemmas.List.{length-map, take_all}
use Rattle.ddc_base.specs.declared.digests.Digest.{Digest}
use Rattle.save_format.specs.ByteFields.Reader.{Read}
use Rattle.save_format.specs.SaveText.{SaveText, digest_at, origin_at, parsed_save, save_at}
use Rattle.save_format.proofs.ByteFieldsLemmas.Encodes.{all_taken}
use Rattle.save_format.proofs.Origins.{OriginOf, as_many, digests_at, none_at, one_at, origin_there, wrong_at}
use Rattle.save_format.proofs.StateTextLemmas.Mapped.{same_rest, same_value}
use Rattle.audit_run.specs.Save.Saves.{IsOf, digest_of}
use Rattle.recipe.specs.declared.contents.RecipeContents.{RecipeContents}

-- the first of a list, and what is after it
pub split : {A : Type 0} (xs : List A) (x : A) → 1 ≤ length xs → x ≡ get_or xs 0 x → x ∷ take (length xs - 1) (drop 1 xs) ≡ xs
split [] x some is = absurd (omega arith)
split (y ∷ xs) x some is = λ i. is i ∷ take_all (length (y ∷ xs) - 1) xs (omega arith) i

-- whether the digests that are read are those of these inputs
abbrev pub Tells : List (List ℕ) → Bool → List ℕ → Type 0
Tells inputs same left = (digests : List Digest) (rest : List ℕ) → digests_at (length inputs) left ≡ Ok (digests, rest) → IsTrue same ↔ (digests ≡ map digest_of inputs)

pub no_next : (inputs : List (List ℕ)) (left : List ℕ) → length inputs ≡ 0 → Tells inputs true left
no_next [] left none = λ digests rest e. (λ t. none_at left rest digests e, λ same. refl)
no_next (input ∷ inputs) left none = absurd (omega arith)

pub other_next : (input : List ℕ) (inputs : List (List ℕ)) (left following : List ℕ) (first : Digest) → digest_at left ≡ Ok (first, following) → first ≢ digest_of input → Tells (input ∷ inputs) false left
other_next input inputs left following first read other = λ digests rest e.
    let one = one_at (length inputs) left following rest first digests read e in
    (λ t. cc, λ same. let all : first ∷ one.0 ≡ digest_of input ∷ map digest_of inputs = sym one.2 ∙ same in absurd (other cc))

pub same_next : (input : List ℕ) (inputs : List (List ℕ)) (left following : List ℕ) (first : Digest) (same : Bool) → digest_at left ≡ Ok (first, following) → first ≡ digest_of input → Tells inputs same following → Tells (input ∷ inputs) same left
same_next input inputs left following first same read is tells = λ digests rest e.
    let one = one_at (length inputs) left following rest first digests read e in
    let later = tells one.0 rest one.1 in (
      λ t. one.2 ∙ (λ i. is i ∷ later.0 t i),
      λ all. let parts : first ∷ one.0 ≡ digest_of input ∷ map digest_of inputs = sym one.2 ∙ all in later.1 cc,
    )

pub wrong_next : (input : List ℕ) (inputs : List (List ℕ)) (left : List ℕ) (at : ℕ) (same : Bool) → digest_at left ≡ Err at → Tells (input ∷ inputs) same left
wrong_next input inputs left at same read = λ digests rest e. absurd (wrong_at (length inputs) at left rest digests read e)

-- what is told of a text is told of the save that it says
module _ (text cursor : List ℕ) (whole : cursor ≡ text) (save : SaveText) (formed : parsed_save text ≡ Ok save) where
  there : OriginOf cursor save
  unfolding parsed_save
  there = subst (λ (t : List ℕ). OriginOf t save) (sym whole) (origin_there text save [] (all_taken (length text) (save_at text) save formed))

  module _ (recipe : Digest) (count : ℕ) (following : List ℕ) (read : origin_at cursor ≡ Ok ((recipe, count), following)) where
    both : ◌≡◌ {A = Read (Digest × ℕ)} (Ok ((save.recipe, there.count), there.following)) (Ok ((recipe, count), following))
    both = sym there.parsed ∙ read

    pub its_recipe : save.recipe ≡ recipe
    its_recipe = ap (λ (o : Digest × ℕ). o.0) (same_value (save.recipe, there.count) (recipe, count) there.following following both)

    its_count : there.count ≡ count
    its_count = ap (λ (o : Digest × ℕ). o.1) (same_value (save.recipe, there.count) (recipe, count) there.following following both)

    its_inputs : digests_at count following ≡ Ok (save.inputs, there.after)
    its_inputs =
        subst (λ (n : ℕ). digests_at n following ≡ Ok (save.inputs, there.after)) its_count
        (subst (λ (l : List ℕ). digests_at there.count l ≡ Ok (save.inputs, there.after)) (same_rest (save.recipe, there.count) (recipe, count) there.following following both) there.inputs)

    pub other_count : (parsed : RecipeContents) (inputs : List (List ℕ)) → count ≢ length inputs → IsTrue false ↔ IsOf parsed inputs save
    other_count parsed inputs other = (
      λ t. cc,
      λ of. absurd (other (sym (as_many count following there.after save.inputs its_inputs) ∙ ap length of.same_inputs ∙ length-map inputs digest_of)),
    )

    pub other_recipe : (parsed : RecipeContents) (inputs : List (List ℕ)) → recipe ≢ parsed.digest → IsTrue false ↔ IsOf parsed inputs save
    other_recipe parsed inputs other = (λ t. cc, λ of. absurd (other (sym its_recipe ∙ of.same_recipe)))

    pub same_count : (parsed : RecipeContents) (inputs : List (List ℕ)) (same : Bool) → recipe ≡ parsed.digest → count ≡ length inputs → Tells inputs same following → IsTrue same ↔ IsOf parsed inputs save
    same_count parsed inputs same is many tells =
        let told = tells save.inputs there.after (subst (λ (n : ℕ). digests_at n following ≡ Ok (save.inputs, there.after)) many its_inputs) in
        (λ t. record { same_recipe = its_recipe ∙ is; same_inputs = told.0 t }, λ of. told.1 of.same_inputs)

  pub no_header : (at : ℕ) → origin_at cursor ≡ Err at → (same : Bool) (parsed : RecipeContents) (inputs : List (List ℕ)) → IsTrue same ↔ IsOf parsed inputs save
  no_header at wrong same parsed inputs =
      let none : ◌≡◌ {A = Read (Digest × ℕ)} (Err at) (Ok ((save.recipe, there.count), there.following)) = sym wrong ∙ there.parsed in
      absurd cc

-- a text of the form says some save
pub wanted : (read : Result SaveText ℕ) → IsOk read → (save : SaveText) × (read ≡ Ok save)
wanted (Ok save) formed = (save, refl)
wanted (Err at) formed = absurd cc
