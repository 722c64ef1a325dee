-- From stage to stage: what a basis settles, and what follows where its lines hold.
use Rattle.std.proofs.Common.{◌≡◌, ℕ, ◌<◌, ◌||◌, ◌&&◌, Bool, true, false, cond, Option, None, Some, List, [], ◌∷◌, ◌++◌, length, map, get_or, refl, sym, ap, ap₂, ◌∙◌, subst, append_assoc, All, inl, inr}
use Rattle.std.specs.Prelude.{IfSome, bytes_eq, filter_map, slice_get}
use Rattle.std.specs.List.{list_any, cons_option}
use Rattle.std.proofs.lemmas.Bool.{cases_Bool, or_left}
use Rattle.std.proofs.lemmas.List.Elements.{All-cons, All-nil, All-head, All-tail, All-push}
use Rattle.std.proofs.lemmas.Slice.Eq.{bytes_eq-Decides}
use Rattle.hex_langs.specs.declared.items.token.Dialect.TheVariants as dialect
use Rattle.hex_langs.specs.Items.Reading.{items_of}
use Rattle.recipe.specs.declared.contents.RecipeContents.{RecipeContents}
use Rattle.recipe.specs.declared.parts.Input.{Input}
use Rattle.recipe.specs.declared.parts.Stage.{Stage}
use Rattle.recipe.specs.Kept.{IsRecipe}
use Rattle.recipe.specs.Lookups.{source_of}
use Rattle.report.specs.declared.types.Report.{Report}
use Rattle.audit_rules.specs.Bench.{bench}
use Rattle.audit_rules.specs.Contents.{Contents, content}
use Rattle.audit_rules.specs.Valid.{IsInputs}
use Rattle.audit_rules.specs.declared.answer.AuditAnswer.TheVariants.{Completes}
use Rattle.wheeler.specs.AllContents.{all_contents, stage_named}
use Rattle.wheeler.specs.Assumptions.{implements_line, input_assumption, stage_assumption, trust_lines}
use Rattle.wheeler.specs.Meaning.{Compiles, Prescribes}
use Rattle.wheeler.proofs.Argument.{IsClosed, follows-stage, sound-law}
use Rattle.wheeler.proofs.Directions.{found}
use Rattle.wheeler.proofs.Gathering.{reached}
use Rattle.wheeler.proofs.Naming.{made-holds, stage-placed, get-split}
use Rattle.wheeler.proofs.Ran.{Ran}
use Rattle.wheeler.proofs.RouteClosed.{element, there, within}
use Rattle.wheeler.proofs.RouteSuffices.{found-at}
use Rattle.wheeler.proofs.Sound.{Laws, some_of}
use Rattle.audit_chain.specs.declared.rests.basis_part.BasisPart.{BasisPart}
use Rattle.audit_chain.specs.declared.rests.basis_part.BasisPart.TheVariants.{Reads, Links, Runs}
use Rattle.audit_chain.specs.Rests.Agree.{Agree, AgreeOnPrograms, BasisHolds, IsSame, IsSameArtefact, WalkFollows}
use Rattle.audit_chain.specs.Rests.Basis.{layout_name, layouts, lines, text_name, texts}
use Rattle.audit_chain.specs.Rests.Walk.{bytes_meet, files_meet, file_part, is_bytes, is_free, is_part_named, is_program, meets, part_name, parts_by, parts_of, runs_meet, walk}
use Rattle.audit_chain.proofs.RestsLemmas.Closed.{begins, bytes-named, closed, parts-made, program-named, run-argued}
use Rattle.audit_chain.proofs.RestsLemmas.Settled.{Alike, PartSame, Same, Settled, own-passes, own_test, settled}
use Rattle.audit_chain.proofs.RestsLemmas.Tests.{All-unfilter, any-weaker, each-own, either}

module _ (recipe : RecipeContents) (ok : IsRecipe recipe) (name : List ℕ) where
  abbrev pub W : List BasisPart
  W = walk recipe name

  pub bytes-met : (n : List ℕ) → bytes_meet W n ≡ true → meets W n ≡ true
  bytes-met n is = any-weaker (is_bytes n) (is_part_named n) (λ p here. bytes-named n p here) W is

  pub runs-met : (n : List ℕ) → runs_meet W n ≡ true → meets W n ≡ true
  runs-met n is = any-weaker (is_program n) (is_part_named n) (λ p here. program-named n p here) W is

  -- what is met is read or run
  pub met-either : (n : List ℕ) → meets W n ≡ true → runs_meet W n ≡ false → files_meet W n ≡ true
  met-either n met none = by W met none where
    by : (parts : List BasisPart) → meets parts n ≡ true → runs_meet parts n ≡ false → files_meet parts n ≡ true
    by [] met none = absurd cc
    by (Reads other ∷ parts) met none = elim (cases_Bool (bytes_eq other n)) [
      | inl here ↦ or_left (bytes_eq other n) (files_meet parts n) here
      | inr past ↦ ap₂ (λ a b. a || b) past (by parts (either (bytes_eq other n) (meets parts n) met past) none)
    ]
    by (Links other ∷ parts) met none = elim (cases_Bool (bytes_eq other n)) [
      | inl here ↦ or_left (bytes_eq other n) (files_meet parts n) here
      | inr past ↦ ap₂ (λ a b. a || b) past (by parts (either (bytes_eq other n) (meets parts n) met past) none)
    ]
    by (Runs other ∷ parts) met none = elim (cases_Bool (bytes_eq other n)) [
      | inl here ↦ absurd (let both : true ≡ false = sym (or_left (bytes_eq other n) (runs_meet parts n) here) ∙ none in cc)
      | inr past ↦ by parts (either (bytes_eq other n) (meets parts n) met past) (sym (ap (λ b. b || runs_meet parts n) past) ∙ none)
    ]

  -- ---- what two audits that agree make

  module _ (all other : Contents) where
    abbrev IsGiven : Input → Type 0
    IsGiven input = meets W input.name ≡ true → Same recipe all other input.name

    abbrev HasLayout : Stage → Type 0
    HasLayout stage = bytes_meet W stage.name ≡ true → is_free recipe stage ≡ true → Same recipe all other stage.name

    -- what is known of a name on the walk
    record Known (n : List ℕ) : Type 0 where
      items : meets W n ≡ true → Alike recipe all other n
      bytes : bytes_meet W n ≡ true → Same recipe all other n

    abbrev Both : Stage → Type 0
    Both stage = Ran recipe all stage (content recipe all stage.name) × Ran recipe other stage (content recipe other stage.name)

    of-input : (input : Input) → IsGiven input → Known input.name
    of-input input given = record {
      items = λ met. ap (items_of dialect.Hex2) (given met);
      bytes = λ here. given (bytes-met input.name here);
    }

    of-stage : (stage : Stage) → HasLayout stage → (meets W stage.name ≡ true → Settled recipe all other stage) → Known stage.name
    of-stage stage layout is = record {
      items = λ met. elim (cases_Bool (is_free recipe stage)) [
        | inl free ↦ (is met).items free
        | inr fixed ↦ ap (items_of dialect.Hex2) ((is met).bytes fixed)
      ];
      bytes = λ here. elim (cases_Bool (is_free recipe stage)) [
        | inl free ↦ layout here free
        | inr fixed ↦ (is (bytes-met stage.name here)).bytes fixed
      ];
    }

    of-part : (p : BasisPart) → list_any (own_test p) W ≡ true → Known (part_name p) → PartSame recipe all other p
    of-part (Reads n) on known = known.bytes on
    of-part (Links n) on known = known.items on
    of-part (Runs n) on known = known.bytes on

    one-stage : (earlier : List Stage) (stage : Stage) (rest : List Stage) → recipe.stages ≡ earlier ++ stage ∷ rest
        → All IsGiven recipe.inputs → All (λ (s : Stage). Known s.name) earlier → Both stage → meets W stage.name ≡ true → Settled recipe all other stage
    one-stage earlier stage rest split given known both met =
        let kept = (stage-placed recipe earlier stage rest ok split).kept in
        let at : slice_get recipe.stages (length earlier) ≡ Some stage = ap (λ l. slice_get l (length earlier)) split ∙ get-split earlier stage rest in
        let made = parts-made recipe earlier stage kept in
        let own = each-own own_test own-passes (parts_of recipe stage) in
        let inputs : All (λ (i : Input). Known i.name) recipe.inputs = λ k d less. of-input (get_or recipe.inputs k d) (given k d less) in
        settled recipe all other earlier stage kept
        (λ k d less.
        let p = get_or (parts_of recipe stage) k d in
        of-part p (closed recipe ok name (length earlier) stage at met (own_test p) (own k d less))
        (made-holds Known recipe.inputs earlier (part_name p) inputs known (made k d less)))
        both.0 both.1

    all-stages : (earlier stages : List Stage) → recipe.stages ≡ earlier ++ stages → All IsGiven recipe.inputs → All HasLayout stages → All Both stages
        → All (λ (s : Stage). Known s.name) earlier → All (λ (s : Stage). meets W s.name ≡ true → Settled recipe all other s) stages
    all-stages earlier [] split given layouts both known = All-nil _
    all-stages earlier (stage ∷ rest) split given layouts both known =
        let one = one-stage earlier stage rest split given known (All-head Both stage rest both) in
        All-cons (λ (s : Stage). meets W s.name ≡ true → Settled recipe all other s) stage rest one
        (all-stages (earlier ++ stage ∷ []) rest (split ∙ sym (append_assoc earlier (stage ∷ []) rest)) given (All-tail HasLayout stage rest layouts)
        (All-tail Both stage rest both) (All-push (λ (s : Stage). Known s.name) earlier stage known (of-stage stage (All-head HasLayout stage rest layouts) one)))

  -- ---- the audits of one recipe

  module _ (inputs others : List (List ℕ)) where
    abbrev mine : Contents
    mine = all_contents recipe inputs

    abbrev theirs : Contents
    theirs = all_contents recipe others

    given-inputs : Agree recipe inputs others name → AgreeOnPrograms recipe inputs others name → All (IsGiven mine theirs) recipe.inputs
    unfolding texts
    given-inputs agree programs k d less met =
        let input = get_or recipe.inputs k d in
        let here = All-unfilter (IsSame recipe inputs others) (text_name W) recipe.inputs agree.texts k d less in
        elim (cases_Bool (runs_meet W input.name)) [
          | inl run ↦ programs k d less run
          | inr none ↦ subst (λ o. IfSome o (IsSame recipe inputs others)) (ap (λ b. cond b (Some input.name) None) (met-either input.name met none)) here
        ]

    given-layouts : Agree recipe inputs others name → All (HasLayout mine theirs) recipe.stages
    unfolding layouts
    given-layouts agree k d less here free =
        let stage = get_or recipe.stages k d in
        let is = All-unfilter (IsSame recipe inputs others) (layout_name recipe W) recipe.stages agree.layouts k d less in
        subst (λ o. IfSome o (IsSame recipe inputs others)) (ap₂ (λ a b. cond (a && b) (Some stage.name) None) here free) is

    pub basis-settles : (report other : Report) (stage : Stage) → IsInputs recipe inputs → IsInputs recipe others
        → bench recipe inputs ≡ Completes report → bench recipe others ≡ Completes other → stage_named recipe.stages name ≡ Some stage
        → AgreeOnPrograms recipe inputs others name → Agree recipe inputs others name → IsSameArtefact recipe inputs others stage
    basis-settles report other stage one two is was at programs agree =
        let r = reached recipe inputs report ok one is in
        let s = reached recipe others other ok two was in
        let each = all-stages mine theirs [] recipe.stages refl (given-inputs agree programs) (given-layouts agree) (λ k d less. (r.ran k d less, s.ran k d less))
        (All-nil (λ (s : Stage). Known mine theirs s.name)) in
        let index = found-at (λ (s : Stage). bytes_eq s.name name) recipe.stages stage at in
        let here : get_or recipe.stages index.0 stage ≡ stage = element recipe.stages index.0 stage stage index.1 in
        let own : bytes_eq stage.name name ≡ true = (found (λ (s : Stage). bytes_eq s.name name) (λ s. Unit {0}) recipe.stages stage (λ k d less. tt) at).1 in
        let met : meets W stage.name ≡ true = subst (λ n. meets W n ≡ true) (sym ((bytes_eq-Decides stage.name name).0 own)) (begins recipe ok name) in
        let done = subst (λ (s : Stage). meets W s.name ≡ true → Settled recipe mine theirs s) here (each index.0 stage (within recipe.stages index.0 stage index.1)) met in
        record { bytes = done.bytes; items = done.items }

  -- ---- no line: no input is run

  prefix-empty : {A : Type 0} (xs ys : List A) → xs ++ ys ≡ [] → xs ≡ []
  prefix-empty [] ys is = refl
  prefix-empty (x ∷ xs) ys is = absurd cc

  pub none-left : {X A : Type 0} (f : X → Option A) (xs : List X) → filter_map f xs ≡ [] → All (λ x. f x ≡ None) xs
  none-left f [] is = All-nil _
  none-left {X} {A} f (x ∷ xs) is = by (f x) refl is (none-left f xs) where
    by : (o : Option A) → f x ≡ o → cons_option o (filter_map f xs) ≡ [] → (filter_map f xs ≡ [] → All (λ y. f y ≡ None) xs) → All (λ y. f y ≡ None) (x ∷ xs)
    by None at is later = All-cons (λ y. f y ≡ None) x xs at (later is)
    by (Some a) at is later = absurd cc

  input-line : (trusted : List ℕ → Bool) (input : Input) → trusted input.name ≡ true
      → input_assumption trusted recipe input ≡ implements_line input.name (source_of recipe input.name)
  unfolding input_assumption
  input-line trusted input is = ap (λ b. cond b (implements_line input.name (source_of recipe input.name)) None) is

  pub no-line : (inputs others : List (List ℕ)) → lines recipe name ≡ [] → AgreeOnPrograms recipe inputs others name
  unfolding lines trust_lines
  no-line inputs others none k d less run =
      let input = get_or recipe.inputs k d in
      let trusted : List ℕ → Bool = runs_meet W in
      let prefix = prefix-empty (filter_map (input_assumption trusted recipe) recipe.inputs) (filter_map (stage_assumption trusted recipe) recipe.stages) none in
      let here = none-left (input_assumption trusted recipe) recipe.inputs prefix k d less in
      let source = some_of (source_of recipe input.name) (run-argued recipe ok name input.name run) in
      let both : None ≡ implements_line input.name (Some source.0) = sym here ∙ input-line trusted input run ∙ ap (implements_line input.name) source.1 in
      absurd cc

  -- ---- what follows where the lines hold

  has-program : (stage : Stage) → stage.check ≡ None → list_any (is_program stage.program) (parts_of recipe stage) ≡ true
  unfolding parts_of
  has-program stage was =
      ap (λ o. list_any (is_program stage.program) (parts_by recipe stage o)) was
      ∙ or_left (bytes_eq stage.program stage.program) (list_any (is_program stage.program) (map file_part stage.files)) ((bytes_eq-Decides stage.program stage.program).1 refl)

  pub goes-on : (k : ℕ) (d : Stage) → k < length recipe.stages → meets W (get_or recipe.stages k d).name ≡ true → (get_or recipe.stages k d).check ≡ None
      → runs_meet W (get_or recipe.stages k d).program ≡ true
  goes-on k d less met was =
      let stage = get_or recipe.stages k d in
      closed recipe ok name k stage (there recipe.stages k d less) met (is_program stage.program) (has-program stage was)

  pub walk-follows : (prescribes : Prescribes) (compiles : Compiles) → Laws prescribes compiles → (inputs : List (List ℕ)) (report : Report) → IsInputs recipe inputs
      → bench recipe inputs ≡ Completes report → BasisHolds prescribes compiles recipe inputs name → WalkFollows prescribes recipe inputs name
  unfolding lines
  walk-follows prescribes compiles laws inputs report given is hold k d less met =
      let all = all_contents recipe inputs in
      let r = reached recipe inputs report ok given is in
      let trusted : List ℕ → Bool = runs_meet W in
      let closing : IsClosed trusted recipe = λ i e under was on. goes-on i e under (runs-met (get_or recipe.stages i e).name on) was in
      let both = sound-law prescribes compiles laws trusted recipe all ok r.are r.ran closing hold k d less in
      follows-stage prescribes compiles laws trusted recipe all (get_or recipe.stages k d) both.0 (goes-on k d less met) both.1
