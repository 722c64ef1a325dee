-- Wheeler's argument: an induction over the stages.
use Rattle.std.proofs.Common.{◌≡◌, ℕ, Bool, true, ◌&&◌, Option, None, Some, List, [], ◌∷◌, ◌++◌, get_or, refl, sym, ap₂, ◌∙◌, append_assoc, All}
use Rattle.std.specs.Prelude.{IfSome, filter_map, is_none}
use Rattle.std.specs.List.{cons_option}
use Rattle.std.proofs.lemmas.List.Elements.{All-cons, All-head, All-nil, All-push, All-tail}
use Rattle.std.proofs.lemmas.List.Folds.{list_any_at}
use Rattle.std.proofs.lemmas.Slice.Eq.{bytes_eq-Decides}
use Rattle.recipe.specs.declared.contents.RecipeContents.{RecipeContents}
use Rattle.recipe.specs.declared.parts.Input.{Input}
use Rattle.recipe.specs.declared.parts.Stage.{Stage}
use Rattle.recipe.specs.Kept.{IsRecipe}
use Rattle.recipe.specs.Lookups.{hex_check}
use Rattle.audit_rules.specs.Contents.{Contents, box_of, content}
use Rattle.audit_rules.specs.Stages.{output_of}
use Rattle.audit_rules.proofs.GivenBoxes.{AreContents, box-is}
use Rattle.audit_rules.proofs.Rules as rules
use Rattle.wheeler.specs.Assumptions.{Holds, assumed, input_assumption, is_trusted, trust_lines, runs_unchecked, stage_assumption}
use Rattle.wheeler.specs.AllContents.{text_named}
use Rattle.wheeler.specs.Follows.{FollowsBy}
use Rattle.wheeler.specs.Meaning.{Compiles, Implements, Prescribes}
use Rattle.wheeler.proofs.Naming.{made-holds, stage-placed}
use Rattle.wheeler.proofs.Ran.{Ran}
use Rattle.wheeler.proofs.Sound.{Facts, Laws, Sound, some_of, sound-input, sound-stage}
use Rattle.wheeler.proofs.Values.{checked-value}

-- ---- each line that is there

head-holds : {A : Type 0} (P : A → Type 0) (o : Option A) (xs : List A) → All P (cons_option o xs) → IfSome o P
head-holds P None xs all = tt
head-holds P (Some x) xs all = All-head P x xs all

rest-holds : {A : Type 0} (P : A → Type 0) (o : Option A) (xs : List A) → All P (cons_option o xs) → All P xs
rest-holds P None xs all = all
rest-holds P (Some x) xs all = All-tail P x xs all

All-filter_map : {X A : Type 0} (P : A → Type 0) (f : X → Option A) (xs : List X) → All P (filter_map f xs) → All (λ x. IfSome (f x) P) xs
All-filter_map P f [] all = All-nil _
All-filter_map P f (x ∷ xs) all =
    All-cons (λ x. IfSome (f x) P) x xs (head-holds P (f x) (filter_map f xs) all) (All-filter_map P f xs (rest-holds P (f x) (filter_map f xs) all))

pub All-prefix : {X : Type 0} (P : X → Type 0) (xs ys : List X) → All P (xs ++ ys) → All P xs
All-prefix P [] ys all = All-nil P
All-prefix P (x ∷ xs) ys all = All-cons P x xs (All-head P x (xs ++ ys) all) (All-prefix P xs ys (All-tail P x (xs ++ ys) all))

pub All-back : {X : Type 0} (P : X → Type 0) (xs ys : List X) → All P (xs ++ ys) → All P ys
All-back P [] ys all = all
All-back P (x ∷ xs) ys all = All-back P xs ys (All-tail P x (xs ++ ys) all)

-- ---- the induction

-- what holds of each stage with those before it
pub by-stages : (recipe : RecipeContents) (P : Stage → Type 0) (earlier stages : List Stage) → recipe.stages ≡ earlier ++ stages
    → ((earlier : List Stage) (stage : Stage) (rest : List Stage) → recipe.stages ≡ earlier ++ stage ∷ rest → P stage) → All P stages
by-stages recipe P earlier [] split holds = All-nil P
by-stages recipe P earlier (stage ∷ rest) split holds =
    All-cons P stage rest (holds earlier stage rest split)
    (by-stages recipe P (earlier ++ stage ∷ []) rest (split ∙ sym (append_assoc earlier (stage ∷ []) rest)) holds)

-- trust goes on to the program of an unchecked stage that is trusted itself
abbrev pub IsClosed : (List ℕ → Bool) → RecipeContents → Type 0
IsClosed trusted recipe = All (λ (stage : Stage). stage.check ≡ None → trusted stage.name ≡ true → trusted stage.program ≡ true) recipe.stages

module _ (prescribes : Prescribes) (compiles : Compiles) (laws : Laws prescribes compiles) (trusted : List ℕ → Bool) (recipe : RecipeContents) (all : Contents) where
  sound-stages : IsRecipe recipe → All (λ (i : Input). Sound prescribes trusted recipe all i.name) recipe.inputs → (earlier stages : List Stage)
      → recipe.stages ≡ earlier ++ stages → All (λ (s : Stage). Sound prescribes trusted recipe all s.name) earlier
      → All (Facts prescribes compiles trusted recipe all) stages → All (λ (s : Stage). Sound prescribes trusted recipe all s.program) stages
  sound-stages ok given earlier [] split sound facts = All-nil (λ (s : Stage). Sound prescribes trusted recipe all s.program)
  sound-stages ok given earlier (stage ∷ rest) split sound facts =
      let kept = (stage-placed recipe earlier stage rest ok split).kept in
      let program = made-holds (Sound prescribes trusted recipe all) recipe.inputs earlier stage.program given sound kept.program in
      let own = sound-stage prescribes compiles trusted recipe all laws stage (All-head (Facts prescribes compiles trusted recipe all) stage rest facts) program in
      All-cons (λ (s : Stage). Sound prescribes trusted recipe all s.program) stage rest program
      (sound-stages ok given (earlier ++ stage ∷ []) rest (split ∙ sym (append_assoc earlier (stage ∷ []) rest))
      (All-push (λ (s : Stage). Sound prescribes trusted recipe all s.name) earlier stage sound own)
      (All-tail (Facts prescribes compiles trusted recipe all) stage rest facts))

  -- where every line of what is trusted holds and every stage ran: the program of every stage is sound
  pub sound-law : IsRecipe recipe → AreContents all → All (λ (s : Stage). Ran recipe all s (content recipe all s.name)) recipe.stages → IsClosed trusted recipe
      → All (Holds prescribes compiles recipe all) (trust_lines trusted recipe)
      → All (λ (s : Stage). Facts prescribes compiles trusted recipe all s × Sound prescribes trusted recipe all s.program) recipe.stages
  unfolding trust_lines
  sound-law ok are ran closed lines =
      let holds = Holds prescribes compiles recipe all in
      let ones = filter_map (input_assumption trusted recipe) recipe.inputs in
      let others = filter_map (stage_assumption trusted recipe) recipe.stages in
      let given = All-filter_map holds (input_assumption trusted recipe) recipe.inputs (All-prefix holds ones others lines) in
      let made = All-filter_map holds (stage_assumption trusted recipe) recipe.stages (All-back holds ones others lines) in
      let found = by-stages recipe (λ (s : Stage). (earlier : List Stage) × (rest : List Stage) × (recipe.stages ≡ earlier ++ s ∷ rest)) [] recipe.stages refl (λ earlier stage rest split. (earlier, rest, split)) in
      let facts : All (Facts prescribes compiles trusted recipe all) recipe.stages =
      λ k d less.
      let stage = get_or recipe.stages k d in
      let at = found k d less in
      let placed = stage-placed recipe at.0 stage at.1 ok at.2 in
      record {
        found = placed.found;
        ran = ran k d less;
        valid = box-is recipe all stage are ((rules.rules recipe ok).stages k d less);
        line = made k d less;
        needed = closed k d less;
        argued = placed.kept.argued;
      } in
      let inputs : All (λ (i : Input). Sound prescribes trusted recipe all i.name) recipe.inputs =
      λ k d less. sound-input prescribes compiles trusted recipe all (get_or recipe.inputs k d) (given k d less) in
      let sound = sound-stages ok inputs [] recipe.stages refl (All-nil (λ (s : Stage). Sound prescribes trusted recipe all s.name)) facts in
      λ k d less. (facts k d less, sound k d less)

  -- what follows for a stage whose program is sound
  pub follows-stage : (stage : Stage) → Facts prescribes compiles trusted recipe all stage → (stage.check ≡ None → trusted stage.program ≡ true)
      → Sound prescribes trusted recipe all stage.program → FollowsBy prescribes recipe all stage stage.check
  follows-stage stage facts needed sound = by_check stage.check refl where
    by_hex : (check : List ℕ) → stage.check ≡ Some check → (o : Option (List ℕ)) → hex_check recipe.sources check ≡ o
        → IfSome o (λ source. Implements prescribes (content recipe all stage.name) (text_named recipe all source))
    by_hex check was None at = tt
    by_hex check was (Some source) at =
        laws.literal (text_named recipe all source) (content recipe all stage.name)
        (checked-value recipe all stage check source (content recipe all stage.name) was at facts.ran.right)

    by_check : (o : Option (List ℕ)) → stage.check ≡ o → FollowsBy prescribes recipe all stage o
    by_check None was =
        let program = some_of _ (facts.argued was) in
        let implements = sound (needed was) program.0 program.1 in
        let r = facts.ran in
        let made = implements (box_of recipe all stage) r.step r.world (output_of stage.output) (content recipe all stage.name) facts.valid r.runs r.there in
        record {
          source = program.0;
          parent = program.1;
          implements = implements;
          prescribed = record {
            this = made;
            no_other = λ other is. laws.fixed (text_named recipe all program.0) (box_of recipe all stage) (output_of stage.output) other (content recipe all stage.name) is made;
          };
        }
    by_check (Some check) was = by_hex check was (hex_check recipe.sources check) refl

-- the program of an unchecked stage is trusted
unchecked : (o : Option (List ℕ)) → o ≡ None → is_none o ≡ true
unchecked None is = refl
unchecked (Some x) is = absurd cc

pub needed-each : (recipe : RecipeContents) → All (λ (stage : Stage). stage.check ≡ None → is_trusted recipe stage.program ≡ true) recipe.stages
unfolding is_trusted
needed-each recipe k d less was =
    let stage = get_or recipe.stages k d in
    list_any_at (runs_unchecked stage.program) recipe.stages k d less
    (ap₂ (λ a b. a && b) (unchecked stage.check was) ((bytes_eq-Decides stage.program stage.program).1 refl))

-- where every line holds and every stage ran, every stage follows
pub follows-law : (prescribes : Prescribes) (compiles : Compiles) → Laws prescribes compiles → (recipe : RecipeContents) (all : Contents) → IsRecipe recipe → AreContents all
    → All (λ (s : Stage). Ran recipe all s (content recipe all s.name)) recipe.stages → All (Holds prescribes compiles recipe all) (assumed recipe)
    → All (λ (stage : Stage). FollowsBy prescribes recipe all stage stage.check) recipe.stages
follows-law prescribes compiles laws recipe all ok are ran lines =
    let closed : IsClosed (is_trusted recipe) recipe = λ k d less was _. needed-each recipe k d less was in
    let both = sound-law prescribes compiles laws (is_trusted recipe) recipe all ok are ran closed lines in
    λ k d less. follows-stage prescribes compiles laws (is_trusted recipe) recipe all (get_or recipe.stages k d) ((both k d less).0) (needed-each recipe k d less) ((both k d less).1)
