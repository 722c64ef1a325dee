-- A name that stands for something among some stages stands for the same among more of them.
use Rattle.std.proofs.Common.{◌≡◌, ℕ, zero, suc, ◌+◌, ◌<◌, Bool, true, false, cond, ltb, not, List, [], ◌∷◌, length, take, Option, Some, None, option_map, refl, ap, arith}
use Rattle.std.specs.Prelude.{bytes_eq, is_some, IsSome}
use Rattle.std.specs.List.{position, position_or_len}
use Rattle.std.specs.Option.{option_or}
use Rattle.std.proofs.lemmas.Bool.{lt-ltb, ltb-true}
use Rattle.recipe.specs.declared.parts.Content.TheVariants as content
use Rattle.recipe.specs.declared.parts.Input.{Input}
use Rattle.recipe.specs.declared.parts.Stage.{Stage}
use Rattle.recipe.specs.Lookups.{input_at, stage_at, content_named}

first_of : (here : Bool) (n m k l : ℕ) → cond (not here) (1 + n) 0 < suc k → (n < k → (m ≡ n) × (m < l)) → (cond (not here) (1 + m) 0 ≡ cond (not here) (1 + n) 0) × (cond (not here) (1 + m) 0 < suc l)
first_of true n m k l within more = (refl, omega arith)
first_of false n m k l within more = let one = more (omega (arith, within)) in (omega (arith, one.0), omega (arith, one.1))

-- the first place in a front part is the first place
position_kept : {A : Type 0} (p : A → Bool) (xs : List A) (i : ℕ) → position_or_len p (take i xs) < length (take i xs)
    → (position_or_len p xs ≡ position_or_len p (take i xs)) × (position_or_len p xs < length xs)
position_kept p [] zero within = absurd (omega (arith, within))
position_kept p [] (suc i) within = absurd (omega (arith, within))
position_kept p (x ∷ xs) zero within = absurd (omega (arith, within))
position_kept p (x ∷ xs) (suc i) within =
    first_of (p x) (position_or_len p (take i xs)) (position_or_len p xs) (length (take i xs)) (length xs) within (position_kept p xs i)

chosen : (test : Bool) (n : ℕ) → is_some (cond test (Some n) None) ≡ true → test ≡ true
chosen true n is = refl
chosen false n is = absurd cc

same_found : (m n k l : ℕ) → m ≡ n → n < k → m < l → cond (ltb m l) (Some m) None ≡ cond (ltb n k) (Some n) None
same_found m n k l same few many = rw (lt-ltb n k few, lt-ltb m l many, same) refl

position_more : {A : Type 0} (p : A → Bool) (xs : List A) (i : ℕ) → IsSome (position p (take i xs)) → position p xs ≡ position p (take i xs)
position_more p xs i is =
    let few = ltb-true (position_or_len p (take i xs)) (length (take i xs)) (chosen (ltb (position_or_len p (take i xs)) (length (take i xs))) (position_or_len p (take i xs)) is) in
    let many = position_kept p xs i few in
    same_found (position_or_len p xs) (position_or_len p (take i xs)) (length (take i xs)) (length xs) many.0 few many.1

-- what stands for the name in an input or a front part of the stages
either_more : (input : Option ℕ) (few many : Option ℕ) → (IsSome few → many ≡ few) → IsSome (option_or (option_map content.Input input) (option_map content.Stage few))
    → option_or (option_map content.Input input) (option_map content.Stage many) ≡ option_or (option_map content.Input input) (option_map content.Stage few)
either_more (Some index) few many more is = refl
either_more None (Some index) many more is = ap (option_map content.Stage) (more refl)
either_more None None many more is = absurd cc

pub content_more : (inputs : List Input) (stages : List Stage) (i : ℕ) (name : List ℕ) → IsSome (content_named inputs (take i stages) name)
    → content_named inputs stages name ≡ content_named inputs (take i stages) name
unfolding content_named
content_more inputs stages i name is =
    either_more (input_at inputs name) (stage_at (take i stages) name) (stage_at stages name) (position_more (λ stage. bytes_eq stage.name name) stages i) is
