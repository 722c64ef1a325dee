-- Tests that decide, put together of tests of the parts.
use Rattle.std.proofs.Common.{◌≡◌, ℕ, ◌≤◌, Bool, true, false, true≢false, Option, None, Some, is_none, List, refl, All, sym}
use Rattle.std.specs.Prelude.{◌&&◌, if◌then◌else◌, nat_le}
use Rattle.std.specs.Bool.{Decides}
use Rattle.std.specs.List.{list_all}
use Rattle.std.proofs.lemmas.Bool.{leb-true, le-leb}
use Rattle.std.proofs.lemmas.Bool.Decides.{Decides-and, Decides-by_and}

pub both : {p q : Bool} {P Q : Type 0} → Decides p P → Decides q Q → Decides (p && q) (P × Q)
both {p} {q} first second = Decides-and p q first second

-- a test is what it says
pub is_test : (b : Bool) → Decides b (b ≡ true)
is_test b = (λ t. t, λ t. t)

pub is_at_most : (a b : ℕ) → Decides (nat_le a b) (a ≤ b)
is_at_most a b = (leb-true a b, le-leb a b)

pub has_none : {A : Type 0} (o : Option A) → Decides (is_none o) (o ≡ None)
has_none None = (λ t. refl, λ e. refl)
has_none (Some x) = (λ t. absurd (true≢false (sym t)), λ e. cc)

pub are_all : {A : Type 0} {p : A → Bool} {P : A → Type 0} → ((x : A) → Decides (p x) (P x)) → (xs : List A) → Decides (list_all p xs) (All P xs)
are_all {p = p} {P = P} each xs = Decides-by_and p P (list_all p) each refl (λ x xs. refl) xs

-- one of two values, by what is decided
pub chosen : {X P : Type 0} (b : Bool) → Decides b P → (x y : X) → P → (if b then x else y) ≡ x
chosen b decides x y p = rw (decides.1 p) refl

pub passed : {X P : Type 0} (b : Bool) → Decides b P → (x y : X) → ¬ P → (if b then x else y) ≡ y
passed true decides x y not = absurd (not (decides.0 refl))
passed false decides x y not = refl

pub by_case : {X P : Type 0} (F : X → Type 0) (b : Bool) → Decides b P → (x y : X) → (P → F x) → (¬ P → F y) → F (if b then x else y)
by_case F true decides x y f g = f (decides.0 refl)
by_case F false decides x y f g = g (λ p. true≢false (sym (decides.1 p)))
