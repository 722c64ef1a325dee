-- Reading and writing are inverse: of a word, and of two texts with a blank between them.
use Rattle.std.proofs.Common.{◌≡◌, ℕ, List, ◌∷◌, ◌++◌, Option, Some, refl, ap, subst, ◌∙◌}
use Rattle.report.specs.Inside.Cuts.{◌>>=◌, cut_at}
use Rattle.report.proofs.Cuts.{Without, Without-append, cut_at-joined, cut_at-takes, bind_some, same_some}

-- what is written for a value is read as it, and what is read is what is written; there is no LF in it
pub record Encodes {A : Type 0} (Is : A → Type 0) (text : A → List ℕ) (read : List ℕ → Option A) : Type 0 where
  pub again : (a : A) → Is a → read (text a) ≡ Some a
  pub takes : (word : List ℕ) (a : A) → read word ≡ Some a → Is a × (word ≡ text a)
  pub no_feed : (a : A) → Is a → Without 10 (text a)

-- there is no blank in it
pub record IsWord {A : Type 0} (Is : A → Type 0) (text : A → List ℕ) : Type 0 where
  pub no_blank : (a : A) → Is a → Without 32 (text a)

-- two texts, read
pub record Two {A B C : Type 0} (IsA : A → Type 0) (ta : A → List ℕ) (IsB : B → Type 0) (tb : B → List ℕ) (make : A → B → C) (text : List ℕ) (c : C) : Type 0 where
  pub first : A
  pub second : B
  pub is_first : IsA first
  pub is_second : IsB second
  pub encoded : text ≡ ta first ++ 32 ∷ tb second
  pub is : make first second ≡ c

pub two_again : {A B C : Type 0} {IsA : A → Type 0} {ta : A → List ℕ} {ra : List ℕ → Option A} {IsB : B → Type 0} {tb : B → List ℕ} {rb : List ℕ → Option B}
    → Encodes IsA ta ra → IsWord IsA ta → Encodes IsB tb rb → (make : A → B → C) (a : A) (b : B) → IsA a → IsB b
    → (cut_at 32 (ta a ++ 32 ∷ tb b) >>= λ cut. ra cut.0 >>= λ x. rb cut.1 >>= λ y. Some (make x y)) ≡ Some (make a b)
two_again {ta = ta} {tb = tb} first word second make a b is_a is_b =
    rw (cut_at-joined 32 (ta a) (tb b) (word.no_blank a is_a), first.again a is_a, second.again b is_b) refl

pub two_takes : {A B C : Type 0} {IsA : A → Type 0} {ta : A → List ℕ} {ra : List ℕ → Option A} {IsB : B → Type 0} {tb : B → List ℕ} {rb : List ℕ → Option B}
    → Encodes IsA ta ra → Encodes IsB tb rb → (make : A → B → C) (text : List ℕ) (c : C)
    → (cut_at 32 text >>= λ cut. ra cut.0 >>= λ x. rb cut.1 >>= λ y. Some (make x y)) ≡ Some c → Two IsA ta IsB tb make text c
two_takes {ta = ta} {ra = ra} {tb = tb} {rb = rb} first second make text c e =
    let x = bind_some (cut_at 32 text) (λ cut. ra cut.0 >>= λ x. rb cut.1 >>= λ y. Some (make x y)) c e in
    let y = bind_some (ra x.0.0) (λ a. rb x.0.1 >>= λ b. Some (make a b)) c x.2 in
    let z = bind_some (rb x.0.1) (λ b. Some (make y.0 b)) c y.2 in
    let a = first.takes x.0.0 y.0 y.1 in
    let b = second.takes x.0.1 z.0 z.1 in
    record {
      first = y.0;
      second = z.0;
      is_first = a.0;
      is_second = b.0;
      encoded = cut_at-takes 32 text x.0.0 x.0.1 x.1 ∙ ap (λ (t : List ℕ). t ++ 32 ∷ x.0.1) a.1 ∙ ap (λ (t : List ℕ). ta y.0 ++ 32 ∷ t) b.1;
      is = same_some (make y.0 z.0) c z.2;
    }

-- two texts with a blank between them, where a value has a part for each
pub two_encode : {A B C : Type 0} {IsA : A → Type 0} {ta : A → List ℕ} {ra : List ℕ → Option A} {IsB : B → Type 0} {tb : B → List ℕ} {rb : List ℕ → Option B}
    → Encodes IsA ta ra → IsWord IsA ta → Encodes IsB tb rb
    → (Is : C → Type 0) (make : A → B → C) (first : C → A) (second : C → B)
    → ((c : C) → make (first c) (second c) ≡ c) → ((a : A) (b : B) → first (make a b) ≡ a) → ((a : A) (b : B) → second (make a b) ≡ b)
    → ((a : A) (b : B) → IsA a → IsB b → Is (make a b)) → ((c : C) → Is c → IsA (first c) × IsB (second c))
    → Encodes Is (λ c. ta (first c) ++ 32 ∷ tb (second c)) (λ text. cut_at 32 text >>= λ cut. ra cut.0 >>= λ x. rb cut.1 >>= λ y. Some (make x y))
two_encode {ta = ta} {tb = tb} a word b Is make first second made first_is second_is joins splits = record {
  again = λ c is. (let parts = splits c is in two_again a word b make (first c) (second c) parts.0 parts.1 ∙ ap Some (made c));
  takes = λ text c e. (
      let t = two_takes a b make text c e in
      let P = λ (x : _). Is x × (text ≡ ta (first x) ++ 32 ∷ tb (second x)) in
      subst P t.is (joins t.first t.second t.is_first t.is_second, rw (first_is t.first t.second, second_is t.first t.second) t.encoded));
  no_feed = λ c is. (
      let parts = splits c is in
      Without-append 10 (ta (first c)) (32 ∷ tb (second c)) (a.no_feed (first c) parts.0) (refl, b.no_feed (second c) parts.1));
}
