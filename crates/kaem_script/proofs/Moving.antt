-- Files that lose the bytes of one name after the other.
use Rattle.std.proofs.Common.{◌≡◌, ℕ, Bool, true, false, cond, Option, None, Some, List, [], ◌∷◌, find, unwrap_or, option_and_then, refl, sym, ap, ◌∙◌, subst}
use Rattle.std.specs.Ordering.{is_lt}
use Rattle.std.specs.declared.cmp.Ordering.{Ordering}
use Rattle.std.specs.declared.cmp.Ordering.TheVariants.{Less, Equal, Greater}
use Rattle.std.specs.Cmp.{tied_itself}
use Rattle.std.specs.Cmp.Lexicographic.{nat_list_cmp_total}
use Rattle.std.specs.FinMap as fin
use Rattle.std.proofs.lemmas.Bool.{ne_eqb}
use Rattle.mem_files.specs.Calls.{content_at, drained, drained_at, is_after, name_after}
use Rattle.mem_files.specs.Names.{bytes_cmp}
use Rattle.mem_files.specs.Sound.{IsSound}
use Rattle.mem_files.specs.World.{World}
use Rattle.mem_files.proofs.Maps.{get-insert_nat}

-- the names are still there, and the names that come after the last one still have their bytes
pub record Moving (w : World) (last : Option (List ℕ)) (now : World) : Type 0 where
  pub names : now.names ≡ w.names
  pub same : (name : List ℕ) → is_after last name ≡ true → content_at now name ≡ content_at w name

pub moving-begins : (w : World) → Moving w None w
moving-begins w = record { names = refl; same = λ name after. refl }

less : (o : Ordering) → is_lt o ≡ true → o ≡ Less
less Less p = refl
less Equal p = absurd cc
less Greater p = absurd cc

after-later : (last : Option (List ℕ)) (name later : List ℕ) → is_after last name ≡ true → is_lt (bytes_cmp name later) ≡ true → is_after last later ≡ true
after-later None name later p q = refl
after-later (Some given) name later p q = ap is_lt (nat_list_cmp_total.trans given name later (less _ p) (less _ q))

not-before-itself : (name : List ℕ) → is_lt (bytes_cmp name name) ≡ true → ⊥
not-before-itself name before =
    let tied : bytes_cmp name name ≡ Equal = tied_itself nat_list_cmp_total name in
    let gone : is_lt Equal ≡ true = rw tied at before in
    absurd cc

passes : (test : List ℕ → Bool) (names : List (List ℕ)) (name : List ℕ) → find test names ≡ Some name → test name ≡ true
passes test [] name found = absurd cc
passes test (first ∷ names) name found = at (test first) refl (passes test names name) found
  where
    at : (b : Bool) → test first ≡ b → (find test names ≡ Some name → test name ≡ true) → cond b (Some first) (find test names) ≡ Some name → test name ≡ true
    at true is later here = (let same : first ≡ name = cc in ap test (sym same) ∙ is)
    at false is later here = later here

-- the name that comes next is that of the files as they were, and so are its bytes
pub moving-name : (w now : World) (last next : Option (List ℕ)) → Moving w last now → next ≡ name_after now last → name_after w last ≡ next
moving-name w now last next moving is = ap (λ names. find (is_after last) (fin.keys names)) (sym moving.names) ∙ sym is

pub moving-content : (w now : World) (last : Option (List ℕ)) (name content : List ℕ) → Moving w last now → name_after w last ≡ Some name
    → content ≡ unwrap_or (content_at now name) [] → content ≡ unwrap_or (content_at w name) []
moving-content w now last name content moving found is =
    is ∙ ap (λ (o : Option (List ℕ)). unwrap_or o []) (moving.same name (passes (is_after last) (fin.keys w.names) name found))

drained-names : (w : World) (number : Option ℕ) → (drained_at w number).names ≡ w.names
drained-names w None = refl
drained-names w (Some number) = refl

-- a name that comes later has another file
other-content : (w now : World) (name later : List ℕ) → IsSound w → now.names ≡ w.names → is_lt (bytes_cmp name later) ≡ true
    → content_at (drained now name) later ≡ content_at now later
other-content w now name later sound names before = at (fin.get now.names name) refl
  where
    here : (number other : ℕ) → fin.get now.names name ≡ Some number → fin.get now.names later ≡ Some other → other ≡ number → ⊥
    here number other is there same =
        let one : fin.get w.names name ≡ Some number = ap (λ m. fin.get m name) (sym names) ∙ is in
        let two : fin.get w.names later ≡ Some number = ap (λ m. fin.get m later) (sym names) ∙ there ∙ ap Some same in
        let equal : name ≡ later = sound.joined.named_once name later number one two in
        not-before-itself later (subst (λ n. is_lt (bytes_cmp n later) ≡ true) equal before)

    at_later : (number : ℕ) → fin.get now.names name ≡ Some number → (found : Option ℕ) → fin.get now.names later ≡ found
        → option_and_then (fin.get (fin.insert now.files number [])) found ≡ option_and_then (fin.get now.files) found
    at_later number is None there = refl
    at_later number is (Some other) there =
        get-insert_nat now.files number [] other ∙ ap (λ b. cond b (Some []) (fin.get now.files other)) (ne_eqb other number (here number other is there))

    at : (number : Option ℕ) → fin.get now.names name ≡ number → content_at (drained_at now number) later ≡ content_at now later
    at None is = refl
    at (Some number) is = at_later number is (fin.get now.names later) refl

pub moving-goes-on : (w now new : World) (last : Option (List ℕ)) (name : List ℕ) → IsSound w → Moving w last now → name_after w last ≡ Some name
    → new ≡ drained now name → Moving w (Some name) new
moving-goes-on w now new last name sound moving found is = record {
  names = ap (λ (x : World). x.names) is ∙ drained-names now (fin.get now.names name) ∙ moving.names;
  same = λ later before.
      ap (λ x. content_at x later) is ∙ other-content w now name later sound moving.names before
      ∙ moving.same later (after-later last name later (passes (is_after last) (fin.keys w.names) name found) before);
}
