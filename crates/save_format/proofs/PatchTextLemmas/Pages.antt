-- The changes of pages against a base: what they make of the base, and that they say the pages.
use Rattle.std.proofs.Common.{◌≡◌, ℕ, ◌+◌, ◌^◌, ◌<◌, ◌≤◌, Bool, true, false, cond, not, ◌&&◌, nat_eq, IsTrue, is_some, Option, Some, None, List, [], ◌∷◌, length, option_map, refl, sym, ap, subst, ◌∙◌, arith}
use Rattle.std.specs.Cmp.Lexicographic.{same_text, nat_list_eq_equiv}
use Rattle.std.proofs.lemmas.Option.{none-some, same_Some}
use Rattle.save_format.specs.ByteFields.Spelling.{InTurn}
use Rattle.save_format.specs.StateText.StateText.{PageText, after_page, is_page}
use Rattle.save_format.specs.StateText.Encoded.{IsPage}
use Rattle.save_format.specs.PatchText.Inside.Walking.{Rises}
use Rattle.save_format.specs.PatchText.Numbered.{items_from, item_numbered}
use Rattle.save_format.specs.PatchText.PatchText.{PageChange, after_change, changed_pages, bytes_changed_by, is_new, page_in, page_of, equal_contents}
use Rattle.save_format.specs.PatchText.Encoded.{page_change_of, page_changes}
use Rattle.save_format.proofs.PatchTextLemmas.Rising.{has_number, item_at, items_again, items_fit}

-- ---- the same, or not

pub same_self : (known : Option (List ℕ)) → equal_contents known known ≡ true
same_self None = refl
same_self (Some known) = nat_list_eq_equiv.refl known

pub same_is : (known found : Option (List ℕ)) → equal_contents known found ≡ true → known ≡ found
same_is None None e = refl
same_is None (Some found) e = absurd cc
same_is (Some known) None e = absurd cc
same_is (Some known) (Some found) e = ap Some (same_text known found (sym e))

-- ---- what stands at a number

abbrev pub page_number : PageText → ℕ
page_number page = page.number

abbrev pub change_number : PageChange → ℕ
change_number change = change.number

in_turn_rises : {A : Type 0} (F : ℕ → A → Type 0) (of : A → ℕ) → ((low : ℕ) (x : A) → F low x → low ≤ of x) → (least : ℕ) (xs : List A) → InTurn F (λ x. of x + 1) least xs → Rises of least xs
in_turn_rises F of from least [] turn = tt
in_turn_rises F of from least (x ∷ xs) turn = (from least x turn.0, in_turn_rises F of from (of x + 1) xs turn.1)

found_fits : {A : Type 0} (F : ℕ → A → Type 0) (of : A → ℕ) (P : A → Type 0) → ((low : ℕ) (x : A) → F low x → P x) → (least : ℕ) (xs : List A) (n : ℕ) (x : A) → InTurn F (λ x. of x + 1) least xs → item_numbered of xs n ≡ Some x → P x
found_fits F of P gives least [] n x turn e = absurd (none-some x e)
found_fits {A} F of P gives least (y ∷ ys) n x turn e =
    elim (nat_eq (of y) n) as (λ b. cond b (Some y) (item_numbered of ys n) ≡ Some x → P x) [
      | true ↦ λ here. subst P (same_Some y x here) (gives least y turn.0)
      | false ↦ λ later. found_fits F of P gives (of y + 1) ys n x turn.1 later
    ] e

pub pages_rise : (least : ℕ) (pages : List PageText) → InTurn IsPage after_page least pages → Rises page_number least pages
pages_rise least pages turn = in_turn_rises IsPage page_number (λ low page f. f.from) least pages turn

-- a page that is listed, wherever
pub record IsWhole (page : PageText) : Type 0 where
  pub number : page.number < 2 ^ 32
  pub full : length page.bytes ≡ 4096
  pub some : IsTrue (is_page page.bytes)

pub page_whole : (pages : List PageText) (n : ℕ) (page : PageText) → InTurn IsPage after_page 0 pages → item_numbered page_number pages n ≡ Some page → IsWhole page
page_whole pages n page turn e = found_fits IsPage page_number IsWhole (λ low p f. record { number = f.number; full = f.full; some = f.some }) 0 pages n page turn e

pub page_again : (pages : List PageText) (n : ℕ) → page_of n (page_in pages n) ≡ item_numbered page_number pages n
page_again pages n = by (item_numbered page_number pages n) refl
  where
    by : (o : Option PageText) → item_numbered page_number pages n ≡ o → page_of n (option_map (λ page. page.bytes) o) ≡ o
    by None e = refl
    by (Some page) e = let is : page.number ≡ n = has_number page_number pages n page e in λ i. Some (record { number = sym is i; bytes = page.bytes })

-- what a base has at a number is a whole page
pub known_whole : (pages : List PageText) (n : ℕ) (bytes : List ℕ) → InTurn IsPage after_page 0 pages → page_in pages n ≡ Some bytes → (length bytes ≡ 4096) × IsTrue (is_page bytes)
known_whole pages n bytes turn = by (item_numbered page_number pages n) refl
  where
    by : (o : Option PageText) → item_numbered page_number pages n ≡ o → option_map (λ page. page.bytes) o ≡ Some bytes → (length bytes ≡ 4096) × IsTrue (is_page bytes)
    by None e is = absurd (none-some bytes is)
    by (Some page) e is =
        let whole = page_whole pages n page turn e in
        let here : page.bytes ≡ bytes = same_Some page.bytes bytes is in
        (subst (λ (v : List ℕ). length v ≡ 4096) here whole.full, subst (λ (v : List ℕ). IsTrue (is_page v)) here whole.some)

-- ---- changes

pub change_placed : (n : ℕ) (known found : Option (List ℕ)) (change : PageChange) → page_change_of n known found ≡ Some change → (change.number ≡ n) × (change.bytes ≡ found) × (equal_contents known found ≡ false)
change_placed n known found change = by (equal_contents known found) refl
  where
    by : (b : Bool) → equal_contents known found ≡ b → cond b None (Some (record { number = n; bytes = found })) ≡ Some change → (change.number ≡ n) × (change.bytes ≡ found) × (equal_contents known found ≡ false)
    by true was e = absurd (none-some change e)
    by false was e =
        let is : record { number = n; bytes = found } ≡ change = same_Some (record { number = n; bytes = found }) change e in
        (ap change_number (sym is), ap (λ (c : PageChange). c.bytes) (sym is), was)

changed_again : (n : ℕ) (known found : Option (List ℕ)) → bytes_changed_by known (page_change_of n known found) ≡ found
changed_again n known found = by (equal_contents known found) refl
  where
    by : (b : Bool) → equal_contents known found ≡ b → bytes_changed_by known (cond b None (Some (record { number = n; bytes = found }))) ≡ found
    by true was = same_is known found was
    by false was = refl

-- what a change says relative to what the base has at its number
abbrev pub IsNew : Option (List ℕ) → Option (List ℕ) → Type 0
IsNew known None = is_some known ≡ true
IsNew known (Some found) = (length found ≡ 4096) × ((is_page found && is_new known found) ≡ true)

pub record IsChange (base : List PageText) (least : ℕ) (change : PageChange) : Type 0 where
  pub from : least ≤ change.number
  pub number : change.number < 2 ^ 32
  pub new : IsNew (page_in base change.number) change.bytes

both_true : (a b : Bool) → (a && b) ≡ true → (a ≡ true) × (b ≡ true)
both_true true true e = (refl, refl)
both_true true false e = absurd cc
both_true false true e = absurd cc
both_true false false e = absurd cc

and_true : (a b : Bool) → a ≡ true → b ≡ true → (a && b) ≡ true
and_true true true e f = refl
and_true true false e f = absurd cc
and_true false true e f = absurd cc
and_true false false e f = absurd cc

not_true : (b : Bool) → not b ≡ true → b ≡ false
not_true true e = absurd cc
not_true false e = refl

pub new_differs : (known found : Option (List ℕ)) → IsNew known found → equal_contents known found ≡ false
new_differs None None new = absurd cc
new_differs (Some known) None new = refl
new_differs known (Some found) new = not_true (equal_contents known (Some found)) (both_true (is_page found) (is_new known found) new.1).1

pub is_new_by : (known found : Option (List ℕ)) → ((bytes : List ℕ) → found ≡ Some bytes → (length bytes ≡ 4096) × IsTrue (is_page bytes)) → equal_contents known found ≡ false → IsNew known found
is_new_by None None whole e = absurd cc
is_new_by (Some known) None whole e = refl
is_new_by known (Some found) whole e =
    let w = whole found refl in
    (w.0, and_true (is_page found) (is_new known found) w.1 (ap not e))

changes_placed : (base pages : List PageText) (n : ℕ) (change : PageChange) → page_change_of n (page_in base n) (page_in pages n) ≡ Some change → change.number ≡ n
changes_placed base pages n change e = (change_placed n (page_in base n) (page_in pages n) change e).0

page_placed : (n : ℕ) (found : Option (List ℕ)) (page : PageText) → page_of n found ≡ Some page → (page.number ≡ n) × (found ≡ Some page.bytes)
page_placed n None page e = absurd (none-some page e)
page_placed n (Some bytes) page e =
    let is : record { number = n; bytes = bytes } ≡ page = same_Some (record { number = n; bytes = bytes }) page e in
    (ap page_number (sym is), ap (λ (p : PageText). Some p.bytes) is)

-- the changes of pages that are in turn are in turn, and each is new
pub changes_fit : (base pages : List PageText) → InTurn IsPage after_page 0 pages → InTurn (IsChange base) after_change 0 (page_changes base pages)
unfolding page_changes
changes_fit base pages turn =
    items_fit change_number after_change (λ n. page_change_of n (page_in base n) (page_in pages n)) (λ n c e. ap (λ (v : ℕ). v + 1) (changes_placed base pages n c e))
    (2 ^ 32) 0 0 (2 ^ 32) (omega arith) (omega arith) fits
  where
    fits : (low n : ℕ) (c : PageChange) → low ≤ n → n < 2 ^ 32 → page_change_of n (page_in base n) (page_in pages n) ≡ Some c → IsChange base low c
    fits low n c le lt e =
        let p = change_placed n (page_in base n) (page_in pages n) c e in
        let new : IsNew (page_in base n) (page_in pages n) = is_new_by (page_in base n) (page_in pages n) (λ bytes is. known_whole pages n bytes turn is) p.2 in
        record {
          from = omega (arith, le, p.0);
          number = omega (arith, lt, p.0);
          new = subst (λ (v : ℕ). IsNew (page_in base v) c.bytes) (sym p.0) (subst (IsNew (page_in base n)) (sym p.1) new);
        }

-- what changes make of a base, at a number
abbrev made_at : List PageText → List PageChange → ℕ → Option (List ℕ)
made_at base cs n = bytes_changed_by (page_in base n) (item_numbered change_number cs n)

made_placed : (base : List PageText) (cs : List PageChange) (n : ℕ) (page : PageText) → page_of n (made_at base cs n) ≡ Some page → page.number ≡ n
made_placed base cs n page e = (page_placed n (made_at base cs n) page e).0

pub changed_fits : (base : List PageText) (cs : List PageChange) → InTurn IsPage after_page 0 base → InTurn (IsChange base) after_change 0 cs → InTurn IsPage after_page 0 (changed_pages base cs)
unfolding changed_pages
changed_fits base cs turn fit =
    items_fit page_number after_page (λ n. page_of n (made_at base cs n)) (λ n p e. ap (λ (v : ℕ). v + 1) (made_placed base cs n p e))
    (2 ^ 32) 0 0 (2 ^ 32) (omega arith) (omega arith) fits
  where
    whole : (n : ℕ) (bytes : List ℕ) (o : Option PageChange) → item_numbered change_number cs n ≡ o → bytes_changed_by (page_in base n) o ≡ Some bytes → (length bytes ≡ 4096) × IsTrue (is_page bytes)
    whole n bytes None was e = known_whole base n bytes turn e
    whole n bytes (Some c) was e =
        let new : IsNew (page_in base c.number) c.bytes = found_fits (IsChange base) change_number (λ c. IsNew (page_in base c.number) c.bytes) (λ low c f. f.new) 0 cs n c fit was in
        let w : (length bytes ≡ 4096) × ((is_page bytes && is_new (page_in base c.number) bytes) ≡ true) = subst (IsNew (page_in base c.number)) e new in
        (w.0, (both_true (is_page bytes) (is_new (page_in base c.number) bytes) w.1).0)

    fits : (low n : ℕ) (p : PageText) → low ≤ n → n < 2 ^ 32 → page_of n (made_at base cs n) ≡ Some p → IsPage low p
    fits low n p le lt e =
        let q = page_placed n (made_at base cs n) p e in
        let w = whole n p.bytes (item_numbered change_number cs n) refl q.1 in
        record { from = omega (arith, le, q.0); number = omega (arith, lt, q.0); full = w.0; some = w.1 }

-- the base with the changes of some pages has those pages
pub changed_changes : (base pages : List PageText) → InTurn IsPage after_page 0 pages → changed_pages base (page_changes base pages) ≡ pages
unfolding page_changes changed_pages
changed_changes base pages turn =
    items_again page_number (λ n. page_of n (made_at base cs n)) (made_placed base cs) pages (2 ^ 32) (pages_rise 0 pages turn) low at
  where
    cs : List PageChange
    cs = items_from (λ n. page_change_of n (page_in base n) (page_in pages n)) 0 (2 ^ 32)

    low : (n : ℕ) (p : PageText) → item_numbered page_number pages n ≡ Some p → n < 2 ^ 32
    low n p e = omega (arith, has_number page_number pages n p e, (page_whole pages n p turn e).number)

    at : (n : ℕ) → n < 2 ^ 32 → page_of n (made_at base cs n) ≡ item_numbered page_number pages n
    at n lt =
        let here : item_numbered change_number cs n ≡ page_change_of n (page_in base n) (page_in pages n) = item_at change_number (λ n. page_change_of n (page_in base n) (page_in pages n)) (changes_placed base pages) (2 ^ 32) 0 n (omega arith) (omega (arith, lt)) in
        ap (λ (o : Option PageChange). page_of n (bytes_changed_by (page_in base n) o)) here ∙ ap (page_of n) (changed_again n (page_in base n) (page_in pages n)) ∙ page_again pages n

-- changes that fit are those of what they make of the base
pub changes_changed : (base : List PageText) (cs : List PageChange) → InTurn (IsChange base) after_change 0 cs → page_changes base (changed_pages base cs) ≡ cs
unfolding page_changes changed_pages
changes_changed base cs fit =
    items_again change_number (λ n. page_change_of n (page_in base n) (page_in made n)) (λ n c e. (change_placed n (page_in base n) (page_in made n) c e).0) cs (2 ^ 32)
    (in_turn_rises (IsChange base) change_number (λ low c f. f.from) 0 cs fit) low at
  where
    made : List PageText
    made = items_from (λ n. page_of n (made_at base cs n)) 0 (2 ^ 32)

    low : (n : ℕ) (c : PageChange) → item_numbered change_number cs n ≡ Some c → n < 2 ^ 32
    low n c e = omega (arith, has_number change_number cs n c e, found_fits (IsChange base) change_number (λ c. c.number < 2 ^ 32) (λ low c f. f.number) 0 cs n c fit e)

    again : (n : ℕ) (o : Option (List ℕ)) → option_map (λ page. page.bytes) (page_of n o) ≡ o
    again n None = refl
    again n (Some bytes) = refl

    in_made : (n : ℕ) → n < 2 ^ 32 → page_in made n ≡ made_at base cs n
    in_made n lt = ap (option_map (λ (page : PageText). page.bytes)) (item_at page_number (λ n. page_of n (made_at base cs n)) (made_placed base cs) (2 ^ 32) 0 n (omega arith) (omega (arith, lt))) ∙ again n (made_at base cs n)

    by : (n : ℕ) (o : Option PageChange) → item_numbered change_number cs n ≡ o → page_change_of n (page_in base n) (bytes_changed_by (page_in base n) o) ≡ o
    by n None e = rw (same_self (page_in base n)) refl
    by n (Some c) e =
        let new : IsNew (page_in base c.number) c.bytes = found_fits (IsChange base) change_number (λ c. IsNew (page_in base c.number) c.bytes) (λ low c f. f.new) 0 cs n c fit e in
        let is : c.number ≡ n = has_number change_number cs n c e in
        let other : equal_contents (page_in base n) c.bytes ≡ false = ap (λ (v : ℕ). equal_contents (page_in base v) c.bytes) (sym is) ∙ new_differs (page_in base c.number) c.bytes new in
        rw other (λ i. Some (record { number = sym is i; bytes = c.bytes }))

    at : (n : ℕ) → n < 2 ^ 32 → page_change_of n (page_in base n) (page_in made n) ≡ item_numbered change_number cs n
    at n lt = ap (page_change_of n (page_in base n)) (in_made n lt) ∙ by n (item_numbered change_number cs n) refl
