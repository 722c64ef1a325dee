-- What files that keep their rules leave.
use Rattle.std.proofs.Common.{◌≡◌, ℕ, ◌<◌, ◌≤◌, Bool, true, false, cond, not, ◌&&◌, eqb, T, IsTrue, ◌==◌, List, [], ◌∷◌, length, map, get_or, sum_by, Some, None, unwrap_or, refl, sym, ap, ◌∙◌, subst, arith, zero, suc}
use Rattle.std.specs.Prelude.{All, nat_le}
use Rattle.std.specs.List.{Contains}
use Rattle.std.specs.Ordering.{eq_by_cmp, is_eq, is_lt, nat_cmp}
use Rattle.std.specs.declared.cmp.Ordering.{Ordering}
use Rattle.std.specs.declared.cmp.Ordering.TheVariants.{Less, Equal, Greater}
use Rattle.std.specs.Cmp.{tied_itself}
use Rattle.std.specs.Cmp.Lexicographic.{nat_list_cmp_total}
use Rattle.std.specs.FinMap as fin
use Rattle.std.specs.FinMap.Entries.{below_all}
use Rattle.std.proofs.lemmas.List.{length-map}
use Rattle.std.proofs.lemmas.List.Elements.{All-head, All-map, All-nil, All-tail, All-weaker}
use Rattle.std.proofs.lemmas.List.Sums.{sum_by-cons}
use Rattle.std.proofs.lemmas.Bool.{ne_eqb}
use Rattle.std.proofs.lemmas.Option.{none-some, same_Some}
use Rattle.std.proofs.lemmas.Bool.Decides.{nat_tests}
use Rattle.std.specs.List.{list_any}
use Rattle.ddc_base.specs.Limits.{most_name, most_total}
use Rattle.mem_files.specs.Names.{begins_with_dot_slash, bytes_cmp, is_file_name, is_stripped_name}
use Rattle.mem_files.specs.World.{World, content_of}
use Rattle.mem_files.specs.Calls.{content_at}
use Rattle.mem_files.specs.Sound.{IsSound}
use Rattle.mem_files.specs.Outputs.{named_content, left, OutputLocation, FirstStream, AtPath, out, IsContent, IsLeftFile, AreLeft}
use Rattle.mem_files.proofs.Directory.{equal, bytes_cmp-IsAntisymmetric}
use Rattle.mem_files.proofs.Entries.{some_of}
use Rattle.mem_files.proofs.Maps.{get-remove_nat, size_at, sum_by-remove}
use Rattle.mem_files.proofs.Totals.{size_content}

both : (a b : Bool) → T (a && b) → T a × T b
both true b h = (tt, h)
both false b h = absurd h

is_true : (b : Bool) → T b → IsTrue b
is_true true h = refl
is_true false h = absurd h

onto : {X : Type 0} (P : X → Type 0) (x : X) (xs : List X) → P x → All P xs → All P (x ∷ xs)
onto P x xs first others zero d less = first
onto P x xs first others (suc k) d less = others k d (omega arith)

-- entries that rise: a name that is found after the first one is not the first one's
untied : (o : Ordering) → T (is_lt o) → is_eq o ≡ false
untied Less h = refl
untied Equal h = absurd h
untied Greater h = absurd h

below_none : (name : List ℕ) (es : List (List ℕ × ℕ)) → T (below_all bytes_cmp name es) → fin.find bytes_cmp name es ≡ None
below_none name [] below = refl
below_none name (e ∷ es) below =
    let parts = both (is_lt (bytes_cmp name e.0)) (below_all bytes_cmp name es) below in
    ap (λ b. cond b (Some e.1) (fin.find bytes_cmp name es)) (untied (bytes_cmp name e.0) parts.0) ∙ below_none name es parts.1

found_after : (e : List ℕ × ℕ) (es : List (List ℕ × ℕ)) (name : List ℕ) (number : ℕ) → T (below_all bytes_cmp e.0 es)
    → fin.find bytes_cmp name es ≡ Some number → fin.find bytes_cmp name (e ∷ es) ≡ Some number
found_after e es name number below found = elim (eq_by_cmp bytes_cmp name e.0) as (λ b. eq_by_cmp bytes_cmp name e.0 ≡ b → cond b (Some e.1) (fin.find bytes_cmp name es) ≡ Some number) [
  | true ↦ λ tied.
      let same : name ≡ e.0 = bytes_cmp-IsAntisymmetric name e.0 (equal (bytes_cmp name e.0) tied) in
      absurd (none-some number (sym (below_none e.0 es below) ∙ ap (λ q. fin.find bytes_cmp q es) (sym same) ∙ found))
  | false ↦ λ _. found
] refl

-- what holds of every name that is found holds of every entry
all_of : (P : List ℕ × ℕ → Type 0) (es : List (List ℕ × ℕ)) → T (fin.is_sorted bytes_cmp es)
    → ((name : List ℕ) (number : ℕ) → fin.find bytes_cmp name es ≡ Some number → P (name, number)) → All P es
all_of P [] sorted each = All-nil P
all_of P (e ∷ es) sorted each =
    let parts = both (below_all bytes_cmp e.0 es) (fin.is_sorted bytes_cmp es) sorted in
    onto P e es (each e.0 e.1 (ap (λ o. cond (is_eq o) (Some e.1) (fin.find bytes_cmp e.0 es)) (tied_itself nat_list_cmp_total e.0)))
    (all_of P es parts.1 (λ name number found. each name number (found_after e es name number parts.0 found)))

pub all_names : (P : List ℕ × ℕ → Type 0) (w : World) → ((name : List ℕ) (number : ℕ) → fin.get w.names name ≡ Some number → P (name, number))
    → All P (fin.entries w.names)
all_names P w each =
    all_of P (fin.entries w.names) (fin.entries_sorted w.names) (λ name number found. each name number (fin.get-entries w.names name ∙ found))

-- contents keep their limits, and the names their order
pub content-is : (w : World) (number : ℕ) → IsSound w → IsContent (content_of w number)
content-is w number sound = elim (fin.get w.files number) as (λ o. fin.get w.files number ≡ o → IsContent (unwrap_or o [])) [
  | None ↦ λ _. record { bytes = All-nil (λ byte. byte < 256); small = omega arith }
  | Some content ↦ λ e. record { bytes = sound.within.file_bytes number content e; small = sound.within.small_files number content e }
] refl

below-named : (w : World) (name : List ℕ) (es : List (List ℕ × ℕ)) → below_all bytes_cmp name (map (named_content w) es) ≡ below_all bytes_cmp name es
below-named w name [] = refl
below-named w name (e ∷ es) = ap (λ b. is_lt (bytes_cmp name e.0) && b) (below-named w name es)

sorted-named : (w : World) (es : List (List ℕ × ℕ)) → fin.is_sorted bytes_cmp (map (named_content w) es) ≡ fin.is_sorted bytes_cmp es
sorted-named w [] = refl
sorted-named w (e ∷ es) = λ i. below-named w e.0 es i && sorted-named w es i

pub left-are : (w : World) → IsSound w → AreLeft (left w)
unfolding left
left-are w sound = record {
  few = (let few = sound.within.few_names in omega (arith, length-map (fin.entries w.names) (named_content w), fin.len-entries w.names));
  ascending = sorted-named w (fin.entries w.names) ∙ is_true _ (fin.entries_sorted w.names);
  each = All-map IsLeftFile (named_content w) (fin.entries w.names) (all_names (λ e. IsLeftFile (named_content w e)) w (λ name number is. record {
    named = sound.within.good_names name number is;
    name_bytes = sound.within.name_bytes name number is;
    content = content-is w number sound;
  }));
}

-- the file of a name
content-at : (w : World) (name : List ℕ) (number : ℕ) → IsSound w → fin.get w.names name ≡ Some number → content_at w name ≡ Some (content_of w number)
content-at w name number sound is =
    let held = some_of (fin.get w.files number) (sound.joined.held name number is) in
    rw (is, held.1) refl

pub left-found : (w : World) → IsSound w → All (λ file. out w (AtPath file.0) ≡ Some file.1) (left w)
unfolding left
left-found w sound =
    All-map (λ file. out w (AtPath file.0) ≡ Some file.1) (named_content w) (fin.entries w.names)
    (all_names (λ e. content_at w e.0 ≡ Some (content_of w e.1)) w (λ name number is. content-at w name number sound is))

found-contained : (w : World) (name : List ℕ) (number : ℕ) (es : List (List ℕ × ℕ)) → fin.find bytes_cmp name es ≡ Some number
    → Contains (map (named_content w) es) (name, content_of w number)
found-contained w name number [] found = absurd (none-some number found)
found-contained w name number (e ∷ es) found = elim (eq_by_cmp bytes_cmp name e.0) as (λ b. eq_by_cmp bytes_cmp name e.0 ≡ b → cond b (Some e.1) (fin.find bytes_cmp name es) ≡ Some number
    → Contains (map (named_content w) (e ∷ es)) (name, content_of w number)) [
      | true ↦ λ tied is.
          let same : name ≡ e.0 = bytes_cmp-IsAntisymmetric name e.0 (equal (bytes_cmp name e.0) tied) in
          (0, omega arith, λ i. (sym same i, content_of w (same_Some e.1 number is i)))
      | false ↦ λ _ is. let rest = found-contained w name number es is in (suc rest.0, omega (arith, rest.1), rest.2)
    ] refl found

pub path-left : (w : World) (path content : List ℕ) → IsSound w → out w (AtPath path) ≡ Some content → Contains (left w) (path, content)
unfolding left
path-left w path content sound is = elim (fin.get w.names path) as (λ o. fin.get w.names path ≡ o → Contains (left w) (path, content)) [
  | None ↦ λ none. absurd (none-some content ((let gone : content_at w path ≡ None = rw none refl in sym gone) ∙ is))
  | Some number ↦ λ at.
      let same : content_of w number ≡ content = same_Some (content_of w number) content (sym (content-at w path number sound at) ∙ is) in
      subst (λ c. Contains (left w) (path, c)) same (found-contained w path number (fin.entries w.names) (sym (fin.get-entries w.names path) ∙ at))
] refl

pub streams-are : (w : World) → IsSound w → IsContent w.stream1 × IsContent w.stream2
streams-are w sound =
    let within = sound.within in
    (record { bytes = within.stream1_bytes; small = within.small_stream1 }, record { bytes = within.stream2_bytes; small = within.small_stream2 })

pub output-is : (w : World) (output : OutputLocation) (content : List ℕ) → IsSound w → out w output ≡ Some content → IsContent content
output-is w FirstStream content sound is = subst IsContent (same_Some w.stream1 content is) (streams-are w sound).0
output-is w (AtPath path) content sound is = elim (fin.get w.names path) as (λ o. fin.get w.names path ≡ o → IsContent content) [
  | None ↦ λ none. absurd (none-some content ((let gone : content_at w path ≡ None = rw none refl in sym gone) ∙ is))
  | Some number ↦ λ at. subst IsContent (same_Some (content_of w number) content (sym (content-at w path number sound at) ∙ is)) (content-is w number sound)
] refl

-- how long a name is
ends : (a b : Bool) → (a && b) ≡ true → (a ≡ true) × (b ≡ true)
ends true b h = (refl, h)
ends false b h = absurd cc

long : (name : List ℕ) → IsTrue (is_stripped_name name) → (1 ≤ length name) × (length name ≤ most_name)
long name is =
    let named : is_file_name name ≡ true = (ends (is_file_name name) (not (begins_with_dot_slash name)) is).0 in
    let sizes = (ends (nat_le 1 (length name) && nat_le (length name) most_name) (not (list_any (λ byte. eqb byte 0) name)) named).0 in
    let each = ends (nat_le 1 (length name)) (nat_le (length name) most_name) sizes in
    (grind (arith, nat_tests, each.0), grind (arith, nat_tests, each.1))

pub names-long : (w : World) → IsSound w → All (λ file. (1 ≤ length file.0) × (length file.0 ≤ most_name)) (left w)
names-long w sound =
    All-weaker IsLeftFile (λ file. (1 ≤ length file.0) × (length file.0 ≤ most_name)) (λ file is. long file.0 is.named) (left w) (left-are w sound).each

-- ---- what names hold is no more than all files have

-- files of which no two have one number
abbrev AreApart : List (List ℕ × ℕ) → Type 0
AreApart [] = Unit {0}
AreApart (e ∷ es) = All (λ f. f.1 ≡ e.1 → ⊥) es × AreApart es

above : (name : List ℕ) (es : List (List ℕ × ℕ)) → T (below_all bytes_cmp name es) → All (λ f. T (is_lt (bytes_cmp name f.0))) es
above name [] below = All-nil (λ f. T (is_lt (bytes_cmp name f.0)))
above name (e ∷ es) below =
    let parts = both (is_lt (bytes_cmp name e.0)) (below_all bytes_cmp name es) below in
    onto (λ f. T (is_lt (bytes_cmp name f.0))) e es parts.0 (above name es parts.1)

not-below-itself : (name : List ℕ) → T (is_lt (bytes_cmp name name)) → ⊥
not-below-itself name less = subst (λ o. T (is_lt o)) (tied_itself nat_list_cmp_total name) less

apart : (w : World) → IsSound w → (es : List (List ℕ × ℕ)) → T (fin.is_sorted bytes_cmp es) → All (λ e. fin.get w.names e.0 ≡ Some e.1) es → AreApart es
apart w sound [] sorted each = tt
apart w sound (e ∷ es) sorted each =
    let parts = both (below_all bytes_cmp e.0 es) (fin.is_sorted bytes_cmp es) sorted in
    let here = All-head (λ f. fin.get w.names f.0 ≡ Some f.1) e es each in
    let others = All-tail (λ f. fin.get w.names f.0 ≡ Some f.1) e es each in
    let higher = above e.0 es parts.0 in (
      (λ k d less same.
          let f = get_or es k d in
          let one : e.0 ≡ f.0 = sound.joined.named_once e.0 f.0 e.1 here (others k d less ∙ ap Some same) in
          not-below-itself f.0 (subst (λ name. T (is_lt (bytes_cmp name f.0))) one (higher k d less))),
      apart w sound es parts.1 others,
    )

abbrev size_in : fin.FinMap nat_cmp (List ℕ) → List ℕ × ℕ → ℕ
size_in files e = size_at length (fin.get files e.1)

size-apart : (files : fin.FinMap nat_cmp (List ℕ)) (number : ℕ) (es : List (List ℕ × ℕ)) → All (λ f. f.1 ≡ number → ⊥) es
    → sum_by (size_in (fin.remove files number)) es ≡ sum_by (size_in files) es
size-apart files number [] others = refl
size-apart files number (e ∷ es) others =
    let other : (e.1 == number) ≡ false = ne_eqb _ _ (All-head (λ f. f.1 ≡ number → ⊥) e es others) in
    let same : fin.get (fin.remove files number) e.1 ≡ fin.get files e.1 = get-remove_nat files number e.1 ∙ ap (λ b. cond b None (fin.get files e.1)) other in
    let size : size_in (fin.remove files number) e ≡ size_in files e = ap (size_at length) same in
    let rest = size-apart files number es (All-tail (λ f. f.1 ≡ number → ⊥) e es others) in
    omega (arith, size, rest, sum_by-cons (size_in (fin.remove files number)) e es, sum_by-cons (size_in files) e es)

size-within : (files : fin.FinMap nat_cmp (List ℕ)) (es : List (List ℕ × ℕ)) → AreApart es → sum_by (size_in files) es ≤ sum_by length (fin.values files)
size-within files [] separate = omega arith
size-within files (e ∷ es) separate =
    let rest = size-within (fin.remove files e.1) es separate.1 in
    let same = size-apart files e.1 es separate.0 in
    omega (arith, rest, same, sum_by-cons (size_in files) e es, sum_by-remove length files e.1)

size-named : (w : World) (es : List (List ℕ × ℕ)) → sum_by (λ file. length file.1) (map (named_content w) es) ≡ sum_by (size_in w.files) es
size-named w [] = refl
size-named w (e ∷ es) =
    omega (arith, size-named w es, sum_by-cons (λ (file : List ℕ × List ℕ). length file.1) (named_content w e) (map (named_content w) es), sum_by-cons (size_in w.files) e es, size_content (fin.get w.files e.1))

-- all bytes that files leave are no more than the limit
pub left-small : (w : World) → IsSound w → sum_by (λ file. length file.1) (left w) ≤ most_total
unfolding left
left-small w sound =
    let each = all_names (λ e. fin.get w.names e.0 ≡ Some e.1) w (λ name number is. is) in
    let within = size-within w.files (fin.entries w.names) (apart w sound (fin.entries w.names) (fin.entries_sorted w.names) each) in
    omega (arith, within, size-named w (fin.entries w.names), sound.within.small_total)
