-- What a plan's loads find, and find again after another name was set.
use Rattle.std.proofs.Common.{◌≡◌, ◌≢◌, ℕ, ◌+◌, ◌-◌, ◌<◌, ◌≤◌, ◌&&◌, ◌||◌, not, Bool, true, false, cond, Option, Some, None, List, [], ◌∷◌, length, map, min, sum_by, nat_le, le_trans, refl, ap, ◌∙◌, subst, arith}
use Rattle.std.specs.List.{list_any}
use Rattle.std.specs.Prelude.{All}
use Rattle.std.specs.Cmp.Lexicographic.{nat_list_cmp_total}
use Rattle.std.specs.FinMap as finite
use Rattle.std.proofs.Math.Nat.{min-le_left, min-le_right}
use Rattle.std.proofs.lemmas.Bool.{and_parts, leb-true}
use Rattle.std.proofs.lemmas.Bool.Decides.{nat_tests}
use Rattle.std.proofs.lemmas.List.Elements.{All-cons, All-nil}
use Rattle.std.proofs.lemmas.List.Sums.{sum_by-cons}
use Rattle.std.proofs.lemmas.Map.Text.{is_eq-slice_cmp}
use Rattle.std.proofs.lemmas.Slice.Eq.{bytes_eq-Decides}
use Rattle.ddc_base.specs.declared.outside.Loaded.TheVariants.{Bytes, TooLong}
use Rattle.ddc_base.specs.Outside.{NamedFiles, loaded, loaded_of}
use Rattle.ddc_base.proofs.StoredFiles.{others-insert}
use Rattle.ddc_base.specs.Limits.{most_content}
use Rattle.mem_files.specs.Outputs.{IsContent}
use Rattle.command_plan.specs.declared.status.Status.TheVariants.{FileRefused}
use Rattle.command_plan.specs.Texts.{too_long_line}
use Rattle.command_plan.specs.Plan.{LoadsBytes, Outcome, Plan, bytes_then, needs, needs_all, follow, outcome}
use Rattle.mem_files.specs.Names.{stripped}
use Rattle.command_plan.specs.Words.{are_two_files, is_file_word, is_one_file}
use Rattle.ddc_app.specs.Holding.{AreHeld}

-- ---- one load

-- what a plan comes to that needs what is held is what it goes on to
pub follows : (name : List ℕ) (limit : ℕ) (next : List ℕ → Plan) (files : NamedFiles) (content : List ℕ) → loaded files name limit ≡ Bytes content
    → outcome (needs name limit next) files ≡ outcome (next content) files
follows name limit next files content held =
    ap (λ l. follow l (λ c. outcome (next c) files) (λ text. record { status = FileRefused; text = text; files = files }) name) held

-- where its loads find bytes, this is one of them
pub loads_bytes : (name : List ℕ) (limit : ℕ) (next : List ℕ → Plan) (files : NamedFiles) (content : List ℕ) → loaded files name limit ≡ Bytes content
    → LoadsBytes (needs name limit next) files → All (λ byte. byte < 256) content × LoadsBytes (next content) files
loads_bytes name limit next files content held bytes = subst (λ l. bytes_then l (λ c. LoadsBytes (next c) files)) held bytes

fits : (size limit : ℕ) → size < limit → nat_le size limit ≡ true
fits size limit below = grind (arith, nat_tests)

-- what is held below the limit is loaded
pub is_loaded : (files : NamedFiles) (name content : List ℕ) (limit : ℕ) → finite.get files name ≡ Some content → length content < limit
    → loaded files name limit ≡ Bytes content
is_loaded files name content limit held below =
    ap (loaded_of limit) held ∙ ap (λ b. cond b (Bytes content) TooLong) (fits (length content) limit below)

-- what is held is loaded, unless a plan that needs it is refused for a file
pub loaded_unless_refused : (name : List ℕ) (limit : ℕ) (next : List ℕ → Plan) (files : NamedFiles) (content : List ℕ) → finite.get files name ≡ Some content
    → (outcome (needs name limit next) files).status ≢ FileRefused → loaded files name limit ≡ Bytes content
loaded_unless_refused name limit next files content held answered = by (nat_le (length content) limit) refl where
  is : (b : Bool) → nat_le (length content) limit ≡ b → loaded files name limit ≡ cond b (Bytes content) TooLong
  is b fits = ap (loaded_of limit) held ∙ ap (λ b. cond b (Bytes content) TooLong) fits

  by : (b : Bool) → nat_le (length content) limit ≡ b → loaded files name limit ≡ Bytes content
  by true fits = is true fits
  by false fits =
      let refused : outcome (needs name limit next) files ≡ record { status = FileRefused; text = too_long_line name; files = files } =
      ap (λ l. follow l (λ c. outcome (next c) files) (λ text. record { status = FileRefused; text = text; files = files }) name) (is false fits) in
      absurd (answered (ap (λ (o : Outcome). o.status) refused))

-- what was loaded is held, within the limit
pub within : (limit : ℕ) (held : Option (List ℕ)) (content : List ℕ) → loaded_of limit held ≡ Bytes content → (held ≡ Some content) × (length content ≤ limit)
within limit None content is = absurd cc
within limit (Some c) content is = by (nat_le (length c) limit) refl is where
  by : (b : Bool) → nat_le (length c) limit ≡ b → cond b (Bytes c) TooLong ≡ Bytes content → (Some c ≡ Some content) × (length content ≤ limit)
  by true fits is = let same : c ≡ content = cc in (ap Some same, subst (λ x. length x ≤ limit) same (leb-true (length c) limit fits))
  by false fits is = absurd cc

-- words that do not clash are not equal
pub not_equal : (first second : List ℕ) → is_one_file first second ≡ false → first ≢ second
unfolding is_one_file
not_equal first second apart = λ same. let equal : is_one_file first second ≡ true = (bytes_eq-Decides (stripped first) (stripped second)).1 (ap stripped same) in cc

-- a name that was set is held, and others are as before
pub set_held : (files : NamedFiles) (name content : List ℕ) → finite.get (finite.insert files name content) name ≡ Some content
set_held files name content =
    finite.get-insert nat_list_cmp_total files name content name
    ∙ ap (λ b. cond b (Some content) (finite.get files name)) (is_eq-slice_cmp name name ∙ (bytes_eq-Decides name name).1 refl)

pub other_held : (files : NamedFiles) (name content other : List ℕ) (limit : ℕ) → is_one_file other name ≡ false
    → loaded (finite.insert files name content) other limit ≡ loaded files other limit
other_held files name content other limit apart = ap (loaded_of limit) ((others-insert files name content).others other (not_equal other name apart))

-- two words that name two files do not clash, and so are not equal
pub two_apart : (first second : List ℕ) → are_two_files first second ≡ true → is_one_file first second ≡ false
two_apart first second two = by (is_one_file first second) (and_parts (is_file_word first && is_file_word second) (not (is_one_file first second)) two).1 where
  by : (b : Bool) → not b ≡ true → b ≡ false
  by true is = cc
  by false is = refl

-- ---- loads in a row

pub follow_all : (most budget : ℕ) (files : NamedFiles) (names contents : List (List ℕ)) (next : List (List ℕ) → Plan) → AreHeld most budget files names contents
    → outcome (needs_all most budget names next) files ≡ outcome (next contents) files
follow_all most budget files [] [] next held = refl
follow_all most budget files (name ∷ names) [] next held = absurd held
follow_all most budget files [] (content ∷ contents) next held = absurd held
follow_all most budget files (name ∷ names) (content ∷ contents) next held =
    follows name (min most budget) (λ content. needs_all most (budget - length content) names (λ contents. next (content ∷ contents))) files content held.0
    ∙ follow_all most (budget - length content) files names contents (λ contents. next (content ∷ contents)) held.1

-- they are found again where none of them was set
pub found_again : {A : Type 0} (most budget : ℕ) (files : NamedFiles) (name content : List ℕ) (path : A → List ℕ) (values : List A) (contents : List (List ℕ))
    → list_any (λ value. is_one_file (path value) name) values ≡ false → AreHeld most budget files (map path values) contents
    → AreHeld most budget (finite.insert files name content) (map path values) contents
found_again most budget files name content path [] contents apart held = none contents held where
  none : (contents : List (List ℕ)) → AreHeld most budget files [] contents → AreHeld most budget (finite.insert files name content) [] contents
  none [] held = tt
  none (c ∷ contents) held = held
found_again most budget files name content path (value ∷ values) [] apart held = held
found_again most budget files name content path (value ∷ values) (first ∷ contents) apart held =
    by (is_one_file (path value) name) refl apart (λ later. found_again most (budget - length first) files name content path values contents later held.1) where
      others : Bool
      others = list_any (λ value. is_one_file (path value) name) values

      by : (b : Bool) → is_one_file (path value) name ≡ b → (b || others) ≡ false
          → (others ≡ false → AreHeld most (budget - length first) (finite.insert files name content) (map path values) contents)
          → AreHeld most budget (finite.insert files name content) (map path (value ∷ values)) (first ∷ contents)
      by true is apart later = absurd cc
      by false is apart later = (other_held files name content (path value) (min most budget) is ∙ held.0, later apart)

-- as many contents as names, each small and of bytes
pub as_many : (most budget : ℕ) (files : NamedFiles) (names contents : List (List ℕ)) → AreHeld most budget files names contents → length contents ≡ length names
as_many most budget files [] [] held = refl
as_many most budget files (name ∷ names) [] held = absurd held
as_many most budget files [] (content ∷ contents) held = absurd held
as_many most budget files (name ∷ names) (content ∷ contents) held = omega (arith, as_many most (budget - length content) files names contents held.1)

-- and as many bytes as there is room for
pub held_small : (budget : ℕ) (files : NamedFiles) (names contents : List (List ℕ)) → AreHeld most_content budget files names contents → sum_by length contents ≤ budget
held_small budget files [] [] held = omega arith
held_small budget files (name ∷ names) [] held = absurd held
held_small budget files [] (content ∷ contents) held = absurd held
held_small budget files (name ∷ names) (content ∷ contents) held =
    let one = (within (min most_content budget) (finite.get files name) content held.0).1 in
    more (length content) (sum_by length contents) budget (sum_by length (content ∷ contents)) (sum_by-cons length content contents)
    (held_small (budget - length content) files names contents held.1) (omega (arith, one, min-le_right most_content budget))
  where
    more : (a b c sum : ℕ) → sum ≡ a + b → b ≤ c - a → a ≤ c → sum ≤ c
    more a b c sum is rest first = omega (arith, is, rest, first)

-- where a plan's loads found them to be bytes, they are contents of files
pub loaded_contents : (budget : ℕ) (files : NamedFiles) (names contents : List (List ℕ)) (next : List (List ℕ) → Plan) → AreHeld most_content budget files names contents
    → LoadsBytes (needs_all most_content budget names next) files → All IsContent contents
loaded_contents budget files names [] next held bytes = All-nil IsContent
loaded_contents budget files [] (content ∷ contents) next held bytes = absurd held
loaded_contents budget files (name ∷ names) (content ∷ contents) next held bytes =
    let rest : List ℕ → Plan = λ c. needs_all most_content (budget - length c) names (λ contents. next (c ∷ contents)) in
    let one = within (min most_content budget) (finite.get files name) content held.0 in
    let here = loads_bytes name (min most_content budget) rest files content held.0 bytes in
    All-cons IsContent content contents
    (record { bytes = here.0; small = le_trans one.1 (min-le_left most_content budget) })
    (loaded_contents (budget - length content) files names contents (λ contents. next (content ∷ contents)) held.1 here.1)
