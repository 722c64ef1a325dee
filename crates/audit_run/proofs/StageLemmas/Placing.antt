-- A stage's files are placed, each at its path.
use Rattle.std.proofs.Common.{◌≡◌, ◌≢◌, ℕ, zero, suc, ◌+◌, ◌<◌, ◌≤◌, ◌==◌, ◌&&◌, Bool, true, false, cond, not, nat_lt, nat_le, IsTrue, if◌then◌else◌, Option, None, Some, is_some, List, [], ◌∷◌, length, map, take, get_or, refl, sym, ap, ◌∙◌, subst, arith, All}
use Rattle.std.specs.Prelude.{bytes_eq, option_and_then, slice_get}
use Rattle.std.specs.List.{position_or_len}
use Rattle.std.proofs.lemmas.List.Folds.{find_at}
use Rattle.recipe.specs.declared.parts.Source.{Source}
use Rattle.recipe.specs.Lookups.{source_named}
use Rattle.std.specs.List.{fold, IsDistinct, AllByRecursion}
use Rattle.std.specs.FinMap as fin
use Rattle.std.specs.Cmp.Lexicographic.{nat_list_cmp_total}
use Rattle.std.proofs.lemmas.Bool.{and_parts, false≢true, le-ltb}
use Rattle.std.proofs.lemmas.Bool.Decides.{nat_tests}
use Rattle.std.proofs.lemmas.List.Elements.{All-map}
use Rattle.std.proofs.lemmas.Option.{slice_get-get_or, same_Some, none-some}
use Rattle.std.proofs.lemmas.Slice.Eq.{bytes_eq-Decides}
use Rattle.ddc_base.specs.Limits.{most_address, most_content, most_names}
use Rattle.mem_files.specs.Names.{bytes_cmp, begins_with_dot_slash, is_file_name, is_stripped_name, stripped}
use Rattle.mem_files.specs.Outputs.{IsContent}
use Rattle.mem_files.proofs.Entries.{name_there}
use Rattle.guest_run.specs.Setting.{FileMap, place_refusal}
use Rattle.recipe.specs.declared.contents.RecipeContents.{RecipeContents}
use Rattle.recipe.specs.declared.parts.Stage.{Stage}
use Rattle.recipe.specs.declared.parts.StageFile.{StageFile}
use Rattle.recipe.specs.Kept as kept
use Rattle.audit_rules.specs.declared.answer.Finished.{Finished}
use Rattle.audit_rules.specs.Contents.{Contents, check_source, content, with_stage_file}
use Rattle.audit_rules.specs.Stages.{contents}
use Rattle.audit_rules.proofs.GivenBoxes.{AreContents, content-is}

-- what holds at each index holds of the element of a loop
pub each-at : {A : Type 0} (P : A → Type 0) (xs items : List A) (index : ℕ) (x : A) → kept.Each P xs → items ≡ xs → index < length items → x ≡ get_or items index x → P x
each-at P xs items index x each same less is =
    let there : slice_get items index ≡ Some x = slice_get-get_or items index x less ∙ ap Some (sym is) in
    each index x (subst (λ list. slice_get list index ≡ Some x) same there)

pub stripped-same : (path : List ℕ) → IsTrue (is_stripped_name path) → stripped path ≡ path
stripped-same path is = by_path path (and_parts (is_file_name path) (not (begins_with_dot_slash path)) is).1 where
  by_test : (a b : ℕ) (rest : List ℕ) (t : Bool) → not t ≡ true → (if t then stripped rest else a ∷ (b ∷ rest)) ≡ a ∷ (b ∷ rest)
  by_test a b rest true h = absurd (false≢true h)
  by_test a b rest false h = refl

  by_path : (path : List ℕ) → not (begins_with_dot_slash path) ≡ true → stripped path ≡ path
  by_path [] h = refl
  by_path (a ∷ []) h = refl
  by_path (a ∷ (b ∷ rest)) h = by_test a b rest (a == 46 && b == 47) h

-- a path that no earlier file has is not held yet
unheld : (recipe : RecipeContents) (all : Contents) (files : List StageFile) (held : FileMap) (path : List ℕ) → fin.get held path ≡ None
    → ((index : ℕ) (file : StageFile) → slice_get files index ≡ Some file → path ≢ file.path) → fin.get (fold (with_stage_file recipe all) held files) path ≡ None
unheld recipe all [] held path absent apart = absent
unheld recipe all (file ∷ files) held path absent apart =
    unheld recipe all files (with_stage_file recipe all held file) path
    (name_there held file.path (content recipe all file.from) path (apart 0 file refl) ∙ absent)
    (λ index other at. apart (suc index) other at)

all-apart : (path : List ℕ) (files : List StageFile) (index : ℕ) (file : StageFile) → AllByRecursion (λ y. bytes_eq path y ≡ false) (map (λ (f : StageFile). f.path) files)
    → slice_get files index ≡ Some file → bytes_eq path file.path ≡ false
all-apart path [] index file all at = absurd (none-some file at)
all-apart path (x ∷ files) zero file all at = ap (λ (f : StageFile). bytes_eq path f.path) (sym (same_Some x file at)) ∙ all.0
all-apart path (x ∷ files) (suc index) file all at = all-apart path files index file all.1 at

-- of two files at two indices the paths differ
apart-at : (files : List StageFile) (i k : ℕ) (a b : StageFile) → IsDistinct bytes_eq (map (λ (f : StageFile). f.path) files) → i < k
    → slice_get files i ≡ Some a → slice_get files k ≡ Some b → bytes_eq a.path b.path ≡ false
unfolding IsDistinct
apart-at [] i k a b distinct less at_i at_k = absurd (none-some a at_i)
apart-at (x ∷ files) i zero a b distinct less at_i at_k = absurd (omega (arith, less))
apart-at (x ∷ files) zero (suc k) a b distinct less at_i at_k =
    ap (λ (f : StageFile). bytes_eq f.path b.path) (sym (same_Some x a at_i)) ∙ all-apart x.path files k b distinct.0 at_k
apart-at (x ∷ files) (suc i) (suc k) a b distinct less at_i at_k = apart-at files i k a b distinct.1 (omega (arith, less)) at_i at_k

-- the first so many files
slice_get-take : (files : List StageFile) (count index : ℕ) (file : StageFile) → slice_get (take count files) index ≡ Some file
    → (index < count) × (slice_get files index ≡ Some file)
slice_get-take files zero index file at = absurd (none-some file at)
slice_get-take [] (suc count) index file at = absurd (none-some file at)
slice_get-take (x ∷ files) (suc count) zero file at = (omega arith, at)
slice_get-take (x ∷ files) (suc count) (suc index) file at =
    let rest = slice_get-take files count index file at in
    (omega (arith, rest.0), rest.1)

pub not-held : (recipe : RecipeContents) (all : Contents) (files : List StageFile) (index : ℕ) (file : StageFile)
    → IsDistinct bytes_eq (map (λ (f : StageFile). f.path) files) → slice_get files index ≡ Some file
    → fin.get (fold (with_stage_file recipe all) fin.empty (take index files)) file.path ≡ None
not-held recipe all files index file distinct at =
    unheld recipe all (take index files) fin.empty file.path (fin.get-empty bytes_cmp file.path)
    (λ i other there same.
    let before = slice_get-take files index i other there in
    false≢true (sym (apart-at files i index other file distinct before.0 before.1 at) ∙ (bytes_eq-Decides other.path file.path).1 (sym same)))

-- how many are held
few-held : (recipe : RecipeContents) (all : Contents) (files : List StageFile) (held : FileMap) → fin.len (fold (with_stage_file recipe all) held files) ≤ fin.len held + length files
few-held recipe all [] held = omega arith
few-held recipe all (file ∷ files) held =
    let rest = few-held recipe all files (with_stage_file recipe all held file) in
    by_name (fin.contains_key held file.path) (fin.len-insert nat_list_cmp_total held file.path (content recipe all file.from)) rest where
      by_name : (b : Bool) → fin.len (with_stage_file recipe all held file) ≡ cond b (fin.len held) (fin.len held + 1)
          → fin.len (fold (with_stage_file recipe all) (with_stage_file recipe all held file) files) ≤ fin.len (with_stage_file recipe all held file) + length files
          → fin.len (fold (with_stage_file recipe all) held (file ∷ files)) ≤ fin.len held + length (file ∷ files)
      by_name true is rest = omega (arith, is, rest)
      by_name false is rest = omega (arith, is, rest)

length-take : (files : List StageFile) (count : ℕ) → length (take count files) ≤ length files
length-take files zero = omega arith
length-take [] (suc count) = omega arith
length-take (x ∷ files) (suc count) = let rest = length-take files count in omega (arith, rest)

-- so no rule refuses it
fits : (held : FileMap) (path bytes : List ℕ) → is_file_name path ≡ true → fin.get held path ≡ None → length bytes ≤ most_content → fin.len held < most_names
    → place_refusal held path bytes ≡ None
fits held path bytes name absent small few =
    let key : fin.contains_key held path ≡ false = ap is_some absent in
    let size : nat_lt most_content (length bytes) ≡ false = le-ltb _ _ small in
    let budget : nat_le most_names (fin.len held) ≡ false = grind (arith, nat_tests) in
    rw (name, key, size, budget) refl

-- a source's base
pub source-based : (recipe : RecipeContents) (source : Source) (name : List ℕ) → kept.IsRecipe recipe → source_named recipe.sources name ≡ Some source → source.base ≤ most_address
source-based recipe source name is found =
    (is.sources (position_or_len (λ (s : Source). bytes_eq s.name name) recipe.sources) source (sym (find_at (λ (s : Source). bytes_eq s.name name) recipe.sources) ∙ found)).base

pub check-based : (recipe : RecipeContents) (stage : Stage) (source : Source) → kept.IsRecipe recipe → check_source recipe stage ≡ Some source → source.base ≤ most_address
check-based recipe stage source is found = by_name stage.check found where
  by_name : (o : Option (List ℕ)) → option_and_then (source_named recipe.sources) o ≡ Some source → source.base ≤ most_address
  by_name None found = absurd (none-some source found)
  by_name (Some name) found = source-based recipe source name is found

pub are-contents : (inputs : List (List ℕ)) (done : List Finished) → All IsContent inputs → All (λ (f : Finished). IsContent f.made) done → AreContents (contents inputs done)
are-contents inputs done small made = record { inputs = small; artefacts = All-map IsContent (λ (f : Finished). f.made) done made }

pub file-fits : (recipe : RecipeContents) (inputs : List (List ℕ)) (done : List Finished) (stage : Stage) (earlier : List Stage) (items : List StageFile) (index : ℕ) (file : StageFile)
    → kept.IsStage recipe earlier stage → All IsContent inputs → All (λ (f : Finished). IsContent f.made) done
    → items ≡ stage.files → index < length items → file ≡ get_or items index file
    → place_refusal (fold (with_stage_file recipe (contents inputs done)) fin.empty (take index stage.files)) file.path (content recipe (contents inputs done) file.from) ≡ None
file-fits recipe inputs done stage earlier items index file rules small made same less is =
    let there : slice_get items index ≡ Some file = slice_get-get_or items index file less ∙ ap Some (sym is) in
    let at : slice_get stage.files index ≡ Some file = subst (λ list. slice_get list index ≡ Some file) same there in
    let path = (rules.files index file at).path in
    let bytes = content-is recipe (contents inputs done) file.from (are-contents inputs done small made) in
    let held = few-held recipe (contents inputs done) (take index stage.files) fin.empty in
    let none : fin.len fin.empty ≡ 0 = fin.len-empty bytes_cmp (List ℕ) in
    fits _ file.path _ (and_parts (is_file_name file.path) (not (begins_with_dot_slash file.path)) path.stripped).0
    (not-held recipe (contents inputs done) stage.files index file rules.distinct at) bytes.small
    (omega (arith, held, none, length-take stage.files index, rules.few_files))
