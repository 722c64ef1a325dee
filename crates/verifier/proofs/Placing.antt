-- The files of a stage are placed one after the other.
use Rattle.std.proofs.Common.{◌≡◌, ℕ, ◌+◌, ◌<◌, ◌≤◌, ◌||◌, Bool, true, false, cond, if◌then◌else◌, IsTrue, Option, None, Some, Result, Ok, Err, List, [], ◌∷◌, length, drop, get_or, map, not, nat_le, nat_lt, refl, sym, ap, ◌∙◌, subst, arith, All}
use Rattle.std.specs.Prelude.{bytes_eq, is_some}
use Rattle.std.specs.List.{AllByRecursion, IsDistinct, fold}
use Rattle.std.specs.FinMap as finite
use Rattle.std.specs.Ordering.{eq_by_cmp, is_eq}
use Rattle.std.specs.declared.cmp.Ordering.{Ordering}
use Rattle.std.specs.declared.cmp.Ordering.TheVariants.{Less, Equal, Greater}
use Rattle.std.specs.Cmp.Lexicographic.{nat_list_cmp_total}
use Rattle.std.proofs.lemmas.Bool.{and_parts, false≢true, le-ltb, leb-true}
use Rattle.std.proofs.lemmas.List.{at_drop_more}
use Rattle.std.proofs.lemmas.List.Elements.{All-cons, All-head, All-nil, All-tail}
use Rattle.std.proofs.lemmas.Slice.Eq.{bytes_eq-Decides}
use Rattle.mem_files.proofs.Directory.{bytes_cmp-IsAntisymmetric}
use Rattle.mem_files.specs.declared.open_file.PlaceRefusal.{PlaceRefusal}
use Rattle.mem_files.specs.declared.open_file.PlaceRefusal.TheVariants.{BadName, Twice, Full, OutOfMemory}
use Rattle.ddc_base.specs.Limits.{most_content, most_names}
use Rattle.mem_files.specs.Names.{begins_with_dot_slash, bytes_cmp, is_file_name, is_stripped_name, stripped}
use Rattle.guest_run.specs.Setting.{FileMap, PlacesIn, place_refusal}
use Rattle.recipe.specs.declared.parts.StageFile.{StageFile}
use Rattle.recipe.specs.declared.contents.RecipeContents.{RecipeContents}
use Rattle.audit_rules.specs.Contents.{Contents, content, with_stage_file}
use Rattle.verifier.specs.Inside.Holdings.{CanPlace}

-- ---- one file

not_true : (b : Bool) → not b ≡ true → b ≡ false
not_true true h = cc
not_true false h = refl

stays : (name : List ℕ) → begins_with_dot_slash name ≡ false → stripped name ≡ name
stays [] h = refl
stays (a ∷ []) h = refl
stays (a ∷ (b ∷ rest)) h = ap (λ t. cond t (stripped rest) (a ∷ (b ∷ rest))) h

stripped-stays : (name : List ℕ) → IsTrue (is_stripped_name name) → stripped name ≡ name
stripped-stays name is = stays name (not_true (begins_with_dot_slash name) ((and_parts (is_file_name name) (not (begins_with_dot_slash name)) is).1))

-- a file that no rule refuses
not-refused : (files : FileMap) (path content : List ℕ) → IsTrue (is_stripped_name path) → finite.contains_key files path ≡ false
    → length content ≤ most_content → finite.len files < most_names → place_refusal files (stripped path) content ≡ None
not-refused files path content named absent small few =
    ap (λ p. place_refusal files p content) (stripped-stays path named)
    ∙ by_tests (is_file_name path) (finite.contains_key files path) (nat_lt most_content (length content)) (nat_le most_names (finite.len files))
    (and_parts (is_file_name path) (not (begins_with_dot_slash path)) named).0 absent (le-ltb _ _ small) (by_few (nat_le most_names (finite.len files)) refl) where
      by_few : (b : Bool) → nat_le most_names (finite.len files) ≡ b → b ≡ false
      by_few false is = refl
      by_few true is = absurd (omega (arith, leb-true most_names (finite.len files) is, few))

      by_tests : (good held large full : Bool) → good ≡ true → held ≡ false → large ≡ false → full ≡ false
          → ◌≡◌ {A = Option PlaceRefusal} (if not good then Some BadName else (if held then Some Twice else (if large || full then Some Full else None))) None
      by_tests true false false false a b c d = refl
      by_tests false held large full a b c d = absurd cc
      by_tests true true large full a b c d = absurd cc
      by_tests true false true full a b c d = absurd cc
      by_tests true false false true a b c d = absurd cc

-- so a refusal is want of memory
pub only-want : (files : FileMap) (path content : List ℕ) (r : Result (Unit {0}) PlaceRefusal) (new : FileMap) (why : PlaceRefusal)
    → IsTrue (is_stripped_name path) → finite.contains_key files path ≡ false → length content ≤ most_content → finite.len files < most_names
    → PlacesIn files (stripped path) content r new → r ≡ Err why → why ≡ OutOfMemory
only-want files path content r new why named absent small few places is =
    by_answer r (not-refused files path content named absent small few) places is where
      by_answer : (r : Result (Unit {0}) PlaceRefusal) → place_refusal files (stripped path) content ≡ None → PlacesIn files (stripped path) content r new → r ≡ Err why → why ≡ OutOfMemory
      by_answer (Ok done) none places is = absurd cc
      by_answer (Err BadName) none places is = absurd (let e = sym none ∙ places.0 in cc)
      by_answer (Err Twice) none places is = absurd (let e = sym none ∙ places.0 in cc)
      by_answer (Err Full) none places is = absurd (let e = sym none ∙ places.0 in cc)
      by_answer (Err OutOfMemory) none places is = cc

pub placed-new : (old : FileMap) (path content : List ℕ) (r : Result (Unit {0}) PlaceRefusal) (new : FileMap) (done : Unit {0}) → IsTrue (is_stripped_name path)
    → PlacesIn old (stripped path) content r new → r ≡ Ok done → new ≡ finite.insert old path content
placed-new old path content (Ok tt) new done named places is = places.1 ∙ ap (λ p. finite.insert old p content) (stripped-stays path named)
placed-new old path content (Err why) new done named places is = absurd cc

-- ---- all files

-- a name that is another one is not found under it
apart : (path other : List ℕ) → bytes_eq path other ≡ false → eq_by_cmp bytes_cmp other path ≡ false
apart path other differ = by_order (bytes_cmp other path) refl where
  by_order : (o : Ordering) → bytes_cmp other path ≡ o → is_eq o ≡ false
  by_order Less is = refl
  by_order Greater is = refl
  by_order Equal is = absurd (false≢true (sym differ ∙ (bytes_eq-Decides path other).1 (sym (bytes_cmp-IsAntisymmetric other path is))))

absent-more : (held : FileMap) (path content other : List ℕ) → bytes_eq path other ≡ false → finite.contains_key held other ≡ false
    → finite.contains_key (finite.insert held path content) other ≡ false
absent-more held path content other differ absent =
    ap is_some (finite.get-insert nat_list_cmp_total held path content other)
    ∙ ap (λ b. is_some (cond b (Some content) (finite.get held other))) (apart path other differ) ∙ absent

-- after a file that was placed the others can be placed
pub place-rest : (held : FileMap) (file : StageFile) (rest : List StageFile) (content : List ℕ) → CanPlace held (file ∷ rest) → CanPlace (finite.insert held file.path content) rest
unfolding IsDistinct
place-rest held file rest content can = record {
  named = All-tail (λ (f : StageFile). IsTrue (is_stripped_name f.path)) file rest can.named;
  absent = absent rest can.distinct.0 (All-tail (λ (f : StageFile). finite.contains_key held f.path ≡ false) file rest can.absent);
  distinct = can.distinct.1;
  few = by_key (finite.contains_key held file.path) (All-head (λ (f : StageFile). finite.contains_key held f.path ≡ false) file rest can.absent) (finite.len-insert nat_list_cmp_total held file.path content);
} where
  by_key : (b : Bool) → b ≡ false → finite.len (finite.insert held file.path content) ≡ cond b (finite.len held) (finite.len held + 1) → finite.len (finite.insert held file.path content) + length rest ≤ 256
  by_key true is counted = absurd cc
  by_key false is counted = omega (arith, can.few, counted)

  absent : (others : List StageFile) → AllByRecursion (λ y. bytes_eq file.path y ≡ false) (map (λ (f : StageFile). f.path) others)
      → All (λ (f : StageFile). finite.contains_key held f.path ≡ false) others → All (λ (f : StageFile). finite.contains_key (finite.insert held file.path content) f.path ≡ false) others
  absent [] apart_all all = All-nil (λ (f : StageFile). finite.contains_key (finite.insert held file.path content) f.path ≡ false)
  absent (other ∷ others) apart_all all =
      All-cons (λ (f : StageFile). finite.contains_key (finite.insert held file.path content) f.path ≡ false) other others
      (absent-more held file.path content other.path apart_all.0 (All-head (λ (f : StageFile). finite.contains_key held f.path ≡ false) other others all))
      (absent others apart_all.1 (All-tail (λ (f : StageFile). finite.contains_key held f.path ≡ false) other others all))

-- one turn of the loop over files
pub turn : (recipe : RecipeContents) (all : Contents) (held new : FileMap) (files : List StageFile) (index : ℕ) (file : StageFile) (whole : FileMap) → index < length files
    → file ≡ get_or files index file → CanPlace held (drop index files) → fold (with_stage_file recipe all) held (drop index files) ≡ whole
    → new ≡ finite.insert held file.path (content recipe all file.from)
    → CanPlace new (drop (index + 1) files) × (fold (with_stage_file recipe all) new (drop (index + 1) files) ≡ whole)
turn recipe all held new files index file whole less is can same placed =
    let next : drop index files ≡ file ∷ drop (index + 1) files = at_drop_more (λ l. l) files index file less ∙ ap (λ f. f ∷ drop (index + 1) files) (sym is) in
    let rest = place-rest held file (drop (index + 1) files) (content recipe all file.from) (subst (CanPlace held) next can) in (
      subst (λ n. CanPlace n (drop (index + 1) files)) (sym placed) rest,
      ap (λ n. fold (with_stage_file recipe all) n (drop (index + 1) files)) placed ∙ sym (ap (fold (with_stage_file recipe all) held) next) ∙ same,
    )
