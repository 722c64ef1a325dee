-- What a recipe that keeps its rules gives the laws above.
use Rattle.std.proofs.Common.{◌≡◌, ℕ, ◌<◌, ◌≤◌, ◌^◌, ◌==◌, ◌&&◌, ◌||◌, Bool, true, IsTrue, Option, None, Some, List, [], ◌∷◌, length, get_or, refl, sym, ap, ◌∙◌, subst, arith, All}
use Rattle.std.specs.Prelude.{IsSome, bytes_eq, nat_le, not, take}
use Rattle.std.specs.List.{list_all, list_any, position}
use Rattle.std.proofs.lemmas.Bool.{and_parts, false≢true, leb-true, ne_eqb}
use Rattle.std.proofs.lemmas.Option.{slice_get-get_or}
use Rattle.std.proofs.lemmas.List.Elements.{All-cons, All-nil, All-weaker}
use Rattle.std.proofs.lemmas.List.Quantifiers.{position-Some}
use Rattle.std.proofs.lemmas.Slice.Eq.{bytes_eq-Decides}
use Rattle.ddc_base.specs.Names.{IsName}
use Rattle.ddc_base.specs.Limits.{most_heap, most_steps}
use Rattle.mem_files.specs.Names.{is_stripped_name}
use Rattle.mem_files.specs.Sound.{AreBytes}
use Rattle.guest_run.specs.Setting.{IsText}
use Rattle.recipe.specs.Text.Reading.{is_path, is_path_byte, is_word, is_word_byte}
use Rattle.recipe.specs.declared.contents.RecipeContents.{RecipeContents}
use Rattle.recipe.specs.declared.parts.Input.{Input}
use Rattle.recipe.specs.declared.parts.Stage.{Stage}
use Rattle.recipe.specs.declared.parts.StageFile.{StageFile}
use Rattle.recipe.specs.Lookups.{input_at, stage_at}
use Rattle.recipe.specs.Kept as kept
use Rattle.recipe.specs.Tables.{IsFormat}
use Rattle.report.specs.Reports.{IsDigest}
use Rattle.report.proofs.Marks.{is_digest}

pub record IsWord (text : List ℕ) : Type 0 where
  pub bytes : AreBytes text
  pub whole : IsText text

pub record IsFilePath (path : List ℕ) : Type 0 where
  pub bytes : AreBytes path
  pub name : IsTrue (is_stripped_name path)

pub record IsStageFile (file : StageFile) : Type 0 where
  pub path : IsFilePath file.path

pub record IsStage (stage : Stage) : Type 0 where
  pub name : IsName stage.name
  pub args : All IsWord stage.args
  pub env : All IsWord stage.env
  pub files : All IsStageFile stage.files
  pub few_files : length stage.files ≤ 256
  pub some_steps : 1 ≤ stage.steps
  pub few_steps : stage.steps ≤ most_steps
  pub heap : stage.heap ≤ most_heap

pub record IsInput (input : Input) : Type 0 where
  pub name : IsName input.name

pub record IsRecipe (parsed : RecipeContents) : Type 0 where
  pub digest : IsDigest parsed.digest
  pub some_inputs : 1 ≤ length parsed.inputs
  pub few_inputs : length parsed.inputs ≤ 256
  pub inputs : All IsInput parsed.inputs
  pub some_stages : 1 ≤ length parsed.stages
  pub few_stages : length parsed.stages ≤ 256
  pub stages : All IsStage parsed.stages
  pub format : IsFormat parsed.format
  pub some_compared : 1 ≤ length parsed.compare.stages
  pub few_compared : length parsed.compare.stages ≤ kept.most_compared parsed.format
  pub compared : All IsName parsed.compare.stages
  pub binary : IsName parsed.compare.binary

-- of each element, in the two ways to say it
all-of : {A : Type 0} (P Q : A → Type 0) → ((x : A) → P x → Q x) → (xs : List A) → kept.Each P xs → All Q xs
all-of P Q gives xs each k d less = gives (get_or xs k d) (each k (get_or xs k d) (slice_get-get_or xs k d less))

-- texts of bytes
bytes-all : (p : ℕ → Bool) → ((byte : ℕ) → p byte ≡ true → byte < 256) → (text : List ℕ) → list_all p text ≡ true → AreBytes text
bytes-all p small [] is = All-nil (λ byte. byte < 256)
bytes-all p small (byte ∷ text) is =
    let parts = and_parts (p byte) (list_all p text) is in
    All-cons (λ byte. byte < 256) byte text (small byte parts.0) (bytes-all p small text parts.1)

no-zero : (text : List ℕ) → list_all is_word_byte text ≡ true → IsText text
no-zero [] is = refl
no-zero (byte ∷ text) is =
    let parts = and_parts (nat_le 1 byte && nat_le byte 255) (list_all is_word_byte text) is in
    let some = leb-true _ _ (and_parts (nat_le 1 byte) (nat_le byte 255) parts.0).0 in
    ap (λ b. not (b || list_any (λ b. b == 0) text)) (ne_eqb byte 0 (λ zero_is. omega arith)) ∙ no-zero text parts.1

pub word-is : (text : List ℕ) → IsTrue (is_word text) → IsWord text
unfolding is_word
word-is text is =
    let parts = and_parts (nat_le (length text) 255) (list_all is_word_byte text) is in
    record {
      bytes = bytes-all is_word_byte (λ byte t. let most = leb-true _ _ (and_parts (nat_le 1 byte) (nat_le byte 255) t).1 in omega arith) text parts.1;
      whole = no-zero text parts.1;
    }

pub path-is : (path : List ℕ) → kept.IsGuestPath path → IsFilePath path
unfolding is_path
path-is path is =
    let parts = and_parts (nat_le 1 (length path) && nat_le (length path) 255) (list_all is_path_byte path) is.path in
    record {
      bytes = bytes-all is_path_byte (λ byte t. let most = leb-true _ _ (and_parts (nat_le 32 byte) (nat_le byte 126) t).1 in omega arith) path parts.1;
      name = is.stripped;
    }

-- the name of a stage and of an input that are there is one of theirs
name-of : {A : Type 0} (name_of : A → List ℕ) (xs : List A) (name : List ℕ) → All (λ x. IsName (name_of x)) xs
    → (o : Option ℕ) → position (λ x. bytes_eq (name_of x) name) xs ≡ o → IsSome o → IsName name
name-of name_of xs name all None at found = absurd (false≢true found)
name-of name_of [] name all (Some index) at found = absurd cc
name-of name_of (x ∷ xs) name all (Some index) at found =
    let there = position-Some (λ x. bytes_eq (name_of x) name) (x ∷ xs) index x at in
    subst IsName ((bytes_eq-Decides (name_of (get_or (x ∷ xs) index x)) name).0 there.1) (all index x there.0)

stage-name : (stages : List Stage) (name : List ℕ) → All IsStage stages → IsSome (stage_at stages name) → IsName name
stage-name stages name all found =
    name-of (λ (s : Stage). s.name) stages name (All-weaker IsStage (λ s. IsName s.name) (λ s is. is.name) stages all) (stage_at stages name) refl found

input-name : (inputs : List Input) (name : List ℕ) → All IsInput inputs → IsSome (input_at inputs name) → IsName name
input-name inputs name all found =
    name-of (λ (i : Input). i.name) inputs name (All-weaker IsInput (λ i. IsName i.name) (λ i is. is.name) inputs all) (input_at inputs name) refl found

stage-is : (parsed : RecipeContents) (earlier : List Stage) (stage : Stage) → kept.IsStage parsed earlier stage → IsStage stage
stage-is parsed earlier stage is = record {
  name = is.name;
  args = all-of (λ text. IsTrue (is_word text)) IsWord word-is stage.args is.args;
  env = all-of (λ text. IsTrue (is_word text)) IsWord word-is stage.env is.env;
  files = all-of (kept.IsStageFile parsed earlier) IsStageFile (λ file there. record { path = path-is file.path there.path }) stage.files is.files;
  few_files = is.few_files;
  some_steps = is.some_steps;
  few_steps = is.few_steps;
  heap = is.heap;
}

pub rules : (parsed : RecipeContents) → kept.IsRecipe parsed → IsRecipe parsed
rules parsed is =
    let inputs = all-of (kept.IsInput parsed) IsInput (λ input there. record { name = there.name }) parsed.inputs is.inputs in
    let stages : All IsStage parsed.stages =
    λ k d less. stage-is parsed (take k parsed.stages) (get_or parsed.stages k d) (is.stages k (get_or parsed.stages k d) (slice_get-get_or parsed.stages k d less)) in
    record {
      digest = subst IsDigest (λ i. record { 0 = sym is.digest.1 i }) (is_digest is.digest.0);
      some_inputs = is.some_inputs;
      few_inputs = is.few_inputs;
      inputs = inputs;
      some_stages = is.some_stages;
      few_stages = is.few_stages;
      stages = stages;
      format = is.format;
      some_compared = is.some_compared;
      few_compared = is.few_compared;
      compared = all-of (λ name. IsSome (stage_at parsed.stages name)) IsName (λ name at. stage-name parsed.stages name stages at) parsed.compare.stages is.compared;
      binary = input-name parsed.inputs parsed.compare.binary inputs is.binary;
    }
