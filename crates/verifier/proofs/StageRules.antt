-- What the rules of a recipe say of a stage that is replayed.
use Rattle.std.proofs.Common.{◌≡◌, ℕ, zero, suc, ◌<◌, ◌≤◌, ◌^◌, Bool, true, false, cond, IsTrue, Some, List, [], ◌∷◌, length, find, get_or, take, refl, sym, ap, ◌∙◌, subst, arith, All}
use Rattle.std.specs.Prelude.{Contains, bytes_eq, is_some}
use Rattle.std.specs.FinMap as finite
use Rattle.std.proofs.lemmas.List.Elements.{All-contains, All-get_or, All-weaker}
use Rattle.std.proofs.lemmas.Option.{same_Some, slice_get-get_or}
use Rattle.ddc_base.specs.Limits.{most_address, most_heap, most_steps}
use Rattle.mem_files.specs.Names.{bytes_cmp, is_stripped_name}
use Rattle.guest_run.specs.Setting.{IsText}
use Rattle.recipe.specs.declared.contents.RecipeContents.{RecipeContents}
use Rattle.recipe.specs.declared.parts.Output.{Output}
use Rattle.recipe.specs.declared.parts.Output.TheVariants.{Stream, File}
use Rattle.recipe.specs.declared.parts.Source.{Source}
use Rattle.recipe.specs.declared.parts.Stage.{Stage}
use Rattle.recipe.specs.declared.parts.StageFile.{StageFile}
use Rattle.recipe.specs.Kept.{Each, IsOutput, IsRecipe, IsSource, IsStage}
use Rattle.recipe.specs.Lookups.{source_named}
use Rattle.audit_rules.proofs.Rules as rules
use Rattle.verifier.specs.Inside.Holdings.{CanPlace, IsOutputName}

kept : (recipe : RecipeContents) (stage : Stage) → IsRecipe recipe → (known : Contains recipe.stages stage) → IsStage recipe (take known.0 recipe.stages) stage
kept recipe stage is known = is.stages known.0 stage (slice_get-get_or recipe.stages known.0 stage known.1 ∙ ap Some known.2)

pub rules-of : (recipe : RecipeContents) (stage : Stage) → IsRecipe recipe → Contains recipe.stages stage → rules.IsStage stage
rules-of recipe stage is known = All-contains rules.IsStage recipe.stages stage (rules.rules recipe is).stages known

pub args-are : (recipe : RecipeContents) (stage : Stage) → IsRecipe recipe → Contains recipe.stages stage → All IsText stage.args
args-are recipe stage is known = All-weaker rules.IsWord IsText (λ text word. word.whole) stage.args (rules-of recipe stage is known).args

pub env-is : (recipe : RecipeContents) (stage : Stage) → IsRecipe recipe → Contains recipe.stages stage → All IsText stage.env
env-is recipe stage is known = All-weaker rules.IsWord IsText (λ text word. word.whole) stage.env (rules-of recipe stage is known).env

pub heap-is : (recipe : RecipeContents) (stage : Stage) → IsRecipe recipe → Contains recipe.stages stage → stage.heap ≤ most_heap
heap-is recipe stage is known = (kept recipe stage is known).heap

pub steps-are : (recipe : RecipeContents) (stage : Stage) → IsRecipe recipe → Contains recipe.stages stage → stage.steps ≤ most_steps
steps-are recipe stage is known = (kept recipe stage is known).few_steps

pub output-is : (recipe : RecipeContents) (stage : Stage) → IsRecipe recipe → Contains recipe.stages stage → IsOutputName stage.output
output-is recipe stage is known = by_output stage.output (kept recipe stage is known).output where
  by_output : (output : Output) → IsOutput output → IsOutputName output
  by_output Stream is = tt
  by_output (File path) is = is.stripped

none-there : (name : List ℕ) → is_some (finite.get (finite.empty {X = List ℕ} {R = bytes_cmp}) name) ≡ false
none-there name = ap is_some (finite.get-empty bytes_cmp name)

-- all files of a stage can be placed in a box that has none
pub files-can : (recipe : RecipeContents) (stage : Stage) → IsRecipe recipe → Contains recipe.stages stage → CanPlace finite.empty stage.files
files-can recipe stage is known =
    let few = (kept recipe stage is known).few_files in
    let none = finite.len-empty bytes_cmp (List ℕ) in
    record {
      named = All-weaker rules.IsStageFile (λ (file : StageFile). IsTrue (is_stripped_name file.path)) (λ file kept. kept.path.name) stage.files (rules-of recipe stage is known).files;
      absent = λ k d less. none-there (get_or stage.files k d).path;
      distinct = (kept recipe stage is known).distinct;
      few = omega (arith, few, none);
    }

-- a source that is found
each-find : {A : Type 0} (P : A → Type 0) (test : A → Bool) (xs : List A) (x : A) → Each P xs → find test xs ≡ Some x → P x
each-find P test [] x each is = absurd cc
each-find P test (y ∷ ys) x each is = by_test (test y) is (each-find P test ys x (λ i z at. each (suc i) z at)) where
  by_test : (b : Bool) → cond b (Some y) (find test ys) ≡ Some x → (find test ys ≡ Some x → P x) → P x
  by_test true is later = subst P (same_Some y x is) (each zero y refl)
  by_test false is later = later is

pub base-is : (recipe : RecipeContents) (name : List ℕ) (source : Source) → IsRecipe recipe → source_named recipe.sources name ≡ Some source → source.base ≤ most_address
base-is recipe name source is found = (each-find (IsSource recipe) (λ (s : Source). bytes_eq s.name name) recipe.sources source is.sources found).base

-- a text that is borrowed
pub text-at : (texts shown : List (List ℕ)) (index : ℕ) (item text : List ℕ) → All IsText texts → shown ≡ texts → index < length shown
    → item ≡ get_or shown index item → text ≡ item → IsText text
text-at texts shown index item text all same less is borrowed =
    let lengths : length shown ≡ length texts = ap length same in
    subst IsText (sym (borrowed ∙ is ∙ ap (λ l. get_or l index item) same)) (All-get_or IsText texts index item (omega (arith, less, lengths)) all)
