-- What names stand for keeps the limits of contents, and so every box is valid.
use Rattle.std.proofs.Common.{◌≡◌, ℕ, ◌+◌, ◌<◌, ◌≤◌, Bool, true, false, cond, Option, None, Some, List, [], ◌∷◌, length, get_or, refl, sym, ◌∙◌, subst, arith, All, inl, inr}
use Rattle.std.specs.List.{fold}
use Rattle.std.specs.FinMap as fin
use Rattle.std.specs.Cmp.Lexicographic.{nat_list_cmp_total}
use Rattle.std.specs.declared.cmp.Ordering.{Ordering}
use Rattle.std.specs.declared.cmp.Ordering.TheVariants.{Less, Equal, Greater}
use Rattle.std.proofs.lemmas.Bool.{cases_lt}
use Rattle.std.proofs.lemmas.List.{get_or_past}
use Rattle.std.proofs.lemmas.List.Elements.{All-nil, All-cons, All-head, All-tail, All-get_or, All-weaker}
use Rattle.std.specs.FinMap.Entries.{by_order}
use Rattle.mem_files.proofs.Directory.{bytes_cmp-IsAntisymmetric}
use Rattle.mem_files.specs.Names.{bytes_cmp}
use Rattle.mem_files.specs.Outputs.{IsContent}
use Rattle.mem_files.specs.Sound.{AreBytes}
use Rattle.guest_run.specs.Setting.{FileMap, IsBox, IsBoxFile, IsText}
use Rattle.recipe.specs.declared.contents.RecipeContents.{RecipeContents}
use Rattle.recipe.specs.declared.parts.Content.{Content}
use Rattle.recipe.specs.declared.parts.Content.TheVariants.{Input, Stage as Artefact}
use Rattle.recipe.specs.declared.parts.Stage.{Stage}
use Rattle.recipe.specs.declared.parts.StageFile.{StageFile}
use Rattle.audit_rules.proofs.Rules as kept
use Rattle.recipe.specs.Lookups.{content_named}
use Rattle.audit_rules.specs.Contents.{Contents, box_of, bytes_named, content, with_stage_file}

-- contents that keep their limits
pub record AreContents (all : Contents) : Type 0 where
  pub inputs : All IsContent all.inputs
  pub artefacts : All IsContent all.artefacts

pub no-content : IsContent []
no-content = record { bytes = All-nil (λ byte. byte < 256); small = omega arith }

among : (contents : List (List ℕ)) (index : ℕ) → All IsContent contents → IsContent (get_or contents index [])
among contents index all = elim (cases_lt index (length contents)) [
  | inl less ↦ All-get_or IsContent contents index [] less all
  | inr past ↦ subst IsContent (sym (get_or_past contents index [] past)) no-content
]

pub content-is : (recipe : RecipeContents) (all : Contents) (name : List ℕ) → AreContents all → IsContent (content recipe all name)
unfolding content
content-is recipe all name are = by_found (content_named recipe.inputs recipe.stages name) where
  by_found : (found : Option Content) → IsContent (bytes_named all found)
  by_found None = no-content
  by_found (Some (Input index)) = among all.inputs index are.inputs
  by_found (Some (Artefact index)) = among all.artefacts index are.artefacts

-- files with one more
put-all : (P : List ℕ × List ℕ → Type 0) (key value : List ℕ) (es : List (List ℕ × List ℕ)) → P (key, value) → All P es → All P (fin.put bytes_cmp key value es)
put-all P key value [] here all = All-cons P (key, value) [] here all
put-all P key value (e ∷ es) here all = by_cases (bytes_cmp key e.0) refl (put-all P key value es here (All-tail P e es all)) where
  by_cases : (o : Ordering) → bytes_cmp key e.0 ≡ o → All P (fin.put bytes_cmp key value es)
      → All P (by_order o ((key, value) ∷ e ∷ es) ((e.0, value) ∷ es) (e ∷ fin.put bytes_cmp key value es))
  by_cases Less is after = All-cons P (key, value) (e ∷ es) here all
  by_cases Equal is after = All-cons P (e.0, value) es (subst (λ (k : List ℕ). P (k, value)) (bytes_cmp-IsAntisymmetric key e.0 is) here) (All-tail P e es all)
  by_cases Greater is after = All-cons P e _ (All-head P e es all) after

record AreFiles (held : FileMap) (most : ℕ) : Type 0 where
  each : All IsBoxFile (fin.entries held)
  few : fin.len held ≤ most

file-added : (recipe : RecipeContents) (all : Contents) (held : FileMap) (most : ℕ) (file : StageFile) → AreContents all → AreFiles held most → kept.IsStageFile file
    → AreFiles (with_stage_file recipe all held file) (most + 1)
file-added recipe all held most file are files is =
    let made = content-is recipe all file.from are in
    record {
      each = subst (All IsBoxFile) (sym (fin.entries-insert nat_list_cmp_total held file.path (content recipe all file.from)))
          (put-all IsBoxFile file.path (content recipe all file.from) (fin.entries held)
          (record { named = is.path.name; name_bytes = is.path.bytes; small = made.small; content_bytes = made.bytes }) files.each);
      few = by_name (fin.contains_key held file.path) (fin.len-insert nat_list_cmp_total held file.path (content recipe all file.from));
    } where
      by_name : (b : Bool) → fin.len (with_stage_file recipe all held file) ≡ cond b (fin.len held) (fin.len held + 1) → fin.len (with_stage_file recipe all held file) ≤ most + 1
      by_name true is = omega (arith, files.few)
      by_name false is = omega (arith, files.few)

-- all files of a stage
files-added : (recipe : RecipeContents) (all : Contents) (held : FileMap) (most : ℕ) (files : List StageFile) → AreContents all → AreFiles held most → All kept.IsStageFile files
    → AreFiles (fold (with_stage_file recipe all) held files) (most + length files)
files-added recipe all held most [] are files is = record { each = files.each; few = omega (arith, files.few) }
files-added recipe all held most (file ∷ rest) are files is =
    let more = files-added recipe all (with_stage_file recipe all held file) (most + 1) rest are
    (file-added recipe all held most file are files (All-head kept.IsStageFile file rest is)) (All-tail kept.IsStageFile file rest is) in
    record { each = more.each; few = omega (arith, more.few) }

no-files : AreFiles fin.empty 0
no-files = record {
  each = subst (All IsBoxFile) (sym (no_entries (fin.entries fin.empty) (sym (fin.len-entries fin.empty) ∙ fin.len-empty bytes_cmp (List ℕ)))) (All-nil IsBoxFile);
  few = omega (arith, fin.len-empty bytes_cmp (List ℕ));
} where
  no_entries : (es : List (List ℕ × List ℕ)) → length es ≡ 0 → es ≡ []
  no_entries [] none = refl
  no_entries (e ∷ es) none = absurd (omega arith)

pub box-is : (recipe : RecipeContents) (all : Contents) (stage : Stage) → AreContents all → kept.IsStage stage → IsBox (box_of recipe all stage)
unfolding box_of
box-is recipe all stage are is =
    let files = files-added recipe all fin.empty 0 stage.files are no-files is.files in
    record {
      args = All-weaker kept.IsWord IsText (λ text word. word.whole) stage.args is.args;
      arg_bytes = All-weaker kept.IsWord AreBytes (λ text word. word.bytes) stage.args is.args;
      env = All-weaker kept.IsWord IsText (λ text word. word.whole) stage.env is.env;
      env_bytes = All-weaker kept.IsWord AreBytes (λ text word. word.bytes) stage.env is.env;
      files = files.each;
      few = omega (arith, files.few, is.few_files);
      heap = is.heap;
    }
