-- The rules of a save as computable tests. The law `save::laws::the_tests_are_the_rules` proves them equal, so no promise depends on this
-- file being read.
use Rattle.std.specs.Prelude.{ℕ, ◌^◌, Bool, true, false, ◌&&◌, ◌==◌, bytes_eq, nat_le, nat_lt, List, [], ◌∷◌, length, map}
use Rattle.std.specs.List.{list_all, list_any}
use Rattle.checkpoints.specs.Inside.Tests.{are_bytes, is_content, is_in_range, is_joined}
use Rattle.ddc_base.specs.declared.digests.Digest.{Digest}
use Rattle.ddc_base.specs.Limits.{most_artefacts, most_names}
use Rattle.mem_files.specs.Names.{is_stripped_name}
use Rattle.recipe.specs.declared.contents.RecipeContents.{RecipeContents}
use Rattle.recipe.specs.declared.parts.Output.{Output}
use Rattle.recipe.specs.declared.parts.Output.TheVariants.{Stream, File}
use Rattle.recipe.specs.declared.parts.Stage.{Stage}
use Rattle.report.specs.declared.types.LeftLine.{LeftLine}
use Rattle.report.specs.declared.types.Mark.{Mark}
use Rattle.report.specs.Reports.{ascend}
use Rattle.save_format.specs.SaveText.{SaveText}
use Rattle.audit_rules.specs.declared.answer.Finished.{Finished}
use Rattle.audit_rules.specs.Positions.{todo}
use Rattle.report.specs.Marks.{mark_of}
use Rattle.audit_rules.specs.Stages.{artefact_bytes}
use Rattle.audit_run.specs.Save.Saves.{digest_of, done_in}

-- marks

abbrev pub same_digest : Digest → Digest → Bool
same_digest a b = bytes_eq a.0 b.0

abbrev pub same_digests : List Digest → List Digest → Bool
same_digests [] [] = true
same_digests [] (b ∷ others) = false
same_digests (a ∷ rest) [] = false
same_digests (a ∷ rest) (b ∷ others) = same_digest a b && same_digests rest others

abbrev pub same_mark : Mark → Mark → Bool
same_mark a b = a.length == b.length && same_digest a.digest b.digest

abbrev pub same_line : LeftLine → LeftLine → Bool
same_line a b = bytes_eq a.name b.name && same_mark a.mark b.mark

abbrev pub is_small_mark : Mark → Bool
is_small_mark mark = nat_lt mark.length (2 ^ 32) && (length mark.digest.0 == 32 && are_bytes mark.digest.0)

-- finished stages

abbrev pub is_left_line : LeftLine → Bool
is_left_line file = is_stripped_name file.name && (are_bytes file.name && is_small_mark file.mark)

abbrev pub has_mark : Output → Finished → Bool
has_mark Stream f = same_mark f.stream1 (mark_of f.made)
has_mark (File path) f = list_any (λ line. same_line line (record { name = path; mark = mark_of f.made })) f.left

unfoldable pub is_finished : Stage → Finished → Bool
is_finished stage f =
    nat_le 1 f.steps
    && (nat_le f.steps stage.steps
    && (is_small_mark f.stream1
    && (is_small_mark f.stream2
    && (list_all is_left_line f.left && (nat_le (length f.left) most_names && (ascend f.left && (is_content f.made && has_mark stage.output f)))))))

abbrev pub are_finished : List Stage → List Finished → Bool
are_finished stages [] = true
are_finished [] (f ∷ done) = false
are_finished (stage ∷ stages) (f ∷ done) = is_finished stage f && are_finished stages done

unfoldable pub are_done : RecipeContents → List Finished → Bool
are_done recipe done = are_finished recipe.stages done && nat_le (artefact_bytes done) most_artefacts

-- saves

unfoldable pub is_of : RecipeContents → List (List ℕ) → SaveText → Bool
is_of recipe inputs save = same_digest save.recipe recipe.digest && same_digests save.inputs (map digest_of inputs)

-- with these stages left
abbrev pub is_saved_position_before : RecipeContents → SaveText → List Stage → Bool
is_saved_position_before recipe save [] = false
is_saved_position_before recipe save (stage ∷ stages) =
    are_done recipe (done_in save)
    && (is_in_range save.state && (is_joined save.state && (nat_lt save.state.steps stage.steps && save.state.heap.limit == stage.heap)))

unfoldable pub is_saved_position : RecipeContents → SaveText → Bool
is_saved_position recipe save = is_saved_position_before recipe save (todo recipe (done_in save))
