-- The finished stages, relative to those of a base: how many at the front are the base's, and then the further ones.
-- docs/reference/delta.md is the page for readers.
use Rattle.std.specs.Prelude.{ℕ, suc, ◌^◌, ◌<◌, Bool, true, false, ◌&&◌, ◌==◌, not, nat_le, bytes_eq, Option, None, Some, List, [], ◌∷◌, ◌++◌, All, length, take, drop, slice_get, if◌then◌else◌}
use Rattle.std.specs.Int.{w32}
use Rattle.save_format.specs.ByteFields.Reader.{Reader, ◌>>=◌, counted, done, that, u32}
use Rattle.save_format.specs.ByteFields.Spelling.{list_text, number_text}
use Rattle.report.specs.declared.types.LeftLine.{LeftLine}
use Rattle.report.specs.declared.types.Mark.{Mark}
use Rattle.save_format.specs.SaveText.{StageText, saved_stage_at}
use Rattle.save_format.specs.Encoded.{IsStageText, stage_text}

-- ---- two stages are the same, field by field

abbrev pub equal_marks : Mark → Mark → Bool
equal_marks first second = first.length == second.length && bytes_eq first.digest.0 second.digest.0

abbrev pub equal_left : LeftLine → LeftLine → Bool
equal_left first second = bytes_eq first.name second.name && equal_marks first.mark second.mark

abbrev pub equal_lefts : List LeftLine → List LeftLine → Bool
equal_lefts [] [] = true
equal_lefts [] (second ∷ seconds) = false
equal_lefts (first ∷ firsts) [] = false
equal_lefts (first ∷ firsts) (second ∷ seconds) = equal_left first second && equal_lefts firsts seconds

abbrev pub equal_stages : StageText → StageText → Bool
equal_stages first second =
    first.steps == second.steps && (equal_marks first.stream1 second.stream1 && (equal_marks first.stream2 second.stream2
    && (equal_lefts first.left second.left && bytes_eq first.made second.made)))

-- does a stage differ from the base's stage at the same index, if there is one?
abbrev pub is_other_stage : Option StageText → StageText → Bool
is_other_stage None stage = true
is_other_stage (Some known) stage = not (equal_stages known stage)

-- a further stage; it is wrong if it equals the base's next stage
unfoldable pub further_at : Option StageText → Reader StageText
further_at known = that (is_other_stage known) (saved_stage_at 0)

abbrev pub after_further : StageText → Option StageText
after_further stage = None

-- the kept stages of the base, and then further ones; the first of these differs from the base's next stage, so that no
-- more could be kept
unfoldable pub stages_relative_at : List StageText → Reader (List StageText)
stages_relative_at base = do
  kept ← that (λ kept. nat_le kept (length base)) u32
  further ← counted further_at after_further (slice_get base kept)
  done (take kept base ++ further)

-- ---- how they are spelled

-- how many stages at the front are the same in both
unfoldable pub kept_stages : List StageText → List StageText → ℕ
kept_stages [] stages = 0
kept_stages (known ∷ more) [] = 0
kept_stages (known ∷ more) (stage ∷ stages) = if equal_stages known stage then suc (kept_stages more stages) else 0

abbrev pub stages_relative_text : List StageText → List StageText → List ℕ
stages_relative_text base stages = number_text w32 (kept_stages base stages) ++ list_text stage_text (drop (kept_stages base stages) stages)

-- each stage has a text, and both counts fit their fields
pub record AreStagesRelative (base stages : List StageText) : Type 0 where
  pub all : All IsStageText stages
  pub kept : kept_stages base stages < 2 ^ 32
  pub few : length (drop (kept_stages base stages) stages) < 2 ^ 32
