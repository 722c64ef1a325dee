-- The code's values as the definitions see them.
use Rattle.std.specs.Prelude.{◌≡◌, ℕ, length, map, IsOk, Result, Ok, Err}
use Rattle.ddc_base.specs.declared.digests.Digest.{Digest}
use Rattle.save_format.specs.StateText.Mappable.{IsHeaderOf}
use Rattle.save_format.specs.StateText.Seen as state
use Rattle.save_format.specs.declared.mapping.SaveHeader.{SaveHeader}
use Rattle.save_format.specs.declared.state_text.reading.TextRefusal.{TextRefusal}
use Rattle.save_format.specs.declared.state_text.reading.TextRefusal.TheVariants.{Form, OutOfMemory}
use Rattle.save_format.specs.declared.parts.InputPart.{InputPart}
use Rattle.save_format.specs.declared.parts.Parts.{Parts}
use Rattle.save_format.specs.declared.parts.StagePart.{StagePart}
use Rattle.save_format.specs.SaveText.{SaveText, StageText}

abbrev pub input_view : InputPart → Digest
input_view input = input.digest

abbrev pub stage_view : StagePart → StageText
stage_view s = record { steps = s.steps; stream1 = s.stream1; stream2 = s.stream2; left = s.left; made = s.made }

abbrev pub save_view : Parts → SaveText
save_view p = record { recipe = p.recipe; inputs = map input_view p.inputs.items; stages = map stage_view p.done.items; state = state.state_view p.state }

-- the result agrees with reading the text; memory runs out only if the text is well-formed
abbrev pub ReadsSaveText : Result Parts TextRefusal → Result SaveText ℕ → Type 0
ReadsSaveText (Ok p) read = read ≡ Ok (save_view p)
ReadsSaveText (Err (Form offset)) read = read ≡ Err offset
ReadsSaveText (Err OutOfMemory) read = IsOk read

-- the fields of a save in front of the pages of its state: how many stages are finished, and the front of the state
pub record IsSaveHeaderOf (header : SaveHeader) (save : SaveText) : Type 0 where
  pub stages : header.stages ≡ length save.stages
  pub state : IsHeaderOf header.state save.state
