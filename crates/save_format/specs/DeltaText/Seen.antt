-- The code's values as the definitions see them.
use Rattle.std.specs.Prelude.{◌≡◌, ℕ, map, IsOk, Result, Ok, Err}
use Rattle.save_format.specs.DeltaText.DeltaText.{DeltaText}
use Rattle.save_format.specs.Seen.{stage_view}
use Rattle.save_format.specs.StateText.Seen as state
use Rattle.save_format.specs.declared.delta_text.parts.DeltaParts.{DeltaParts}
use Rattle.save_format.specs.declared.state_text.reading.TextRefusal.{TextRefusal}
use Rattle.save_format.specs.declared.state_text.reading.TextRefusal.TheVariants.{Form, OutOfMemory}

abbrev pub delta_view : DeltaParts → DeltaText
delta_view p = record { base = p.base; stages = map stage_view p.done.items; state = state.state_view p.state }

-- the result agrees with reading the text; memory runs out only if the text is well-formed
abbrev pub ReadsDeltaText : Result DeltaParts TextRefusal → Result DeltaText ℕ → Type 0
ReadsDeltaText (Ok p) read = read ≡ Ok (delta_view p)
ReadsDeltaText (Err (Form offset)) read = read ≡ Err offset
ReadsDeltaText (Err OutOfMemory) read = IsOk read
