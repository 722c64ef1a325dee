-- How a base and a text are judged. docs/reference/delta.md says the same for people.
use Rattle.std.specs.Prelude.{ℕ, List, Result, Ok, Err, if◌then◌else◌}
use Rattle.recipe.specs.declared.contents.RecipeContents.{RecipeContents}
use Rattle.save_format.specs.SaveText.{SaveText}
use Rattle.save_format.specs.DeltaText.DeltaText.{DeltaText, parsed_delta}
use Rattle.save_format.specs.DeltaText.Header.{is_of_other_base}
use Rattle.audit_rules.specs.Positions.{Position}
use Rattle.audit_run.specs.Save.Inside.Tests.{is_saved_position}
use Rattle.audit_run.specs.Save.Judged.{judged}
use Rattle.audit_run.specs.Save.Saves.{position_of, save_of}
use Rattle.audit_run.specs.Delta.Deltas.{base_digest, save_relative}
use Rattle.audit_run.specs.declared.delta.reading.DeltaRefusal.{DeltaRefusal}
use Rattle.audit_run.specs.declared.delta.reading.DeltaRefusal.TheVariants.{Base, Form, OtherBase, State}
use Rattle.audit_run.specs.declared.save.reading.SaveRefusal.{SaveRefusal}

-- the result of a parsed delta: a position of the audit, or a refusal
abbrev pub position_relative : RecipeContents → SaveText → Result DeltaText ℕ → Result Position DeltaRefusal
position_relative recipe base (Err offset) = Err (Form offset)
position_relative recipe base (Ok delta) = if is_saved_position recipe (save_relative base delta) then Ok (position_of (save_relative base delta)) else Err State

-- the result of a text relative to the save of its base: whether it names another base, and then what it says
abbrev pub judged_from : RecipeContents → SaveText → List ℕ → Result Position DeltaRefusal
judged_from recipe base text = if is_of_other_base (base_digest base) text then Err OtherBase else position_relative recipe base (parsed_delta base text)

-- the base is judged first
abbrev pub after_base : RecipeContents → List (List ℕ) → List ℕ → Result Position SaveRefusal → Result Position DeltaRefusal
after_base recipe inputs text (Err refusal) = Err (Base refusal)
after_base recipe inputs text (Ok base) = judged_from recipe (save_of recipe inputs base) text

unfoldable pub judged_relative : RecipeContents → List (List ℕ) → List ℕ → List ℕ → Result Position DeltaRefusal
judged_relative recipe inputs base text = after_base recipe inputs text (judged recipe inputs base)
