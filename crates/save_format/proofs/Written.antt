-- What the writer's calls want of parts that have a text, and what they join.
use Rattle.std.proofs.Common.{ℕ, ◌^◌, ◌<◌, Option, None, List, [], ◌∷◌, length, append_assoc}
use Rattle.std.specs.List.{AllByRecursion}
use Rattle.std.proofs.lemmas.List.Elements.{All-from_recursion}
use Rattle.save_format.specs.ByteFields.Spelling.{InTurn}
use Rattle.report.specs.declared.types.LeftLine.{LeftLine}
use Rattle.save_format.specs.SaveText.{StageText, after_left}
use Rattle.save_format.specs.Encoded.{IsSavedLeft, IsShortStage, IsStageText}

pub ruleset written = append_assoc

names_by : (files : List LeftLine) (last : Option (List ℕ)) → InTurn IsSavedLeft after_left last files → AllByRecursion (λ f. length f.name < 2 ^ 16) files
names_by [] last fits = tt
names_by (f ∷ fs) last fits = (fits.0.short, names_by fs (after_left f) fits.1)

contents_by : (files : List LeftLine) (last : Option (List ℕ)) → InTurn IsSavedLeft after_left last files → AllByRecursion (λ f. f.mark.length < 2 ^ 32) files
contents_by [] last fits = tt
contents_by (f ∷ fs) last fits = (fits.0.mark.length, contents_by fs (after_left f) fits.1)

pub is_short : (stage : StageText) → IsStageText stage → IsShortStage stage
is_short stage fits = record {
  stream1 = fits.stream1.length;
  stream2 = fits.stream2.length;
  few = fits.left.0;
  names = All-from_recursion (λ (f : LeftLine). length f.name < 2 ^ 16) stage.left (names_by stage.left None fits.left.1);
  contents = All-from_recursion (λ (f : LeftLine). f.mark.length < 2 ^ 32) stage.left (contents_by stage.left None fits.left.1);
  made = fits.made.short;
}
