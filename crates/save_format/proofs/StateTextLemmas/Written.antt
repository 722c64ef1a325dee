-- What the writer's calls want of parts that have a text.
use Rattle.std.proofs.Common.{ℕ, ◌^◌, ◌<◌, Option, None, Some, List, [], ◌∷◌, length, map, All, append_assoc, arith}
use Rattle.std.specs.List.{AllByRecursion}
use Rattle.std.proofs.lemmas.List.Elements.{All-from_recursion}
use Rattle.save_format.specs.ByteFields.Spelling.{InTurn}
use Rattle.save_format.specs.declared.state_text.parts.File.{File}
use Rattle.save_format.specs.StateText.StateText.{after_file}
use Rattle.save_format.specs.StateText.Encoded.{IsFile, IsNameText, IsShortFile, name_bytes}
use Rattle.save_format.specs.StateText.Seen.{file_view}

pub ruleset written = append_assoc

short_name : (name : Option (List ℕ)) → IsNameText name → length (name_bytes name) < 2 ^ 16
short_name None f = omega arith
short_name (Some name) f = f.1

by_turn : (files : List File) (least : ℕ) → InTurn IsFile after_file least (map file_view files) → AllByRecursion (λ f. IsShortFile (file_view f)) files
by_turn [] least fits = tt
by_turn (f ∷ fs) least fits = ((short_name (file_view f).name fits.0.name, fits.0.content.short), by_turn fs (after_file (file_view f)) fits.1)

pub short_files : (files : List File) → InTurn IsFile after_file 0 (map file_view files) → All (λ f. IsShortFile (file_view f)) files
short_files files fits = All-from_recursion (λ f. IsShortFile (file_view f)) files (by_turn files 0 fits)
