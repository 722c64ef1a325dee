-- What a recipe's inputs are fetched by, and what is fetched.
use Rattle.std.proofs.Common.{ℕ, IsTrue, List, refl}
use Rattle.recipe.specs.Text.Reading.{is_path, is_path_byte}
use Rattle.command_plan.specs.Words.{is_file_word}
use Rattle.command_plan.proofs.FileWords.{names}

-- a path is a name of a file
pub path_names : (path : List ℕ) → IsTrue (is_path path) → IsTrue (is_file_word path)
unfolding is_path
path_names path is = names is_path_byte refl path is
