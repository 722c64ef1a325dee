-- The tables and keys of a recipe by their words (docs/reference/recipe.md).
use Rattle.std.specs.Prelude.{ℕ, Bool, true, ◌&&◌, List, codes, bytes_eq}
use Rattle.std.specs.List.{list_any}
use Rattle.toml.specs.Data.{Members, no_members, member}
use Rattle.recipe.specs.declared.text.keys.Key.{Key}
use Rattle.recipe.specs.declared.text.keys.Key.TheVariants as key
use Rattle.recipe.specs.declared.text.keys.Table.{Table}
use Rattle.recipe.specs.declared.text.keys.Table.TheVariants as table

-- a key as a recipe spells it
abbrev pub key_word : Key → List ℕ
key_word key.Format = codes "format"
key_word key.Input = codes "input"
key_word key.Source = codes "source"
key_word key.Stage = codes "stage"
key_word key.Compare = codes "compare"
key_word key.Name = codes "name"
key_word key.Path = codes "path"
key_word key.Implements = codes "implements"
key_word key.Lang = codes "lang"
key_word key.Base = codes "base"
key_word key.Files = codes "files"
key_word key.Program = codes "program"
key_word key.Args = codes "args"
key_word key.Env = codes "env"
key_word key.From = codes "from"
key_word key.Output = codes "output"
key_word key.Steps = codes "steps"
key_word key.Heap = codes "heap"
key_word key.Check = codes "check"
key_word key.Becomes = codes "becomes"
key_word key.Stages = codes "stages"
key_word key.Binary = codes "binary"

-- a kind of table by its word
abbrev pub table_word : Table → List ℕ
table_word table.Top = codes "top"
table_word table.Input = codes "input"
table_word table.Source = codes "source"
table_word table.Stage = codes "stage"
table_word table.Compare = codes "compare"

-- whether a text is one of the keys
abbrev pub is_known_key : List Key → List ℕ → Bool
is_known_key keys text = list_any (λ key. bytes_eq (key_word key) text) keys

-- whether a table has no other keys than these
abbrev pub are_listed : List Key → Members → Bool
are_listed keys no_members = true
are_listed keys (member text value more) = is_known_key keys text && are_listed keys more
