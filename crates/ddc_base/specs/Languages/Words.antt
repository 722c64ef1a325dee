-- The languages by their names in recipes, reports and command lines. Public source: the languages of these names of
-- stage0-posix and mescc-tools.
-- docs/reference/command-line.md is the page for readers.
use Rattle.std.specs.Prelude.{ℕ, List, Option, Some, None, bytes_eq, codes, if◌then◌else◌}
use Rattle.ddc_base.specs.declared.languages.Language.{Language}
use Rattle.ddc_base.specs.declared.languages.Language.TheVariants.{Hex0, Hex1, Hex2, M1}

-- a language's name
unfoldable pub language_word : Language → List ℕ
language_word Hex0 = codes "hex0"
language_word Hex1 = codes "hex1"
language_word Hex2 = codes "hex2"
language_word M1 = codes "m1"

-- the language that a word names, if it names one
unfoldable pub language_named : List ℕ → Option Language
language_named word =
    if bytes_eq word (codes "hex0") then Some Hex0
    else (if bytes_eq word (codes "hex1") then Some Hex1
    else (if bytes_eq word (codes "hex2") then Some Hex2
    else (if bytes_eq word (codes "m1") then Some M1
    else None)))
