-- The code's values as the definitions see them.
use Rattle.std.specs.Prelude.{ℕ, List, Option, option_map}
use Rattle.std.specs.Borrow.{Bor}
use Rattle.std.specs.Option.{option_copied}
use Rattle.save_format.specs.declared.state_text.parts.Page.{Page}
use Rattle.save_format.specs.declared.patch_text.change.Change.{Change}
use Rattle.save_format.specs.PatchText.PatchText.{PageChange}

abbrev pub change_view : Change → PageChange
change_view c = record { number = c.number; bytes = option_copied c.bytes }

-- the bytes of a page, if there is one
abbrev pub bytes_in : Option (Bor Page) → Option (List ℕ)
bytes_in page = option_map (λ p. p.bytes.now) (option_copied page)
