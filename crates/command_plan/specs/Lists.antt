-- Files that are lists, one item a line. docs/reference/command-line.md says the same for people.
use Rattle.std.specs.Prelude.{◌≡◌, ℕ, ◌+◌, ◌==◌, ◌&&◌, Bool, List, [], ◌∷◌, ◌++◌, length, nat_le, nat_lt, Option, None, Some, Result, Ok, Err, if◌then◌else◌}
use Rattle.std.specs.List.{list_all, slice_split}
use Rattle.ddc_base.specs.Limits.{most_list}
use Rattle.command_plan.specs.declared.status.Status.TheVariants.{ListRefused}
use Rattle.command_plan.specs.Plan.{Plan, answers, needs, unless_refused}
use Rattle.command_plan.specs.Texts.{list_line}

-- a byte of a listed word: 21 to 7E, both included
abbrev pub is_listed_byte : ℕ → Bool
is_listed_byte byte = nat_le 0x21 byte && nat_le byte 0x7E

-- a listed word: 1 to 255 such bytes
unfoldable pub is_listed_word : List ℕ → Bool
is_listed_word text = nat_le 1 (length text) && nat_le (length text) 255 && list_all is_listed_byte text

-- the text as a listed word; None if it is not one
abbrev pub listed_word : List ℕ → Option (List ℕ)
listed_word text = if is_listed_word text then Some text else None

-- LF, which ends a line; text after the last LF is a line that is not ended, unless it is empty
abbrev pub is_line_feed : ℕ → Bool
is_line_feed byte = byte == 10

-- reading continues with the item of a line; an invalid line is refused by its number
abbrev pub with_line_item : {A : Type 0} → Option A → ℕ → (A → Result (List A) ℕ) → Result (List A) ℕ
with_line_item None number next = Err number
with_line_item (Some item) number next = next item

-- the items of these lines after earlier items, at most `most` in all; `form` reads each line, given the items before it. The error is the
-- number, from 1, of the first line that is invalid, not ended, or one too many
abbrev pub listed_after : {A : Type 0} → (List A → List ℕ → Option A) → ℕ → List A → List (List ℕ) → Result (List A) ℕ
listed_after form most earlier [] = Ok earlier
listed_after form most earlier (last ∷ []) = if length last == 0 then Ok earlier else Err (length earlier + 1)
listed_after form most earlier (line ∷ next ∷ lines) =
    if nat_lt (length earlier) most
    then with_line_item (form earlier line) (length earlier + 1) (λ item. listed_after form most (earlier ++ item ∷ []) (next ∷ lines))
    else Err (length earlier + 1)

-- the items of a text, or the number of the first refused line
unfoldable pub list_of : {A : Type 0} → (List A → List ℕ → Option A) → ℕ → List ℕ → Result (List A) ℕ
list_of form most text = listed_after form most [] (slice_split is_line_feed text)

-- the items are those of some text
abbrev pub IsListed : {A : Type 0} → (List A → List ℕ → Option A) → ℕ → List A → Type 0
IsListed form most items = (text : List ℕ) × (list_of form most text ≡ Ok items)

-- the plan needs a list of at most 1,048,576 bytes, and reads it
abbrev pub needs_list : {A : Type 0} → (List A → List ℕ → Option A) → ℕ → List ℕ → (List A → Plan) → Plan
needs_list form most file next =
    needs file most_list (λ text. unless_refused (list_of form most text) (λ number. answers ListRefused (list_line number)) next)
