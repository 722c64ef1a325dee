-- The value at a key of a recipe's tables, or the first refusal (docs/reference/recipe.md, "What stands at a key"). The tables are those
-- of a document of TOML 1.0.0 (toml.io), whose bytes are UTF-8 (RFC 3629).
use Rattle.std.specs.Prelude.{◌≡◌, ℕ, ◌+◌, ℤ, pos, negsuc, Bool, ◌&&◌, nat_le, List, [], ◌∷◌, ◌++◌, length, Option, Some, None, option_map, Result, Ok, Err, if◌then◌else◌}
use Rattle.std.specs.List.{list_all}
use Rattle.std.specs.Str.{is_utf8}
use Rattle.toml.specs.Data.{Data, Members, Items, no_items, item, get_member, as_str, as_integer, as_array, as_table}
use Rattle.toml.specs.Parse.{parse_document}
use Rattle.ddc_base.specs.Names.{name_of}
use Rattle.ddc_base.specs.Results.{◌>>=◌, ◌>>◌, or_error, error_unless}
use Rattle.recipe.specs.declared.text.keys.Key.{Key}
use Rattle.recipe.specs.declared.text.keys.Place.{Place}
use Rattle.recipe.specs.declared.text.refusal.RecipeRefusal.{RecipeRefusal}
use Rattle.recipe.specs.declared.text.refusal.RecipeRefusal.TheVariants.{NotToml, Missing, Unknown, BadName, BadPath, BadNumber, TooMany, OutOfMemory}
use Rattle.recipe.specs.Text.Keys.{key_word, are_listed}

-- ---- a reading is a value or the first refusal

-- each element read in order, given what was read before it
unfoldable pub gathered : {A B : Type 0} → (List B → A → Result B RecipeRefusal) → List B → List A → Result (List B) RecipeRefusal
gathered next found [] = Ok found
gathered next found (x ∷ xs) = do
  y ← next found x
  gathered next (found ++ y ∷ []) xs

-- each element tested in order, with its number
unfoldable pub each_passes : {A : Type 0} → (ℕ → A → Result (Unit {0}) RecipeRefusal) → ℕ → List A → Result (Unit {0}) RecipeRefusal
each_passes test number [] = Ok tt
each_passes test number (x ∷ xs) = do
  test number x
  each_passes test (number + 1) xs

-- ---- the answer of a call: the reading, seen by `view`, or out of memory

abbrev pub IsRefused : {Y : Type 0} → RecipeRefusal → Result Y RecipeRefusal → Type 0
IsRefused OutOfMemory reading = Unit {0}
IsRefused refusal reading = reading ≡ Err refusal

abbrev pub Gives : {X Y : Type 0} → (X → Y) → Result X RecipeRefusal → Result Y RecipeRefusal → Type 0
Gives view (Ok x) reading = reading ≡ Ok (view x)
Gives view (Err refusal) reading = IsRefused refusal reading

-- the answer of a reader that takes no memory
abbrev pub NeverWants : {X : Type 0} → Result X RecipeRefusal → Type 0
NeverWants (Err OutOfMemory) = ⊥
NeverWants answer = Unit {0}

-- ---- the readers of a value: each takes the place of the table and the key, which its refusals name

unfoldable pub a_text : Place → Key → Data → Result (List ℕ) RecipeRefusal
a_text place key value = or_error (Missing place key) (as_str value)

unfoldable pub a_name : Place → Key → Data → Result (List ℕ) RecipeRefusal
a_name place key value = do
  text ← a_text place key value
  or_error (BadName place key) (name_of text)

-- a byte of a path: 20 to 7E
abbrev pub is_path_byte : ℕ → Bool
is_path_byte byte = nat_le 0x20 byte && nat_le byte 0x7E

-- a path: 1 to 255 such bytes
unfoldable pub is_path : List ℕ → Bool
is_path text = nat_le 1 (length text) && nat_le (length text) 255 && list_all is_path_byte text

-- the path of a text, if it is one
abbrev pub path_of : List ℕ → Option (List ℕ)
path_of text = if is_path text then Some text else None

unfoldable pub a_path : Place → Key → Data → Result (List ℕ) RecipeRefusal
a_path place key value = do
  text ← a_text place key value
  or_error (BadPath place key) (path_of text)

-- a byte of a word for a program: 1 to FF
abbrev pub is_word_byte : ℕ → Bool
is_word_byte byte = nat_le 1 byte && nat_le byte 0xFF

-- a word for a program: at most 255 such bytes
unfoldable pub is_word : List ℕ → Bool
is_word text = nat_le (length text) 255 && list_all is_word_byte text

unfoldable pub a_word : Place → Key → Data → Result (List ℕ) RecipeRefusal
a_word place key value = do
  text ← a_text place key value
  error_unless (BadPath place key) (is_word text)
  Ok text

-- the number, if it is in the range
abbrev pub in_range : ℕ → ℕ → ℤ → Option ℕ
in_range least most (pos number) = if nat_le least number && nat_le number most then Some number else None
in_range least most (negsuc number) = None

-- a number from least to most
unfoldable pub a_number : ℕ → ℕ → Place → Key → Data → Result ℕ RecipeRefusal
a_number least most place key value = do
  number ← or_error (Missing place key) (as_integer value)
  or_error (BadNumber place key) (in_range least most number)

unfoldable pub a_table : Place → Key → Data → Result Members RecipeRefusal
a_table place key value = or_error (Missing place key) (as_table value)

-- an array's values
unfoldable pub values_of : Items → List Data
values_of no_items = []
values_of (item value more) = value ∷ values_of more

-- from least to most values
unfoldable pub an_array : ℕ → ℕ → Place → Key → Data → Result (List Data) RecipeRefusal
an_array least most place key value = do
  values ← or_error (Missing place key) (option_map values_of (as_array value))
  error_unless (TooMany place key) (nat_le (length values) most)
  error_unless (Missing place key) (nat_le least (length values))
  Ok values

-- from least to most values, each read by the reader
unfoldable pub a_list : {A : Type 0} → (Place → Key → Data → Result A RecipeRefusal) → ℕ → ℕ → Place → Key → Data → Result (List A) RecipeRefusal
a_list read least most place key value = do
  values ← an_array least most place key value
  gathered (λ _ element. read place key element) [] values

-- ---- the values at keys

-- the value at a required key
unfoldable pub required : {A : Type 0} → (Place → Key → Data → Result A RecipeRefusal) → Place → Key → Members → Result A RecipeRefusal
required read place key table = do
  value ← or_error (Missing place key) (get_member (key_word key) table)
  read place key value

abbrev pub where_there : {A B : Type 0} → (A → Result B RecipeRefusal) → Option A → Result (Option B) RecipeRefusal
where_there read None = Ok None
where_there read (Some value) = read value >>= λ x. Ok (Some x)

-- the value at an optional key
unfoldable pub optional : {A : Type 0} → (Place → Key → Data → Result A RecipeRefusal) → Place → Key → Members → Result (Option A) RecipeRefusal
optional read place key table = where_there (read place key) (get_member (key_word key) table)

-- the table has no other key
unfoldable pub no_other_key : Place → List Key → Members → Result (Unit {0}) RecipeRefusal
no_other_key place keys table = error_unless (Unknown place) (are_listed keys table)

-- ---- the whole text

-- the top table of the bytes: a document of TOML 1.0.0 in UTF-8
unfoldable pub document_of : List ℕ → Result Members RecipeRefusal
document_of bytes = or_error NotToml (if is_utf8 bytes then parse_document bytes else None)
