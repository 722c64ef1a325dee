-- No reading is want of memory.
use Rattle.std.proofs.Common.{◌≡◌, ℕ, ◌+◌, List, [], ◌∷◌, ◌++◌, length, Option, Some, None, Bool, true, false, Result, Ok, Err, ap}
use Rattle.std.specs.Prelude.{nat_le, option_map}
use Rattle.ddc_base.specs.Results.{◌>>=◌, ◌>>◌, error_unless, or_error}
use Rattle.toml.specs.Data.{Data, Members, get_member, as_str, as_integer, as_array, as_table}
use Rattle.ddc_base.specs.Names.{name_of}
use Rattle.recipe.specs.declared.text.keys.Key.{Key}
use Rattle.recipe.specs.declared.text.keys.Place.{Place}
use Rattle.recipe.specs.declared.text.refusal.RecipeRefusal.{RecipeRefusal}
use Rattle.recipe.specs.declared.text.refusal.RecipeRefusal.TheVariants.{NotToml, Missing, Unknown, BadName, BadPath, BadNumber, TooMany, OutOfMemory}
use Rattle.recipe.specs.Text.Keys.{key_word, are_listed}
use Rattle.recipe.specs.Text.Reading.{where_there, gathered, each_passes, a_text, a_name, path_of, a_path, is_word, a_word, in_range, a_number, a_table, an_array, values_of, a_list, required, optional, no_other_key, document_of}

pub record Sated {A : Type 0} (reading : Result A RecipeRefusal) : Type 0 where
  pub isnt : reading ≡ Err OutOfMemory → ⊥

abbrev pub fine : {A : Type 0} → A → Result A RecipeRefusal
fine x = Ok x

abbrev failed : {A : Type 0} → RecipeRefusal → Result A RecipeRefusal
failed refusal = Err refusal

same_refusal : {A : Type 0} (refusal other : RecipeRefusal) → failed {A = A} refusal ≡ failed {A = A} other → refusal ≡ other
same_refusal refusal other e = cc

-- a step, and what follows it
pub sated_bind : {A B : Type 0} (r : Result A RecipeRefusal) (f : A → Result B RecipeRefusal) → Sated r → ((x : A) → Sated (f x)) → Sated (r >>= f)
sated_bind (Ok x) f first then = then x
sated_bind {A} {B} (Err d) f first then = record { isnt = λ is. first.isnt (ap Err (same_refusal {A = B} d OutOfMemory is)) }

pub sated_ok : {A : Type 0} (x : A) → Sated (fine x)
sated_ok x = record { isnt = λ is. absurd cc }

pub sated_or : {A : Type 0} (refusal : RecipeRefusal) (o : Option A) → ¬ (refusal ≡ OutOfMemory) → Sated (or_error refusal o)
sated_or refusal (Some x) other = sated_ok x
sated_or {A} refusal None other = record { isnt = λ is. other (same_refusal {A = A} refusal OutOfMemory is) }

pub sated_unless : (refusal : RecipeRefusal) (test : Bool) → ¬ (refusal ≡ OutOfMemory) → Sated (error_unless refusal test)
sated_unless refusal true other = sated_ok tt
sated_unless refusal false other = record { isnt = λ is. other (same_refusal {A = Unit {0}} refusal OutOfMemory is) }

pub sated_gathered : {A B : Type 0} (next : List B → A → Result B RecipeRefusal) (found : List B) (xs : List A)
    → ((before : List B) (x : A) → Sated (next before x)) → Sated (gathered next found xs)
unfolding gathered
sated_gathered next found [] each = sated_ok found
sated_gathered next found (x ∷ xs) each = sated_bind (next found x) (λ y. gathered next (found ++ y ∷ []) xs) (each found x) (λ y. sated_gathered next (found ++ y ∷ []) xs each)

pub sated_passes : {A : Type 0} (test : ℕ → A → Result (Unit {0}) RecipeRefusal) (number : ℕ) (xs : List A)
    → ((number : ℕ) (x : A) → Sated (test number x)) → Sated (each_passes test number xs)
unfolding each_passes
sated_passes test number [] each = sated_ok tt
sated_passes test number (x ∷ xs) each = sated_bind (test number x) (λ _. each_passes test (number + 1) xs) (each number x) (λ _. sated_passes test (number + 1) xs each)

-- ---- the readers of a value

pub sated_text : (place : Place) (key : Key) (value : Data) → Sated (a_text place key value)
unfolding a_text
sated_text place key value = sated_or (Missing place key) (as_str value) (λ is. absurd cc)

pub sated_name : (place : Place) (key : Key) (value : Data) → Sated (a_name place key value)
unfolding a_name
sated_name place key value = sated_bind (a_text place key value) (λ text. or_error (BadName place key) (name_of text)) (sated_text place key value)
    (λ text. sated_or (BadName place key) (name_of text) (λ is. absurd cc))

pub sated_path : (place : Place) (key : Key) (value : Data) → Sated (a_path place key value)
unfolding a_path
sated_path place key value = sated_bind (a_text place key value) (λ text. or_error (BadPath place key) (path_of text)) (sated_text place key value)
    (λ text. sated_or (BadPath place key) (path_of text) (λ is. absurd cc))

pub sated_word : (place : Place) (key : Key) (value : Data) → Sated (a_word place key value)
unfolding a_word
sated_word place key value = sated_bind (a_text place key value) (λ text. error_unless (BadPath place key) (is_word text) >> fine text) (sated_text place key value)
    (λ text. sated_bind (error_unless (BadPath place key) (is_word text)) (λ _. fine text) (sated_unless (BadPath place key) (is_word text) (λ is. absurd cc)) (λ _. sated_ok text))

pub sated_number : (least most : ℕ) (place : Place) (key : Key) (value : Data) → Sated (a_number least most place key value)
unfolding a_number
sated_number least most place key value =
    sated_bind (or_error (Missing place key) (as_integer value)) (λ number. or_error (BadNumber place key) (in_range least most number))
    (sated_or (Missing place key) (as_integer value) (λ is. absurd cc)) (λ number. sated_or (BadNumber place key) (in_range least most number) (λ is. absurd cc))

pub sated_table : (place : Place) (key : Key) (value : Data) → Sated (a_table place key value)
unfolding a_table
sated_table place key value = sated_or (Missing place key) (as_table value) (λ is. absurd cc)

pub sated_array : (least most : ℕ) (place : Place) (key : Key) (value : Data) → Sated (an_array least most place key value)
unfolding an_array
sated_array least most place key value =
    sated_bind (or_error (Missing place key) (option_map values_of (as_array value)))
    (λ values. error_unless (TooMany place key) (nat_le (length values) most) >> (error_unless (Missing place key) (nat_le least (length values)) >> fine values))
    (sated_or (Missing place key) (option_map values_of (as_array value)) (λ is. absurd cc)) (λ values.
    sated_bind (error_unless (TooMany place key) (nat_le (length values) most)) (λ _. error_unless (Missing place key) (nat_le least (length values)) >> fine values)
    (sated_unless (TooMany place key) (nat_le (length values) most) (λ is. absurd cc)) (λ _.
    sated_bind (error_unless (Missing place key) (nat_le least (length values))) (λ _. fine values)
    (sated_unless (Missing place key) (nat_le least (length values)) (λ is. absurd cc)) (λ _. sated_ok values)))

pub sated_list : {A : Type 0} (read : Place → Key → Data → Result A RecipeRefusal) (least most : ℕ) (place : Place) (key : Key) (value : Data)
    → ((element : Data) → Sated (read place key element)) → Sated (a_list read least most place key value)
unfolding a_list
sated_list read least most place key value each =
    sated_bind (an_array least most place key value) (λ values. gathered (λ _ element. read place key element) [] values) (sated_array least most place key value)
    (λ values. sated_gathered (λ _ element. read place key element) [] values (λ _ element. each element))

-- ---- at a key

pub sated_required : {A : Type 0} (read : Place → Key → Data → Result A RecipeRefusal) (place : Place) (key : Key) (table : Members)
    → ((value : Data) → Sated (read place key value)) → Sated (required read place key table)
unfolding required
sated_required read place key table each =
    sated_bind (or_error (Missing place key) (get_member (key_word key) table)) (read place key) (sated_or (Missing place key) (get_member (key_word key) table) (λ is. absurd cc)) each

sated_there : {A B : Type 0} (read : A → Result B RecipeRefusal) (found : Option A) → ((x : A) → Sated (read x)) → Sated (where_there read found)
sated_there read None each = sated_ok None
sated_there read (Some x) each = sated_bind (read x) (λ y. fine (Some y)) (each x) (λ y. sated_ok (Some y))

pub sated_optional : {A : Type 0} (read : Place → Key → Data → Result A RecipeRefusal) (place : Place) (key : Key) (table : Members)
    → ((value : Data) → Sated (read place key value)) → Sated (optional read place key table)
unfolding optional
sated_optional read place key table each = sated_there (read place key) (get_member (key_word key) table) each

pub sated_no_other_key : (place : Place) (keys : List Key) (table : Members) → Sated (no_other_key place keys table)
unfolding no_other_key
sated_no_other_key place keys table = sated_unless (Unknown place) (are_listed keys table) (λ is. absurd cc)

pub sated_document : (bytes : List ℕ) → Sated (document_of bytes)
unfolding document_of
sated_document bytes = sated_or NotToml _ (λ is. absurd cc)
