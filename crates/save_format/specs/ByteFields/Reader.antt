-- Reading a text from left to right, field by field.
use Rattle.std.specs.Prelude.{◌≡◌, ℕ, zero, suc, ◌-◌, Bool, ◌||◌, ◌==◌, nat_lt, nat_le, List, [], ◌∷◌, length, take, drop, slice_index, Result, Ok, Err, if◌then◌else◌}
use Rattle.std.specs.Int.{Width, w16, w32, w64, byte_len, from_le_bytes}
use Rattle.std.specs.Str.{bytes_eq}
use Rattle.save_format.specs.declared.byte_fields.form.TextForm.{TextForm}
use Rattle.save_format.specs.declared.byte_fields.form.TextForm.TheVariants.{First, Second}
use Rattle.save_format.specs.declared.byte_fields.cursor.WrongField.{WrongField}
use Rattle.save_format.specs.declared.byte_fields.cursor.ReadStop.{ReadStop}
use Rattle.save_format.specs.declared.byte_fields.cursor.ReadStop.TheVariants.{Wrong, OutOfMemory}

-- a value and the bytes left after it, or how many bytes were left at the first byte of the first wrong field
abbrev pub Read : Type 0 → Type 0
Read A = Result (A × List ℕ) ℕ

abbrev pub Reader : Type 0 → Type 0
Reader A = List ℕ → Read A

abbrev pub read_onward : {A B : Type 0} → Read A → (A → Reader B) → Read B
read_onward (Ok x) next = next x.0 x.1
read_onward (Err remaining) next = Err remaining

infixl 10 ◌>>=◌
abbrev pub ◌>>=◌ : {A B : Type 0} → Reader A → (A → Reader B) → Reader B
(field >>= next) remaining = read_onward (field remaining) next

abbrev pub done : {A : Type 0} → A → Reader A
done x remaining = Ok (x, remaining)

-- a little-endian number
unfoldable pub number_of_width : Width → Reader ℕ
number_of_width w remaining = if nat_lt (length remaining) (byte_len w) then Err (length remaining) else Ok (from_le_bytes w (take (byte_len w) remaining), drop (byte_len w) remaining)

abbrev pub u16 : Reader ℕ
u16 = number_of_width w16

abbrev pub u32 : Reader ℕ
u32 = number_of_width w32

abbrev pub u64 : Reader ℕ
u64 = number_of_width w64

-- one byte
unfoldable pub byte : Reader ℕ
byte remaining = if nat_lt (length remaining) 1 then Err (length remaining) else Ok (slice_index remaining 0, drop 1 remaining)

-- `count` bytes
unfoldable pub bytes : ℕ → Reader (List ℕ)
bytes count remaining = if nat_lt (length remaining) count then Err (length remaining) else Ok (take count remaining, drop count remaining)

abbrev pub tested : {A : Type 0} → (A → Bool) → Read A → ℕ → Read A
tested test (Ok x) at = if test x.0 then Ok x else Err at
tested test (Err remaining) at = Err remaining

-- a field that must meet a test; otherwise it is wrong at its first byte
abbrev pub that : {A : Type 0} → (A → Bool) → Reader A → Reader A
that test field remaining = tested test (field remaining) (length remaining)

-- a number of 4 bytes that is at least `least`
abbrev pub u32_from : ℕ → Reader ℕ
u32_from least = that (λ n. nat_le least n) u32

-- the eight bytes that begin each text of a format
abbrev pub begun : List ℕ → Reader (Unit {0})
begun magic = do
  found ← that (bytes_eq magic) (bytes 8)
  done tt

-- the eight bytes that begin a text of one of two formats, and which format it is
abbrev pub begun_in : List ℕ → List ℕ → Reader TextForm
begun_in first second = do
  found ← that (λ found. bytes_eq first found || bytes_eq second found) (bytes 8)
  done (if bytes_eq first found then First else Second)

-- a length, and that many bytes
unfoldable pub blob : Width → Reader (List ℕ)
blob w = do
  count ← number_of_width w
  bytes count

-- `count` items, each read given the preceding one
unfoldable pub several : {A S : Type 0} → (S → Reader A) → (A → S) → S → ℕ → Reader (List A)
several item next s zero = done []
several item next s (suc count) = do
  x ← item s
  xs ← several item next (next x) count
  done (x ∷ xs)

-- `count` items, each read by itself
abbrev pub alike : {A : Type 0} → Reader A → ℕ → Reader (List A)
alike item count = several (λ (before : Unit {0}). item) (λ x. tt) tt count

-- a count, and that many items
abbrev pub counted : {A S : Type 0} → (S → Reader A) → (A → S) → S → Reader (List A)
counted item next s = do
  count ← number_of_width w32
  several item next s count

-- no bytes are left after the value
abbrev pub ended : {A : Type 0} → Read A → Result A ℕ
ended (Ok x) = if length x.1 == 0 then Ok x.0 else Err (length x.1)
ended (Err remaining) = Err remaining

-- the offset at which a field begins that has this many bytes left
abbrev pub at_offset : {A : Type 0} → ℕ → Result A ℕ → Result A ℕ
at_offset size (Ok x) = Ok x
at_offset size (Err remaining) = Err (size - remaining)

-- the value of a whole text, or the offset of its first wrong field
abbrev pub whole : {A : Type 0} → Reader A → List ℕ → Result A ℕ
whole field text = at_offset (length text) (ended (field text))

-- the value that a function returned, seen by `view`, and the bytes that it left are those of reading; or both find the same wrong field
abbrev pub Finds : {X Y : Type 0} → (X → Y) → Result X WrongField → List ℕ → Read Y → Type 0
Finds view (Ok x) remaining read = read ≡ Ok (view x, remaining)
Finds view (Err field) remaining read = read ≡ Err field.remaining

-- a wrong field is the one of reading; out of memory is always allowed
abbrev pub FailsField : {Y : Type 0} → ReadStop → Read Y → Type 0
FailsField (Wrong at) read = read ≡ Err at
FailsField OutOfMemory read = Unit {0}

abbrev pub GivesField : {X Y : Type 0} → (X → Y) → Result X ReadStop → List ℕ → Read Y → Type 0
GivesField view (Ok x) remaining read = read ≡ Ok (view x, remaining)
GivesField view (Err e) remaining read = FailsField e read
