-- The fields of a save, and how they are read. docs/reference/save.md is the page for readers.
use Rattle.std.specs.Prelude.{ℕ, Bool, true, Option, None, Some, List, [], ◌∷◌, Result}
use Rattle.std.specs.Int.{w32}
use Rattle.std.specs.Ordering.{nat_cmp, is_lt}
use Rattle.std.specs.Cmp.Lexicographic.{slice_cmp}
use Rattle.ddc_base.specs.declared.digests.Digest.{Digest}
use Rattle.report.specs.declared.types.LeftLine.{LeftLine}
use Rattle.report.specs.declared.types.Mark.{Mark}
use Rattle.save_format.specs.ByteFields.Reader.{Reader, ◌>>=◌, begun_in, blob, bytes, counted, done, that, u16, u32, u64, whole}
use Rattle.save_format.specs.declared.byte_fields.form.TextForm.{TextForm}
use Rattle.save_format.specs.declared.byte_fields.form.TextForm.TheVariants.{First, Second}
use Rattle.save_format.specs.StateText.StateText.{StateText, state_in}

-- ---- what a text says

-- a finished stage
pub record StageText : Type 0 where
  pub steps : ℕ
  pub stream1 : Mark
  pub stream2 : Mark
  pub left : List LeftLine
  pub made : List ℕ

pub record SaveText : Type 0 where
  pub recipe : Digest
  pub inputs : List Digest
  pub stages : List StageText
  pub state : StateText

-- ---- how it is read

-- the eight bytes that begin each text of a format: `ddcsave1` and `ddcsave2`
abbrev pub save_magic : TextForm → List ℕ
save_magic First = 100 ∷ 100 ∷ 99 ∷ 115 ∷ 97 ∷ 118 ∷ 101 ∷ 49 ∷ []
save_magic Second = 100 ∷ 100 ∷ 99 ∷ 115 ∷ 97 ∷ 118 ∷ 101 ∷ 50 ∷ []

unfoldable pub digest_at : Reader Digest
digest_at = do
  found ← bytes 32
  done (record { 0 = found })

unfoldable pub mark_at : Reader Mark
mark_at = do
  length ← u32
  digest ← digest_at
  done (record { length = length; digest = digest })

-- is a name greater than the preceding one, by their bytes?
abbrev pub comes_after : Option (List ℕ) → List ℕ → Bool
comes_after None name = true
comes_after (Some last) name = is_lt (slice_cmp nat_cmp last name)

-- a length, and a name of that many bytes; it is wrong if it is not greater than the preceding one
unfoldable pub saved_name_at : Option (List ℕ) → Reader (List ℕ)
saved_name_at last = do
  count ← u16
  that (comes_after last) (bytes count)

unfoldable pub saved_left_at : Option (List ℕ) → Reader LeftLine
saved_left_at last = do
  name ← saved_name_at last
  mark ← mark_at
  done (record { name = name; mark = mark })

abbrev pub after_left : LeftLine → Option (List ℕ)
after_left file = Some file.name

unfoldable pub saved_stage_at : ℕ → Reader StageText
saved_stage_at any = do
  steps ← u64
  stream1 ← mark_at
  stream2 ← mark_at
  left ← counted saved_left_at after_left None
  made ← blob w32
  done (record { steps = steps; stream1 = stream1; stream2 = stream2; left = left; made = made })

-- the fields after the magic of a format; the state has the same format
unfoldable pub fields_at : TextForm → Reader SaveText
fields_at form = do
  recipe ← digest_at
  inputs ← counted (λ (any : ℕ). digest_at) (λ input. 0) 0
  stages ← counted {S = ℕ} saved_stage_at (λ stage. 0) 0
  state ← state_in form
  done (record { recipe = recipe; inputs = inputs; stages = stages; state = state })

-- the recipe of a save in either format, and the number of inputs, whose digests follow
unfoldable pub origin_at : Reader (Digest × ℕ)
origin_at = do
  form ← begun_in (save_magic First) (save_magic Second)
  recipe ← digest_at
  count ← u32
  done (recipe, count)

-- a save in either format
unfoldable pub save_at : Reader SaveText
save_at = do
  form ← begun_in (save_magic First) (save_magic Second)
  fields_at form

-- the save in a text, or the offset of its first wrong field: nothing follows the state
unfoldable pub parsed_save : List ℕ → Result SaveText ℕ
parsed_save text = whole save_at text
