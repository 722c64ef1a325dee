-- Reading the fields in front of the pages without allocation.
use Rattle.std.specs.Prelude.{◌≡◌, ◌+◌, ◌≤◌, ◌↔◌, ℕ, All, Bool, IsTrue, List, Option, None, Some, Result, Ok, Err, sum_by}
use Rattle.ddc_base.specs.Limits.{most_pages, page_number_end}
use Rattle.save_format.specs.ByteFields.Reader.{Read}
use Rattle.save_format.specs.StateText.Mappable.{AreMappable}
use Rattle.save_format.specs.declared.byte_fields.cursor.WrongField.{WrongField}
use Rattle.save_format.specs.declared.state_text.parts.Run.{Run}

-- how many of the most pages are left after runs that can be mapped; none if they cannot
abbrev pub IsRemainingAfter : Option ℕ → List Run → Type 0
IsRemainingAfter None runs = ¬ (AreMappable runs)
IsRemainingAfter (Some remaining) runs = All (λ run. run.first + run.pages ≤ page_number_end) runs × (sum_by (λ run. run.pages) runs + remaining ≡ most_pages)

-- a function skipped runs and returned whether they can be mapped, or found them wrong
abbrev pub PassesRuns : Result Bool WrongField → List ℕ → Read (List Run) → Type 0
PassesRuns (Ok mappable) remaining read = (runs : List Run) × (read ≡ Ok (runs, remaining)) × (IsTrue mappable ↔ AreMappable runs)
PassesRuns (Err field) remaining read = read ≡ Err field.remaining

-- a function returned something about the value that is read, or found a wrong field before it
abbrev pub Tells : {X Y : Type 0} → (X → Y → Type 0) → Result X WrongField → Read Y → Type 0
Tells {X} {Y} Holds (Ok told) read = (y : Y) (remaining : List ℕ) → read ≡ Ok (y, remaining) → Holds told y
Tells Holds (Err field) read = read ≡ Err field.remaining
