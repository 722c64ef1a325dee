-- Reading a text line by line, for any kind of lines. To read the promises, this file is not needed.
use Rattle.std.specs.Prelude.{◌≡◌, ℕ, zero, suc, ◌+◌, List, [], length, Option, Some, None, Result, Ok, Err}
use Rattle.std.specs.Option.{option_map_or}
use Rattle.report.specs.Inside.Cuts.{◌>>=◌, cut_at}

-- how texts of a kind are read: the line with a text, the state before all lines and after one more, and the report of
-- the state after the last line
pub record Reader (Line State Report : Type 0) : Type 0 where
  pub line_of : List ℕ → Option Line
  pub start : State
  pub step : State → Line → Option State
  pub ended : State → Option Report

-- the first line, and the bytes after its LF
unfoldable pub next_line : {Line : Type 0} → (List ℕ → Option Line) → List ℕ → Option (Line × List ℕ)
next_line line_of bytes = do
  cut ← cut_at 10 bytes
  line ← line_of cut.0
  Some (line, cut.1)

-- the state after the first line
unfoldable pub one_more : {Line State Report : Type 0} → Reader Line State Report → State × List ℕ → Option (State × List ℕ)
one_more reader at = do
  next ← next_line reader.line_of at.1
  state ← reader.step at.0 next.0
  Some (state, next.1)

-- the state after the first n lines, and the bytes after them; none if no report begins with these lines
unfoldable pub after : {Line State Report : Type 0} → Reader Line State Report → ℕ → List ℕ → Option (State × List ℕ)
after reader zero bytes = Some (reader.start, bytes)
after reader (suc n) bytes = after reader n bytes >>= one_more reader

-- the result when no report continues: the report if it has ended and no bytes are left, otherwise the number of the next line
abbrev pub ended_at : {Report : Type 0} → ℕ → Option Report → List ℕ → Result Report ℕ
ended_at number (Some report) [] = Ok report
ended_at number _ _ = Err number

-- reads the lines from a number on, while a report continues with them
unfoldable pub read_on : {Line State Report : Type 0} → Reader Line State Report → ℕ → ℕ → State × List ℕ → Result Report ℕ
read_on reader zero number at = ended_at number (reader.ended at.0) at.1
read_on reader (suc more) number at =
    option_map_or (λ next. read_on reader more (number + 1) next) (one_more reader at) (ended_at number (reader.ended at.0) at.1)

-- all lines of a text
abbrev pub read_all : {Line State Report : Type 0} → Reader Line State Report → List ℕ → Result Report ℕ
read_all reader bytes = read_on reader (length bytes) 1 (reader.start, bytes)

-- these bytes are left after n whole lines
pub record HasRead {Line State Report : Type 0} (reader : Reader Line State Report) (bytes : List ℕ) (n : ℕ) (state : State) (rest : List ℕ) : Type 0 where
  pub there : after reader n bytes ≡ Some (state, rest)

-- a report continues with the first lines, and with no further one
pub record Stops {Line State Report : Type 0} (reader : Reader Line State Report) (bytes : List ℕ) (number : ℕ) : Type 0 where
  pub before : ℕ
  pub is : number ≡ before + 1
  pub state : State
  pub rest : List ℕ
  pub there : after reader before bytes ≡ Some (state, rest)
  pub none : one_more reader (state, rest) ≡ None
  pub left : rest ≡ [] → ⊥
