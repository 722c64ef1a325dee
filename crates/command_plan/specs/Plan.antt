-- What a command does, as a plan over files by name, and the outcome of the plan for given files. docs/reference/command-line.md says the
-- same for people.
use Rattle.std.specs.Prelude.{ℕ, zero, suc, ◌-◌, Bool, IsTrue, All, Option, None, Some, Result, Ok, Err, List, [], ◌∷◌, ◌<◌, length, min}
use Rattle.std.specs.FinMap as map
use Rattle.ddc_base.specs.declared.outside.Loaded.{Loaded}
use Rattle.ddc_base.specs.declared.outside.Loaded.TheVariants.{Bytes, Absent, TooLong}
use Rattle.ddc_base.specs.declared.outside.Call.{Call}
use Rattle.ddc_base.specs.declared.outside.Call.TheVariants.{Load, Save}
use Rattle.ddc_base.specs.Outside.{NamedFiles, loaded}
use Rattle.prompt.specs.Talks.{Talk}
use Rattle.command_plan.specs.declared.status.Status.{Status}
use Rattle.command_plan.specs.declared.status.Status.TheVariants.{FileRefused, Yes}
use Rattle.command_plan.specs.Texts.{absent_line, too_long_line}

-- a plan answers with a status and a text, or ends with a session over the rest of standard input. Or it needs a name's content, of at most
-- so many bytes, and continues with it; or it saves a content under a name and continues
pub data Plan : Type 0 where
  answers : Status → List ℕ → Plan
  talks : (List ℕ → Talk) → Plan
  needs : List ℕ → ℕ → (List ℕ → Plan) → Plan
  sets : List ℕ → List ℕ → Plan → Plan

-- the plan needs the contents of these names in order, each of at most `most` bytes and all of at most `budget` together, and continues with
-- them
abbrev pub needs_all : ℕ → ℕ → List (List ℕ) → (List (List ℕ) → Plan) → Plan
needs_all most budget [] next = next []
needs_all most budget (name ∷ names) next =
    needs name (min most budget) (λ content. needs_all most (budget - length content) names (λ contents. next (content ∷ contents)))

-- a value continues the plan, and a refusal is answered
abbrev pub unless_refused : {A E : Type 0} → Result A E → (E → Plan) → (A → Plan) → Plan
unless_refused (Ok value) refuse next = next value
unless_refused (Err refusal) refuse next = refuse refusal

-- the outcome of a command: its status, its text if it prints one, and the files afterwards
pub record Outcome : Type 0 where
  pub status : Status
  pub text : List ℕ
  pub files : NamedFiles

-- what follows a load of a name: a content continues, and its lack is refused
abbrev pub follow : {A : Type 0} → Loaded → (List ℕ → A) → (List ℕ → A) → List ℕ → A
follow (Bytes content) next refuse name = next content
follow Absent next refuse name = refuse (absent_line name)
follow TooLong next refuse name = refuse (too_long_line name)

-- the outcome of a plan for these files
abbrev pub outcome : Plan → NamedFiles → Outcome
outcome (answers status text) files = record { status = status; text = text; files = files }
outcome (talks talk) files = record { status = Yes; text = []; files = files }
outcome (needs name limit next) files =
    follow (loaded files name limit) (λ content. outcome (next content) files) (λ text. record { status = FileRefused; text = text; files = files }) name
outcome (sets name content next) files = outcome next (map.insert files name content)

-- the session with which the plan ends for these files; None if it answers with a text
abbrev pub talk_of : Plan → NamedFiles → Option (List ℕ → Talk)
talk_of (answers status text) files = None
talk_of (talks talk) files = Some talk
talk_of (needs name limit next) files = follow (loaded files name limit) (λ content. talk_of (next content) files) (λ _. None) name
talk_of (sets name content next) files = talk_of next (map.insert files name content)

-- the calls of the file store that the plan makes, in order
abbrev pub asked : Plan → NamedFiles → List Call
asked (answers status text) files = []
asked (talks talk) files = []
asked (needs name limit next) files = Load name limit ∷ follow (loaded files name limit) (λ content. asked (next content) files) (λ _. []) name
asked (sets name content next) files = Save name content ∷ asked next (map.insert files name content)

-- the files after the first `count` of these calls
abbrev pub files_after : Plan → NamedFiles → ℕ → NamedFiles
files_after (answers status text) files count = files
files_after (talks talk) files count = files
files_after (needs name limit next) files zero = files
files_after (needs name limit next) files (suc count) = follow (loaded files name limit) (λ content. files_after (next content) files count) (λ _. files) name
files_after (sets name content next) files zero = files
files_after (sets name content next) files (suc count) = files_after next (map.insert files name content) count

-- every content that the plan loads is made of bytes
abbrev pub bytes_then : Loaded → (List ℕ → Type 0) → Type 0
bytes_then (Bytes content) Rest = All (λ byte. byte < 256) content × Rest content
bytes_then Absent Rest = Unit {0}
bytes_then TooLong Rest = Unit {0}

abbrev pub LoadsBytes : Plan → NamedFiles → Type 0
LoadsBytes (answers status text) files = Unit {0}
LoadsBytes (talks talk) files = Unit {0}
LoadsBytes (needs name limit next) files = bytes_then (loaded files name limit) (λ content. LoadsBytes (next content) files)
LoadsBytes (sets name content next) files = LoadsBytes next (map.insert files name content)

-- the plan's outcome is settled: the file store is observable (`tells`), or the plan does not call it
abbrev pub IsSettled : Plan → Bool → Type 0
IsSettled (answers status text) tells = Unit {0}
IsSettled (talks talk) tells = Unit {0}
IsSettled (needs name limit next) tells = IsTrue tells
IsSettled (sets name content next) tells = IsTrue tells
