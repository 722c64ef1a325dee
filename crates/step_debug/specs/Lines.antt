-- The lines of a stepping session as commands. docs/reference/step.md says the same for people.
use Rattle.std.specs.Prelude.{ℕ, ◌+◌, ◌-◌, ◌*◌, ◌^◌, ◌==◌, ◌&&◌, Option, None, Some, option_map, List, [], ◌∷◌, length, take, drop, bytes_eq, codes, nat_le, nat_lt, if◌then◌else◌}
use Rattle.std.specs.List.{position}
use Rattle.ddc_base.specs.Decimals.{as_decimal}
use Rattle.ddc_base.specs.Limits.{most_steps}
use Rattle.step_debug.specs.declared.command.SessionCommand.{SessionCommand}
use Rattle.step_debug.specs.declared.command.SessionCommand.TheVariants.{Where, Step, Go, Back, Break, Regs, Mem, Quit, Unknown}

-- what is before the first blank and what is after it; None without a blank
unfoldable pub cut : List ℕ → Option (List ℕ × List ℕ)
cut text = option_map (λ at. (take at text, drop (at + 1) text)) (position (λ b. b == 32) text)

-- a decimal number from 1 to `most`, both included
abbrev pub within : ℕ → Option ℕ → Option ℕ
within most None = None
within most (Some count) = if nat_le 1 count && nat_le count most then Some count else None

unfoldable pub as_count : ℕ → List ℕ → Option ℕ
as_count most text = within most (as_decimal text)

-- the value of a lower-case hexadecimal digit
abbrev pub digit_of : ℕ → Option ℕ
digit_of byte =
    if nat_le 48 byte && nat_le byte 57 then Some (byte - 48)
    else (if nat_le 97 byte && nat_le byte 102 then Some (byte - 87) else None)

-- reading continues with the number and one more digit, if it stays below 2^64
abbrev pub with_digit : ℕ → (ℕ → Option ℕ) → Option ℕ → Option ℕ
with_digit value next None = None
with_digit value next (Some digit) = if nat_lt (value * 16 + digit) (2 ^ 64) then next (value * 16 + digit) else None

-- the number below 2^64 that these digits after a number write
abbrev pub number_from : ℕ → List ℕ → Option ℕ
number_from value [] = Some value
number_from value (byte ∷ rest) = with_digit value (λ number. number_from number rest) (digit_of byte)

-- an address in 1 to 16 hexadecimal digits
unfoldable pub as_address : List ℕ → Option ℕ
as_address text = if nat_le 1 (length text) && nat_le (length text) 16 then number_from 0 text else None

-- a command with its number; unknown without one
abbrev pub numbered : (ℕ → SessionCommand) → Option ℕ → SessionCommand
numbered make None = Unknown
numbered make (Some number) = make number

-- the command `mem`; unknown if the address or the number is invalid
abbrev pub ranged : Option ℕ → Option ℕ → SessionCommand
ranged (Some at) (Some count) = Mem at count
ranged _ _ = Unknown

-- the command `mem`, from an address, a blank, and a number from 1 to 64
abbrev pub mem_of : Option (List ℕ × List ℕ) → SessionCommand
mem_of None = Unknown
mem_of (Some (address, count)) = ranged (as_address address) (as_count 64 count)

-- the command of a word and the rest of the line after the blank
abbrev pub worded : List ℕ → List ℕ → SessionCommand
worded word rest =
    if bytes_eq word (codes "step") then numbered Step (as_count most_steps rest)
    else (if bytes_eq word (codes "back") then numbered Back (as_count most_steps rest)
    else (if bytes_eq word (codes "break") then numbered Break (as_address rest)
    else (if bytes_eq word (codes "mem") then mem_of (cut rest)
    else Unknown)))

-- the command of a line with a blank
abbrev pub with_words : Option (List ℕ × List ℕ) → SessionCommand
with_words None = Unknown
with_words (Some (word, rest)) = worded word rest

-- the command of a line
abbrev pub command_of : List ℕ → SessionCommand
command_of line =
    if bytes_eq line (codes "where") then Where
    else (if bytes_eq line (codes "go") then Go
    else (if bytes_eq line (codes "regs") then Regs
    else (if bytes_eq line (codes "quit") then Quit
    else with_words (cut line))))
