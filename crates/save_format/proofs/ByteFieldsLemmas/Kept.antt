-- What stands in front of a text that more was added to.
use Rattle.std.proofs.Common.{◌≡◌, ℕ, ◌≤◌, List, ◌++◌, length, refl, ap, ◌∙◌, arith, length-take, take_all}
use Rattle.std.proofs.lemmas.List.{take_at, take-append-le}
use Rattle.std.specs.Io.{StartsWith}

pub kept_all : (old new : List ℕ) → new ≡ old → StartsWith new old
kept_all old new is = rw is (take_all (length old) old (omega arith))

pub kept_more : (old new more : List ℕ) → new ≡ old ++ more → StartsWith new old
kept_more old new more is = rw is (take_at old more (length old) refl)

pub kept_on : (old mid new more : List ℕ) → StartsWith mid old → new ≡ mid ++ more → StartsWith new old
kept_on old mid new more kept is =
    let size = ap length kept in
    let prefix = length-take (length old) mid in
    let fits : length old ≤ length mid = omega arith in
    rw is (take-append-le (length old) mid more fits ∙ kept)

pub ruleset kept = (kept_all, kept_more, kept_on)
