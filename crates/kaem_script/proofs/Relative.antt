-- Lines taken one by one: those of commands that are replayed, and those of the files that are left, which a walk by "the first name after" finds.
use Rattle.std.proofs.Common.{◌≡◌, ℕ, zero, suc, ◌+◌, ◌-◌, ◌<◌, ◌≤◌, ◌&&◌, Bool, true, false, Bor, Option, Some, None, Result, Ok, List, [], ◌∷◌, length, take, drop, get_or, map, not, is_none, is_some, option_copied, refl, sym, ap, ◌∙◌, arith, All, subst}
use Rattle.std.specs.FinMap as fin
use Rattle.std.proofs.lemmas.List.{take_all}
use Rattle.std.proofs.lemmas.List.Elements.{All-tail}
use Rattle.mem_files.specs.World.{World}
use Rattle.mem_files.specs.Calls.{name_after}
use Rattle.mem_files.specs.Outputs.{left}
use Rattle.mem_files.proofs.Walks.{names-left, names-rise, walk-end, walk-start, walk-turn}
use Rattle.report.specs.declared.types.LeftLine.{LeftLine}
use Rattle.report.specs.declared.script.types.CommandLine.{CommandLine}
use Rattle.kaem_script.specs.declared.verdict.ScriptPart.{ScriptPart}
use Rattle.kaem_script.specs.Faults.{commands_fault, fault_after_command, replayed_command, says_file, says_files}
use Rattle.kaem_script.specs.Verdicts.{CanReplay, CanWantFrom}
use Rattle.kaem_script.specs.Kept.{IsCommand}
use Rattle.kaem_script.specs.FilesListed.{named_in}
use Rattle.kaem_script.proofs.Renewing.{files_after}

-- ---- the first of some elements, and the others

pub first-at : {X : Type 0} (xs : List X) (d : X) → 1 ≤ length xs → xs ≡ get_or xs 0 d ∷ take (length xs - 1) (drop 1 xs)
first-at [] d some = absurd (omega arith)
first-at (x ∷ xs) d some =
    let fewer : suc (length xs) - 1 ≡ length xs = omega arith in
    ap (λ rest. x ∷ rest) (sym (ap (λ (n : ℕ). take n xs) fewer ∙ take_all (length xs) xs (omega arith)))

pub first-is : {X : Type 0} (xs : List X) (x : X) → 1 ≤ length xs → x ≡ get_or xs 0 x → xs ≡ x ∷ take (length xs - 1) (drop 1 xs)
first-is xs x some is = first-at xs x some ∙ ap (λ y. y ∷ take (length xs - 1) (drop 1 xs)) (sym is)

pub empty-is : {X : Type 0} (xs : List X) → length xs < 1 → xs ≡ []
empty-is [] few = refl
empty-is (x ∷ xs) few = absurd (omega arith)

-- ---- commands

pub replay-goes-on : (f : World → Option (ScriptPart × ℕ)) (number : ℕ) (world after : World) (ahead rest : List (List (List ℕ))) (words : List (List ℕ))
    → (lines others : List CommandLine) (line : CommandLine) (whole : Option (ScriptPart × ℕ)) → ahead ≡ words ∷ rest → lines ≡ line ∷ others
    → replayed_command world words line ≡ Ok after → commands_fault f number world ahead lines ≡ whole → commands_fault f (number + 1) after rest others ≡ whole
replay-goes-on f number world after ahead rest words lines others line whole ahead_is lines_are is before =
    sym (ap (λ (r : Result World ScriptPart). fault_after_command number r (λ left. commands_fault f (number + 1) left rest others)) is)
    ∙ sym (λ i. commands_fault f number world (ahead_is i) (lines_are i)) ∙ before

pub others-are : (ahead rest : List (List (List ℕ))) (words : List (List ℕ)) → ahead ≡ words ∷ rest → All IsCommand ahead → All IsCommand rest
others-are ahead rest words is each = All-tail IsCommand words rest (subst (All IsCommand) is each)

-- where memory may be wanting at one of these commands, it may be at the next number of those with one before them that is right
wants-further : (world after : World) (commands : List (List (List ℕ))) (words : List (List ℕ)) (lines : List CommandLine) (line : CommandLine) (k : ℕ)
    → replayed_command world words line ≡ Ok after → CanWantFrom after commands lines k → CanWantFrom world (words ∷ commands) (line ∷ lines) (suc k)
wants-further world after [] words [] line zero is can = absurd can
wants-further world after [] words (next ∷ lines) line zero is can = absurd can
wants-further world after (more ∷ commands) words [] line zero is can = absurd can
wants-further world after (more ∷ commands) words (next ∷ lines) line zero is can = absurd can
wants-further world after commands words lines line (suc k) is can = (after, is, can)

-- wherever memory may be wanting of what is ahead, it may be there of the whole
abbrev pub WantsOfWhole : World → List (List (List ℕ)) → List CommandLine → World → List (List (List ℕ)) → List CommandLine → ℕ → Type 0
WantsOfWhole first commands report world ahead lines number = (k n : ℕ) → n + 1 ≡ number + k → CanWantFrom world ahead lines k → CanWantFrom first commands report n

pub wants-begin : (first : World) (commands : List (List (List ℕ))) (report : List CommandLine) → WantsOfWhole first commands report first commands report 1
wants-begin first commands report k n is can =
    let same : k ≡ n = omega (arith, is) in
    subst (CanWantFrom first commands report) same can

module _ (first : World) (commands : List (List (List ℕ))) (report : List CommandLine) (number : ℕ) (world : World) (ahead rest : List (List (List ℕ))) (words : List (List ℕ)) (lines others : List CommandLine) (line : CommandLine)
    (ahead_is : ahead ≡ words ∷ rest) (lines_are : lines ≡ line ∷ others) (before : WantsOfWhole first commands report world ahead lines number) where
  pub wants-on : (after : World) → replayed_command world words line ≡ Ok after → WantsOfWhole first commands report after rest others (number + 1)
  wants-on after is k n count can =
      before (suc k) n (omega (arith, count))
      (subst (λ (a : List (List (List ℕ))). CanWantFrom world a lines (suc k)) (sym ahead_is)
      (subst (λ (l : List CommandLine). CanWantFrom world (words ∷ rest) l (suc k)) (sym lines_are) (wants-further world after rest words others line k is can)))

  pub wants-here : CanReplay world words line.steps → CanWantFrom first commands report number
  wants-here can = before 1 number (omega arith) (subst (λ (a : List (List (List ℕ))). CanWantFrom world a lines 1) (sym ahead_is) (subst (λ (l : List CommandLine). CanWantFrom world (words ∷ rest) l 1) (sym lines_are) can))

-- ---- the files that are left

-- before the walk all files are ahead
pub left-begins : (w : World) → files_after w None ≡ left w
left-begins w = ap (map (named_in w)) (walk-start (fin.keys w.names)) ∙ names-left w

-- the next name, with its content, is the next file
left-turns : (w : World) (last : Option (List ℕ)) (name : List ℕ) → name_after w last ≡ Some name → files_after w last ≡ named_in w name ∷ files_after w (Some name)
left-turns w last name found = ap (map (named_in w)) (walk-turn last name (fin.keys w.names) (names-rise w) found)

-- where there is no next name, no file is ahead
left-ends : (w : World) (last : Option (List ℕ)) → name_after w last ≡ None → files_after w last ≡ []
left-ends w last none = ap (map (named_in w)) (walk-end last (fin.keys w.names) none)

-- the next line says the next file, and so on
pub next-reported : (w : World) (last : Option (List ℕ)) (name : List ℕ) (ahead rest : List LeftLine) (line : LeftLine) (says : Bool)
    → ahead ≡ line ∷ rest → name_after w last ≡ Some name → says_file line (named_in w name) ≡ says
    → says_files ahead (files_after w last) ≡ (says && says_files rest (files_after w (Some name)))
next-reported w last name ahead rest line says is found parsed =
    (λ i. says_files (is i) (left-turns w last name found i)) ∙ ap (λ (b : Bool). b && says_files rest (files_after w (Some name))) parsed

-- a line without a file
pub no-file-reported : (w : World) (last : Option (List ℕ)) (ahead rest : List LeftLine) (line : LeftLine) → ahead ≡ line ∷ rest → name_after w last ≡ None
    → says_files ahead (files_after w last) ≡ false
no-file-reported w last ahead rest line is none = λ i. says_files (is i) (left-ends w last none i)

-- after the last line there is no further file, or one without a line
pub all-reported : (w : World) (last : Option (List ℕ)) → says_files [] (files_after w last) ≡ is_none (name_after w last)
all-reported w last = by_next (name_after w last) refl
  where
    by_next : (next : Option (List ℕ)) → name_after w last ≡ next → says_files [] (files_after w last) ≡ is_none next
    by_next None none = ap (says_files []) (left-ends w last none)
    by_next (Some name) found = ap (says_files []) (left-turns w last name found)

not-true : (b : Bool) → true ≡ not b → b ≡ false
not-true true is = absurd cc
not-true false is = refl

not-false : (b : Bool) → false ≡ not b → b ≡ true
not-false true is = refl
not-false false is = absurd cc

pub none-told : {X : Type 0} (found : Option (Bor X)) (told : Bool) → is_some found ≡ not told → told ≡ is_none (option_copied found)
none-told None told is = not-false told is
none-told (Some x) told is = not-true told is
