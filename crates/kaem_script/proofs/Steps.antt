-- From one place of a script to the next.
use Rattle.std.proofs.Common.{◌≡◌, ℕ, zero, suc, ◌+◌, ◌-◌, ◌<◌, ◌≤◌, ◌==◌, true, false, List, [], ◌∷◌, ◌++◌, length, drop, take, get_or, refl, sym, ap, ◌∙◌, arith, Ok, Err}
use Rattle.std.specs.List.{position_or_len}
use Rattle.std.proofs.lemmas.Bool.{ne_eqb}
use Rattle.std.proofs.lemmas.List.{at_drop_more, drop-drop, drop_all, take_rest}
use Rattle.kaem_script.specs.declared.refusal.ScriptFault.{ScriptFault}
use Rattle.kaem_script.specs.Script.{ScriptWord, commands_from, ends_line, parts_words, next_word, with_line}

-- what begins at a place
pub prefix : (script : List ℕ) (at : ℕ) → at < length script → drop at script ≡ get_or script at 0 ∷ drop (at + 1) script
prefix script at within = at_drop_more (λ (l : List ℕ). l) script at 0 within

-- bytes that were read already are passed over
pub passed : (at inside : ℕ) (commands : List (List (List ℕ))) (words : List (List ℕ)) (rest : List ℕ)
    → commands_from at inside commands words rest ≡ commands_from (at + inside) 0 commands words (drop inside rest)
unfolding commands_from
passed at zero commands words rest = ap (λ (n : ℕ). commands_from n 0 commands words rest) (omega arith)
passed at (suc inside) commands words [] = refl
passed at (suc inside) commands words (byte ∷ rest) =
    let moved : at + 1 + inside ≡ at + suc inside = omega arith in
    passed (at + 1) inside commands words rest ∙ ap (λ (n : ℕ). commands_from n 0 commands words (drop inside rest)) moved

-- the first byte of what begins at a place
first-byte : (script here : List ℕ) (at : ℕ) → at < length script → here ≡ drop at script → get_or here 0 0 ≡ get_or script at 0
first-byte script here at within is = ap (λ (l : List ℕ). get_or l 0 0) (is ∙ prefix script at within)

pub at-line-end : (script here : List ℕ) (at : ℕ) (commands : List (List (List ℕ))) (words : List (List ℕ)) → at < length script
    → here ≡ drop at script → get_or here 0 0 ≡ 10
    → commands_from at 0 commands words (drop at script) ≡ commands_from (at + 1) 0 (with_line commands words) [] (drop (at + 1) script)
unfolding commands_from
at-line-end script here at commands words within is ends =
    let byte : get_or script at 0 ≡ 10 = sym (first-byte script here at within is) ∙ ends in
    rw (prefix script at within) (rw byte refl)

pub at-blank : (script here : List ℕ) (at : ℕ) (commands : List (List (List ℕ))) (words : List (List ℕ)) → at < length script
    → here ≡ drop at script → (get_or here 0 0 ≡ 10 → ⊥) → parts_words (get_or here 0 0) ≡ true
    → commands_from at 0 commands words (drop at script) ≡ commands_from (at + 1) 0 commands words (drop (at + 1) script)
unfolding commands_from
at-blank script here at commands words within is other blank =
    let same = first-byte script here at within is in
    let ends : ends_line (get_or script at 0) ≡ false = ne_eqb _ _ (λ e. other (same ∙ e)) in
    let passes : parts_words (get_or script at 0) ≡ true = ap parts_words (sym same) ∙ blank in
    rw (prefix script at within) (rw ends (rw passes refl))

pub at-comment : (script here following : List ℕ) (at size : ℕ) (commands : List (List (List ℕ))) (words : List (List ℕ)) → at < length script
    → here ≡ drop at script → following ≡ drop (at + 1) script → get_or here 0 0 ≡ 35 → size ≡ position_or_len ends_line following
    → commands_from at 0 commands words (drop at script) ≡ commands_from (at + (1 + size)) 0 commands words (drop (at + (1 + size)) script)
unfolding commands_from
at-comment script here following at size commands words within is later begins size_is =
    let byte : get_or script at 0 ≡ 35 = sym (first-byte script here at within is) ∙ begins in
    let moved : at + 1 + size ≡ at + (1 + size) = omega arith in
    let same : position_or_len ends_line (drop (at + 1) script) ≡ size = ap (position_or_len ends_line) (sym later) ∙ sym size_is in
    rw (prefix script at within) (rw byte (rw same (
    passed (at + 1) size commands words (drop (at + 1) script)
    ∙ ap (commands_from (at + 1 + size) 0 commands words) (drop-drop size (at + 1) script)
    ∙ ap (λ (n : ℕ). commands_from n 0 commands words (drop n script)) moved)))

-- a word begins: no line end, no blank, no comment
pub record Begins (script here : List ℕ) (at : ℕ) : Type 0 where
  pub within : at < length script
  pub is : here ≡ drop at script
  pub not_end : get_or here 0 0 ≡ 10 → ⊥
  pub not_blank : parts_words (get_or here 0 0) ≡ false
  pub not_comment : get_or here 0 0 ≡ 35 → ⊥

pub at-word : (script here : List ℕ) (at : ℕ) (commands : List (List (List ℕ))) (words : List (List ℕ)) (word : ScriptWord)
    → Begins script here at → next_word (length commands) (length words) here ≡ Ok word → 1 ≤ word.size
    → commands_from at 0 commands words (drop at script) ≡ commands_from (at + word.size) 0 commands (words ++ word.text ∷ []) (drop (at + word.size) script)
unfolding commands_from
at-word script here at commands words word b found some =
    let same = first-byte script here at b.within b.is in
    let prefix_is = prefix script at b.within in
    let ends : ends_line (get_or script at 0) ≡ false = ne_eqb _ _ (λ e. b.not_end (same ∙ e)) in
    let blank : parts_words (get_or script at 0) ≡ false = ap parts_words (sym same) ∙ b.not_blank in
    let comment : (get_or script at 0 == 35) ≡ false = ne_eqb _ _ (λ e. b.not_comment (same ∙ e)) in
    let taken : next_word (length commands) (length words) (get_or script at 0 ∷ drop (at + 1) script) ≡ Ok word =
    ap (next_word (length commands) (length words)) (sym (b.is ∙ prefix_is)) ∙ found in
    let moved : at + 1 + (word.size - 1) ≡ at + word.size = omega arith in
    rw prefix_is (rw ends (rw blank (rw comment (rw taken (
    passed (at + 1) (word.size - 1) commands (words ++ word.text ∷ []) (drop (at + 1) script)
    ∙ ap (commands_from (at + 1 + (word.size - 1)) 0 commands (words ++ word.text ∷ [])) (drop-drop (word.size - 1) (at + 1) script)
    ∙ ap (λ (n : ℕ). commands_from n 0 commands (words ++ word.text ∷ []) (drop n script)) moved)))))

pub at-fault : (script here : List ℕ) (at : ℕ) (commands : List (List (List ℕ))) (words : List (List ℕ)) (fault : ScriptFault)
    → Begins script here at → next_word (length commands) (length words) here ≡ Err fault
    → commands_from at 0 commands words (drop at script) ≡ Err (fault, at)
unfolding commands_from
at-fault script here at commands words fault b found =
    let same = first-byte script here at b.within b.is in
    let prefix_is = prefix script at b.within in
    let ends : ends_line (get_or script at 0) ≡ false = ne_eqb _ _ (λ e. b.not_end (same ∙ e)) in
    let blank : parts_words (get_or script at 0) ≡ false = ap parts_words (sym same) ∙ b.not_blank in
    let comment : (get_or script at 0 == 35) ≡ false = ne_eqb _ _ (λ e. b.not_comment (same ∙ e)) in
    let taken : next_word (length commands) (length words) (get_or script at 0 ∷ drop (at + 1) script) ≡ Err fault =
    ap (next_word (length commands) (length words)) (sym (b.is ∙ prefix_is)) ∙ found in
    rw prefix_is (rw ends (rw blank (rw comment (rw taken refl))))

pub at-end : (script : List ℕ) (at : ℕ) (commands : List (List (List ℕ))) (words : List (List ℕ)) → length script ≤ at
    → commands_from at 0 commands words (drop at script) ≡ Ok (with_line commands words)
unfolding commands_from
at-end script at commands words past = rw (drop_all at script past) refl

-- slices up to the end
pub rest_is : (script : List ℕ) (at : ℕ) → take (length script - at) (drop at script) ≡ drop at script
rest_is script at = take_rest script at

pub after_is : (script : List ℕ) (at : ℕ)
    → take (length (take (length script - at) (drop at script)) - 1) (drop 1 (take (length script - at) (drop at script))) ≡ drop (at + 1) script
after_is script at =
    let here = rest_is script at in
    ap (λ (l : List ℕ). take (length l - 1) (drop 1 l)) here ∙ rest_is (drop at script) 1 ∙ drop-drop 1 at script
