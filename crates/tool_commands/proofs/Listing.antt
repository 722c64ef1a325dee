-- How the lines of a listing are put together.
use Rattle.std.proofs.Common.{◌≡◌, ℕ, ◌+◌, ◌<◌, ◌≤◌, List, [], ◌∷◌, ◌++◌, length, take, drop, append_assoc, refl, sym, ap, ◌∙◌, arith, codes}
use Rattle.std.proofs.lemmas.List.{drop-drop, drop_all, length-drop, append-nil}
use Rattle.byteorder.specs.Endian.{little_number}
use Rattle.hex.specs.Hex.{encode_lower}
use Rattle.rv64_decode.specs.Decode.{decoded}
use Rattle.command_plan.specs.Causes.Texts.{hex_word}
use Rattle.tool_commands.specs.List.{instruction_text, word_line, rest_line, listing}

-- a word's line from its parts
pub word_line-parts : (text : List ℕ) (offset word : ℕ) → (((text ++ (hex_word offset ++ 32 ∷ [])) ++ (hex_word word ++ 32 ∷ [])) ++ instruction_text offset (decoded word)) ++ 10 ∷ [] ≡ text ++ word_line offset word
unfolding word_line
word_line-parts text offset word = simp append_assoc

-- the line of what is left from its parts
pub rest_line-parts : (text : List ℕ) (offset : ℕ) (bytes : List ℕ) → (((text ++ (hex_word offset ++ 32 ∷ [])) ++ codes "rest ") ++ encode_lower bytes) ++ 10 ∷ [] ≡ text ++ rest_line offset bytes
unfolding rest_line
rest_line-parts text offset bytes = simp append_assoc

-- a listing begins with the line of its first word
listing-word : (offset : ℕ) (bytes : List ℕ) → 4 ≤ length bytes → listing offset bytes ≡ word_line offset (little_number 4 (take 4 bytes)) ++ listing (offset + 4) (drop 4 bytes)
listing-word offset [] long = absurd (omega arith)
listing-word offset (a ∷ []) long = absurd (omega arith)
listing-word offset (a ∷ b ∷ []) long = absurd (omega arith)
listing-word offset (a ∷ b ∷ c ∷ []) long = absurd (omega arith)
listing-word offset (a ∷ b ∷ c ∷ d ∷ rest) long = refl

-- and is the line of what is left, where that is fewer than four bytes and some
listing-rest : (offset : ℕ) (bytes : List ℕ) → 0 < length bytes → length bytes < 4 → listing offset bytes ≡ rest_line offset bytes
listing-rest offset [] some few = absurd (omega arith)
listing-rest offset (a ∷ []) some few = refl
listing-rest offset (a ∷ b ∷ []) some few = refl
listing-rest offset (a ∷ b ∷ c ∷ []) some few = refl
listing-rest offset (a ∷ b ∷ c ∷ d ∷ rest) some few = absurd (omega arith)

-- one turn: the text so far, a word's line, and the listing of what follows
pub listing-turn : (text : List ℕ) (at next : ℕ) (bytes whole : List ℕ) → at + 4 ≤ length bytes → next ≡ at + 4 → text ++ listing at (drop at bytes) ≡ whole
    → (text ++ word_line at (little_number 4 (take 4 (drop at bytes)))) ++ listing next (drop next bytes) ≡ whole
listing-turn text at next bytes whole inside is before =
    let long : 4 ≤ length (drop at bytes) = omega (arith, length-drop at bytes) in
    rw is (
    append_assoc text _ _ ∙
    ap (λ after. text ++ (word_line at (little_number 4 (take 4 (drop at bytes))) ++ listing (at + 4) after)) (sym (drop-drop 4 at bytes)) ∙
    ap (λ tail. text ++ tail) (sym (listing-word at (drop at bytes) long)) ∙
    before)

-- the end: nothing is left, or fewer than four bytes
pub listing-nothing : (text : List ℕ) (at : ℕ) (bytes whole : List ℕ) → length bytes ≤ at → text ++ listing at (drop at bytes) ≡ whole → text ≡ whole
listing-nothing text at bytes whole past before =
    let none : drop at bytes ≡ [] = drop_all at bytes past in
    sym (append-nil text) ∙ (rw none at before)

pub listing-last : (text : List ℕ) (at : ℕ) (bytes whole : List ℕ) → at < length bytes → length bytes < at + 4 → text ++ listing at (drop at bytes) ≡ whole → text ++ rest_line at (drop at bytes) ≡ whole
listing-last text at bytes whole some few before =
    let left = length-drop at bytes in
    let begun : 0 < length (drop at bytes) = omega arith in
    let short : length (drop at bytes) < 4 = omega arith in
    ap (λ tail. text ++ tail) (sym (listing-rest at (drop at bytes) begun short)) ∙ before

pub ruleset listings = (word_line-parts, rest_line-parts, listing-turn, listing-nothing, listing-last)
