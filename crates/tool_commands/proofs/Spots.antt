-- The line and the column after some bytes, byte for byte.
use Rattle.std.proofs.Common.{◌≡◌, ℕ, ◌+◌, ◌==◌, inl, inr, Bool, true, false, not, cond, if◌then◌else◌, Option, None, Some, List, [], ◌∷◌, ◌++◌, IsTrue, drop, length, nat_lt, refl, sym, ap, arith, take, ◌∙◌, ◌<◌, subst}
use Rattle.std.specs.List.{count_by, fold}
use Rattle.std.proofs.lemmas.Bool.Decides.{nat_tests}
use Rattle.std.proofs.lemmas.List.{append-nil, append_assoc, length-append}
use Rattle.std.proofs.lemmas.List.Elements.{All-nil, All-push}
use Rattle.std.proofs.lemmas.List.Sums.{sum_by_push}
use Rattle.ddc_base.specs.Outside.{NamedFiles, loaded}
use Rattle.ddc_base.specs.declared.languages.Language.{Language}
use Rattle.ddc_base.specs.declared.languages.Language.TheVariants.{Hex0, Hex1, Hex2, M1}
use Rattle.ddc_base.specs.declared.outside.Loaded.{Loaded}
use Rattle.ddc_base.specs.declared.outside.Loaded.TheVariants.{Bytes}
use Rattle.ddc_base.specs.Limits.{most_content}
use Rattle.hex_langs.specs.declared.items.token.Dialect.{Dialect}
use Rattle.hex_langs.specs.declared.items.token.Dialect.TheVariants as dialect
use Rattle.command_plan.specs.Lists.{is_line_feed}
use Rattle.command_plan.specs.Plan.{answers, follow, outcome}
use Rattle.command_plan.specs.Words.{or_usage}
use Rattle.command_plan.specs.declared.status.Status.TheVariants.{FileRefused, Refuted, Yes}
use Rattle.tool_commands.specs.declared.offsets.Spot.{Spot}
use Rattle.tool_commands.specs.declared.refusal_offset.WhereWords.{WhereWords}
use Rattle.tool_commands.specs.Offsets.{after_byte, leading_word, offset_of_item, spot_after}
use Rattle.tool_commands.specs.Spots.{IsSpotAfter, holds_offset}
use Rattle.tool_commands.specs.Where.{is_of_item, linked_offset, located, no_place_line, offset_in, refusal_offset, spot_line, where_file, where_plan, where_words}

-- ---- one byte more

abbrev NoLF : ℕ → Type 0
NoLF byte = byte ≡ 10 → ⊥

one_more : (prefix : List ℕ) (spot : Spot) (byte : ℕ) → IsSpotAfter prefix spot → IsSpotAfter (prefix ++ byte ∷ []) (after_byte spot byte)
one_more prefix spot byte is = by (byte == 10) refl where
  counted : (b : Bool) → (byte == 10) ≡ b → count_by is_line_feed (prefix ++ byte ∷ []) ≡ count_by is_line_feed prefix + cond b 1 0
  counted b test = sum_by_push (λ x. cond (is_line_feed x) 1 0) prefix byte ∙ ap (λ t. count_by is_line_feed prefix + cond t 1 0) test

  by : (b : Bool) → (byte == 10) ≡ b
      → IsSpotAfter (prefix ++ byte ∷ []) (if b then (record { line = spot.line + 1; column = 1 }) else (record { line = spot.line; column = spot.column + 1 }))
  by true test =
      let feed : byte ≡ 10 = grind (arith, nat_tests) in
      let more : count_by is_line_feed (prefix ++ byte ∷ []) ≡ count_by is_line_feed prefix + 1 = counted true test in
      let line : spot.line ≡ count_by is_line_feed prefix + 1 = is.line_is in
      record {
        lines = prefix ++ byte ∷ [];
        begun = [];
        cut = sym (append-nil (prefix ++ byte ∷ []));
        follows = inr (prefix, ap (λ (b : ℕ). prefix ++ b ∷ []) feed);
        unbroken = All-nil NoLF;
        line_is = omega (arith, line, more);
        column_is = refl;
      }
  by false test =
      let other : NoLF byte = λ same. grind (arith, nat_tests) in
      let more : count_by is_line_feed (prefix ++ byte ∷ []) ≡ count_by is_line_feed prefix + 0 = counted false test in
      let line : spot.line ≡ count_by is_line_feed prefix + 1 = is.line_is in
      record {
        lines = is.lines;
        begun = is.begun ++ byte ∷ [];
        cut = ap (λ l. l ++ byte ∷ []) is.cut ∙ append_assoc is.lines is.begun (byte ∷ []);
        follows = is.follows;
        unbroken = All-push NoLF is.begun byte is.unbroken other;
        line_is = omega (arith, line, more);
        column_is = ap (λ n. n + 1) is.column_is ∙ ap (λ n. n + 1) (sym (length-append is.begun (byte ∷ [])));
      }

-- ---- all bytes in turn

further : (prefix rest : List ℕ) (spot : Spot) → IsSpotAfter prefix spot → IsSpotAfter (prefix ++ rest) (fold after_byte spot rest)
further prefix [] spot is = subst (λ (l : List ℕ). IsSpotAfter l spot) (sym (append-nil prefix)) is
further prefix (byte ∷ rest) spot is =
    subst (λ (l : List ℕ). IsSpotAfter l (fold after_byte (after_byte spot byte) rest)) (append_assoc prefix (byte ∷ []) rest)
    (further (prefix ++ byte ∷ []) rest (after_byte spot byte) (one_more prefix spot byte is))

pub is_spot_after : (prefix : List ℕ) → IsSpotAfter prefix (spot_after prefix)
is_spot_after prefix =
    further [] prefix (record { line = 1; column = 1 })
    (record { lines = []; begun = []; cut = refl; follows = inl refl; unbroken = All-nil NoLF; line_is = refl; column_is = refl })

-- ---- what the command prints

within : (at : ℕ) (text : List ℕ) (files : NamedFiles) → at < length text
    → outcome (located text (Some at)) files
    ≡ record { status = Yes; text = spot_line (spot_after (take at text)) (leading_word (drop at text)); files = files }
within at text files less =
    let there : nat_lt at (length text) ≡ true = grind (arith, nat_tests) in
    ap (λ (b : Bool). outcome (if b then answers Yes (spot_line (spot_after (take at text)) (leading_word (drop at text))) else answers Refuted no_place_line) files) there

pub told_at : (parsed : List (List ℕ)) (words : WhereWords) (files : NamedFiles) (text : List ℕ) (at : ℕ) → where_words parsed ≡ Some words
    → loaded files words.source most_content ≡ Bytes text → refusal_offset words.language text words.number words.place ≡ Some at → at < length text
    → (spot : Spot) × IsSpotAfter (take at text) spot
    × (outcome (where_plan parsed) files ≡ record { status = Yes; text = spot_line spot (leading_word (drop at text)); files = files })
told_at parsed words files text at read held place less = (
  spot_after (take at text),
  is_spot_after (take at text),
  ap (λ (read : Option WhereWords). outcome (or_usage read where_file) files) read
      ∙ ap (λ (l : Loaded). follow l (λ content. outcome (located content (refusal_offset words.language content words.number words.place)) files)
      (λ text. record { status = FileRefused; text = text; files = files }) words.source) held
      ∙ ap (λ (found : Option ℕ). outcome (located text found) files) place
      ∙ within at text files less,
)

linked : (dialect : Dialect) (text : List ℕ) (number place : ℕ) → IsTrue (not (is_of_item number)) → linked_offset dialect text number place ≡ Some place
linked dialect text number place offset = by (is_of_item number) offset where
  by : (b : Bool) → IsTrue (not b) → (if b then offset_of_item dialect text place else Some place) ≡ Some place
  by true other = absurd cc
  by false is = refl

placed : (language : Language) (text : List ℕ) (number place : ℕ) → IsTrue (holds_offset language number) → offset_in language text number place ≡ Some place
placed Hex0 text number place offset = refl
placed Hex1 text number place offset = linked dialect.Hex1 text number place offset
placed Hex2 text number place offset = linked dialect.Hex2 text number place offset
placed M1 text number place offset = refl

pub offset_is_place : (language : Language) (text : List ℕ) (number place : ℕ) → number < 7 → IsTrue (holds_offset language number)
    → refusal_offset language text number place ≡ Some place
offset_is_place language text number place less offset =
    let other : (number == 7) ≡ false = grind (arith, nat_tests) in
    ap (λ (b : Bool). if b then None else offset_in language text number place) other ∙ placed language text number place offset
