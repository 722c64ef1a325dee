-- What lengths and digests settle of assumptions.
use Rattle.std.proofs.Common.{◌≡◌, ℕ, ◌==◌, Bool, true, false, Option, None, Some, Result, Ok, Err, IfOk, IsErr, List, length, map, refl, sym, ap, ◌∙◌, subst, inl, inr}
use Rattle.std.specs.Prelude.{◌⊎◌, IfSome, bytes_eq, option_and_then, option_map}
use Rattle.std.proofs.lemmas.Bool.{and_parts, cases_Bool, eqb-true, false≢true}
use Rattle.std.proofs.lemmas.Slice.Eq.{bytes_eq-Decides}
use Rattle.sha2.specs.Sha256.{sha256}
use Rattle.ddc_base.specs.declared.byte_list.OutOfMemory.{OutOfMemory}
use Rattle.ddc_base.specs.declared.languages.Language.{Language}
use Rattle.ddc_base.specs.declared.languages.Language.TheVariants.{Hex0, Hex1, Hex2, M1}
use Rattle.hex_langs.specs.declared.items.item.Item.{Item}
use Rattle.hex_langs.specs.declared.items.reader.HexRefusal.{HexRefusal}
use Rattle.hex_langs.specs.declared.link.values.HexLanguage.TheVariants as hex
use Rattle.hex_langs.specs.Link.Values.{value_of}
use Rattle.m1_lang.specs.declared.refusal.M1Refusal.{M1Refusal}
use Rattle.m1_lang.specs.declared.refusal.M1Refusal.TheVariants as m1
use Rattle.m1_lang.specs.Expansion.{Expands}
use Rattle.recipe.specs.declared.contents.RecipeContents.{RecipeContents}
use Rattle.recipe.specs.declared.parts.Source.{Source}
use Rattle.recipe.specs.declared.parts.SourceLanguage.{SourceLanguage}
use Rattle.recipe.specs.declared.parts.SourceLanguage.TheVariants.{Defined, Other}
use Rattle.recipe.specs.declared.parts.Stage.{Stage}
use Rattle.report.specs.declared.types.Report.{Report}
use Rattle.report.specs.declared.types.Mark.{Mark}
use Rattle.report.specs.Marks.{is_mark_of, mark_of}
use Rattle.audit_rules.specs.declared.answer.AuditAnswer.TheVariants.{Completes}
use Rattle.audit_rules.specs.Bench.{bench}
use Rattle.audit_rules.specs.Contents.{Contents, SourceText, content, text_of}
use Rattle.audit_rules.specs.SourceCheck.Checks.{hex_value, joined_files}
use Rattle.audit_rules.specs.Valid.{IsInputs}
use Rattle.verifier.specs.Inside.Refusing.{RefusesM1}
use Rattle.wheeler.specs.declared.assumption.Assumption.{Assumption}
use Rattle.wheeler.specs.declared.assumption.Assumption.TheVariants.{Implements, Compiles}
use Rattle.wheeler.specs.AllContents.{all_contents, stage_named, text_named}
use Rattle.wheeler.specs.MacroAssembly.{linked_bytes, linked_items, program_in, program_of_text}
use Rattle.wheeler.specs.Settled.{IsOwnProgram, IsSettledLine, MakesOwnProgram}
use Rattle.wheeler.specs.Values.{bytes_of_value}
use Rattle.audit_chain.specs.Chain.{given_contents, given_text_named, input_bytes}
use Rattle.audit_chain.specs.Inside.Programs.{program_at}
use Rattle.audit_chain.specs.Provenance.{Collision}
use Rattle.audit_chain.specs.Settled.{given_audit, given_program, is_marked, is_of_program, is_own_program, is_settled_line, makes_own_program}
use Rattle.audit_chain.proofs.Composing.{given-named}
use Rattle.audit_chain.proofs.OriginLemmas.Marked.{content-held, held, mark-held, or_nothing}

-- ---- the program of a text

same-bytes : (meant : Result (List ℕ) HexRefusal) → bytes_of_value (hex_value meant) ≡ linked_bytes meant
same-bytes (Ok bytes) = refl
same-bytes (Err why) = refl

program-in : (language : Language) (base : ℕ) (files : List (List ℕ)) → program_in (Defined language) base files ≡ program_at language base (joined_files files)
program-in Hex0 base files = same-bytes (value_of hex.Hex0 base (joined_files files))
program-in Hex1 base files = same-bytes (value_of hex.Hex1 base (joined_files files))
program-in Hex2 base files = same-bytes (value_of hex.Hex2 base (joined_files files))
program-in M1 base files = refl

pub program-defined : (recipe : RecipeContents) (all : Contents) (source : Source) (language : Language) → source.lang ≡ Defined language
    → program_of_text (text_of recipe all source) ≡ program_at language source.base (joined_files (map (content recipe all) source.files))
unfolding program_of_text text_of
program-defined recipe all source language is =
    ap (λ (lang : SourceLanguage). program_in lang source.base (map (content recipe all) source.files)) is
    ∙ program-in language source.base (map (content recipe all) source.files)

-- the bytes of inputs are the contents of their names
texts-given : (recipe : RecipeContents) (inputs files : List (List ℕ))
    → map (input_bytes (given_audit recipe inputs)) files ≡ map (content recipe (given_contents (given_audit recipe inputs))) files
texts-given recipe inputs files =
    let same : input_bytes (given_audit recipe inputs) ≡ content recipe (given_contents (given_audit recipe inputs)) =
    λ i name. content recipe (given_contents (given_audit recipe inputs)) name in
    ap (λ (bytes : List ℕ → List ℕ). map bytes files) same

pub program-joined : (recipe : RecipeContents) (inputs : List (List ℕ)) (source : Source) (language : Language) (files : List (List ℕ)) (text : List ℕ)
    → source.lang ≡ Defined language → files ≡ source.files → text ≡ joined_files (map (input_bytes (given_audit recipe inputs)) files)
    → program_of_text (text_of recipe (given_contents (given_audit recipe inputs)) source) ≡ program_at language source.base text
program-joined recipe inputs source language files text is same joined =
    let all = given_contents (given_audit recipe inputs) in
    program-defined recipe all source language is
    ∙ ap (λ (bytes : List (List ℕ)). program_at language source.base (joined_files bytes))
    (sym (texts-given recipe inputs files ∙ ap (λ (names : List (List ℕ)). map (content recipe all) names) same))
    ∙ ap (program_at language source.base) (sym joined)

pub program-other : (recipe : RecipeContents) (all : Contents) (source : Source) → source.lang ≡ Other → program_of_text (text_of recipe all source) ≡ None
unfolding program_of_text text_of
program-other recipe all source is = ap (λ (lang : SourceLanguage). program_in lang source.base (map (content recipe all) source.files)) is

-- ---- refusals

abbrev Answer : Type 0
Answer = Result Bool OutOfMemory

no-answer : (P : Bool → Type 0) (result : Answer) → IsErr result → IfOk result P
no-answer P (Ok x) is = absurd (false≢true is)
no-answer P (Err e) is = tt

answer-is : (meant : Bool) (result : Answer) → result ≡ Ok meant → IfOk result (λ own. own ≡ meant)
answer-is meant result is = subst (λ (r : Answer). IfOk r (λ own. own ≡ meant)) (sym is) refl

pub m1-refused : (mark : Mark) (base : ℕ) (meant : Result (List Item) M1Refusal) (refusal : M1Refusal) (result : Answer)
    → Expands meant (Err refusal) → RefusesM1 refusal result → IfOk result (λ own. own ≡ is_of_program mark (linked_items base meant))
m1-refused mark base meant m1.OutOfMemory result is refused = no-answer _ result refused
m1-refused mark base meant _ result is refused =
    answer-is (is_of_program mark (linked_items base meant)) result (refused ∙ ap (λ m. Ok (is_of_program mark (linked_items base m))) (sym is))

-- ---- what is settled

program-given : (recipe : RecipeContents) (inputs : List (List ℕ)) (source program : List ℕ) → given_program recipe inputs source ≡ Some program
    → program_of_text (text_named recipe (all_contents recipe inputs) source) ≡ Some program
program-given recipe inputs source program is = by (given_text_named (given_audit recipe inputs) source) refl is where
  by : (o : Option SourceText) → given_text_named (given_audit recipe inputs) source ≡ o → option_and_then program_of_text o ≡ Some program
      → program_of_text (text_named recipe (all_contents recipe inputs) source) ≡ Some program
  by None at is = absurd cc
  by (Some text) at is = ap program_of_text (given-named (given_audit recipe inputs) source text at) ∙ is

-- bytes and a program of one length and one digest
same-or : (bytes program : List ℕ) → is_mark_of (mark_of bytes) program ≡ true → (program ≡ bytes) ⊎ Collision
unfolding is_mark_of
same-or bytes program is = elim (cases_Bool (bytes_eq bytes program)) [
  | inl same ↦ inl (sym ((bytes_eq-Decides bytes program).0 same))
  | inr other ↦
      let parts = and_parts (length bytes == length program) (bytes_eq (sha256 bytes) (sha256 program)) is in
      inr (record {
        one = bytes;
        other = program;
        lengths = eqb-true (length bytes) (length program) parts.0;
        digests = (bytes_eq-Decides (sha256 bytes) (sha256 program)).0 parts.1;
        differ = λ same. let both : false ≡ true = sym other ∙ (bytes_eq-Decides bytes program).1 same in absurd cc;
      })
]

module _ (recipe : RecipeContents) (inputs : List (List ℕ)) (report : Report) (given : IsInputs recipe inputs) (is : bench recipe inputs ≡ Completes report) where
  abbrev all : Contents
  all = all_contents recipe inputs

  own-or : (name source : List ℕ) → is_own_program recipe inputs report name source ≡ true → IsOwnProgram recipe all name source ⊎ Collision
  unfolding is_own_program
  own-or name source own =
      by (held recipe all name) refl (given_program recipe inputs source) refl
      (sym (ap (λ o. is_marked o (given_program recipe inputs source)) (mark-held recipe inputs report name given is)) ∙ own)
    where
      by : (h : Option (List ℕ)) → held recipe all name ≡ h → (p : Option (List ℕ)) → given_program recipe inputs source ≡ p → is_marked (option_map mark_of h) p ≡ true
          → IsOwnProgram recipe all name source ⊎ Collision
      by None at p to marked = absurd cc
      by (Some bytes) at None to marked = absurd cc
      by (Some bytes) at (Some program) to marked = elim (same-or bytes program marked) [
        | inl same ↦
            inl (program-given recipe inputs source program to
            ∙ ap Some (same ∙ sym (content-held recipe all name ∙ ap or_nothing at)))
        | inr found ↦ inr found
      ]

  makes-or : (source becomes : List ℕ) (o : Option Stage) → makes_own_program recipe inputs report source becomes o ≡ true
      → IfSome o (MakesOwnProgram recipe all source becomes) ⊎ Collision
  makes-or source becomes None own = absurd cc
  makes-or source becomes (Some stage) own =
      let parts = and_parts (is_own_program recipe inputs report stage.program source) (is_own_program recipe inputs report stage.name becomes) own in
      elim (own-or stage.program source parts.0) [
        | inr found ↦ inr found
        | inl runs ↦ elim (own-or stage.name becomes parts.1) [
          | inr found ↦ inr found
          | inl makes ↦ inl (record { runs = runs; makes = makes })
        ]
      ]

  pub settled-or : (l : Assumption) → is_settled_line recipe inputs report l ≡ true → IsSettledLine recipe all l ⊎ Collision
  unfolding is_settled_line
  settled-or (Implements made source) own = own-or made source own
  settled-or (Compiles source name becomes) own = makes-or source becomes (stage_named recipe.stages name) own
