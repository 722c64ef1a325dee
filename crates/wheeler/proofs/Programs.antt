-- Sources that have programs, and semantics of other languages.
use Rattle.std.proofs.Common.{◌≡◌, ℕ, Option, None, Some, Result, Ok, Err, List, refl, sym, ap, ◌∙◌, subst}
use Rattle.ddc_base.specs.declared.languages.Language.TheVariants.{M1}
use Rattle.hex_langs.specs.declared.items.item.Item.{Item}
use Rattle.hex_langs.specs.declared.items.reader.HexRefusal.{HexRefusal}
use Rattle.hex_langs.specs.Link.Link.{link_of}
use Rattle.hex_langs.specs.Link.Values.{linked}
use Rattle.m1_lang.specs.declared.refusal.M1Refusal.{M1Refusal}
use Rattle.mem_files.specs.Outputs.{OutputLocation}
use Rattle.guest_run.specs.Setting.{Setting}
use Rattle.guest_run.proofs.Programs.{one-run}
use Rattle.recipe.specs.declared.parts.SourceLanguage.{SourceLanguage}
use Rattle.recipe.specs.declared.parts.SourceLanguage.TheVariants.{Defined}
use Rattle.audit_rules.specs.Contents.{SourceText}
use Rattle.audit_rules.specs.SourceCheck.Checks.{hex_value}
use Rattle.wheeler.specs.Assembly.{ProgramLeaves, ValueLeaves}
use Rattle.wheeler.specs.Checked.{HasItemsOf}
use Rattle.wheeler.specs.Inside.MacroLaws.{keeps-hex}
use Rattle.wheeler.specs.Inside.RunLaws.{fixed-program, own-program}
use Rattle.wheeler.specs.Largest.{AllImplement}
use Rattle.wheeler.specs.MacroAssembly.{MacroLeaves, as_hex2, linked_bytes, linked_items, program_in, program_of_text}
use Rattle.wheeler.specs.Meaning.{Prescribes}
use Rattle.wheeler.specs.Values.{binary_of, bytes_of_value}
use Rattle.wheeler.specs.WithMachineCode.{MachineCodeOr, machine_code_or_by}

pub makes-program : (program_of : SourceText → Option (List ℕ)) (source other : SourceText) (box : Setting) (output : OutputLocation) (made : List ℕ)
    → program_of other ≡ Some made → ProgramLeaves program_of source box output made → AllImplement (ProgramLeaves program_of) source box output other
makes-program program_of source other box output made is leaves program prescribed =
    own-program program_of other program (is ∙ ap Some (fixed-program program_of one-run source box output made program leaves prescribed))

pub as-given : (others : Prescribes) (source : SourceText) → binary_of source ≡ None → (box : Setting) (output : OutputLocation) (content : List ℕ)
    → (MachineCodeOr others source box output content → others source box output content) × (others source box output content → MachineCodeOr others source box output content)
as-given others source none box output content = (
  (λ is. subst (λ (o : Option (List ℕ)). machine_code_or_by o others source box output content) none is),
  (λ is. subst (λ (o : Option (List ℕ)). machine_code_or_by o others source box output content) (sym none) is),
)

pub keeps-assembly : (source : SourceText) (box : Setting) (output : OutputLocation) (content : List ℕ)
    → ValueLeaves source box output content → MacroLeaves source box output content
keeps-assembly source box output content is = record {
  program = is.program;
  is_program = keeps-hex source is.program is.is_program;
  step = is.step;
  world = is.world;
  runs = is.runs;
  leaves = is.leaves;
}

-- ---- M1

same-bytes : (meant : Result (List ℕ) HexRefusal) → bytes_of_value (hex_value meant) ≡ linked_bytes meant
same-bytes (Ok bytes) = refl
same-bytes (Err why) = refl

pub items-link : (source : SourceText) (text : List ℕ) → source.lang ≡ Defined M1 → HasItemsOf source text
    → binary_of (as_hex2 source.base text) ≡ program_of_text source
unfolding binary_of program_of_text
items-link source text is has =
    ap (λ (r : Result (List Item) HexRefusal). bytes_of_value (hex_value (linked source.base r))) has.reads
    ∙ same-bytes (link_of has.items source.base)
    ∙ sym (ap (λ (r : Result (List Item) M1Refusal). linked_items source.base r) has.expands)
    ∙ sym (ap (λ (lang : SourceLanguage). program_in lang source.base source.files) is)
