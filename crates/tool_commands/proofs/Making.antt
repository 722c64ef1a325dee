-- What a source comes to, or its refusal, as a step of a plan.
use Rattle.std.proofs.Common.{◌≡◌, ℕ, List, Ok, Err, refl, sym}
use Rattle.ddc_base.specs.Outside.{ShelfState}
use Rattle.hex_langs.specs.declared.items.item.Item.{Item}
use Rattle.hex_langs.specs.declared.items.reader.HexRefusal.{HexRefusal}
use Rattle.hex_langs.specs.declared.items.reader.HexRefusal.TheVariants as refusal
use Rattle.hex_langs.specs.Items.Refusals.{hex_refusal_number, hex_refusal_place}
use Rattle.hex_langs.specs.declared.link.values.HexLanguage.{HexLanguage}
use Rattle.hex_langs.specs.Link.Link.{Links}
use Rattle.hex_langs.specs.Link.Values.{value_of}
use Rattle.hex_langs.specs.Writer.Writing.{items_text}
use Rattle.m1_lang.specs.declared.refusal.M1Refusal.{M1Refusal}
use Rattle.m1_lang.specs.declared.refusal.M1Refusal.TheVariants as m1
use Rattle.m1_lang.specs.Expansion.{Expands, expansion_of}
use Rattle.m1_lang.specs.Refusals.{m1_refusal_number, m1_refusal_place}
use Rattle.command_plan.specs.declared.answer.Answer.{Answer}
use Rattle.command_plan.specs.declared.status.Status.TheVariants.{CheckFailed}
use Rattle.command_plan.specs.declared.stop.Stop.{Stop}
use Rattle.command_plan.specs.declared.stop.Stop.TheVariants as stop
use Rattle.command_plan.specs.Plan.{Plan, answers}
use Rattle.command_plan.specs.Steps.{Obtains}
use Rattle.command_plan.proofs.Obtaining as step
use Rattle.tool_commands.specs.Asm.{needs_items, needs_value, refused_line}
use Rattle.tool_commands.specs.Inside.Refusing.{Refuses, RefusesM1}

module _ (language : HexLanguage) (base : ℕ) (source : List ℕ) (shelf : ShelfState) where
  abbrev refuse : HexRefusal → Plan
  refuse why = answers CheckFailed (refused_line (hex_refusal_number why) (hex_refusal_place why))

  pub has_value : (value : List ℕ) → Links (Ok value) (value_of language base source) → Obtains (needs_value language base source) shelf shelf (Ok value)
  has_value value is = step.reads (value_of language base source) refuse (λ v. v) shelf value value (sym is) refl

  pub has_none : (why : HexRefusal) (answer : Answer) → Links (Err why) (value_of language base source) → Refuses why (Ok answer)
      → Obtains (needs_value language base source) shelf shelf (Err (stop.Answered answer))
  has_none refusal.OutOfMemory answer is answered = absurd cc
  has_none why answer is answered = step.refuses (value_of language base source) refuse (λ v. v) shelf why answer (sym is) answered.by_result

  pub value_wants : (why : HexRefusal) (ending : Stop) → Refuses why (Err ending) → Obtains (needs_value language base source) shelf shelf (Err ending)
  value_wants refusal.OutOfMemory ending answered = step.wants_as (needs_value language base source) shelf ending cc
  value_wants why ending answered = step.wants_as (needs_value language base source) shelf ending answered.by_result

module _ (source : List ℕ) (shelf : ShelfState) where
  abbrev refuse_m1 : M1Refusal → Plan
  refuse_m1 why = answers CheckFailed (refused_line (m1_refusal_number why) (m1_refusal_place why))

  pub has_items : (items : List Item) (text : List ℕ) → Expands (expansion_of source) (Ok items) → text ≡ items_text items → Obtains (needs_items source) shelf shelf (Ok text)
  has_items items text is written = step.reads (expansion_of source) refuse_m1 items_text shelf items text is written

  pub has_no_items : (why : M1Refusal) (answer : Answer) → Expands (expansion_of source) (Err why) → RefusesM1 why (Ok answer)
      → Obtains (needs_items source) shelf shelf (Err (stop.Answered answer))
  has_no_items m1.OutOfMemory answer is answered = absurd cc
  has_no_items why answer is answered = step.refuses (expansion_of source) refuse_m1 items_text shelf why answer is answered.by_result

  pub items_want : (why : M1Refusal) (ending : Stop) → RefusesM1 why (Err ending) → Obtains (needs_items source) shelf shelf (Err ending)
  items_want m1.OutOfMemory ending answered = step.wants_as (needs_items source) shelf ending cc
  items_want why ending answered = step.wants_as (needs_items source) shelf ending answered.by_result
