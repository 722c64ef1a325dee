use Rattle.std.proofs.Common.{arith, subst, sym, Bool, false, List, ℕ, Ok}
use Rattle.ddc_base.specs.declared.byte_list.OutOfMemory.{OutOfMemory}
use Rattle.m1_lang.specs.Words.Words.{Word}
use Rattle.m1_lang.specs.Representation.Passes.{Enters}
use Rattle.m1_lang.proofs.Definings.{defines-new}
use Rattle.m1_lang.proofs.definitions.define.Goals as goal

pub returns-in-false-clause-defines : goal.returns-in-false-clause-defines
returns-in-false-clause-defines c =
    let name : Word = record { at = c.in-Word.field-0; text = c.in-Word.name.now } in
    let value : Word = record { at = c.in-Word-next_word.field-0; text = c.in-Word-next_word.value.now } in
    let old = c.args.table.now in
    let new = c.add_definition.new.table in
    let entered = subst (λ (b : Bool). Enters {E = OutOfMemory} (Ok b) name.text c.in-Some.value old new) c.in-false.is c.in_ok-add_definition-in-Some.ensures.enters in
    let enters = subst (λ (v : List ℕ). Enters {E = OutOfMemory} (Ok false) name.text v old new) c.in-Some.ensures.text entered in
    let both = defines-new OutOfMemory old new c.args.source.now c.args.start c.args.at c.in-Word.following c.in-Word-next_word.after name value
    c.in-Word.ensures.0 c.in-Word-next_word.ensures.0 (sym c.in-Some.ensures.some) enters in
    (both.0, both.1, omega (arith, c.in-Word.ensures.1, c.in-Word-next_word.ensures.1), c.in-Word-next_word.ensures.2)
