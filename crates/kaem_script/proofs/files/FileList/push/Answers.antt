use Rattle.std.proofs.Common.{ℕ, List, Err, [], ◌∷◌, ◌++◌, sym, ◌∙◌, subst}
use Rattle.kaem_script.specs.FilesListed.{IsList, Pushes}
use Rattle.kaem_script.proofs.Names.{kept-world, list-more, refused}
use Rattle.mem_files.specs.World.{World}
use Rattle.kaem_script.proofs.files.FileList.push.Goals as goal

pub invariant_of-self-in-Ok-place : goal.invariant_of-self-in-Ok-place
invariant_of-self-in-Ok-place c =
    let names = c.self.inside.names.items in
    let kept = c.in-Ok.ensures ∙ c.strip.ensures in
    subst (λ (l : List (List ℕ)). IsList (record { names = l; world = c.place.new.self })) (sym (c.push_name.ensures ∙ (λ i. c.reserve.ensures.items i ++ kept i ∷ [])))
    (list-more names c.self.inside.files c.place.new.self c.args.name.now c.args.content.now c.self.invariant c.in-Ok-place.ensures)

pub returns-in-Err-place : goal.returns-in-Err-place
returns-in-Err-place c =
    rw c.reserve.ensures.items
    (subst (λ old. Pushes old c.args.name.now c.args.content.now (Err c.in-Err-place.refusal) (record { names = c.self.inside.names.items; world = c.place.new.self })) c.self.view_is
    (refused c.self.inside.names.items c.self.inside.files c.place.new.self c.args.name.now c.args.content.now c.in-Err-place.refusal c.in-Err-place.ensures))

pub invariant_of-self-in-Err-place : goal.invariant_of-self-in-Err-place
invariant_of-self-in-Err-place c =
    let names = c.self.inside.names.items in
    let same = kept-world c.self.inside.files c.place.new.self c.args.name.now c.args.content.now c.in-Err-place.refusal c.in-Err-place.ensures in
    subst (λ (l : List (List ℕ)). IsList (record { names = l; world = c.place.new.self })) (sym c.reserve.ensures.items)
    (subst (λ (w : World). IsList (record { names = names; world = w })) (sym same) c.self.invariant)
