use Rattle.std.proofs.Common.{All, ◌∙◌, ◌<◌, List, [], ◌∷◌, map, ap, sym, subst, arith}
use Rattle.std.proofs.lemmas.List.{map-append}
use Rattle.std.proofs.lemmas.List.Elements.{All-from_get_or}
use Rattle.mem_files.specs.declared.view.FileView.{FileView}
use Rattle.mem_files.specs.Lists.{FileLists, ListedFile, listed}
use Rattle.checkpoints.specs.FileParts.Inside.Views.{AreParts, view_of}
use Rattle.checkpoints.proofs.FilePartsLemmas.Pushes.{file_pushed}
use Rattle.checkpoints.proofs.file_parts.parts.FileParts.push_file.Goals as goal

pub invariant_of-self-2 : goal.invariant_of-self-2
invariant_of-self-2 c =
    let lists : FileLists = view_of c.self.inside.files.items c.self.inside.open_files.items c.self.inside.streams.items in
    let view : FileView = record { number = c.args.number; name = c.args.name; content = c.args.content } in
    let low = subst (λ (lists : FileLists). All (λ file. file.number < c.args.number) lists.files) (sym c.self.view_is) c.requires in
    subst (λ (files : List ListedFile). AreParts (record lists { files = files })) (sym (ap (map listed) c.in_ok-push.ensures.items ∙ map-append listed c.self.inside.files.items (view ∷ [])))
    (file_pushed (listed view) lists c.self.invariant low (record { name = c.show_name_bytes.ensures; content = All-from_get_or (λ byte. byte < 256) c.args.content.now 0 (λ i less. omega (arith, c.type_inv.content i)) }))
