use Rattle.std.proofs.Common.{◌≡◌, ◌++◌, ◌∷◌, [], map, ap, ◌∙◌, arith}
use Rattle.std.specs.FinMap as fin
use Rattle.std.proofs.lemmas.List.{map_push}
use Rattle.mem_files.specs.Lists.{listed, listed_file}
use Rattle.save_format.specs.StateText.Seen.{file_view}
use Rattle.save_format.proofs.StateTextLemmas.Listed.{all_found, all_listed, file_next, file_none, one_more}
use Rattle.save_format.proofs.state_text.listing.files_of.Goals as goal

pub overflow_add-number : goal.overflow_add-number
overflow_add-number c = let low = (file_next c.args.files.now c.loop-file.number c.in-Some.file c.requires c.in-Some.ensures).low in omega arith

pub loop-file-smaller : goal.loop-file-smaller
loop-file-smaller c = let comes = file_next c.args.files.now c.loop-file.number c.in-Some.file c.requires c.in-Some.ensures in let low = comes.low in let from = comes.from in omega arith

pub loop-file-preserved : goal.loop-file-preserved
loop-file-preserved c =
    let comes = file_next c.args.files.now c.loop-file.number c.in-Some.file c.requires c.in-Some.ensures in
    let more : map file_view c.push.new.self.items ≡ map file_view c.loop-file.list.items ++ listed c.in-Some.file ∷ [] = rw c.in_ok-push.ensures.items (map_push _ c.loop-file.list.items _) in
    rw more (one_more _ _ _ _ _ comes.next c.loop-file.invariant)

pub returns : goal.returns
returns c = all_found _ _ _ (file_none c.args.files.now c.loop-file.number c.in_default.ensures) c.loop-file.invariant ∙ ap (map (listed_file c.args.files.now)) (all_listed (fin.entries c.args.files.now.files))
