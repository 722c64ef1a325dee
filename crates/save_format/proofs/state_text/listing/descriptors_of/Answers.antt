use Rattle.std.proofs.Common.{◌≡◌, ◌++◌, ◌∷◌, [], map, ◌∙◌, arith}
use Rattle.std.specs.FinMap as fin
use Rattle.std.proofs.lemmas.List.{map_push}
use Rattle.save_format.specs.StateText.Seen.{descriptor_view}
use Rattle.save_format.proofs.StateTextLemmas.Listed.{all_found, all_listed, one_more, open_file_next, open_file_none}
use Rattle.save_format.proofs.state_text.listing.descriptors_of.Goals as goal

pub overflow_add-number : goal.overflow_add-number
overflow_add-number c = let low = (open_file_next c.args.files.now c.loop-fd.number (c.in-Some.fd, c.in-Some.open_file) c.requires c.in-Some.ensures).low in omega arith

pub loop-fd-smaller : goal.loop-fd-smaller
loop-fd-smaller c = let comes = open_file_next c.args.files.now c.loop-fd.number (c.in-Some.fd, c.in-Some.open_file) c.requires c.in-Some.ensures in let low = comes.low in let from = comes.from in omega arith

pub loop-fd-preserved : goal.loop-fd-preserved
loop-fd-preserved c =
    let comes = open_file_next c.args.files.now c.loop-fd.number (c.in-Some.fd, c.in-Some.open_file) c.requires c.in-Some.ensures in
    let more : map descriptor_view c.push.new.self.items ≡ map descriptor_view c.loop-fd.list.items ++ (c.in-Some.fd, c.in-Some.open_file) ∷ [] = rw c.in_ok-push.ensures.items (map_push _ c.loop-fd.list.items _) in
    rw more (one_more _ _ _ _ _ comes.next c.loop-fd.invariant)

pub returns : goal.returns
returns c = all_found _ _ _ (open_file_none c.args.files.now c.loop-fd.number c.in_default.ensures) c.loop-fd.invariant ∙ all_listed (fin.entries c.args.files.now.open_files)
