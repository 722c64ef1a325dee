use Rattle.std.proofs.Common.{None, arith}
use Rattle.std.proofs.lemmas.List.{get_or_read}
use Rattle.mem_files.proofs.Changes.{open_file_within, open_file_used, open_file_opens, open_files_some, clear_open_file-consistent, clear_open_file-world}
use Rattle.mem_files.proofs.table.FileTable.clear_open_file.Goals as goal

pub index-requires : goal.index-requires
index-requires c = omega (arith, open_file_within _ _ c.self.view_is c.self.invariant c.args.fd c.requires)

pub uncount-requires : goal.uncount-requires
uncount-requires c =
    let there = open_file_within _ _ c.self.view_is c.self.invariant c.args.fd c.requires in
    open_file_opens _ _ c.self.view_is c.self.invariant c.args.fd c.index.result.now c.requires (get_or_read c.self.inside.open_files.items c.args.fd c.index.result.now there c.index.ensures None)

pub index_mut-requires : goal.index_mut-requires
index_mut-requires c = omega (arith, open_file_within _ _ c.self.view_is c.self.invariant c.args.fd c.requires)

pub remove-requires : goal.remove-requires
remove-requires c = open_file_used _ _ c.self.view_is c.self.invariant c.args.fd c.requires

pub overflow_sub-self : goal.overflow_sub-self
overflow_sub-self c = open_files_some _ _ c.self.view_is c.self.invariant c.args.fd c.requires

pub invariant_of-self : goal.invariant_of-self
invariant_of-self c =
    let there = open_file_within _ _ c.self.view_is c.self.invariant c.args.fd c.requires in
    clear_open_file-consistent _ _ c.self.view_is c.self.invariant c.args.fd c.index.result.now c.requires (get_or_read c.self.inside.open_files.items c.args.fd c.index.result.now there c.index.ensures None)
    c.remove.new.self c.remove.ensures c.uncount.new.counts.items c.uncount.ensures

pub returns : goal.returns
returns c = clear_open_file-world _ _ c.self.view_is c.self.invariant c.args.fd c.requires
