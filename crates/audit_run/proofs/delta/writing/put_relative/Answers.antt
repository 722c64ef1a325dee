use Rattle.audit_run.proofs.DeltaLemmas.Writing.{put_after, short_after}
use Rattle.audit_run.proofs.delta.writing.put_relative.Goals as goal

pub put_done-requires-clause-short : goal.put_done-requires-clause-short
put_done-requires-clause-short c = short_after c.kept_of-kept.result c.args.done.now c.requires.short

pub returns : goal.returns
returns c =
    put_after c.args.out.now c.put_u32.new.out c.put_done.new.out c.args.known.now c.args.done.now c.kept_of-kept.result c.put_done.result c.kept_of-kept.ensures.value c.in_ok-put_u32.ensures.ok
    c.put_done.ensures
