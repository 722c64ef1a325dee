use Rattle.std.proofs.Common.{Some, is_ok, sym, ap, ◌∙◌, length}
use Rattle.mem_files.specs.Calls.{fits, written_if}
use Rattle.paged_mem.proofs.Maps.{length_of_bytes_at}
use Rattle.linux_calls.proofs.Writing.{write_done, write_wants, fits_refused, fits_wants}
use Rattle.linux_calls.proofs.transfer.write.Goals as goal

pub returns-in-Err : goal.returns-in-Err
returns-in-Err g c heap =
    fits_refused (g.R.Ram.bytes c.args.ram.now) c.args.files.now c.args.fd c.args.buffer.at c.args.buffer.count (sym c.is_writable.ensures ∙ c.if-not-is_writable.false) c.if-buffer-eq0.false heap
    (sym c.mapped.ensures ∙ c.if-not-mapped.false) c.in-Err.errno c.back-in-Err.result (sym c.fits.ensures ∙ c.in-Err.is) c.back-in-Err.ensures

pub returns-in-Err-copy_of : goal.returns-in-Err-copy_of
returns-in-Err-copy_of g c heap =
    fits_wants (g.R.Ram.bytes c.args.ram.now) c.args.files.now c.args.fd c.args.buffer.at c.args.buffer.count (sym c.is_writable.ensures ∙ c.if-not-is_writable.false) c.if-buffer-eq0.false heap
    (sym c.mapped.ensures ∙ c.if-not-mapped.false) _ (sym c.fits.ensures ∙ c.in_default.is)

pub write-requires : goal.write-requires
write-requires g c =
    ap (fits c.args.files.now c.args.fd) (ap length c.deref.ensures.value ∙ length_of_bytes_at (g.R.Ram.bytes c.args.ram.now) c.args.buffer.at c.args.buffer.count _ c.in-Ok.ensures)
    ∙ sym c.fits.ensures ∙ c.in_default.is

pub returns-in-Ok-write : goal.returns-in-Ok-write
returns-in-Ok-write g c heap =
    write_done (g.R.Ram.bytes c.args.ram.now) c.args.files.now c.args.fd c.args.buffer.at c.args.buffer.count (sym c.is_writable.ensures ∙ c.if-not-is_writable.false) c.if-buffer-eq0.false heap
    c.deref.result.now _ c.write.new.self (c.in-Ok.ensures ∙ ap Some (sym c.deref.ensures.value)) c.in-Ok-write.ensures.ok

pub returns : goal.returns
returns g c heap =
    let fit =
    ap (fits c.args.files.now c.args.fd) (ap length c.deref.ensures.value ∙ length_of_bytes_at (g.R.Ram.bytes c.args.ram.now) c.args.buffer.at c.args.buffer.count _ c.in-Ok.ensures)
    ∙ sym c.fits.ensures ∙ c.in_default.is in
    write_wants (g.R.Ram.bytes c.args.ram.now) c.args.files.now c.args.fd c.args.buffer.at c.args.buffer.count (sym c.is_writable.ensures ∙ c.if-not-is_writable.false) c.if-buffer-eq0.false heap
    c.deref.result.now c.write.new.self (c.in-Ok.ensures ∙ ap Some (sym c.deref.ensures.value))
    (ap (λ r. is_ok (written_if c.args.files.now c.args.fd c.deref.result.now r).0) fit) c.in-Err-write.ensures.err
