-- What a write that is allowed comes to.
use Rattle.std.proofs.Common.{◌≡◌, ◌≢◌, ℕ, ◌<◌, Bool, true, false, if◌then◌else◌, Option, None, Some, Result, Ok, Err, IsOk, IsOkAnd, is_ok, is_some, List, length, refl, sym, ap, subst, ◌∙◌, arith, inl, inr}
use Rattle.std.specs.FinMap.{get}
use Rattle.std.proofs.lemmas.Bool.{ne_eqb}
use Rattle.ddc_base.specs.Results.{◌>>=◌, or_error}
use Rattle.paged_mem.specs.Memory.{Memory, bytes_at, maps}
use Rattle.paged_mem.proofs.Maps.{length_of_bytes_at}
use Rattle.mem_files.specs.World.{World}
use Rattle.mem_files.specs.Calls.{fits, write_offset, written, written_if}
use Rattle.linux_calls.specs.declared.Heap.{Heap}
use Rattle.linux_calls.specs.declared.CallEnd.{CallEnd}
use Rattle.linux_calls.specs.declared.CallEnd.TheVariants.{Back, OutOfMemory}
use Rattle.mem_files.specs.Linux.{ebadf}
use Rattle.linux_calls.specs.Linux.{efault, sys_write}
use Rattle.linux_calls.specs.Calls.{state, CallOutcome, back, answer_of, answering, or_same_files, written_at}
use Rattle.linux_calls.specs.Answer.{IsAnswer}

module _ (m : Memory) (w : World) (fd buffer count : ℕ) (writable : is_some (write_offset w (get w.open_files fd)) ≡ true) (some : count ≢ 0) (heap : Heap) where
  abbrev meant : CallOutcome
  meant = back (state m w heap) (written_at m w fd buffer count)

  -- a write of bytes that are there is that of the files
  meant_is : (bytes : List ℕ) → bytes_at m buffer count ≡ Some bytes → meant ≡ back (state m w heap) (answering count (written w fd bytes))
  meant_is bytes there = ap (back (state m w heap)) is
    where
      through : Bool → Option (ℕ × ℕ) → Option (List ℕ) → Result ℕ ℕ × World
      through empty offset there = or_same_files w do
        _ ← or_error ebadf offset
        if empty then Ok (Ok 0, w) else (do
          bytes ← or_error efault there
          Ok (answering (length bytes) (written w fd bytes)))

      by_offset : (p : Option (ℕ × ℕ)) → is_some p ≡ true → through false p (Some bytes) ≡ answering (length bytes) (written w fd bytes)
      by_offset None e = cc
      by_offset (Some offset) e = refl

      is : written_at m w fd buffer count ≡ answering count (written w fd bytes)
      is =
          ap (λ t. through t (write_offset w (get w.open_files fd)) (bytes_at m buffer count)) (ne_eqb count 0 some)
          ∙ ap (through false (write_offset w (get w.open_files fd))) there
          ∙ by_offset (write_offset w (get w.open_files fd)) writable
          ∙ ap (λ n. answering n (written w fd bytes)) (length_of_bytes_at m buffer count bytes there)

  pub write_done : (bytes : List ℕ) (done : Unit {0}) (new : World) → bytes_at m buffer count ≡ Some bytes → written w fd bytes ≡ (Ok done, new) → IsAnswer sys_write (state m w heap) (state m new heap) meant (Back count)
  write_done bytes done new there e =
      subst (λ o. IsAnswer sys_write (state m w heap) (state m new heap) o (Back count)) (sym (meant_is bytes there ∙ ap (λ r. back (state m w heap) (answering count r)) e)) (refl, refl)

  pub write_refused : (bytes : List ℕ) (errno : ℕ) (new : World) → bytes_at m buffer count ≡ Some bytes → written w fd bytes ≡ (Err errno, new) → IsAnswer sys_write (state m w heap) (state m new heap) meant (Back (answer_of (Err errno)))
  write_refused bytes errno new there e =
      subst (λ o. IsAnswer sys_write (state m w heap) (state m new heap) o (Back (answer_of (Err errno)))) (sym (meant_is bytes there ∙ ap (λ r. back (state m w heap) (answering count r)) e)) (refl, refl)

  some_ok : (r : Result (Unit {0}) ℕ) (files : World) → IsOk r → IsOkAnd (answering count (r, files)).0 (λ n. 0 < n)
  some_ok (Ok done) files ok = omega arith
  some_ok (Err errno) files ok = cc

  pub write_wants : (bytes : List ℕ) (new : World) → bytes_at m buffer count ≡ Some bytes → IsOk (written w fd bytes).0 → new ≡ w → IsAnswer sys_write (state m w heap) (state m new heap) meant OutOfMemory
  write_wants bytes new there ok same =
      subst (λ o. IsAnswer sys_write (state m w heap) (state m new heap) o OutOfMemory) (sym (meant_is bytes there))
      (inr (inr (inl (refl, some_ok (written w fd bytes).0 (written w fd bytes).1 ok))), ap (λ files. state m files heap) same)

  module _ (mapped : maps m buffer count ≡ true) where
    pub fits_refused : (errno : ℕ) (end : CallEnd) → fits w fd count ≡ Err errno → end ≡ Back (answer_of (Err errno)) → IsAnswer sys_write (state m w heap) (state m w heap) meant end
    fits_refused errno end e is = subst (λ end. IsAnswer sys_write (state m w heap) (state m w heap) meant end) (sym is) (by_bytes (bytes_at m buffer count) refl mapped)
      where
        by_bytes : (o : Option (List ℕ)) → bytes_at m buffer count ≡ o → is_some o ≡ true → IsAnswer sys_write (state m w heap) (state m w heap) meant (Back (answer_of (Err errno)))
        by_bytes None was t = cc
        by_bytes (Some bytes) was t =
            write_refused bytes errno w was (ap (λ n. written_if w fd bytes (fits w fd n)) (length_of_bytes_at m buffer count bytes was) ∙ ap (written_if w fd bytes) e)

    pub fits_wants : (done : Unit {0}) → fits w fd count ≡ Ok done → IsAnswer sys_write (state m w heap) (state m w heap) meant OutOfMemory
    fits_wants done e = by_bytes (bytes_at m buffer count) refl mapped
      where
        by_bytes : (o : Option (List ℕ)) → bytes_at m buffer count ≡ o → is_some o ≡ true → IsAnswer sys_write (state m w heap) (state m w heap) meant OutOfMemory
        by_bytes None was t = cc
        by_bytes (Some bytes) was t =
            write_wants bytes w was (ap (λ r. is_ok r.0) (ap (λ n. written_if w fd bytes (fits w fd n)) (length_of_bytes_at m buffer count bytes was) ∙ ap (written_if w fd bytes) e)) refl
