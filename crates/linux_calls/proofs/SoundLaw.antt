-- Each call leaves sound files sound.
use Rattle.std.proofs.Common.{◌≡◌, ◌≢◌, ℕ, ◌==◌, ◌||◌, ◌<◌, zero, suc, Bool, true, false, cond, not, Option, None, Some, Result, Ok, Err, IsOkAnd, IsTrue, List, [], ◌∷◌, length, take, drop, refl, sym, ap, subst, arith}
use Rattle.std.specs.Prelude.{bit_and, slice_index}
use Rattle.std.specs.FinMap.{get, contains_key}
use Rattle.std.proofs.lemmas.List.{length-take}
use Rattle.std.proofs.lemmas.List.Elements.{All-cons, All-nil}
use Rattle.std.specs.Int.{cast_signed, w64}
use Rattle.ddc_base.specs.Results.{◌>>=◌}
use Rattle.ddc_base.proofs.Results.{Yields, bound, found, tested}
use Rattle.ddc_base.proofs.Results.{chosen as either}
use Rattle.paged_mem.specs.Memory.{Memory, IsWhole, bytes_at, maps}
use Rattle.mem_files.specs.declared.open_file.OpenFile.{OpenFile}
use Rattle.mem_files.specs.declared.open_file.OpenFile.TheVariants.{Input, Stream1, Stream2, File}
use Rattle.mem_files.specs.Linux.{ebadf, einval, o_accmode}
use Rattle.mem_files.specs.Access.{is_read}
use Rattle.mem_files.specs.Names.{stripped, is_stripped_name}
use Rattle.mem_files.specs.World.{World, content_of}
use Rattle.mem_files.specs.Calls.{closed, ready, ready_at, removed, write_offset, written}
use Rattle.mem_files.specs.Sound.{AreBytes, IsSound}
use Rattle.mem_files.proofs.Rules.{closed-sound, removed-sound, opened-sound, skipped-sound, sought-sound, stripped-bytes, written-sound}
use Rattle.linux_calls.specs.Linux.{at_fdcwd, efault, enotdir, sys_unlinkat, sys_faccessat, sys_fchmodat, sys_openat, sys_close, sys_lseek, sys_read, sys_write, sys_exit, sys_exit_group, sys_brk}
use Rattle.linux_calls.specs.Paths.{in_directory, is_absolute, low, name_at, name_in_directory, not_empty, text_at, text_from, text_or_fault}
use Rattle.linux_calls.specs.Calls.{CallState, CallOutcome, is_unknown, or_same_state, answering, back, moved_break, opened_as, or_same_files, read_at, syscall, unlinked, written_at}
use Rattle.linux_calls.specs.Rules.{LeavesSound}
use Rattle.linux_calls.proofs.Texts.{text_at-is, name_of_text}
use Rattle.paged_mem.proofs.Wholes.{bytes_at-bytes}

-- a path names what files hold
not_empty-is : (text name : List ℕ) → not_empty text ≡ Ok name → (text ≡ name) × (length text ≢ 0)
not_empty-is [] name e = cc
not_empty-is (byte ∷ bytes) name e = (cc, λ h. absurd (omega arith))

name_at-is : (m : Memory) (at : ℕ) (name : List ℕ) → name_at m at ≡ Ok name → IsTrue (is_stripped_name name)
name_at-is m at name e = by_text (text_at m at 256) refl e
  where
    by_text : (r : Result (List ℕ) ℕ) → text_at m at 256 ≡ r → (r >>= λ text. not_empty (stripped text)) ≡ Ok name → IsTrue (is_stripped_name name)
    by_text (Err errno) was e = cc
    by_text (Ok text) was e =
        let is = text_at-is m at 256 text was in
        let kept = not_empty-is (stripped text) name e in
        subst (λ n. IsTrue (is_stripped_name n)) kept.0 (name_of_text text is.0 is.1 kept.1)

-- a path is of bytes
text_from-bytes : (byte : ℕ) (rest : Result (List ℕ) ℕ) (text : List ℕ) → byte < 256 → ((t : List ℕ) → rest ≡ Ok t → AreBytes t) → text_from byte rest ≡ Ok text → AreBytes text
text_from-bytes byte rest text small more e = by_test (byte == 0) rest refl e
  where
    by_test : (t : Bool) (r : Result (List ℕ) ℕ) → r ≡ rest → cond t (Ok []) (r >>= λ t. Ok (byte ∷ t)) ≡ Ok text → AreBytes text
    by_test true r was e = let is : [] ≡ text = cc in subst AreBytes is (All-nil (λ b. b < 256))
    by_test false (Err errno) was e = cc
    by_test false (Ok t) was e = let is : byte ∷ t ≡ text = cc in subst AreBytes is (All-cons (λ b. b < 256) byte t small (more t (sym was)))

text_at-bytes : (m : Memory) (at most : ℕ) (text : List ℕ) → IsWhole m → text_at m at most ≡ Ok text → AreBytes text
unfolding text_at
text_at-bytes m at zero text whole e = cc
text_at-bytes m at (suc most) text whole e = by_byte (λ t was. text_at-bytes m (suc at) most t whole was) (get m at) refl e
  where
    by_byte : ((t : List ℕ) → text_at m (suc at) most ≡ Ok t → AreBytes t) → (o : Option ℕ) → get m at ≡ o → text_or_fault o (text_at m (suc at) most) ≡ Ok text → AreBytes text
    by_byte more None was e = cc
    by_byte more (Some byte) was e = text_from-bytes byte (text_at m (suc at) most) text (whole.small at byte was) more e

name_at-bytes : (m : Memory) (at : ℕ) (name : List ℕ) → IsWhole m → name_at m at ≡ Ok name → AreBytes name
name_at-bytes m at name whole e = by_text (text_at m at 256) refl e
  where
    by_text : (r : Result (List ℕ) ℕ) → text_at m at 256 ≡ r → (r >>= λ text. not_empty (stripped text)) ≡ Ok name → AreBytes name
    by_text (Err errno) was e = cc
    by_text (Ok text) was e = subst AreBytes (not_empty-is (stripped text) name e).0 (stripped-bytes text (text_at-bytes m at 256 text whole was))

in_directory-is : (w : World) (dir : ℕ) (name other : List ℕ) → in_directory w dir name ≡ Ok other → name ≡ other
in_directory-is w dir name other e = by_tests (is_absolute name || low dir == at_fdcwd) (contains_key w.open_files (low dir)) e
  where
    by_tests : (b c : Bool) → cond {A = Result (List ℕ) ℕ} b (Ok name) (cond c (Err enotdir) (Err ebadf)) ≡ Ok other → name ≡ other
    by_tests true c e = cc
    by_tests false true e = cc
    by_tests false false e = cc

-- as many bytes are ready again
ready_again : (w : World) (fd count : ℕ) (bytes : List ℕ) → ready w fd count ≡ Ok bytes → IsOkAnd (ready w fd (length bytes)) (λ again. length again ≡ length bytes)
ready_again w fd count bytes e = at_open_file (get w.open_files fd) e
  where
    part : (rest : List ℕ) → take count rest ≡ bytes → length (take (length bytes) rest) ≡ length bytes
    part rest is = omega (arith, length-take (length bytes) rest, length-take count rest, ap length is)

    readable : (b : Bool) (rest : List ℕ) → cond {A = Result (List ℕ) ℕ} b (Ok (take count rest)) (Err ebadf) ≡ Ok bytes
        → IsOkAnd (cond {A = Result (List ℕ) ℕ} b (Ok (take (length bytes) rest)) (Err ebadf)) (λ again. length again ≡ length bytes)
    readable true rest e = part rest cc
    readable false rest e = cc

    at_open_file : (o : Option OpenFile) → ready_at w count o ≡ Ok bytes → IsOkAnd (ready_at w (length bytes) o) (λ again. length again ≡ length bytes)
    at_open_file None e = cc
    at_open_file (Some Input) e = let none : [] ≡ bytes = cc in ap length none
    at_open_file (Some Stream1) e = cc
    at_open_file (Some Stream2) e = cc
    at_open_file (Some (File number file_offset access)) e = readable (is_read access) (drop file_offset (content_of w number)) e

-- the calls on files
answering-sound : {A : Type 0} (value : ℕ) (r : Result A ℕ) (files : World) → IsSound files → IsSound (answering value (r, files)).1
answering-sound value (Ok done) files s = s
answering-sound value (Err errno) files s = s

left-sound : (w : World) (reading : Result (Result ℕ ℕ × World) ℕ) → IsSound w → Yields (λ meant. IsSound meant.1) reading → IsSound (or_same_files w reading).1
left-sound w (Ok meant) sound kept = kept.is
left-sound w (Err errno) sound kept = sound

unlinked-sound : (m : Memory) (w : World) (directory path flags : ℕ) → IsSound w → IsSound (unlinked m w directory path flags).1
unlinked-sound m w directory path flags sound =
    left-sound w _ sound
    (bound (name_in_directory m w directory path) _ (λ name is.
    tested einval (low flags == 0) _ (λ allowed. record { is = answering-sound 0 (removed w name).0 (removed w name).1 (removed-sound w name sound) })))

opened-as-sound : (m : Memory) (w : World) (directory path flags : ℕ) → IsWhole m → IsSound w → IsSound (opened_as m w directory path flags).1
opened-as-sound m w directory path flags whole sound =
    left-sound w _ sound
    (bound (name_at m path) _ (λ name is.
    tested einval (not (bit_and (low flags) o_accmode == o_accmode)) _ (λ allowed.
    bound (in_directory w directory name) _ (λ here same.
    let are = subst (λ n. IsTrue (is_stripped_name n) × AreBytes n) (in_directory-is w directory name here same) (name_at-is m path name is, name_at-bytes m path name whole is) in
    record { is = opened-sound w here (low flags) sound are.0 are.1 }))))

written-at-sound : (m : Memory) (w : World) (fd buffer count : ℕ) → IsWhole m → IsSound w → IsSound (written_at m w fd buffer count).1
written-at-sound m w fd buffer count whole sound =
    left-sound w _ sound
    (found ebadf (write_offset w (get w.open_files fd)) _ (λ offset there.
    either (count == 0) _ _ (λ none. record { is = sound })
    (found efault (bytes_at m buffer count) _ (λ bytes are.
    record { is = answering-sound (length bytes) (written w fd bytes).0 (written w fd bytes).1 (written-sound w fd bytes sound (bytes_at-bytes m buffer count bytes whole are)) }))))

-- outcomes, as a record: what it speaks of is found from the goal
record Sound (outcome : CallOutcome) : Type 0 where
  is : LeavesSound outcome

chosen : (b : Bool) (x y : CallOutcome) → Sound x → Sound y → Sound (cond b x y)
chosen true x y p q = p
chosen false x y p q = q

back-sound : (s : CallState) (meant : Result ℕ ℕ × World) → IsSound meant.1 → Sound (back s meant)
back-sound s meant p = record { is = p }

same-state-sound : (s : CallState) (reading : Result (ℕ × CallState) ℕ) → IsSound s.files → Yields (λ done. IsSound done.1.files) reading → Sound (or_same_state s reading)
same-state-sound s (Ok done) sound kept = record { is = kept.is }
same-state-sound s (Err errno) sound kept = record { is = sound }

read-sound : (s : CallState) (fd buffer count : ℕ) → IsSound s.files → Sound (or_same_state s (read_at s fd buffer count))
read-sound s fd buffer count sound =
    same-state-sound s _ sound
    (bound (ready s.files fd count) _ (λ bytes is.
    either (length bytes == 0) _ _ (λ none. record { is = sound })
    (tested efault (maps s.memory buffer (length bytes)) _ (λ there. record { is = skipped-sound s.files fd (length bytes) sound (ready_again s.files fd count bytes is) }))))

every : (number : ℕ) (a : List ℕ) (s : CallState) → IsWhole s.memory → IsSound s.files → Sound (syscall number a s)
every number a s whole sound =
    let arg : ℕ → ℕ = slice_index a in
    chosen (number == sys_unlinkat) _ _ (back-sound s _ (unlinked-sound s.memory s.files (arg 0) (arg 1) (arg 2) sound))
    (chosen (number == sys_faccessat) _ _ (back-sound s _ sound)
    (chosen (number == sys_fchmodat) _ _ (back-sound s _ sound)
    (chosen (number == sys_openat) _ _ (back-sound s _ (opened-as-sound s.memory s.files (arg 0) (arg 1) (arg 2) whole sound))
    (chosen (number == sys_close) _ _ (back-sound s _ (answering-sound 0 (closed s.files (low (arg 0))).0 (closed s.files (low (arg 0))).1 (closed-sound s.files (low (arg 0)) sound)))
    (chosen (number == sys_lseek) _ _ (back-sound s _ (sought-sound s.files (low (arg 0)) (cast_signed w64 (arg 1)) (low (arg 2)) sound))
    (chosen (number == sys_read) _ _ (read-sound s (low (arg 0)) (arg 1) (arg 2) sound)
    (chosen (number == sys_write) _ _ (back-sound s _ (written-at-sound s.memory s.files (low (arg 0)) (arg 1) (arg 2) whole sound))
    (chosen (number == sys_exit) _ _ (record { is = tt })
    (chosen (number == sys_exit_group) _ _ (record { is = tt })
    (chosen (number == sys_brk) (moved_break s (arg 0)) (is_unknown number) (record { is = sound }) (record { is = tt })))))))))))

pub syscall-sound : (number : ℕ) (a : List ℕ) (s : CallState) → IsWhole s.memory → IsSound s.files → LeavesSound (syscall number a s)
syscall-sound number a s whole sound = (every number a s whole sound).is
