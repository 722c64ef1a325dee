-- The fields of a state's text, one by one: how each is read and how it is spelled fit each other.
use Rattle.std.proofs.Common.{◌≡◌, ◌⊎◌, ℕ, zero, suc, ◌^◌, ◌<◌, ◌≤◌, Bool, true, false, eqb, nat_le, Option, None, Some, List, [], ◌∷◌, ◌++◌, length, Result, Ok, Err, refl, sym, ap, subst, ◌∙◌, arith, ltb, inl, inr}
use Rattle.std.specs.Int.{w16, w32, w64}
use Rattle.std.specs.Prelude.{◌||◌}
use Rattle.std.proofs.lemmas.Bool.{eqb-true, leb-true, le-ltb, cases_lt}
use Rattle.std.proofs.lemmas.List.{append-nil}
use Rattle.save_format.specs.declared.byte_fields.form.TextForm.{TextForm}
use Rattle.save_format.specs.declared.byte_fields.form.TextForm.TheVariants.{First, Second}
use Rattle.save_format.specs.ByteFields.Reader.{alike, blob, byte, bytes, done, u64}
use Rattle.save_format.specs.ByteFields.Spelling.{Alike, IsBlob, blob_text, number_text}
use Rattle.save_format.proofs.ByteFieldsLemmas.Encodes.{AreBytes, EncodesForms, by_form, whole_again, whole_takes, Nothing, Encodes, all_read, encodes, encodes_alike, encodes_blob16, encodes_blob32, encodes_byte, encodes_begun, encodes_begun_in, encodes_bytes, encodes_counted, encodes_from, encodes_that, encodes_u32, encodes_u64, then}
use Rattle.mem_files.specs.declared.open_file.Access.{Access}
use Rattle.mem_files.specs.declared.open_file.Mode.{Mode}
use Rattle.mem_files.specs.declared.open_file.Mode.TheVariants as mode
use Rattle.mem_files.specs.declared.open_file.OpenFile.{OpenFile}
use Rattle.mem_files.specs.declared.open_file.OpenFile.TheVariants.{Input, Stream1, Stream2, File}
use Rattle.std.specs.Prelude.{IfOk}
use Rattle.save_format.specs.declared.state_text.parts.StateParts.{StateParts}
use Rattle.save_format.specs.declared.state_text.reading.TextRefusal.{TextRefusal}
use Rattle.save_format.specs.StateText.Seen.{ReadsStateText, state_view}
use Rattle.save_format.specs.StateText.StateText.{StateText, parsed_state, access_at, access_of_code, after_descriptor, after_file, after_page, after_run, are_flags, body_at, descriptor_at, file_at, heap_at, is_page, is_reserved_count, state_magic, optional_name, page_at, reservation_at, reserved_at, run_at, open_file_at, state_at, state_in}
use Rattle.save_format.specs.StateText.Encoded.{HasFieldIn, IsDescriptor, IsFile, IsHeap, IsNameText, IsPage, IsReserved, IsSavedRun, IsOpenFile, IsStateText, IsTextOfState, body_text, descriptor_text, file_text, flags_of, heap_text, kind_of, name_bytes, page_text, reservation_text, reserved_count, reserved_text, run_text, open_file_text, state_text_in, u64s}

-- ---- a reservation

abbrev first_address : Option (ℕ × ℕ) → ℕ
first_address None = 0
first_address (Some held) = held.1

abbrev IsReservedOf : ℕ → Option (ℕ × ℕ) → Type 0
IsReservedOf count held = IsReserved held × (count ≡ reserved_count held)

none_only : (held : Option (ℕ × ℕ)) → IsReservedOf 0 held → (None ≡ held) × Unit {0}
none_only None f = (refl, tt)
none_only (Some held) f = absurd (elim f.0.0 [ inl e ↦ omega (arith, e, f.1) | inr e ↦ omega (arith, e, f.1) ])

some_is : (more at : ℕ) (held : Option (ℕ × ℕ)) → (suc more ≡ reserved_count held) × (at ≡ first_address held) → Some (suc more, at) ≡ held
some_is more at None k = absurd (omega (arith, k.0))
some_is more at (Some held) k = λ i. Some (k.0 i, k.1 i)

abbrev AddressParts : ℕ → Option (ℕ × ℕ) → Type 0
AddressParts more held = (suc more ≡ reserved_count held) × ((first_address held < 2 ^ 64) × Unit {0})

address_text : (more : ℕ) (held : Option (ℕ × ℕ)) → AddressParts more held → number_text w64 (first_address held) ++ [] ≡ reserved_text held
address_text more None k = absurd (omega (arith, k.0))
address_text more (Some held) k = append-nil (number_text w64 held.1)

one_count : (n : ℕ) → is_reserved_count n ≡ true → (n ≡ 0) ⊎ ((n ≡ 4) ⊎ (n ≡ 8))
one_count n is = by (eqb n 0) (eqb n 4) (eqb n 8) refl refl refl is
  where
    by : (a b c : Bool) → eqb n 0 ≡ a → eqb n 4 ≡ b → eqb n 8 ≡ c → (a || (b || c)) ≡ true → (n ≡ 0) ⊎ ((n ≡ 4) ⊎ (n ≡ 8))
    by true b c e f g is = inl (eqb-true n 0 e)
    by false true c e f g is = inr (inl (eqb-true n 4 f))
    by false false true e f g is = inr (inr (eqb-true n 8 g))
    by false false false e f g is = absurd cc

four_or_eight : (more : ℕ) → is_reserved_count (suc more) ≡ true → (suc more ≡ 4) ⊎ (suc more ≡ 8)
four_or_eight more is = elim (one_count (suc more) is) [ inl e ↦ absurd (omega (arith, e)) | inr some ↦ some ]

address_fits : (more : ℕ) → is_reserved_count (suc more) ≡ true → (held : Option (ℕ × ℕ)) → AddressParts more held → IsReservedOf (suc more) held
address_fits more is None k = absurd (omega (arith, k.0))
address_fits more is (Some held) k = ((subst (λ (n : ℕ). (n ≡ 4) ⊎ (n ≡ 8)) k.0 (four_or_eight more is), k.1.0), k.0)

address_back : (more : ℕ) (held : Option (ℕ × ℕ)) → IsReservedOf (suc more) held → AddressParts more held
address_back more None f = absurd (omega (arith, f.1))
address_back more (Some held) f = (f.1, (f.0.1, tt))

encodes_reserved : (count : ℕ) → is_reserved_count count ≡ true → Encodes (reserved_at count) reserved_text (IsReservedOf count)
unfolding reserved_at
encodes_reserved zero is =
    encodes (all_read {K = λ held. None ≡ held} None (λ held k. k) refl)
    (λ held f. ap reserved_text f.0) (λ held f. subst (IsReservedOf 0) f.0 (tt, refl)) none_only
encodes_reserved (suc more) is =
    encodes (
    then {K = λ held. suc more ≡ reserved_count held} first_address encodes_u64 (λ at f.
    all_read (Some (suc more, at)) (some_is more at) (refl, refl)))
    (address_text more) (address_fits more is) (address_back more)

count_fits : (held : Option (ℕ × ℕ)) → IsReserved held → (reserved_count held < 256) × (is_reserved_count (reserved_count held) ≡ true)
count_fits None f = (omega arith, refl)
count_fits (Some held) f = elim f.0 [ inl e ↦ (omega (arith, e), rw e refl) | inr e ↦ (omega (arith, e), rw e refl) ]

pub encodes_reservation : (form : TextForm) → Encodes (reservation_at form) (reservation_text form) (λ held. IsReserved held × HasFieldIn form held)
unfolding reservation_at
encodes_reservation First =
    encodes (all_read {K = λ held. None ≡ held} None (λ held k. k) refl)
    (λ held f. refl) (λ held f. subst (λ (h : Option (ℕ × ℕ)). IsReserved h × (h ≡ None)) f.0 (tt, refl)) (λ held f. (sym f.1, tt))
encodes_reservation Second =
    encodes (
    then {G = IsReserved} {K = Nothing} reserved_count (encodes_that is_reserved_count encodes_byte) (λ count f.
    encodes (encodes_reserved count f.1) (λ held g. refl) (λ held g. ((tt, g.1), g.0)) (λ held g. (g.1, g.0.1))))
    (λ held f. refl) (λ held f. (f.1.1, tt)) (λ held f. (tt, (count_fits held f.0, f.0)))

pub encodes_heap : Encodes heap_at heap_text IsHeap
unfolding heap_at
encodes_heap =
    encodes (
    then {K = Nothing} (λ h. h.first) encodes_u64 (λ first f.
    then (λ h. h.now) encodes_u64 (λ now g.
    then (λ h. h.limit) encodes_u64 (λ limit k.
    all_read (record { first = first; now = now; limit = limit }) (λ h k. λ i. record { first = k.0.0.1 i; now = k.0.1 i; limit = k.1 i }) (((tt, refl), refl), refl)))))
    (λ h f. ap (λ (v : List ℕ). number_text w64 h.first ++ (number_text w64 h.now ++ v)) (append-nil (number_text w64 h.limit)))
    (λ h f. record { first = f.1.0; now = f.1.1.0; limit = f.1.1.1.0 })
    (λ h f. (tt, (f.first, (f.now, (f.limit, tt)))))

pub encodes_run : (least : ℕ) → Encodes (run_at least) run_text (IsSavedRun least)
unfolding run_at
encodes_run least =
    encodes (
    then {K = Nothing} (λ r. r.first) (encodes_from least) (λ first f.
    then (λ r. r.pages) (encodes_from 1) (λ pages g.
    all_read (record { first = first; pages = pages }) (λ r k. λ i. record { first = k.0.1 i; pages = k.1 i }) ((tt, refl), refl))))
    (λ r f. ap (λ (v : List ℕ). number_text w32 r.first ++ v) (append-nil (number_text w32 r.pages)))
    (λ r f. record { from = f.1.0.from; first = f.1.0.below; some = f.1.1.0.from; pages = f.1.1.0.below })
    (λ r f. (tt, (record { from = f.from; below = f.first }, (record { from = f.some; below = f.pages }, tt))))

pub encodes_page : (least : ℕ) → Encodes (page_at least) page_text (IsPage least)
unfolding page_at
encodes_page least =
    encodes (
    then {K = Nothing} (λ p. p.number) (encodes_from least) (λ number f.
    then (λ p. p.bytes) (encodes_that is_page (encodes_bytes 4096)) (λ bytes g.
    all_read (record { number = number; bytes = bytes }) (λ p k. λ i. record { number = k.0.1 i; bytes = k.1 i }) ((tt, refl), refl))))
    (λ p f. ap (λ (v : List ℕ). number_text w32 p.number ++ v) (append-nil p.bytes))
    (λ p f. record { from = f.1.0.from; number = f.1.0.below; full = f.1.1.0.0.long; some = f.1.1.0.1 })
    (λ p f. (tt, (record { from = f.from; below = f.number }, ((record { long = f.full }, f.some), tt))))

-- ---- a file

pub again_named : (name : Option (List ℕ)) (bytes : List ℕ) → IsNameText name → bytes ≡ name_bytes name → optional_name bytes ≡ name
again_named None bytes f e = ap optional_name e
again_named (Some []) bytes f e = absurd (omega (arith, f.0))
again_named (Some (byte ∷ more)) bytes f e = ap optional_name e

pub named_bytes : (bytes : List ℕ) → name_bytes (optional_name bytes) ≡ bytes
named_bytes [] = refl
named_bytes (byte ∷ more) = refl

pub is_named : (bytes : List ℕ) → IsBlob (2 ^ 16) bytes → IsNameText (optional_name bytes)
is_named [] f = tt
is_named (byte ∷ more) f = (omega arith, f.short)

pub short_name : (name : Option (List ℕ)) → IsNameText name → IsBlob (2 ^ 16) (name_bytes name)
short_name None f = record { short = omega arith }
short_name (Some name) f = record { short = f.1 }

-- a name is read of its bytes
encodes_name : Encodes (blob w16) (blob_text w16) (IsBlob (2 ^ 16))
encodes_name = encodes_blob16

pub encodes_file : (least : ℕ) → Encodes (file_at least) file_text (IsFile least)
unfolding file_at
encodes_file least =
    encodes (
    then {K = Nothing} (λ p. p.number) (encodes_from least) (λ number f.
    then {G = λ p. IsNameText p.name × (IsBlob (2 ^ 32) p.content × Unit {0})} (λ p. name_bytes p.name) encodes_blob16 (λ name g.
    encodes (then {K = λ p. ((Unit {0} × (number ≡ p.number)) × (name ≡ name_bytes p.name)) × IsNameText p.name} (λ p. p.content) encodes_blob32 (λ content h.
    all_read (record { number = number; name = optional_name name; content = content })
    (λ p k. λ i. record { number = k.0.0.0.1 i; name = again_named p.name name k.0.1 k.0.0.1 i; content = k.1 i })
    ((((tt, refl), sym (named_bytes name)), is_named name g), refl)))
    (λ p f. refl) (λ p f. (f.0.0, (f.0.1, f.1))) (λ p f. ((f.0, f.1.0), f.1.1)))))
    (λ p f. ap (λ (v : List ℕ). number_text w32 p.number ++ (blob_text w16 (name_bytes p.name) ++ v)) (append-nil (blob_text w32 p.content)))
    (λ p f. record { from = f.1.0.from; number = f.1.0.below; name = f.1.1.1.0; content = f.1.1.1.1.0 })
    (λ p f. (tt, (record { from = f.from; below = f.number }, (short_name p.name f.name, (f.name, (f.content, tt))))))

-- ---- a descriptor

small : (n : ℕ) → are_flags n ≡ true → n < 8
small n e = elim (cases_lt n 8) [ inl lt ↦ lt | inr le ↦ (let big : ltb n 8 ≡ false = le-ltb _ _ le in let no : are_flags n ≡ false = rw big refl in absurd cc) ]

-- flags are those of what they mean
flags_again : (n : ℕ) → are_flags n ≡ true → flags_of (access_of_code n) ≡ n
flags_again zero e = absurd cc
flags_again (suc zero) e = refl
flags_again (suc (suc zero)) e = refl
flags_again (suc (suc (suc zero))) e = refl
flags_again (suc (suc (suc (suc zero)))) e = absurd cc
flags_again (suc (suc (suc (suc (suc zero))))) e = refl
flags_again (suc (suc (suc (suc (suc (suc zero)))))) e = refl
flags_again (suc (suc (suc (suc (suc (suc (suc zero))))))) e = refl
flags_again (suc (suc (suc (suc (suc (suc (suc (suc n)))))))) e = let lt = small (suc (suc (suc (suc (suc (suc (suc (suc n)))))))) e in absurd (omega arith)

abbrev made : Mode → Bool → Access
made m b = record { mode = m; appends = b }

meant : (access : Access) → (access_of_code (flags_of access) ≡ access) × ((flags_of access < 256) × (are_flags (flags_of access) ≡ true))
meant access = by access.mode access.appends
  where
    by : (m : Mode) (b : Bool) → (access_of_code (flags_of (made m b)) ≡ made m b) × ((flags_of (made m b) < 256) × (are_flags (flags_of (made m b)) ≡ true))
    by mode.Read true = (refl, (omega arith, refl))
    by mode.Read false = (refl, (omega arith, refl))
    by mode.Write true = (refl, (omega arith, refl))
    by mode.Write false = (refl, (omega arith, refl))
    by mode.ReadWrite true = (refl, (omega arith, refl))
    by mode.ReadWrite false = (refl, (omega arith, refl))

abbrev flag_text : Access → List ℕ
flag_text access = flags_of access ∷ []

encodes_access : Encodes access_at flag_text Nothing
unfolding access_at
encodes_access =
    encodes (
    then {K = Nothing} flags_of (encodes_that are_flags encodes_byte) (λ flags f.
    all_read (access_of_code flags) (λ access k. ap access_of_code k.1 ∙ (meant access).0) (tt, sym (flags_again flags f.1))))
    (λ access f. refl)
    (λ access f. tt)
    (λ access f. (tt, ((meant access).1, tt)))

abbrev number_in : OpenFile → ℕ
number_in (File number cursor access) = number
number_in Input = 0
number_in Stream1 = 0
number_in Stream2 = 0

abbrev file_offset_in : OpenFile → ℕ
file_offset_in (File number cursor access) = cursor
file_offset_in Input = 0
file_offset_in Stream1 = 0
file_offset_in Stream2 = 0

abbrev access_in : OpenFile → Access
access_in (File number cursor access) = access
access_in Input = access_of_code 1
access_in Stream1 = access_of_code 1
access_in Stream2 = access_of_code 1

abbrev IsOpenFileOf : ℕ → OpenFile → Type 0
IsOpenFileOf kind open_file = IsOpenFile open_file × (kind ≡ kind_of open_file)

input_only : (open_file : OpenFile) → IsOpenFileOf 0 open_file → (Input ≡ open_file) × Unit {0}
input_only Input f = (refl, tt)
input_only Stream1 f = absurd cc
input_only Stream2 f = absurd cc
input_only (File number cursor access) f = absurd cc

stream1_only : (open_file : OpenFile) → IsOpenFileOf 1 open_file → (Stream1 ≡ open_file) × Unit {0}
stream1_only Input f = absurd cc
stream1_only Stream1 f = (refl, tt)
stream1_only Stream2 f = absurd cc
stream1_only (File number cursor access) f = absurd cc

stream2_only : (open_file : OpenFile) → IsOpenFileOf 2 open_file → (Stream2 ≡ open_file) × Unit {0}
stream2_only Input f = absurd cc
stream2_only Stream1 f = absurd cc
stream2_only Stream2 f = (refl, tt)
stream2_only (File number cursor access) f = absurd cc

-- a kind that says all
encodes_only : (kind : ℕ) (r : OpenFile) → open_file_text r ≡ [] → IsOpenFileOf kind r → ((open_file : OpenFile) → IsOpenFileOf kind open_file → (r ≡ open_file) × Unit {0}) → Encodes (done r) open_file_text (IsOpenFileOf kind)
encodes_only kind r none is only =
    encodes (all_read {K = λ open_file. r ≡ open_file} r (λ open_file k. k) refl)
    (λ open_file f. sym none ∙ ap open_file_text f.0)
    (λ open_file f. subst (IsOpenFileOf kind) f.0 is)
    only

abbrev IsOpen : OpenFile → Type 0
IsOpen open_file = 3 ≡ kind_of open_file

abbrev FileParts : OpenFile → Type 0
FileParts open_file = IsOpen open_file × ((number_in open_file < 2 ^ 32) × ((file_offset_in open_file < 2 ^ 64) × (Unit {0} × Unit {0})))

file_is : (number cursor : ℕ) (access : Access) (open_file : OpenFile) → ((IsOpen open_file × (number ≡ number_in open_file)) × (cursor ≡ file_offset_in open_file)) × (access ≡ access_in open_file) → File number cursor access ≡ open_file
file_is number cursor access (File n c f) k = λ i. File (k.0.0.1 i) (k.0.1 i) (k.1 i)
file_is number cursor access Input k = absurd (cc (k.0.0.0))
file_is number cursor access Stream1 k = absurd (cc (k.0.0.0))
file_is number cursor access Stream2 k = absurd (cc (k.0.0.0))

file_text_is : (open_file : OpenFile) → FileParts open_file → number_text w32 (number_in open_file) ++ (number_text w64 (file_offset_in open_file) ++ (flag_text (access_in open_file) ++ [])) ≡ open_file_text open_file
file_text_is (File n c f) k = refl
file_text_is Input k = absurd (cc (k.0))
file_text_is Stream1 k = absurd (cc (k.0))
file_text_is Stream2 k = absurd (cc (k.0))

file_fits : (open_file : OpenFile) → FileParts open_file → IsOpenFileOf 3 open_file
file_fits (File n c f) k = ((k.1.0, k.1.1.0), refl)
file_fits Input k = absurd (cc (k.0))
file_fits Stream1 k = absurd (cc (k.0))
file_fits Stream2 k = absurd (cc (k.0))

file_back : (open_file : OpenFile) → IsOpenFileOf 3 open_file → FileParts open_file
file_back (File n c f) k = (refl, (k.0.0, (k.0.1, (tt, tt))))
file_back Input k = absurd (cc (k.1))
file_back Stream1 k = absurd (cc (k.1))
file_back Stream2 k = absurd (cc (k.1))

encodes_open : Encodes (open_file_at 3) open_file_text (IsOpenFileOf 3)
unfolding open_file_at
encodes_open =
    encodes (
    then {K = IsOpen} number_in encodes_u32 (λ number f.
    then file_offset_in encodes_u64 (λ cursor g.
    then access_in encodes_access (λ access h.
    all_read (File number cursor access) (file_is number cursor access) (((refl, refl), refl), refl)))))
    file_text_is file_fits file_back

encodes_open_file : (kind : ℕ) → kind ≤ 3 → Encodes (open_file_at kind) open_file_text (IsOpenFileOf kind)
unfolding open_file_at
encodes_open_file zero le = encodes_only 0 Input refl (tt, refl) input_only
encodes_open_file (suc zero) le = encodes_only 1 Stream1 refl (tt, refl) stream1_only
encodes_open_file (suc (suc zero)) le = encodes_only 2 Stream2 refl (tt, refl) stream2_only
encodes_open_file (suc (suc (suc zero))) le = encodes_open
encodes_open_file (suc (suc (suc (suc more)))) le = absurd (omega arith)

kind_below : (open_file : OpenFile) → (kind_of open_file < 256) × (nat_le (kind_of open_file) 3 ≡ true)
kind_below Input = (omega arith, refl)
kind_below Stream1 = (omega arith, refl)
kind_below Stream2 = (omega arith, refl)
kind_below (File number cursor access) = (omega arith, refl)

pub encodes_descriptor : (least : ℕ) → Encodes (descriptor_at least) descriptor_text (IsDescriptor least)
unfolding descriptor_at
encodes_descriptor least =
    encodes (
    then {K = Nothing} (λ d. d.0) (encodes_from least) (λ fd f.
    then {G = λ d. IsOpenFile d.1 × Unit {0}} (λ d. kind_of d.1) (encodes_that (λ kind. nat_le kind 3) encodes_byte) (λ kind g.
    encodes (then (λ d. d.1) (encodes_open_file kind (leb-true _ _ g.1)) (λ open_file h.
    all_read (fd, open_file) (λ d k. λ i. (k.0.0.1 i, k.1 i)) (((tt, refl), h.1), refl)))
    (λ d f. refl) (λ d f. (f.0, (f.1.0.0, tt))) (λ d f. (f.0, ((f.1.0, f.0.1), tt))))))
    (λ d f. ap (λ (v : List ℕ). number_text w32 d.0 ++ (kind_of d.1 ∷ v)) (append-nil (open_file_text d.1)))
    (λ d f. record { from = f.1.0.from; fd = f.1.0.below; open_file = f.1.1.1.0 })
    (λ d f. (tt, (record { from = f.from; below = f.fd }, (kind_below d.1, (f.open_file, tt)))))

-- ---- the whole

encodes_registers : Encodes (alike u64 31) u64s (λ ns. (length ns ≡ 31) × Alike (λ n. n < 2 ^ 64) ns)
encodes_registers = encodes_alike encodes_u64 31

pub encodes_body : (form : TextForm) → Encodes (body_at form) (body_text form) (λ s. IsStateText s × HasFieldIn form s.reservation)
unfolding body_at body_text
encodes_body form =
    encodes (
    then {K = Nothing} (λ s. s.steps) encodes_u64 (λ steps f1.
    then (λ s. s.pc) encodes_u64 (λ pc f2.
    then (λ s. s.registers) encodes_registers (λ registers f3.
    then (λ s. s.reservation) (encodes_reservation form) (λ reservation f10.
    then (λ s. s.heap) encodes_heap (λ heap f0.
    then (λ s. s.runs) (encodes_counted after_run encodes_run 0) (λ runs f4.
    then (λ s. s.pages) (encodes_counted after_page encodes_page 0) (λ pages f5.
    then (λ s. s.files) (encodes_counted after_file encodes_file 0) (λ files f6.
    then (λ s. s.descriptors) (encodes_counted after_descriptor encodes_descriptor 0) (λ descriptors f7.
    then (λ s. s.stream1) encodes_blob32 (λ stream1 f8.
    then (λ s. s.stream2) encodes_blob32 (λ stream2 f9.
    all_read (record { steps = steps; pc = pc; registers = registers; reservation = reservation; heap = heap; runs = runs; pages = pages; files = files; descriptors = descriptors; stream1 = stream1; stream2 = stream2 })
    (λ s k. λ i. record { steps = k.0.0.0.0.0.0.0.0.0.0.1 i; pc = k.0.0.0.0.0.0.0.0.0.1 i; registers = k.0.0.0.0.0.0.0.0.1 i; reservation = k.0.0.0.0.0.0.0.1 i; heap = k.0.0.0.0.0.0.1 i; runs = k.0.0.0.0.0.1 i; pages = k.0.0.0.0.1 i; files = k.0.0.0.1 i; descriptors = k.0.0.1 i; stream1 = k.0.1 i; stream2 = k.1 i })
    (((((((((((tt, refl), refl), refl), refl), refl), refl), refl), refl), refl), refl), refl)))))))))))))
    (λ s f. grind (arith, append-nil))
    (λ s f. let g = f.1 in (record { steps = g.0; pc = g.1.0; registers = g.1.1.0.0; register = g.1.1.0.1; reservation = g.1.1.1.0.0; heap = g.1.1.1.1.0; runs = g.1.1.1.1.1.0; pages = g.1.1.1.1.1.1.0; files = g.1.1.1.1.1.1.1.0; descriptors = g.1.1.1.1.1.1.1.1.0; stream1 = g.1.1.1.1.1.1.1.1.1.0; stream2 = g.1.1.1.1.1.1.1.1.1.1.0 }, g.1.1.1.0.1))
    (λ s f. let t = f.0 in (tt, (t.steps, (t.pc, ((t.registers, t.register), ((t.reservation, f.1), (t.heap, (t.runs, (t.pages, (t.files, (t.descriptors, (t.stream1, (t.stream2, tt)))))))))))))

magic_long : (form : TextForm) → length (state_magic form) ≡ 8
magic_long First = refl
magic_long Second = refl

-- a text of a form that is known before
pub encodes_state_in : (form : TextForm) → Encodes (state_in form) (state_text_in form) (λ s. IsStateText s × HasFieldIn form s.reservation)
unfolding state_in
encodes_state_in form =
    encodes (
    then {K = Nothing} (λ s. tt) (encodes_begun (state_magic form) (magic_long form)) (λ begun f.
    encodes (encodes_body form) (λ s g. refl) (λ s g. ((tt, refl), g)) (λ s g. g.1)))
    (λ s f. refl) (λ s f. f.1.1) (λ s f. (tt, (tt, f)))

pub encodes_state : EncodesForms state_at state_text_in (λ form s. IsStateText s × HasFieldIn form s.reservation)
unfolding state_at
encodes_state = by_form (encodes_begun_in state_magic magic_long refl) encodes_body

-- ---- with nothing after it

in_form : (form : TextForm) (s : StateText) (text : List ℕ) → HasFieldIn form s.reservation → text ≡ state_text_in form s → IsTextOfState s text
in_form First s text none is = inr (none, is)
in_form Second s text any is = inl is

pub formed_again : (s : StateText) (text : List ℕ) → IsStateText s → IsTextOfState s text → parsed_state text ≡ Ok s
unfolding parsed_state
formed_again s text fits (inl is) = ap parsed_state is ∙ whole_again encodes_state Second s (fits, tt)
formed_again s text fits (inr old) = ap parsed_state old.1 ∙ whole_again encodes_state First s (fits, old.0)

pub encoded : (text : List ℕ) (s : StateText) → AreBytes text → parsed_state text ≡ Ok s → IsStateText s × IsTextOfState s text
unfolding parsed_state
encoded text s fits is = let p = whole_takes encodes_state text s fits is in (p.1.0, in_form p.0 s text p.1.1 p.2)

pub is_found : (text : List ℕ) (r : Result StateParts TextRefusal) → AreBytes text → ReadsStateText r (parsed_state text) → IfOk r (λ p. IsStateText (state_view p) × IsTextOfState (state_view p) text)
is_found text (Ok p) fits given = encoded text (state_view p) fits given
is_found text (Err e) fits given = tt
