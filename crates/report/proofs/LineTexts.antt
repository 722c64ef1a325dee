-- A line's text is read as that line, and what reads as a line is its text.
use Rattle.std.proofs.Common.{◌≡◌, ℕ, ◌<◌, ◌^◌, cond, List, [], ◌∷◌, ◌++◌, codes, decimal, Some, None, refl, sym, ap, subst, ◌∙◌, append_assoc, inl, inr}
use Rattle.std.specs.Str.{bytes_eq}
use Rattle.ddc_base.specs.Lines.{line as line_text}
use Rattle.ddc_base.specs.Names.{IsName}
use Rattle.ddc_base.specs.Languages.Words.{language_named, language_word}
use Rattle.report.specs.declared.line.ReportLine.{ReportLine}
use Rattle.report.specs.declared.line.ReportLine.TheVariants.{Header, Recipe, Input, Stage, Stream1, Stream2, Left, Made, Checked, Compare, End}
use Rattle.report.specs.declared.types.Compared.{Compared}
use Rattle.report.specs.declared.types.Compared.TheVariants.{Equal, Differs}
use Rattle.report.specs.Inside.Cuts.{cut_at}
use Rattle.report.specs.Inside.Fields.{digest_of, mark_of, file_line_of}
use Rattle.report.specs.Inside.LinesRead.{header_of, recipe_of, input_of, stage_of, stream_of, left_of, made_of, checked_of, compare_of, line_of_kind, longer_line_of, line_of}
use Rattle.report.specs.Inside.LineByLine.{next_line}
use Rattle.report.specs.Lines.{form_word, line_words, compared_words}
use Rattle.report.specs.Reports.{IsForm, IsDigest, IsMark, IsInputLine, IsLeft, IsCompare}
use Rattle.report.proofs.Cuts.{Without, Without-append, cut_at-joined, cut_at-takes, bind_some, same_some}
use Rattle.report.proofs.Plain.{no_blank, no_feed}
use Rattle.report.proofs.LineByLine.Rules.{line_is_next, next_is_line}
use Rattle.report.proofs.Encoded.{two_again, two_takes}
use Rattle.report.proofs.FieldTexts.{by_word, number, name, name_word, language, digest, digest_text, mark, mark_text, file_line, file_text, stream_line_takes, binary, binary_text, compared_text}

-- a line that is spelled one way
abbrev pub IsLine : ReportLine → Type 0
IsLine (Header form) = IsForm form
IsLine (Recipe digest) = IsDigest digest
IsLine (Input input) = IsInputLine input
IsLine (Stage name steps) = IsName name × (steps < 2 ^ 64)
IsLine (Stream1 mark) = IsMark mark
IsLine (Stream2 mark) = IsMark mark
IsLine (Left file) = IsLeft file
IsLine (Made mark) = IsMark mark
IsLine (Checked checked) = Unit {0}
IsLine (Compare compare) = IsCompare compare
IsLine End = Unit {0}

-- the fields after a line's first word
abbrev fields_text : ReportLine → List ℕ
fields_text (Header form) = form_word form
fields_text (Recipe digest) = digest_text digest
fields_text (Input input) = input.name ++ 32 ∷ mark_text input.mark
fields_text (Stage name steps) = name ++ 32 ∷ decimal steps
fields_text (Stream1 mark) = codes "1" ++ 32 ∷ mark_text mark
fields_text (Stream2 mark) = codes "2" ++ 32 ∷ mark_text mark
fields_text (Left file) = file_text file
fields_text (Made mark) = mark_text mark
fields_text (Checked (Some language)) = language_word language
fields_text (Checked None) = []
fields_text (Compare compare) = compare.stage ++ 32 ∷ binary_text (compare.binary, compare.result)
fields_text End = []

-- a line's text without its LF
abbrev text_of : ReportLine → List ℕ
text_of (Header form) = codes "ddc-report" ++ 32 ∷ fields_text (Header form)
text_of (Recipe digest) = codes "recipe" ++ 32 ∷ fields_text (Recipe digest)
text_of (Input input) = codes "input" ++ 32 ∷ fields_text (Input input)
text_of (Stage name steps) = codes "stage" ++ 32 ∷ fields_text (Stage name steps)
text_of (Stream1 mark) = codes "stream" ++ 32 ∷ fields_text (Stream1 mark)
text_of (Stream2 mark) = codes "stream" ++ 32 ∷ fields_text (Stream2 mark)
text_of (Left file) = codes "left" ++ 32 ∷ fields_text (Left file)
text_of (Made mark) = codes "made" ++ 32 ∷ fields_text (Made mark)
text_of (Checked (Some language)) = codes "checked" ++ 32 ∷ fields_text (Checked (Some language))
text_of (Checked None) = codes "unchecked"
text_of (Compare compare) = codes "compare" ++ 32 ∷ fields_text (Compare compare)
text_of End = codes "end"

-- ---- a line's text is read again

-- by its first word
kind_again : (kind fields : List ℕ) (l : ReportLine) → Without 32 kind → line_of_kind kind fields ≡ Some l → longer_line_of (kind ++ 32 ∷ fields) ≡ Some l
unfolding longer_line_of
kind_again kind fields l plain is = rw (cut_at-joined 32 kind fields plain, is) refl

line_again : (l : ReportLine) → IsLine l → line_of (text_of l) ≡ Some l
unfolding line_of line_of_kind header_of recipe_of input_of stage_of stream_of left_of made_of checked_of compare_of
line_again (Header form) (inl one) = rw one (kind_again (codes "ddc-report") (codes "1") (Header 1) (no_blank (codes "ddc-report") refl) refl)
line_again (Header form) (inr two) = rw two (kind_again (codes "ddc-report") (codes "2") (Header 2) (no_blank (codes "ddc-report") refl) refl)
line_again (Recipe d) is = kind_again (codes "recipe") (digest_text d) (Recipe d) (no_blank (codes "recipe") refl) (rw (digest.again d is) refl)
line_again (Input i) is = kind_again (codes "input") (fields_text (Input i)) (Input i) (no_blank (codes "input") refl)
    (two_again name name_word mark (λ n m. Input (record { name = n; mark = m })) i.name i.mark is.name is.mark)
line_again (Stage n steps) is = kind_again (codes "stage") (fields_text (Stage n steps)) (Stage n steps) (no_blank (codes "stage") refl)
    (two_again name name_word number (λ n s. Stage n s) n steps is.0 is.1)
line_again (Stream1 m) is = kind_again (codes "stream") (fields_text (Stream1 m)) (Stream1 m) (no_blank (codes "stream") refl)
    (rw (cut_at-joined 32 (codes "1") (mark_text m) (no_blank (codes "1") refl), mark.again m is) refl)
line_again (Stream2 m) is = kind_again (codes "stream") (fields_text (Stream2 m)) (Stream2 m) (no_blank (codes "stream") refl)
    (rw (cut_at-joined 32 (codes "2") (mark_text m) (no_blank (codes "2") refl), mark.again m is) refl)
line_again (Left f) is = kind_again (codes "left") (file_text f) (Left f) (no_blank (codes "left") refl) (rw (file_line.again f is) refl)
line_again (Made m) is = kind_again (codes "made") (mark_text m) (Made m) (no_blank (codes "made") refl) (rw (mark.again m is) refl)
line_again (Checked (Some l)) is = kind_again (codes "checked") (language_word l) (Checked (Some l)) (no_blank (codes "checked") refl) (rw (language.again l tt) refl)
line_again (Checked None) is = refl
line_again (Compare c) is = kind_again (codes "compare") (fields_text (Compare c)) (Compare c) (no_blank (codes "compare") refl)
    (two_again name name_word binary (λ s f. Compare (record { stage = s; binary = f.0; result = f.1 })) c.stage (c.binary, c.result) is.stage (is.binary, is.result))
line_again End is = refl

-- ---- there is no LF in it

two_no_feed : (a b : List ℕ) → Without 10 a → Without 10 b → Without 10 (a ++ 32 ∷ b)
two_no_feed a b h k = Without-append 10 a (32 ∷ b) h (refl, k)

line_no_feed : (l : ReportLine) → IsLine l → Without 10 (text_of l)
line_no_feed (Header form) (inl one) = rw one (two_no_feed (codes "ddc-report") (codes "1") (no_feed (codes "ddc-report") refl) (no_feed (codes "1") refl))
line_no_feed (Header form) (inr two) = rw two (two_no_feed (codes "ddc-report") (codes "2") (no_feed (codes "ddc-report") refl) (no_feed (codes "2") refl))
line_no_feed (Recipe d) is = two_no_feed (codes "recipe") (digest_text d) (no_feed (codes "recipe") refl) (digest.no_feed d is)
line_no_feed (Input i) is = two_no_feed (codes "input") (fields_text (Input i)) (no_feed (codes "input") refl) (two_no_feed i.name (mark_text i.mark) (name.no_feed i.name is.name) (mark.no_feed i.mark is.mark))
line_no_feed (Stage n steps) is = two_no_feed (codes "stage") (fields_text (Stage n steps)) (no_feed (codes "stage") refl) (two_no_feed n (decimal steps) (name.no_feed n is.0) (number.no_feed steps is.1))
line_no_feed (Stream1 m) is = two_no_feed (codes "stream") (fields_text (Stream1 m)) (no_feed (codes "stream") refl) (two_no_feed (codes "1") (mark_text m) (no_feed (codes "1") refl) (mark.no_feed m is))
line_no_feed (Stream2 m) is = two_no_feed (codes "stream") (fields_text (Stream2 m)) (no_feed (codes "stream") refl) (two_no_feed (codes "2") (mark_text m) (no_feed (codes "2") refl) (mark.no_feed m is))
line_no_feed (Left f) is = two_no_feed (codes "left") (file_text f) (no_feed (codes "left") refl) (file_line.no_feed f is)
line_no_feed (Made m) is = two_no_feed (codes "made") (mark_text m) (no_feed (codes "made") refl) (mark.no_feed m is)
line_no_feed (Checked (Some l)) is = two_no_feed (codes "checked") (language_word l) (no_feed (codes "checked") refl) (language.no_feed l tt)
line_no_feed (Checked None) is = no_feed (codes "unchecked") refl
line_no_feed (Compare c) is =
    two_no_feed (codes "compare") (fields_text (Compare c)) (no_feed (codes "compare") refl)
    (two_no_feed c.stage (binary_text (c.binary, c.result)) (name.no_feed c.stage is.stage) (binary.no_feed (c.binary, c.result) (is.binary, is.result)))
line_no_feed End is = no_feed (codes "end") refl

-- ---- what is read is a line's text

-- the line that a text is
abbrev Is : List ℕ → ReportLine → Type 0
Is text l = IsLine l × (text ≡ text_of l)

header_takes : (fields : List ℕ) (l : ReportLine) → header_of fields ≡ Some l → Is (codes "ddc-report" ++ 32 ∷ fields) l
unfolding header_of
header_takes fields l e =
    by_word fields (codes "1") (Some (Header 1)) (cond (bytes_eq fields (codes "2")) (Some (Header 2)) None) l
    (λ is here. subst (Is (codes "ddc-report" ++ 32 ∷ fields)) (same_some (Header 1) l here) (inl refl, ap (λ (t : List ℕ). codes "ddc-report" ++ 32 ∷ t) is))
    (λ later. by_word fields (codes "2") (Some (Header 2)) None l
    (λ is here. subst (Is (codes "ddc-report" ++ 32 ∷ fields)) (same_some (Header 2) l here) (inr refl, ap (λ (t : List ℕ). codes "ddc-report" ++ 32 ∷ t) is))
    (λ none. absurd cc) later) e

recipe_takes : (fields : List ℕ) (l : ReportLine) → recipe_of fields ≡ Some l → Is (codes "recipe" ++ 32 ∷ fields) l
unfolding recipe_of
recipe_takes fields l e =
    let x = bind_some (digest_of fields) (λ d. Some (Recipe d)) l e in
    let d = digest.takes fields x.0 x.1 in
    subst (Is (codes "recipe" ++ 32 ∷ fields)) (same_some (Recipe x.0) l x.2) (d.0, ap (λ (t : List ℕ). codes "recipe" ++ 32 ∷ t) d.1)

input_takes : (fields : List ℕ) (l : ReportLine) → input_of fields ≡ Some l → Is (codes "input" ++ 32 ∷ fields) l
unfolding input_of
input_takes fields l e =
    let two = two_takes name mark (λ n m. Input (record { name = n; mark = m })) fields l e in
    subst (Is (codes "input" ++ 32 ∷ fields)) two.is (record { name = two.is_first; mark = two.is_second }, ap (λ (t : List ℕ). codes "input" ++ 32 ∷ t) two.encoded)

stage_takes : (fields : List ℕ) (l : ReportLine) → stage_of fields ≡ Some l → Is (codes "stage" ++ 32 ∷ fields) l
unfolding stage_of
stage_takes fields l e =
    let two = two_takes name number (λ n steps. Stage n steps) fields l e in
    subst (Is (codes "stage" ++ 32 ∷ fields)) two.is ((two.is_first, two.is_second), ap (λ (t : List ℕ). codes "stage" ++ 32 ∷ t) two.encoded)

stream_takes : (fields : List ℕ) (l : ReportLine) → stream_of fields ≡ Some l → Is (codes "stream" ++ 32 ∷ fields) l
unfolding stream_of
stream_takes fields l e =
    let starts = λ (text : List ℕ) (is : fields ≡ text). ap (λ (t : List ℕ). codes "stream" ++ 32 ∷ t) is in
    stream_line_takes (Is (codes "stream" ++ 32 ∷ fields)) Stream1 Stream2 fields l (λ m is text. (is, starts (codes "1" ++ 32 ∷ mark_text m) text)) (λ m is text. (is, starts (codes "2" ++ 32 ∷ mark_text m) text)) e

left_takes : (fields : List ℕ) (l : ReportLine) → left_of fields ≡ Some l → Is (codes "left" ++ 32 ∷ fields) l
unfolding left_of
left_takes fields l e =
    let x = bind_some (file_line_of fields) (λ f. Some (Left f)) l e in
    let f = file_line.takes fields x.0 x.1 in
    subst (Is (codes "left" ++ 32 ∷ fields)) (same_some (Left x.0) l x.2) (f.0, ap (λ (t : List ℕ). codes "left" ++ 32 ∷ t) f.1)

made_takes : (fields : List ℕ) (l : ReportLine) → made_of fields ≡ Some l → Is (codes "made" ++ 32 ∷ fields) l
unfolding made_of
made_takes fields l e =
    let x = bind_some (mark_of fields) (λ m. Some (Made m)) l e in
    let m = mark.takes fields x.0 x.1 in
    subst (Is (codes "made" ++ 32 ∷ fields)) (same_some (Made x.0) l x.2) (m.0, ap (λ (t : List ℕ). codes "made" ++ 32 ∷ t) m.1)

checked_takes : (fields : List ℕ) (l : ReportLine) → checked_of fields ≡ Some l → Is (codes "checked" ++ 32 ∷ fields) l
unfolding checked_of
checked_takes fields l e =
    let x = bind_some (language_named fields) (λ m. Some (Checked (Some m))) l e in
    let m = language.takes fields x.0 x.1 in
    subst (Is (codes "checked" ++ 32 ∷ fields)) (same_some (Checked (Some x.0)) l x.2) (tt, ap (λ (t : List ℕ). codes "checked" ++ 32 ∷ t) m.1)

compare_takes : (fields : List ℕ) (l : ReportLine) → compare_of fields ≡ Some l → Is (codes "compare" ++ 32 ∷ fields) l
unfolding compare_of
compare_takes fields l e =
    let two = two_takes name binary (λ s f. Compare (record { stage = s; binary = f.0; result = f.1 })) fields l e in
    subst (Is (codes "compare" ++ 32 ∷ fields)) two.is
    (record { stage = two.is_first; binary = two.is_second.0; result = two.is_second.1 }, ap (λ (t : List ℕ). codes "compare" ++ 32 ∷ t) two.encoded)

kind_takes : (kind fields : List ℕ) (l : ReportLine) → line_of_kind kind fields ≡ Some l → Is (kind ++ 32 ∷ fields) l
unfolding line_of_kind
kind_takes kind fields l e =
    let of = λ (word : List ℕ) (is : kind ≡ word) (found : Is (word ++ 32 ∷ fields) l). subst (λ (k : List ℕ). Is (k ++ 32 ∷ fields) l) (sym is) found in
    by_word kind (codes "ddc-report") (header_of fields) _ l (λ is here. of (codes "ddc-report") is (header_takes fields l here)) (
    by_word kind (codes "recipe") (recipe_of fields) _ l (λ is here. of (codes "recipe") is (recipe_takes fields l here)) (
    by_word kind (codes "input") (input_of fields) _ l (λ is here. of (codes "input") is (input_takes fields l here)) (
    by_word kind (codes "stage") (stage_of fields) _ l (λ is here. of (codes "stage") is (stage_takes fields l here)) (
    by_word kind (codes "stream") (stream_of fields) _ l (λ is here. of (codes "stream") is (stream_takes fields l here)) (
    by_word kind (codes "left") (left_of fields) _ l (λ is here. of (codes "left") is (left_takes fields l here)) (
    by_word kind (codes "made") (made_of fields) _ l (λ is here. of (codes "made") is (made_takes fields l here)) (
    by_word kind (codes "checked") (checked_of fields) _ l (λ is here. of (codes "checked") is (checked_takes fields l here)) (
    by_word kind (codes "compare") (compare_of fields) _ l (λ is here. of (codes "compare") is (compare_takes fields l here)) (
    (λ none. absurd cc)))))))))) e

line_takes : (text : List ℕ) (l : ReportLine) → line_of text ≡ Some l → Is text l
unfolding line_of longer_line_of
line_takes text l e =
    by_word text (codes "end") (Some End) _ l (λ is here. subst (Is text) (same_some End l here) (tt, is)) (
    by_word text (codes "unchecked") (Some (Checked None)) _ l (λ is here. subst (Is text) (same_some (Checked None) l here) (tt, is)) (λ longer. (
    let x = bind_some (cut_at 32 text) (λ cut. line_of_kind cut.0 cut.1) l longer in
    let found = kind_takes x.0.0 x.0.1 l x.2 in
    (found.0, cut_at-takes 32 text x.0.0 x.0.1 x.1 ∙ found.1)))) e

-- ---- lines with their LF

encoded : (l : ReportLine) → line_text (line_words l) ≡ text_of l ++ 10 ∷ []
encoded (Header form) = simp append_assoc
encoded (Recipe d) = refl
encoded (Input i) = simp append_assoc
encoded (Stage n steps) = simp append_assoc
encoded (Stream1 m) = simp append_assoc
encoded (Stream2 m) = simp append_assoc
encoded (Left f) = simp append_assoc
encoded (Made m) = simp append_assoc
encoded (Checked (Some l)) = refl
encoded (Checked None) = refl
encoded (Compare c) = on c.result
  where
    on : (r : Compared) → line_text (codes "compare" ∷ c.stage ∷ c.binary ∷ compared_words r) ≡ (codes "compare" ++ 32 ∷ (c.stage ++ 32 ∷ (c.binary ++ 32 ∷ compared_text r))) ++ 10 ∷ []
    on (Equal n) = simp append_assoc
    on (Differs o a b) = simp append_assoc
encoded End = refl

pub next_again : (l : ReportLine) (rest : List ℕ) → IsLine l → next_line line_of (line_text (line_words l) ++ rest) ≡ Some (l, rest)
next_again l rest is = line_is_next line_of (line_words l) (text_of l) rest l (encoded l) (line_no_feed l is) (line_again l is)

pub next_takes : (bytes : List ℕ) (l : ReportLine) (rest : List ℕ) → next_line line_of bytes ≡ Some (l, rest) → IsLine l × (bytes ≡ line_text (line_words l) ++ rest)
next_takes = next_is_line line_of line_words IsLine (λ text l e. (let found = line_takes text l e in (found.0, encoded l ∙ ap (λ (t : List ℕ). t ++ 10 ∷ []) (sym found.1))))
