-- The text of a line of a script's report is read as that line, and what reads as a line is its text.
use Rattle.std.proofs.Common.{◌≡◌, ℕ, ◌<◌, ◌^◌, List, [], ◌∷◌, ◌++◌, codes, decimal, cond, Some, None, refl, sym, ap, subst, ◌∙◌, append_assoc, arith}
use Rattle.std.specs.Prelude.{nat_le, ◌&&◌}
use Rattle.std.proofs.lemmas.Bool.{and_parts}
use Rattle.ddc_base.specs.Decimals.{as_decimal}
use Rattle.ddc_base.specs.Lines.{line as line_text}
use Rattle.ddc_base.specs.Limits.{most_steps}
use Rattle.report.specs.declared.script.line.ScriptLine.{ScriptLine}
use Rattle.report.specs.declared.script.line.ScriptLine.TheVariants.{Header, Script, File, Command, Stream1, Stream2, Left, End}
use Rattle.report.specs.Inside.Cuts.{cut_at}
use Rattle.report.specs.Inside.Fields.{digest_of, file_line_of}
use Rattle.report.specs.Inside.LineByLine.{next_line}
use Rattle.report.specs.Inside.Script.Lines.{header_of, script_of, file_of, steps_of, command_of, stream_of, left_of, line_of_kind, longer_line_of, line_of}
use Rattle.report.specs.Script.Lines.{script_line_words}
use Rattle.report.specs.Reports.{IsCount, IsDigest, IsLeft, IsMark}
use Rattle.report.proofs.Cuts.{Without, Without-append, cut_at-joined, cut_at-takes, bind_some, if_some, same_some}
use Rattle.report.proofs.FieldTexts.{at_most, tested, by_word, number, digest, digest_text, mark, mark_text, file_line, file_text, stream_line_takes}
use Rattle.report.proofs.LineByLine.Rules.{line_is_next, next_is_line}
use Rattle.report.proofs.Plain.{no_blank, no_feed, decimal_plain}
use Rattle.report.proofs.Encoded.{Encodes}

-- ---- steps

abbrev pub IsSteps : ℕ → Type 0
IsSteps steps = IsCount 1 most_steps steps

steps_again : (n : ℕ) → IsSteps n → steps_of (decimal n) ≡ Some n
unfolding steps_of
steps_again n is =
    let small : n < 2 ^ 64 = omega (arith, is.1) in
    rw (number.again n small, tested 1 n is.0, tested n most_steps is.1) refl

steps_takes : (word : List ℕ) (n : ℕ) → steps_of word ≡ Some n → IsSteps n × (word ≡ decimal n)
unfolding steps_of
steps_takes word n e =
    let x = bind_some (as_decimal word) (λ steps. cond (nat_le 1 steps && nat_le steps most_steps) (Some steps) None) n e in
    let p = if_some (nat_le 1 x.0 && nat_le x.0 most_steps) (Some x.0) n x.2 in
    let q = and_parts (nat_le 1 x.0) (nat_le x.0 most_steps) p.0 in
    let same = same_some x.0 n p.1 in
    let is : IsSteps x.0 = (at_most 1 x.0 q.0, at_most x.0 most_steps q.1) in
    (subst IsSteps same is, (number.takes word x.0 x.1).1 ∙ ap decimal same)

steps : Encodes IsSteps decimal steps_of
steps = record {
  again = steps_again;
  takes = steps_takes;
  no_feed = λ n is. (let small : n < 2 ^ 64 = omega (arith, is.1) in no_feed (decimal n) (decimal_plain n small));
}

-- ---- lines

-- a line that is spelled one way
abbrev pub IsLine : ScriptLine → Type 0
IsLine Header = Unit {0}
IsLine (Script digest) = IsDigest digest
IsLine (File file) = IsLeft file
IsLine (Command steps) = IsSteps steps
IsLine (Stream1 mark) = IsMark mark
IsLine (Stream2 mark) = IsMark mark
IsLine (Left file) = IsLeft file
IsLine End = Unit {0}

-- the fields after a line's first word
abbrev fields_text : ScriptLine → List ℕ
fields_text Header = codes "1"
fields_text (Script digest) = digest_text digest
fields_text (File file) = file_text file
fields_text (Command steps) = decimal steps
fields_text (Stream1 mark) = codes "1" ++ 32 ∷ mark_text mark
fields_text (Stream2 mark) = codes "2" ++ 32 ∷ mark_text mark
fields_text (Left file) = file_text file
fields_text End = []

-- a line's text without its LF
abbrev text_of : ScriptLine → List ℕ
text_of Header = codes "kaem-report" ++ 32 ∷ fields_text Header
text_of (Script digest) = codes "script" ++ 32 ∷ fields_text (Script digest)
text_of (File file) = codes "file" ++ 32 ∷ fields_text (File file)
text_of (Command steps) = codes "command" ++ 32 ∷ fields_text (Command steps)
text_of (Stream1 mark) = codes "stream" ++ 32 ∷ fields_text (Stream1 mark)
text_of (Stream2 mark) = codes "stream" ++ 32 ∷ fields_text (Stream2 mark)
text_of (Left file) = codes "left" ++ 32 ∷ fields_text (Left file)
text_of End = codes "end"

-- ---- a line's text is read again

-- by its first word
kind_again : (kind fields : List ℕ) (l : ScriptLine) → Without 32 kind → line_of_kind kind fields ≡ Some l → longer_line_of (kind ++ 32 ∷ fields) ≡ Some l
unfolding longer_line_of
kind_again kind fields l plain is = rw (cut_at-joined 32 kind fields plain, is) refl

line_again : (l : ScriptLine) → IsLine l → line_of (text_of l) ≡ Some l
unfolding line_of line_of_kind header_of script_of file_of command_of stream_of left_of
line_again Header is = kind_again (codes "kaem-report") (codes "1") Header (no_blank (codes "kaem-report") refl) refl
line_again (Script d) is = kind_again (codes "script") (digest_text d) (Script d) (no_blank (codes "script") refl) (rw (digest.again d is) refl)
line_again (File f) is = kind_again (codes "file") (file_text f) (File f) (no_blank (codes "file") refl) (rw (file_line.again f is) refl)
line_again (Command n) is = kind_again (codes "command") (decimal n) (Command n) (no_blank (codes "command") refl) (rw (steps.again n is) refl)
line_again (Stream1 m) is = kind_again (codes "stream") (fields_text (Stream1 m)) (Stream1 m) (no_blank (codes "stream") refl)
    (rw (cut_at-joined 32 (codes "1") (mark_text m) (no_blank (codes "1") refl), mark.again m is) refl)
line_again (Stream2 m) is = kind_again (codes "stream") (fields_text (Stream2 m)) (Stream2 m) (no_blank (codes "stream") refl)
    (rw (cut_at-joined 32 (codes "2") (mark_text m) (no_blank (codes "2") refl), mark.again m is) refl)
line_again (Left f) is = kind_again (codes "left") (file_text f) (Left f) (no_blank (codes "left") refl) (rw (file_line.again f is) refl)
line_again End is = refl

-- ---- there is no LF in it

two_no_feed : (a b : List ℕ) → Without 10 a → Without 10 b → Without 10 (a ++ 32 ∷ b)
two_no_feed a b h k = Without-append 10 a (32 ∷ b) h (refl, k)

line_no_feed : (l : ScriptLine) → IsLine l → Without 10 (text_of l)
line_no_feed Header is = two_no_feed (codes "kaem-report") (codes "1") (no_feed (codes "kaem-report") refl) (no_feed (codes "1") refl)
line_no_feed (Script d) is = two_no_feed (codes "script") (digest_text d) (no_feed (codes "script") refl) (digest.no_feed d is)
line_no_feed (File f) is = two_no_feed (codes "file") (file_text f) (no_feed (codes "file") refl) (file_line.no_feed f is)
line_no_feed (Command n) is = two_no_feed (codes "command") (decimal n) (no_feed (codes "command") refl) (steps.no_feed n is)
line_no_feed (Stream1 m) is = two_no_feed (codes "stream") (fields_text (Stream1 m)) (no_feed (codes "stream") refl) (two_no_feed (codes "1") (mark_text m) (no_feed (codes "1") refl) (mark.no_feed m is))
line_no_feed (Stream2 m) is = two_no_feed (codes "stream") (fields_text (Stream2 m)) (no_feed (codes "stream") refl) (two_no_feed (codes "2") (mark_text m) (no_feed (codes "2") refl) (mark.no_feed m is))
line_no_feed (Left f) is = two_no_feed (codes "left") (file_text f) (no_feed (codes "left") refl) (file_line.no_feed f is)
line_no_feed End is = no_feed (codes "end") refl

-- ---- what is read is a line's text

-- the line that a text is
abbrev Is : List ℕ → ScriptLine → Type 0
Is text l = IsLine l × (text ≡ text_of l)

header_takes : (fields : List ℕ) (l : ScriptLine) → header_of fields ≡ Some l → Is (codes "kaem-report" ++ 32 ∷ fields) l
unfolding header_of
header_takes fields l e = by_word fields (codes "1") (Some Header) None l
    (λ is here. subst (Is (codes "kaem-report" ++ 32 ∷ fields)) (same_some Header l here) (tt, ap (λ (t : List ℕ). codes "kaem-report" ++ 32 ∷ t) is))
    (λ none. absurd cc) e

script_takes : (fields : List ℕ) (l : ScriptLine) → script_of fields ≡ Some l → Is (codes "script" ++ 32 ∷ fields) l
unfolding script_of
script_takes fields l e =
    let x = bind_some (digest_of fields) (λ d. Some (Script d)) l e in
    let d = digest.takes fields x.0 x.1 in
    subst (Is (codes "script" ++ 32 ∷ fields)) (same_some (Script x.0) l x.2) (d.0, ap (λ (t : List ℕ). codes "script" ++ 32 ∷ t) d.1)

file_takes : (fields : List ℕ) (l : ScriptLine) → file_of fields ≡ Some l → Is (codes "file" ++ 32 ∷ fields) l
unfolding file_of
file_takes fields l e =
    let x = bind_some (file_line_of fields) (λ d. Some (File d)) l e in
    let d = file_line.takes fields x.0 x.1 in
    subst (Is (codes "file" ++ 32 ∷ fields)) (same_some (File x.0) l x.2) (d.0, ap (λ (t : List ℕ). codes "file" ++ 32 ∷ t) d.1)

left_takes : (fields : List ℕ) (l : ScriptLine) → left_of fields ≡ Some l → Is (codes "left" ++ 32 ∷ fields) l
unfolding left_of
left_takes fields l e =
    let x = bind_some (file_line_of fields) (λ d. Some (Left d)) l e in
    let d = file_line.takes fields x.0 x.1 in
    subst (Is (codes "left" ++ 32 ∷ fields)) (same_some (Left x.0) l x.2) (d.0, ap (λ (t : List ℕ). codes "left" ++ 32 ∷ t) d.1)

command_takes : (fields : List ℕ) (l : ScriptLine) → command_of fields ≡ Some l → Is (codes "command" ++ 32 ∷ fields) l
unfolding command_of
command_takes fields l e =
    let x = bind_some (steps_of fields) (λ d. Some (Command d)) l e in
    let d = steps.takes fields x.0 x.1 in
    subst (Is (codes "command" ++ 32 ∷ fields)) (same_some (Command x.0) l x.2) (d.0, ap (λ (t : List ℕ). codes "command" ++ 32 ∷ t) d.1)

stream_takes : (fields : List ℕ) (l : ScriptLine) → stream_of fields ≡ Some l → Is (codes "stream" ++ 32 ∷ fields) l
unfolding stream_of
stream_takes fields l e =
    let starts = λ (text : List ℕ) (is : fields ≡ text). ap (λ (t : List ℕ). codes "stream" ++ 32 ∷ t) is in
    stream_line_takes (Is (codes "stream" ++ 32 ∷ fields)) Stream1 Stream2 fields l (λ m is text. (is, starts (codes "1" ++ 32 ∷ mark_text m) text)) (λ m is text. (is, starts (codes "2" ++ 32 ∷ mark_text m) text)) e

kind_takes : (kind fields : List ℕ) (l : ScriptLine) → line_of_kind kind fields ≡ Some l → Is (kind ++ 32 ∷ fields) l
unfolding line_of_kind
kind_takes kind fields l e =
    let of = λ (word : List ℕ) (is : kind ≡ word) (found : Is (word ++ 32 ∷ fields) l). subst (λ (k : List ℕ). Is (k ++ 32 ∷ fields) l) (sym is) found in
    by_word kind (codes "kaem-report") (header_of fields) _ l (λ is here. of (codes "kaem-report") is (header_takes fields l here)) (
    by_word kind (codes "script") (script_of fields) _ l (λ is here. of (codes "script") is (script_takes fields l here)) (
    by_word kind (codes "file") (file_of fields) _ l (λ is here. of (codes "file") is (file_takes fields l here)) (
    by_word kind (codes "command") (command_of fields) _ l (λ is here. of (codes "command") is (command_takes fields l here)) (
    by_word kind (codes "stream") (stream_of fields) _ l (λ is here. of (codes "stream") is (stream_takes fields l here)) (
    by_word kind (codes "left") (left_of fields) _ l (λ is here. of (codes "left") is (left_takes fields l here)) (
    (λ none. absurd cc))))))) e

line_takes : (text : List ℕ) (l : ScriptLine) → line_of text ≡ Some l → Is text l
unfolding line_of longer_line_of
line_takes text l e =
    by_word text (codes "end") (Some End) _ l (λ is here. subst (Is text) (same_some End l here) (tt, is)) (λ longer. (
    let x = bind_some (cut_at 32 text) (λ cut. line_of_kind cut.0 cut.1) l longer in
    let found = kind_takes x.0.0 x.0.1 l x.2 in
    (found.0, cut_at-takes 32 text x.0.0 x.0.1 x.1 ∙ found.1))) e

-- ---- lines with their LF

encoded : (l : ScriptLine) → line_text (script_line_words l) ≡ text_of l ++ 10 ∷ []
encoded Header = refl
encoded (Script d) = refl
encoded (File f) = simp append_assoc
encoded (Command n) = refl
encoded (Stream1 m) = simp append_assoc
encoded (Stream2 m) = simp append_assoc
encoded (Left f) = simp append_assoc
encoded End = refl

pub next_again : (l : ScriptLine) (rest : List ℕ) → IsLine l → next_line line_of (line_text (script_line_words l) ++ rest) ≡ Some (l, rest)
next_again l rest is = line_is_next line_of (script_line_words l) (text_of l) rest l (encoded l) (line_no_feed l is) (line_again l is)

pub next_takes : (bytes : List ℕ) (l : ScriptLine) (rest : List ℕ) → next_line line_of bytes ≡ Some (l, rest) → IsLine l × (bytes ≡ line_text (script_line_words l) ++ rest)
next_takes = next_is_line line_of script_line_words IsLine (λ text l e. (let found = line_takes text l e in (found.0, encoded l ∙ ap (λ (t : List ℕ). t ++ 10 ∷ []) (sym found.1))))
