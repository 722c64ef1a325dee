-- What a text reads as, in the words of its report's text, whatever the lines are.
use Rattle.std.proofs.Common.{◌≡◌, ℕ, zero, suc, ◌+◌, ◌<◌, ◌≤◌, List, [], ◌∷◌, length, Option, Some, None, Result, Ok, Err, refl, sym, ap, subst, ◌∙◌, arith, inl, inr, length-append}
use Rattle.std.specs.Prelude.{◌==◌, Bool, false, IfOk, IfErr, IsErrAnd}
use Rattle.std.specs.Option.{option_map_or}
use Rattle.std.proofs.lemmas.Bool.{cases_lt}
use Rattle.report.specs.Inside.Cuts.{◌>>=◌, cut_at}
use Rattle.report.specs.Inside.LineByLine.{Reader, next_line, one_more, after, ended_at, read_on, read_all, HasRead, Stops}
use Rattle.report.specs.declared.refusal.ReportRefusal.{ReportRefusal}
use Rattle.report.specs.declared.refusal.ReportRefusal.TheVariants.{Form, OutOfMemory}
use Rattle.report.specs.Inside.Loops.{HasNoLine, ReadsLines}
use Rattle.report.specs.Texts.{Texts, IsFault, IsFirstFault, IsRead, IsReading, ReadsText, Refuses, text_of_lines}
use Rattle.report.proofs.Cuts.{cut_at-takes, bind_some, same_some}
use Rattle.report.proofs.LineByLine.Faults.{Last, first_fault, one_last, whole, text_last}
use Rattle.report.proofs.LineByLine.Rules.{Rules}
use Rattle.report.proofs.LineByLine.Turns.{no_more, after_more, stops_at_line}

-- each line takes at least its LF
shorter : {L S R : Type 0} (reader : Reader L S R) (x y : S × List ℕ) → one_more reader x ≡ Some y → length y.1 < length x.1
unfolding one_more next_line
shorter {L = L} {S = S} reader x y e =
    let a = bind_some (next_line reader.line_of x.1) (λ next. reader.step x.0 next.0 >>= λ state. Some (state, next.1)) y e in
    let b = bind_some (reader.step x.0 a.0.0) (λ state. Some (state, a.0.1)) y a.2 in
    let cut = bind_some (cut_at 10 x.1) (λ cut. reader.line_of cut.0 >>= λ line. Some (line, cut.1)) a.0 a.1 in
    let line = bind_some (reader.line_of cut.0.0) (λ line. Some (line, cut.0.1)) a.0 cut.2 in
    let joined = cut_at-takes 10 x.1 cut.0.0 cut.0.1 cut.1 in
    let left : cut.0.1 ≡ y.1 = ap (λ (z : L × List ℕ). z.1) (same_some (line.0, cut.0.1) a.0 line.2) ∙ ap (λ (z : S × List ℕ). z.1) (same_some (b.0, a.0.1) y b.2) in
    omega (arith, ap length joined, length-append cut.0.0 (10 ∷ cut.0.1), ap length left)

-- where the lines of a text no longer go on, and what it reads as there
record Place {L S R : Type 0} (reader : Reader L S R) (bytes : List ℕ) (meant : Result R ℕ) : Type 0 where
  number : ℕ
  at : S × List ℕ
  last : Last reader bytes number at
  is : meant ≡ ended_at (number + 1) (reader.ended at.0) at.1

empty : (xs : List ℕ) → length xs ≤ 0 → xs ≡ []
empty [] few = refl
empty (x ∷ xs) few = absurd (omega arith)

-- by what one line more gives
walked_on : {L S R : Type 0} (reader : Reader L S R) (more n : ℕ) (bytes : List ℕ) (at : S × List ℕ) → after reader n bytes ≡ Some at
    → ((next : S × List ℕ) → after reader (n + 1) bytes ≡ Some next → length next.1 < length at.1 → Place reader bytes (read_on reader more (n + 1 + 1) next))
    → (o : Option (S × List ℕ)) → one_more reader at ≡ o
    → Place reader bytes (option_map_or (λ next. read_on reader more (n + 1 + 1) next) o (ended_at (n + 1) (reader.ended at.0) at.1))
walked_on reader more n bytes at there further None none = record { number = n; at = at; last = record { there = there; none = none }; is = refl }
walked_on {S = S} reader more n bytes at there further (Some next) some =
    further next (after_more reader n bytes ∙ ap (λ (o : Option (S × List ℕ)). o >>= one_more reader) there ∙ some) (shorter reader at next some)

walked : {L S R : Type 0} (reader : Reader L S R) (more n : ℕ) (bytes : List ℕ) (at : S × List ℕ) → after reader n bytes ≡ Some at → length at.1 ≤ more
    → Place reader bytes (read_on reader more (n + 1) at)
unfolding read_on
walked reader zero n bytes at there few =
    let none : one_more reader at ≡ None = ap (λ (rest : List ℕ). one_more reader (at.0, rest)) (empty at.1 few) ∙ no_more reader at.0 in
    record { number = n; at = at; last = record { there = there; none = none }; is = refl }
walked reader (suc more) n bytes at there few =
    walked_on reader more n bytes at there (λ next there less. walked reader more (n + 1) bytes next there (omega arith)) (one_more reader at) refl

place : {L S R : Type 0} (reader : Reader L S R) (bytes : List ℕ) → Place reader bytes (read_all reader bytes)
unfolding after
place reader bytes = walked reader (length bytes) 0 bytes (reader.start, bytes) refl (omega arith)

-- what a text reads as where its lines no longer go on
reads_at : {L S R : Type 0} (reader : Reader L S R) (bytes : List ℕ) (n : ℕ) (at : S × List ℕ) → Last reader bytes n at
    → read_all reader bytes ≡ ended_at (n + 1) (reader.ended at.0) at.1
reads_at {S = S} reader bytes n at last =
    let p = place reader bytes in
    let same = one_last reader p.number n bytes p.at at p.last last in
    p.is ∙ ap (λ (k : ℕ). ended_at (k + 1) (reader.ended p.at.0) p.at.1) same.0 ∙ ap (λ (x : S × List ℕ). ended_at (n + 1) (reader.ended x.0) x.1) same.1

-- ---- the ends

ended_ok : {R : Type 0} (k : ℕ) (o : Option R) (rest : List ℕ) (report : R) → ended_at k o rest ≡ Ok report → (o ≡ Some report) × (rest ≡ [])
ended_ok k (Some found) [] report e =
    let same : found ≡ report = cc in
    (ap (λ r. Some r) same, refl)
ended_ok k _ _ report e = absurd cc

ended_err : {R : Type 0} (k : ℕ) (o : Option R) (rest : List ℕ) (number : ℕ) → ended_at k o rest ≡ Err number → k ≡ number
ended_err k (Some found) [] number e = absurd cc
ended_err k _ _ number e = cc

ended_none : {R : Type 0} (k : ℕ) (o : Option R) (rest : List ℕ) → o ≡ None → ended_at k o rest ≡ Err k
ended_none k o rest none = rw none refl

ended_left : {R : Type 0} (k : ℕ) (o : Option R) (rest : List ℕ) → (rest ≡ [] → ⊥) → ended_at k o rest ≡ Err k
ended_left k (Some found) [] left = absurd (left refl)
ended_left k _ _ left = refl

-- ---- texts of reports, and others

pub read_its_text : {L S R : Type 0} {reader : Reader L S R} (rules : Rules reader) (bytes : List ℕ) (report : R)
    → rules.texts.Is report → bytes ≡ text_of_lines rules.texts.words (rules.texts.lines report) → rules.read bytes ≡ Ok report
read_its_text {R = R} {reader = reader} rules bytes report is text =
    rules.reads bytes ∙ reads_at reader bytes _ (rules.end report, []) (text_last rules bytes report is text)
    ∙ ap (λ (o : Option R). ended_at (length (rules.texts.lines report) + 1) o []) (rules.ended report)

text_that_reads : {L S R : Type 0} {reader : Reader L S R} (rules : Rules reader) (bytes : List ℕ) (report : R)
    → rules.read bytes ≡ Ok report → rules.texts.Is report × (bytes ≡ text_of_lines rules.texts.words (rules.texts.lines report))
text_that_reads {S = S} {reader = reader} rules bytes report e =
    let p = place reader bytes in
    let end = ended_ok (p.number + 1) (reader.ended p.at.0) p.at.1 report (sym p.is ∙ sym (rules.reads bytes) ∙ e) in
    whole rules p.number bytes p.at.0 report (p.last.there ∙ ap (λ (rest : List ℕ). Some (p.at.0, rest)) end.1) end.0

fault_that_reads : {L S R : Type 0} {reader : Reader L S R} (rules : Rules reader) (bytes : List ℕ) (number : ℕ)
    → rules.read bytes ≡ Err number → IsFirstFault rules.texts number bytes
fault_that_reads {reader = reader} rules bytes number e =
    let p = place reader bytes in
    let same = ended_err (p.number + 1) (reader.ended p.at.0) p.at.1 number (sym p.is ∙ sym (rules.reads bytes) ∙ e) in
    subst (λ (k : ℕ). IsFirstFault rules.texts k bytes) same (first_fault rules p.number bytes p.at p.last)

one_fault : {L R : Type 0} (texts : Texts L R) (bytes : List ℕ) (n m : ℕ) → IsFirstFault texts n bytes → IsFirstFault texts m bytes → n ≡ m
one_fault texts bytes n m first second = elim (cases_lt n m) [
  | inl less ↦ absurd (first.not_here (second.before n less))
  | inr past ↦ elim (cases_lt m n) [
    | inl less ↦ absurd (second.not_here (first.before m less))
    | inr other ↦ omega (arith, past, other)
  ]
]

pub is_reading : {L S R : Type 0} {reader : Reader L S R} (rules : Rules reader) (bytes : List ℕ) (reading : Result R ℕ)
    → rules.read bytes ≡ reading → IsReading rules.texts bytes reading
is_reading rules bytes (Ok report) e = text_that_reads rules bytes report e
is_reading rules bytes (Err number) e =
    (fault_that_reads rules bytes number e, λ report is text. let both : Ok report ≡ Err number = sym (read_its_text rules bytes report is text) ∙ e in absurd cc)

pub the_reading : {L S R : Type 0} {reader : Reader L S R} (rules : Rules reader) (bytes : List ℕ) (reading : Result R ℕ)
    → IsReading rules.texts bytes reading → rules.read bytes ≡ reading
the_reading rules bytes (Ok report) is = read_its_text rules bytes report is.0 is.1
the_reading {R = R} rules bytes (Err number) is = by (rules.read bytes) refl where
  by : (found : Result R ℕ) → rules.read bytes ≡ found → rules.read bytes ≡ Err number
  by (Ok report) e = let whole = text_that_reads rules bytes report e in absurd (is.1 report whole.0 whole.1)
  by (Err other) e = e ∙ ap Err (one_fault rules.texts bytes other number (fault_that_reads rules bytes other e) is.0)

-- two reports of one text are one
pub one_of_text : {L S R : Type 0} {reader : Reader L S R} (rules : Rules reader) (first second : R) → rules.texts.Is first → rules.texts.Is second
    → text_of_lines rules.texts.words (rules.texts.lines first) ≡ text_of_lines rules.texts.words (rules.texts.lines second) → first ≡ second
one_of_text {R = R} rules first second is-first is-second same =
    let text = text_of_lines rules.texts.words (rules.texts.lines first) in
    let both : Ok first ≡ Ok second = sym (read_its_text rules text first is-first refl) ∙ read_its_text rules text second is-second same in
    cc

-- ---- what the code's loop gives

pub reads_ended : {L S R : Type 0} {reader : Reader L S R} (rules : Rules reader) (bytes : List ℕ) (n : ℕ) (report : R)
    → HasRead reader bytes n (rules.end report) [] → rules.read bytes ≡ Ok report
reads_ended {R = R} {reader = reader} rules bytes n report has_read =
    rules.reads bytes ∙ reads_at reader bytes n (rules.end report, []) (record { there = has_read.there; none = no_more reader (rules.end report) })
    ∙ ap (λ (o : Option R). ended_at (n + 1) o []) (rules.ended report)

pub reads_unended : {L S R : Type 0} {reader : Reader L S R} (rules : Rules reader) (bytes : List ℕ) (n number : ℕ) (state : S) → number ≡ n + 1
    → HasRead reader bytes n state [] → ((report : R) → state ≡ rules.end report → ⊥) → rules.read bytes ≡ Err number
reads_unended {reader = reader} rules bytes n number state is has_read other =
    rules.reads bytes ∙ reads_at reader bytes n (state, []) (record { there = has_read.there; none = no_more reader state })
    ∙ ended_none (n + 1) (reader.ended state) [] (rules.unended state other) ∙ ap Err (sym is)

pub reads_no_further : {L S R : Type 0} {reader : Reader L S R} (rules : Rules reader) (bytes : List ℕ) (number : ℕ) → Stops reader bytes number → rules.read bytes ≡ Err number
reads_no_further {reader = reader} rules bytes number stops =
    rules.reads bytes ∙ reads_at reader bytes stops.before (stops.state, stops.rest) (record { there = stops.there; none = stops.none })
    ∙ ended_left (stops.before + 1) (reader.ended stops.state) stops.rest stops.left ∙ ap Err (sym stops.is)

refused_line : {L S R : Type 0} {reader : Reader L S R} (rules : Rules reader) (bytes : List ℕ) (n : ℕ) (state : S) (rest : List ℕ) (empty : Bool) (refusal : ReportRefusal)
    → empty ≡ (length rest == 0) → empty ≡ false → HasRead reader bytes n state rest → HasNoLine reader.line_of rest (n + 1) refusal → Refuses (rules.read bytes) refusal
refused_line {reader = reader} rules bytes n state rest empty (Form number) is not_empty has_read none =
    reads_no_further rules bytes number (rw none.0 (stops_at_line reader bytes n state rest empty is not_empty has_read (sym none.1)))
refused_line rules bytes n state rest empty OutOfMemory is not_empty has_read none = tt

-- where there is no line, what is handed on
pub hands_line : {L S R : Type 0} {reader : Reader L S R} (rules : Rules reader) (bytes : List ℕ) (n : ℕ) (state : S) (rest : List ℕ) (empty : Bool) (refusal : ReportRefusal)
    → empty ≡ (length rest == 0) → empty ≡ false → HasRead reader bytes n state rest → HasNoLine reader.line_of rest (n + 1) refusal
    → (result : Result (S × ℕ) ReportRefusal) → IsErrAnd result (λ handed. handed ≡ refusal) → ReadsLines reader (rules.read bytes) bytes result
hands_line rules bytes n state rest empty refusal is not_empty has_read none (Ok found) handed = absurd handed
hands_line rules bytes n state rest empty refusal is not_empty has_read none (Err error) handed =
    rw handed (refused_line rules bytes n state rest empty refusal is not_empty has_read none)

-- ---- what a call that reads answers

pub reads_found : {L S R : Type 0} {reader : Reader L S R} (rules : Rules reader) (bytes : List ℕ) (result : Result R ReportRefusal)
    → ReadsText (rules.read bytes) result → IfOk result (λ report. rules.texts.Is report × (bytes ≡ text_of_lines rules.texts.words (rules.texts.lines report)))
reads_found rules bytes (Ok report) reads = text_that_reads rules bytes report reads
reads_found rules bytes (Err e) reads = tt

pub reads_only : {L S R : Type 0} {reader : Reader L S R} (rules : Rules reader) (bytes : List ℕ) (result : Result R ReportRefusal) (report : R)
    → rules.texts.Is report → bytes ≡ text_of_lines rules.texts.words (rules.texts.lines report) → ReadsText (rules.read bytes) result → IsRead report result
reads_only rules bytes (Ok found) report is text reads = let both : Ok found ≡ Ok report = sym reads ∙ read_its_text rules bytes report is text in cc
reads_only rules bytes (Err OutOfMemory) report is text reads = tt
reads_only rules bytes (Err (Form number)) report is text reads = let both : Err number ≡ Ok report = sym reads ∙ read_its_text rules bytes report is text in absurd cc

pub reads_refused : {L S R : Type 0} {reader : Reader L S R} (rules : Rules reader) (bytes : List ℕ) (result : Result R ReportRefusal)
    → ReadsText (rules.read bytes) result → IfErr result (IsFault rules.texts bytes)
reads_refused rules bytes (Ok report) reads = tt
reads_refused rules bytes (Err OutOfMemory) reads = tt
reads_refused rules bytes (Err (Form number)) reads = fault_that_reads rules bytes number reads
