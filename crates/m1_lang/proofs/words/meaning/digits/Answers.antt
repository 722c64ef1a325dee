use Rattle.std.proofs.Common.{◌≤◌, ap, sym, arith, length, List, ℕ}
use Rattle.std.proofs.lemmas.List.{drop_all}
use Rattle.m1_lang.specs.Words.Digits.{digit_bytes}
use Rattle.m1_lang.specs.Words.Forms.{byte_tokens}
use Rattle.m1_lang.proofs.WordsLemmas.Pairs.{tokens-none, tokens-some}
use Rattle.m1_lang.proofs.words.meaning.digits.Goals as goal
use Rattle.m1_lang.proofs.words.meaning.digits.Goals.{then-text-eq0-via-then-text-eq0, then-text-eq0-via-else-text-eq0+then-not-are_pairs}

pub returns-then-text-eq0 : goal.returns-then-text-eq0
returns-then-text-eq0 c =
    elim c.then-text-eq0.branch [
      | then-text-eq0-via-then-text-eq0 w ↦
          let nothing : length c.args.text.now ≤ 0 = omega arith in
          ap (λ (l : List ℕ). byte_tokens (digit_bytes l)) (drop_all 0 c.args.text.now nothing)
      | then-text-eq0-via-else-text-eq0+then-not-are_pairs w ↦ tokens-none c.args.text.now (sym w.if-not-are_pairs.ensures)
    ]

pub returns : goal.returns
returns c = tokens-some c.args.text.now (omega arith) (sym c.if-not-are_pairs.ensures)
