use Rattle.std.proofs.Common.{◌≡◌, ◌==◌, ◌∙◌, Bool, ℕ, map, sym, ap, subst, arith, false}
use Rattle.std.proofs.lemmas.Bool.{cond-false}
use Rattle.std.proofs.lemmas.Bool.Decides.{nat_tests}
use Rattle.std.specs.Prelude.{ℤ, pos, neg_ℤ}
use Rattle.std.proofs.lemmas.Int.{to_z-of_z}
use Rattle.std.specs.Int.{w64, w32, to_le_bytes}
use Rattle.hex_langs.specs.declared.items.token.Token.TheVariants.{Byte}
use Rattle.hex_langs.specs.Link.Link.{modulo_word}
use Rattle.m1_lang.specs.Words.Forms.{as_word, ranged_tokens, is_within, number_tokens, Tokens}
use Rattle.m1_lang.specs.Words.Meanings.{MeansResult}
use Rattle.m1_lang.proofs.words.meaning.number_after.Goals as goal

pub returns-else-sign-eq126 : goal.returns-else-sign-eq126
returns-else-sign-eq126 c =
    let i : (c.args.sign == 33) ≡ false = grind (arith, nat_tests) in
    let s : (c.args.sign == 64) ≡ false = grind (arith, nat_tests) in
    let u : (c.args.sign == 126) ≡ false = grind (arith, nat_tests) in
    let last : number_tokens c.args.sign c.args.n ≡ as_word c.args.n (map Byte (to_le_bytes w32 (modulo_word c.args.n))) = cond-false _ _ _ i ∙ cond-false _ _ _ s ∙ cond-false _ _ _ u in
    let same = to_z-of_z w64 c.args.n c.ranges.n in
    let fits : c.is_within-is_word.result ≡ is_within c.args.n (neg_ℤ (pos 2147483648)) (pos 4294967296) =
    c.is_within-is_word.ensures ∙ ap (λ (n : ℤ). is_within n (neg_ℤ (pos 2147483648)) (pos 4294967296)) same in
    let bytes : c.modulo_word-else-sign-eq126.result ≡ modulo_word c.args.n = c.modulo_word-else-sign-eq126.ensures ∙ ap modulo_word same in
    let is = ap (λ (b : Bool). ranged_tokens b (map Byte (to_le_bytes w32 c.modulo_word-else-sign-eq126.result))) fits
    ∙ ap (λ (n : ℕ). as_word c.args.n (map Byte (to_le_bytes w32 n))) bytes ∙ sym last in
    subst (λ (tokens : Tokens). MeansResult c.ranged-else-sign-eq126.result tokens) is c.ranged-else-sign-eq126.ensures
