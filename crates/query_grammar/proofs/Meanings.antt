-- What an operand's bytes stand for is what its text stands for.
use Rattle.std.proofs.Common.{◌≡◌, ℕ, ◌-◌, true, false, List, [], ◌∷◌, ◌++◌, length, take, refl, ap, ◌∙◌, arith}
use Rattle.std.specs.Prelude.{nat_lt}
use Rattle.std.specs.List.{list_all}
use Rattle.std.proofs.Math.Seq.{take-append_seam}
use Rattle.std.proofs.lemmas.List.{length-append}
use Rattle.std.proofs.lemmas.Bool.{and_parts, cond-true, cond-false}
use Rattle.std.proofs.lemmas.Bool.Decides.{nat_tests}
use Rattle.query_grammar.specs.declared.lex.Quote.{Quote}
use Rattle.query_grammar.specs.declared.lex.Quote.TheVariants.{Double, Single}
use Rattle.query_grammar.specs.Bytes.{is_word_byte, is_quote, quote_byte}
use Rattle.query_grammar.specs.Criterion.{Text, Plain, Quoted, text_of, is_text, unescaped, meant_by, operand_meaning}

-- a byte of words is no quote
word_no_quote : (c : ℕ) → is_word_byte c ≡ true → is_quote c ≡ false
word_no_quote c e = grind (arith, nat_tests)

-- what stands before the last byte
before_last : (w : List ℕ) (c : ℕ) → take (length (w ++ c ∷ []) - 1) (w ++ c ∷ []) ≡ w
before_last w c =
    let one : length (w ++ c ∷ []) - 1 ≡ length w = (let e = length-append w (c ∷ []) in omega (arith, e)) in
    ap (λ (n : ℕ). take n (w ++ c ∷ [])) one ∙ take-append_seam w (c ∷ [])

quote_is : (q : Quote) → is_quote (quote_byte q) ≡ true
quote_is Double = refl
quote_is Single = refl

pub meaning_is : (t : Text) → is_text t ≡ true → operand_meaning (text_of t) ≡ meant_by t
meaning_is (Plain []) e = refl
meaning_is (Plain (c ∷ w)) e =
    let all = and_parts (nat_lt 0 (length (c ∷ w))) (list_all is_word_byte (c ∷ w)) e in
    let passes = and_parts (is_word_byte c) (list_all is_word_byte w) all.1 in
    cond-false (is_quote c) _ _ (word_no_quote c passes.0)
meaning_is (Quoted q w) e =
    cond-true (is_quote (quote_byte q)) _ _ (quote_is q) ∙ ap (unescaped false) (before_last w (quote_byte q))
