-- Going along the bytes of a token in a loop.
use Rattle.std.proofs.Common.{◌≡◌, ℕ, suc, ◌+◌, ◌<◌, ◌≤◌, List, ◌∷◌, length, get_or, drop, Option, Some, None, sym, ap, drop-cons, arith}
use Rattle.std.proofs.Math.ListN.{drop_of_length-le}
use Rattle.query_grammar.specs.declared.lex.Lex.{Lex}
use Rattle.query_grammar.specs.Lexical.{lex, lex_along}

-- bytes that were passed, and those that still are
abbrev pub passed : ℕ → ℕ × Lex → ℕ × Lex
passed n x = (n + x.0, x.1)

one_passed : (n : ℕ) (x : ℕ × Lex) → passed n (suc x.0, x.1) ≡ passed (n + 1) x
one_passed n x = let e : n + suc x.0 ≡ (n + 1) + x.0 = omega arith in ap (λ (m : ℕ). (m, x.1)) e

pub along_cons : (l : Lex) (c : ℕ) (text : List ℕ) (o : Option Lex) → lex l c ≡ o → lex_along l (c ∷ text) ≡ elim o as (λ _. ℕ × Lex) [ None ↦ (0, l) | Some next ↦ (suc (lex_along next text).0, (lex_along next text).1) ]
unfolding lex_along
along_cons l c text o e = ap (λ (p : Option Lex). elim p as (λ _. ℕ × Lex) [ None ↦ (0, l) | Some next ↦ (suc (lex_along next text).0, (lex_along next text).1) ]) e

pub goes_on : (n i : ℕ) (l next : Lex) (text : List ℕ) → i < length text → lex l (get_or text i 0) ≡ Some next → passed (n + 1) (lex_along next (drop (i + 1) text)) ≡ passed n (lex_along l (drop i text))
goes_on n i l next text lt e =
    let one : i + 1 ≡ suc i = omega arith in
    let rest : drop (i + 1) text ≡ drop (suc i) text = ap (λ (m : ℕ). drop m text) one in
    rw (rest, drop-cons text i 0, along_cons l (get_or text i 0) (drop (suc i) text) (Some next) e) (sym (one_passed n (lex_along next (drop (suc i) text))))

pub stops : (n i : ℕ) (l : Lex) (text : List ℕ) → i < length text → lex l (get_or text i 0) ≡ None → passed n (lex_along l (drop i text)) ≡ (n, l)
stops n i l text lt e = let none : n + 0 ≡ n = omega arith in rw (drop-cons text i 0, along_cons l (get_or text i 0) (drop (suc i) text) None e) (ap (λ (m : ℕ). (m, l)) none)

pub ends : (n i : ℕ) (l : Lex) (text : List ℕ) → length text ≤ i → passed n (lex_along l (drop i text)) ≡ (n, l)
unfolding lex_along
ends n i l text le = let none : n + 0 ≡ n = omega arith in rw (drop_of_length-le text le) (ap (λ (m : ℕ). (m, l)) none)
