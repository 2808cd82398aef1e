-- Prefixes of words, and the length of an operator or a word.
use Rattle.std.proofs.Common.{◌≡◌, ℕ, suc, ◌+◌, ◌==◌, ◌&&◌, ◌<◌, ◌≤◌, Bool, true, false, nat_eq, List, [], ◌∷◌, ◌++◌, length, take, drop, get_or, refl, sym, ap, subst, ◌∙◌, append_assoc, drop-cons, arith}
use Rattle.std.specs.List.{starts_with}
use Rattle.std.proofs.Math.ListN.{drop_of_length-le}
use Rattle.std.proofs.Math.Seq.{take-suc}
use Rattle.std.proofs.lemmas.List.{append-nil}
use Rattle.query_grammar.specs.declared.mode.Mode.{Mode}
use Rattle.query_grammar.specs.Lexical.{is_prefix}
use Rattle.query_grammar.specs.Moves.{Kept}
use Rattle.query_grammar.specs.Scanner.{begins}
use Rattle.query_grammar.specs.Munches.{Munches, ends, stops, more}

pub prefix_is : (p w : List ℕ) → starts_with nat_eq w p ≡ is_prefix p w
prefix_is [] w = refl
prefix_is (c ∷ p) [] = refl
prefix_is (c ∷ p) (d ∷ w) = ap (λ (b : Bool). (c == d) && b) (prefix_is p w)

-- what goes on from the bytes so far goes on from the beginning
pub record Behind (m : Mode) (k : Kept) (text : List ℕ) (n : ℕ) : Type 0 where
  pub all : (prefix rest : List ℕ) → Munches m k (take n text) prefix rest → Munches m k [] (take n text ++ prefix) rest

pub behind_none : (m : Mode) (k : Kept) (text : List ℕ) → Behind m k text 0
behind_none m k text = record { all = λ prefix rest h. h }

pub behind_more : (m : Mode) (k : Kept) (text : List ℕ) (n : ℕ) → n < length text → begins m k (take (n + 1) text) ≡ true → Behind m k text n → Behind m k text (n + 1)
behind_more m k text n lt b h =
    let one : take (n + 1) text ≡ take n text ++ get_or text n 0 ∷ [] = (let up : n + 1 ≡ suc n = omega arith in ap (λ (i : ℕ). take i text) up ∙ take-suc text n 0 lt) in
    record {
      all = λ prefix rest g.
          let longer : Munches m k (take n text ++ get_or text n 0 ∷ []) prefix rest = subst (λ (w : List ℕ). Munches m k w prefix rest) one g in
          let whole = h.all (get_or text n 0 ∷ prefix) rest (more (get_or text n 0) (subst (λ (w : List ℕ). begins m k w ≡ true) one b) longer) in
          subst (λ (w : List ℕ). Munches m k [] w rest) (sym (append_assoc (take n text) (get_or text n 0 ∷ []) prefix) ∙ ap (λ (w : List ℕ). w ++ prefix) (sym one)) whole;
    }

pub behind_end : (m : Mode) (k : Kept) (text : List ℕ) (n : ℕ) → length text ≤ n → Behind m k text n → Munches m k [] (take n text) (drop n text)
behind_end m k text n le h =
    rw (drop_of_length-le text le) (subst (λ (w : List ℕ). Munches m k [] w []) (append-nil (take n text)) (h.all [] [] (ends (take n text))))

pub behind_stop : (m : Mode) (k : Kept) (text : List ℕ) (n : ℕ) → n < length text → begins m k (take (n + 1) text) ≡ false → Behind m k text n → Munches m k [] (take n text) (drop n text)
behind_stop m k text n lt b h =
    let one : take (n + 1) text ≡ take n text ++ get_or text n 0 ∷ [] = (let up : n + 1 ≡ suc n = omega arith in ap (λ (i : ℕ). take i text) up ∙ take-suc text n 0 lt) in
    rw (drop-cons text n 0) (subst (λ (w : List ℕ). Munches m k [] w (get_or text n 0 ∷ drop (suc n) text)) (append-nil (take n text))
    (h.all [] (get_or text n 0 ∷ drop (suc n) text) (stops (take n text) (get_or text n 0) (drop (suc n) text) (subst (λ (w : List ℕ). begins m k w ≡ false) one b))))
