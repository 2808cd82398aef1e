-- The laws of adding texts.
use Rattle.std.proofs.Common.{◌≡◌, List, ◌++◌, Result, Ok, Err, sym, ap, ◌∙◌, append_assoc}
use Rattle.log_model.specs.Adding.{Puts}
use Rattle.log_model.proofs.PrefixLemmas.{prefix_by, prefix_past}

-- a call that did not fail added its text
pub puts_all : {A E X : Type 0} {v : A} {old new text : List X} → new ≡ old ++ text → Puts {A = A} {E = E} {X = X} (Ok v) old new text
puts_all {old = old} {new = new} {text = text} e = record { ok = e; keeps = prefix_by old new text e }

-- after a text a call added another, and both are one text
pub puts_then : {A E X : Type 0} (r : Result A E) (old mid new a b text : List X) → mid ≡ old ++ a → Puts r mid new b → text ≡ a ++ b → Puts r old new text
puts_then (Ok v) old mid new a b text first p whole = puts_all (p.ok ∙ ap (λ l. l ++ b) first ∙ append_assoc old a b ∙ ap (λ l. old ++ l) (sym whole))
puts_then (Err e) old mid new a b text first p whole = record { ok = tt; keeps = prefix_past old mid new a first p.keeps }
