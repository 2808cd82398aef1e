use Rattle.std.proofs.Common.{◌≡◌, ℕ, List, [], ◌∷◌, ◌++◌, Result, sym, ap, ◌∙◌, append_assoc}
use Rattle.std.proofs.lemmas.Grind.{flat_map-append}
use Rattle.log_model.specs.Adding.{Puts}
use Rattle.ncsa_format.specs.Civil.{padded}
use Rattle.ncsa_format.specs.Line.{quoted, quoted_byte}
use Rattle.ncsa_format.proofs.TextLemmas.{puts_quoted}
use Rattle.ncsa_format.proofs.civil.put_date.Goals as goal

quoted_then : (x y z a b : List ℕ) → y ≡ x ++ quoted a → z ≡ y ++ quoted b → z ≡ x ++ quoted (a ++ b)
quoted_then x y z a b first then = then ∙ ap (λ (l : List ℕ). l ++ quoted b) first ∙ append_assoc x (quoted a) (quoted b) ∙ ap (λ (l : List ℕ). x ++ l) (sym (flat_map-append quoted_byte a b))

-- three values were added with another between them
puts_three : {A E : Type 0} (r : Result A E) (x y z v w new a s b d : List ℕ) → y ≡ x ++ quoted a → z ≡ y ++ quoted s → v ≡ z ++ quoted b → w ≡ v ++ quoted s → Puts r w new (quoted d)
    → Puts r x new (quoted (a ++ s ++ b ++ s ++ d))
puts_three r x y z v w new a s b d first second third fourth last =
    puts_quoted r x w new (a ++ s ++ b ++ s) d (quoted_then x v w (a ++ s ++ b) s (quoted_then x z v (a ++ s) b (quoted_then x y z a s first second) third) fourth) last

pub returns : goal.returns
returns c =
    puts_three _ _ _ _ _ _ _ (padded 4 c.args.year) (45 ∷ []) (padded 2 c.args.month) (padded 2 c.args.day) c.in_ok-put_four.ensures.ok
    c.in_ok-put_plain.ensures.ok c.in_ok-put_two.ensures.ok c.in_ok-put_plain-2.ensures.ok c.put_two-2.ensures
