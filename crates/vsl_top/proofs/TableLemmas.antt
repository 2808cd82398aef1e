-- Keys that are put into an empty table, one after another.
use Rattle.std.proofs.Common.{◌≡◌, Bool, true, false, List, [], ◌∷◌, ◌++◌, refl, sym, ap, ◌∙◌, append_assoc, subst, ℕ}
use Rattle.std.specs.List.{AllByRecursion, IsDistinct}
use Rattle.std.specs.Map.{keys_of, lookup}
use Rattle.std.proofs.lemmas.List.{append-nil}
use Rattle.indexmap.specs.IndexMap.{insert_entry, insert_all}
use Rattle.vsl_top.specs.Report.{Key, is_same}
use Rattle.vsl_top.specs.Counting.{AreCounted}
use Rattle.vsl_top.specs.declared.counts.Counts.{Counts}
use Rattle.vsl_top.specs.inside.Keys.{same_equiv}

-- no key of these entries is this one
abbrev Lacks : List (Key × ℕ) → Key → Type 0
Lacks entries key = AllByRecursion (λ e. is_same key e.0 ≡ false) entries

put_last : (entries : List (Key × ℕ)) (key : Key) (n : ℕ) → Lacks entries key → insert_entry is_same entries key n ≡ entries ++ (key, n) ∷ []
put_last [] key n others = refl
put_last (e ∷ entries) key n others = rw (others.0) (ap (λ (es : List (Key × ℕ)). e ∷ es) (put_last entries key n others.1))

lacks_more : (entries : List (Key × ℕ)) (e : Key × ℕ) (key : Key) → Lacks entries key → is_same key e.0 ≡ false → Lacks (entries ++ e ∷ []) key
lacks_more [] e key others other = (other, tt)
lacks_more (x ∷ entries) e key others other = (others.0, lacks_more entries e key others.1 other)

-- each key of the second entries is none of the first
abbrev Apart : List (Key × ℕ) → List (Key × ℕ) → Type 0
Apart entries more = AllByRecursion (λ e. Lacks entries e.0) more

apart_more : (entries : List (Key × ℕ)) (e : Key × ℕ) (more : List (Key × ℕ)) → Apart entries more → AllByRecursion (λ y. is_same e.0 y ≡ false) (keys_of more) → Apart (entries ++ e ∷ []) more
apart_more entries e [] apart others = tt
apart_more entries e (x ∷ more) apart others = (lacks_more entries e x.0 apart.0 (same_equiv.symm x.0 e.0 ∙ others.0), apart_more entries e more apart.1 others.1)

put_all : (entries more : List (Key × ℕ)) → Apart entries more → IsDistinct is_same (keys_of more) → insert_all is_same entries more ≡ entries ++ more
unfolding IsDistinct
put_all entries [] apart unique = sym (append-nil entries)
put_all entries (e ∷ more) apart unique =
    ap (λ (es : List (Key × ℕ)). insert_all is_same es more) (put_last entries e.0 e.1 apart.0)
    ∙ put_all (entries ++ e ∷ []) more (apart_more entries e more apart.1 unique.0) unique.1
    ∙ append_assoc entries (e ∷ []) more

apart_none : (more : List (Key × ℕ)) → Apart [] more
apart_none [] = tt
apart_none (e ∷ more) = (tt, apart_none more)

-- all keys of a table, put into an empty one, are its keys
pub put_anew : (more : List (Key × ℕ)) → IsDistinct is_same (keys_of more) → insert_all is_same [] more ≡ more
put_anew more unique = put_all [] more (apart_none more) unique

-- the counts of the same entries are the same
pub same_counted : (keys : List Key) (old now : Counts) → now.map.entries ≡ old.map.entries → AreCounted keys old → AreCounted keys now
same_counted keys old now same so_far = record {
  each = λ key. ap (lookup (is_same key)) same ∙ so_far.each key;
  unique = subst (λ (entries : List (Key × ℕ)). IsDistinct is_same (keys_of entries)) (sym same) so_far.unique;
}
