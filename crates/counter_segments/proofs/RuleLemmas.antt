-- Each step of a seat keeps the rule of the shared words.
use Rattle.std.proofs.Common.{◌≡◌, ◌≢◌, ℕ, zero, suc, ◌+◌, ◌*◌, ◌%◌, ◌^◌, ◌<◌, ◌≤◌, List, [], ◌∷◌, length, get_or, set, replicate, sym, refl, ap, ◌∙◌, subst, ⊎_elim, arith, mod-eq_of_lt, get_or-set_same, get_or-set_other, length-set}
use Rattle.std.specs.Prelude.{sum_by}
use Rattle.std.proofs.lemmas.List.Sums.{sum_by-cons, sum_by_push}
use mathlib.Core.Logic.{dite}
use mathlib.Core.Option.{some, none, some-injective, some-ne-none}
use native.Mathlib.Decide.{ℕ_discrete}
use lib.ListN.{get_elem?}
use lib.Seq.{set-get_or}
use Rattle.atomic_table.specs.Table.{State, Me, step, keeps, stepped, Allows, Splits, Joins, opening}
use Rattle.atomic_table.proofs.Lists.{at_set, at_snoc, set_else, set_again}
use Rattle.counter_segments.specs.declared.rule.View.{View}
use Rattle.counter_segments.specs.Sums.{counter_count, most_passes, ceiling}
use Rattle.counter_segments.specs.inside.Rule.{passes_of, sum_of, IsShare, IsSummed, first_view, with_more, without_one, one_of, both_views, no_view, Adds, Looks}
use Rattle.log_model.proofs.SumLemmas.{sum_set, part_le_sum}
use Rattle.counter_segments.proofs.SumLemmas.{plus_at, zeros_at}

abbrev M : Type 0
M = Me ℕ View

abbrev AreShares : ℕ → List View → Type 0
AreShares n views = (id : ℕ) (v : View) → get_elem? views id ≡ some v → IsShare n v

-- where one seat says something else that is so, what all seats say is so
shares_set : (n : ℕ) (views : List View) (id : ℕ) (w : View) → IsShare n w → AreShares n views → AreShares n (set views id w)
shares_set n views id w mine all j v at = ⊎_elim
    (λ (here : (j ≡ id) × (w ≡ v)). subst (IsShare n) here.1 mine)
    (λ (else : (j ≢ id) × (get_elem? views j ≡ some v)). all j v else.1)
    (at_set views id j w v at)

-- together the seats added no more than their passes may
sums_low : (n which : ℕ) (views : List View) → AreShares n views → sum_by (sum_of which) views ≤ ceiling * sum_by passes_of views
sums_low n which [] all = omega arith
sums_low n which (v ∷ views) all =
    let mine = (all 0 v refl).low which in
    let rest = sums_low n which views (λ id w at. all (suc id) w at) in
    omega (arith, sum_by-cons (sum_of which) v views, sum_by-cons passes_of v views)

-- the seats but one added no more than their passes may
others_low : (n which : ℕ) (views : List View) (id : ℕ) (v : View) → get_elem? views id ≡ some v → AreShares n views
    → sum_by (sum_of which) views + ceiling * v.passes ≤ sum_of which v + ceiling * sum_by passes_of views
others_low n which [] id v at all = absurd (some-ne-none v (sym at))
others_low n which (x ∷ views) zero v at all =
    let same_sum : sum_of which x ≡ sum_of which v = ap (sum_of which) (some-injective x v at) in
    let same_passes : x.passes ≡ v.passes = ap passes_of (some-injective x v at) in
    let rest = sums_low n which views (λ id w at. all (suc id) w at) in
    omega (arith, sum_by-cons (sum_of which) x views, sum_by-cons passes_of x views)
others_low n which (x ∷ views) (suc id) v at all =
    let mine = (all 0 x refl).low which in
    let rest = others_low n which views id v at (λ id w at. all (suc id) w at) in
    omega (arith, sum_by-cons (sum_of which) x views, sum_by-cons passes_of x views)

-- zeros are the sums of any passes
fresh_share : (n : ℕ) (v : View) → (0 < v.passes → v.all ≡ n) → v.sums ≡ replicate counter_count 0 → IsShare n v
fresh_share n v all zeros = record {
  all = all;
  low = λ which. let none = ap (λ (l : List ℕ). get_or l which 0) zeros ∙ zeros_at counter_count which in omega arith;
}

-- the first seat is the only one
first_shares : (n : ℕ) → AreShares n (first_view n ∷ [])
first_shares n zero v at = subst (IsShare n) (some-injective (first_view n) v at) (fresh_share n (first_view n) (λ _. refl) refl)
first_shares n (suc id) v at = absurd (some-ne-none v (sym at))

-- the words are zeros, and one seat has all passes
pub opens : (n : ℕ) → 0 < n → n ≤ most_passes → IsSummed n (opening (replicate counter_count 0) [] (first_view n))
opens n passes few = record {
  few = few;
  wide = refl;
  words = λ which below. let zeros = zeros_at counter_count which in omega arith;
  whole = omega arith;
  shares = first_shares n;
}

module _ (n : ℕ) where
  -- a pass adds to a counter: no word wraps, since 17 passes add at most 17 times 2^56
  pub adds : (slots id i k : ℕ) (me : M) → i < counter_count → i < length me.0.sums → me.0.passes ≡ 1 → sum_of i me.0 + k ≤ ceiling
      → Allows (IsSummed n) slots id me i (λ x. (x + k) % 2 ^ 64) (Adds (step slots i k 0 none) me)
  adds slots id i k me counter inside one fits s r _ at small =
      let w : View = with_more i k me.0 in
      let here : sum_of i w ≡ sum_of i me.0 + k = get_or-set_same me.0.sums i (get_or me.0.sums i 0 + k) 0 inside in
      let else : (m : ℕ) → m ≢ i → sum_of m w ≡ sum_of m me.0 = λ m other. get_or-set_other me.0.sums i m (get_or me.0.sums i 0 + k) 0 other in
      let share = r.shares id me.0 at in
      let shares : AreShares n (set s.views id w) = shares_set n s.views id w record {
        all = share.all;
        low = λ m. dite (ℕ_discrete m i)
            (λ same. let c : sum_of m w ≡ sum_of i me.0 + k = ap (λ (z : ℕ). sum_of z w) same ∙ here in omega arith)
            (λ other. let c = else m other in let low = share.low m in omega arith);
      } r.shares in
      let whole : sum_by passes_of (set s.views id w) ≡ n = (let t = sum_set passes_of s.views id me.0 w at in let p = r.whole in omega arith) in
      let word = r.words i counter in
      let up : sum_by (sum_of i) (set s.views id w) ≡ get_or s.words i 0 + k = (let t = sum_set (sum_of i) s.views id me.0 w at in omega arith) in
      let low = sums_low n i (set s.views id w) shares in
      let few = r.few in
      let plain : (get_or s.words i 0 + k) % 2 ^ 64 ≡ get_or s.words i 0 + k = mod-eq_of_lt (omega arith) in
      let wide = r.wide in (
        w,
        keeps,
        tt,
        record {
          few = few;
          wide = length-set s.words i ((get_or s.words i 0 + k) % 2 ^ 64) ∙ wide;
          words = λ m below. dite (ℕ_discrete m i)
              (λ same. subst (λ (z : ℕ). get_or (set s.words i ((get_or s.words i 0 + k) % 2 ^ 64)) z 0 ≡ sum_by (sum_of z) (set s.views id w)) (sym same)
              (get_or-set_same s.words i ((get_or s.words i 0 + k) % 2 ^ 64) 0 (omega arith) ∙ (plain ∙ sym up)))
              (λ other. get_or-set_other s.words i m ((get_or s.words i 0 + k) % 2 ^ 64) 0 other ∙ (r.words m below ∙ (let t = sum_set (sum_of m) s.views id me.0 w at in let c = else m other in omega arith)));
          whole = whole;
          shares = shares;
        },
        refl,
      )

  -- a step that changes nothing
  still : (s : State ℕ View) (r : IsSummed n s) (i id : ℕ) (c : List (ℕ × ℕ)) (v : View) → get_elem? s.views id ≡ some v → IsSummed n (stepped s i (get_or s.words i 0) id c v keeps)
  still s r i id c v at = subst (λ (z : List ℕ × List View). IsSummed n record { words = z.0; homes = s.homes; views = z.1 }) (λ q. (sym (set-get_or s.words i 0) q, sym (set_again s.views id v at) q)) r

  -- a seat looks at a counter
  pub looks : (slots id i : ℕ) (me : M) → i < counter_count → 0 < me.0.passes → Allows (IsSummed n) slots id me i (λ x. x) (Looks (step slots i 0 0 none) me)
  looks slots id i me counter stands s r _ at small =
      let word = r.words i counter in
      let mine = part_le_sum (sum_of i) s.views id me.0 at in
      let others = others_low n i s.views id me.0 at r.shares in
      let all = (r.shares id me.0 at).all stands in
      let whole = r.whole in
      let part = part_le_sum passes_of s.views id me.0 at in
      (me.0, keeps, tt, still s r i id me.1 me.0 at, (refl, omega arith, omega arith))

  -- a seat that added nothing gives one of its passes to a new seat
  pub splits : (id : ℕ) (v : View) → 1 < v.passes → v.sums ≡ replicate counter_count 0 → Splits (IsSummed n) id v (without_one v) (one_of v)
  splits id v many zeros s r at =
      let share = r.shares id v at in
      let views : List View = set s.views id (without_one v) in
      let none : (m : ℕ) → sum_of m v ≡ 0 = λ m. ap (λ (l : List ℕ). get_or l m 0) zeros ∙ zeros_at counter_count m in record {
        few = r.few;
        wide = r.wide;
        words = λ m below.
            let t = sum_set (sum_of m) s.views id v (without_one v) at in
            let p = sum_by_push (sum_of m) views (one_of v) in
            let w = r.words m below in
            let z = zeros_at counter_count m in omega arith;
        whole =
            let t = sum_set passes_of s.views id v (without_one v) at in
            let p = sum_by_push passes_of views (one_of v) in
            let w = r.whole in omega arith;
        shares = λ j u e. ⊎_elim
            (λ there. shares_set n s.views id (without_one v) (fresh_share n (without_one v) (λ _. share.all (omega arith)) zeros) r.shares j u there)
            (λ (new : one_of v ≡ u). subst (IsShare n) new (fresh_share n (one_of v) (λ _. share.all (omega arith)) refl))
            (at_snoc views (one_of v) u j e);
      }

  -- a seat takes in what another stands for
  pub joins : (id : ℕ) (v : View) (other : ℕ) (x : View) → 0 < v.passes → Joins (IsSummed n) id v other x (both_views v x) no_view
  joins id v other x stands s r at apart there =
      let both : View = both_views v x in
      let views : List View = set s.views id both in
      let there' : get_elem? s.views other ≡ some x = sym (set_else s.views id other both apart) ∙ there in
      let mine = r.shares id v at in
      let theirs = r.shares other x there' in record {
        few = r.few;
        wide = r.wide;
        words = λ m below.
            let t = sum_set (sum_of m) s.views id v both at in
            let t2 = sum_set (sum_of m) views other x no_view there in
            let w = r.words m below in
            let z = plus_at v.sums x.sums m in omega arith;
        whole =
            let t = sum_set passes_of s.views id v both at in
            let t2 = sum_set passes_of views other x no_view there in
            let w = r.whole in omega arith;
        shares = shares_set n views other no_view record { all = λ p. absurd (omega arith); low = λ m. omega arith }
            (shares_set n s.views id both record {
              all = λ _. mine.all stands;
              low = λ m. let z = plus_at v.sums x.sums m in let a = mine.low m in let b = theirs.low m in omega arith;
            } r.shares);
      }
