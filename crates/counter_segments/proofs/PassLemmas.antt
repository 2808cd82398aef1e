-- Passes that are joined one by one, from the last.
use Rattle.std.proofs.Common.{◌≡◌, ℕ, ◌+◌, List, [], ◌∷◌, ◌++◌, length, get_or, sym, ap, ◌∙◌, subst, arith, length-append}
use Rattle.std.specs.List.{AllByRecursion}
use Rattle.std.proofs.lemmas.List.Sums.{sum_by_push}
use Rattle.atomic_table.specs.Seated.{TableId}
use Rattle.atomic_table.specs.Table.{Me}
use Rattle.counter_segments.specs.declared.rule.View.{View}
use Rattle.counter_segments.specs.Sums.{CounterSet, PassSums, AreOf, own_sum, total}
use Rattle.counter_segments.specs.inside.Rule.{sum_of, both_views, IsOnePass}
use Rattle.counter_segments.specs.inside.Steps.{IsJoined}
use Rattle.counter_segments.proofs.SumLemmas.{plus_at}

-- what each element of a list is, the last one is, and so are those before it
all_before : {X : Type 0} (P : X → Type 0) (xs : List X) (x : X) → AllByRecursion P (xs ++ x ∷ []) → AllByRecursion P xs × P x
all_before P [] x all = (tt, all.0)
all_before P (y ∷ ys) x all = let rest = all_before P ys x all.1 in ((all.0, rest.0), rest.1)

-- the last of these passes is of these counters
pub last_of : (counters : CounterSet) (passes rest : List PassSums) (last : PassSums) → passes ≡ rest ++ last ∷ [] → AreOf counters passes → last.counters ≡ counters
last_of counters passes rest last split ours = (all_before (λ pass. pass.counters ≡ counters) rest last (subst (AreOf counters) split ours)).1

-- what contracts see of a pass
abbrev shown : TableId → Me ℕ View → List ℕ → PassSums
shown table me sums = record { counters = record { table = table; passes = me.0.all }; sums = sums }

-- the last pass is the first that is joined
pub joined_first : (counters : CounterSet) (whole rest : List PassSums) (last : PassSums) (table : TableId) (me : Me ℕ View) (sums : List ℕ)
    → whole ≡ rest ++ last ∷ [] → AreOf counters whole → length whole ≡ counters.passes → shown table me sums ≡ last → IsOnePass me sums
    → IsJoined counters whole rest table me
joined_first counters whole rest last table me sums split ours long is one =
    let parts = all_before (λ pass. pass.counters ≡ counters) rest last (subst (AreOf counters) split ours) in
    let of : record { table = table; passes = me.0.all } ≡ counters = ap (λ (pass : PassSums). pass.counters) is ∙ parts.1 in
    let stands = one.1 in record {
      ours = ap (λ (set : CounterSet). set.table) of;
      idle = one.0;
      all = ap (λ (set : CounterSet). set.passes) of;
      some = omega arith;
      passes = let count = ap length split in omega (arith, length-append rest (last ∷ []));
      sums = λ which.
          let own : own_sum which last ≡ sum_of which me.0 = ap (own_sum which) (sym is) ∙ ap (λ (l : List ℕ). get_or l which 0) (sym one.2) in
          let sum = ap (total which) split in omega (arith, sum_by_push (own_sum which) rest last);
      are_of = parts.0;
    }

-- one pass more is joined
pub joined_more : (counters : CounterSet) (whole before rest : List PassSums) (last : PassSums) (table : TableId) (me : Me ℕ View) (other_table : TableId) (other : Me ℕ View) (sums : List ℕ) (new_table : TableId) (after : Me ℕ View)
    → IsJoined counters whole before table me → before ≡ rest ++ last ∷ [] → shown other_table other sums ≡ last → IsOnePass other sums
    → new_table ≡ table → after ≡ (both_views me.0 other.0, me.1)
    → IsJoined counters whole rest new_table after
joined_more counters whole before rest last table me other_table other sums new_table after joined split is one same new =
    let parts = all_before (λ pass. pass.counters ≡ counters) rest last (subst (AreOf counters) split joined.are_of) in
    let stands = one.1 in
    let count = joined.passes in
    let some = joined.some in
    let passes : after.0.passes ≡ me.0.passes + other.0.passes = ap (λ (m : Me ℕ View). m.0.passes) new in record {
      ours = same ∙ joined.ours;
      idle = ap (λ (m : Me ℕ View). m.1) new ∙ joined.idle;
      all = ap (λ (m : Me ℕ View). m.0.all) new ∙ joined.all;
      some = omega arith;
      passes = let long = ap length split in omega (arith, length-append rest (last ∷ []));
      sums = λ which.
          let own : own_sum which last ≡ sum_of which other.0 = ap (own_sum which) (sym is) ∙ ap (λ (l : List ℕ). get_or l which 0) (sym one.2) in
          let both : sum_of which after.0 ≡ sum_of which me.0 + sum_of which other.0 = ap (λ (m : Me ℕ View). sum_of which m.0) new ∙ plus_at me.0.sums other.0.sums which in
          let sum = ap (total which) split in
          let so_far = joined.sums which in omega (arith, sum_by_push (own_sum which) rest last);
      are_of = parts.0;
    }
