use Rattle.std.proofs.Common.{ℕ, ◌<◌, ◌^◌, slice_get, ◌∙◌, subst, arith}
use Rattle.counter_segments.specs.Sums.{own_sum}
use Rattle.traffic_feed.specs.Counted.{causes, wrap_raise}
use Rattle.feed_schedule.proofs.TallyLemmas.{HasAdded, first_pass, pass_at, ours_set, all_values}
use Rattle.feed_schedule.proofs.counting.Counting.finish.Goals as goal

pub count_wraps-requires-clause-ours : goal.count_wraps-requires-clause-ours
count_wraps-requires-clause-ours c =
    let h = c.requires.tallied.1 in
    let first = first_pass c.args.self.passes.items _ _ c.requires.some h.as_many_passes c.index_mut.ensures.value in
    (pass_at _ _ _ _ _ 0 _ h first).ours

pub count_wraps-requires-clause-low : goal.count_wraps-requires-clause-low
count_wraps-requires-clause-low c =
    let h = c.requires.tallied.1 in
    let first = first_pass c.args.self.passes.items _ _ c.requires.some h.as_many_passes c.index_mut.ensures.value in
    let low : own_sum 20 c.index_mut.result.now < 2 ^ 55 = (pass_at _ _ _ _ _ 0 _ h first).low 20 (omega arith) in
    omega (arith, c.wraps.ensures, c.requires.few)

pub close-requires-clause-ours : goal.close-requires-clause-ours
close-requires-clause-ours c =
    let h = c.requires.tallied.1 in
    let first = first_pass c.args.self.passes.items _ _ c.requires.some h.as_many_passes c.index_mut.ensures.value in
    ours_set _ _ _ _ _ 0 _ h (c.count_wraps.ensures.same ∙ (pass_at _ _ _ _ _ 0 _ h first).ours)

pub returns : goal.returns
returns c = λ listings h.
    let first = first_pass c.args.self.passes.items _ _ c.requires.some h.as_many_passes c.index_mut.ensures.value in
    let e = c.count_wraps.ensures in
    let added : HasAdded (λ which. wrap_raise (slice_get causes which) c.args.self.ring.wraps) c.index_mut.result.now c.count_wraps.new.counts =
    subst (λ (n : ℕ). HasAdded (λ which. wrap_raise (slice_get causes which) n) c.index_mut.result.now c.count_wraps.new.counts) c.wraps.ensures
    (record { same = e.same; whole = e.whole; added = e.counted }) in
    c.in_ok-values.ensures ∙ all_values _ listings _ _ _ 0 c.args.self.ring.wraps _ _ c.requires.left h first added
