use Rattle.std.proofs.Common.{◌≡◌, length, sym, ap, ◌∙◌, arith}
use Rattle.std.specs.Prelude.{slice_index}
use Rattle.counter_segments.specs.inside.Rule.{sum_of}
use Rattle.counter_segments.proofs.RuleLemmas.{adds}
use Rattle.counter_segments.proofs.pass.CounterPass.add.Goals as goal

pub fetch_add-requires : goal.fetch_add-requires
fetch_add-requires c =
    let wide = c.counters.invariant.0 in
    let counter = c.requires.counter in
    let own = c.self.invariant.2 in
    let long : length c.self.inside.seat.me.0.sums ≡ 21 = ap length own ∙ c.self.told in
    let same : sum_of c.args.which c.self.inside.seat.me.0 ≡ slice_index c.self.inside.sums c.args.which = ap (λ sums. slice_index sums c.args.which) own in
    let low = c.self.invariant.3 c.args.which in
    let fits = c.if-n-own.false in (
      ap (λ z. z.counters.table) c.self.view_is ∙ ap (λ z. z.table) c.requires.ours ∙ sym (ap (λ z. z.table) c.counters.view_is),
      omega arith,
      adds _ _ _ _ _ _ counter (omega arith) c.self.invariant.1 (omega arith),
    )
