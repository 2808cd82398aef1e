use Rattle.std.proofs.Common.{◌≡◌, ◌/◌, ℕ, sym, ap, ◌∙◌, arith}
use Rattle.log_ring.specs.declared.rule.Progress.TheVariants.{Storing}
use Rattle.log_ring.specs.inside.Steps.{with_progress, announced}
use Rattle.log_ring.proofs.StepLemmas.{announce_allowed, same_segment}
use Rattle.log_ring.proofs.ring.Ring.announce.Goals as goal

pub store-requires : goal.store-requires
store-requires g c =
    let wide = c.self.invariant.0 in
    let seg = ap (λ z. z.seg) c.self.view_is in
    let shape : c.self.inside.shape ≡ c.args.self.now.seg = c.self.invariant.1 ∙ seg in
    let x_is = c.segment_of-counter.ensures ∙ ap (λ (z : ℕ). c.args.put.now.placed.tail / z) shape in
    let t_is = c.segment_of.ensures ∙ ap (λ (z : ℕ). c.args.put.now.tail / z) shape in
    let up = c.if-counter-segment_of.true in
    (c.requires.placed.0 ∙ sym (ap (λ z. z.table) c.self.view_is), omega arith, announce_allowed _ _ seg _ _ c.args.put.now.tail c.args.put.now.count c.args.put.now.unit.now c.args.put.now.placed _ _ c.requires.known c.requires.placed.1 x_is (omega arith) c.requires.placed.2)

pub returns-else-counter-segment_of-clause-announced : goal.returns-else-counter-segment_of-clause-announced
returns-else-counter-segment_of-clause-announced g c =
    let seg = ap (λ z. z.seg) c.self.view_is in
    let shape : c.self.inside.shape ≡ c.args.self.now.seg = c.self.invariant.1 ∙ seg in
    let x_is = c.segment_of-counter.ensures ∙ ap (λ (z : ℕ). c.args.put.now.placed.tail / z) shape in
    let t_is = c.segment_of.ensures ∙ ap (λ (z : ℕ). c.args.put.now.tail / z) shape in
    let low = c.if-counter-segment_of.false in
    let least = c.self.invariant.2.0 in
    let same = same_segment c.args.self.now.seg c.args.put.now.tail c.args.put.now.unit.now c.args.put.now.placed (omega arith) c.requires.placed.1 (omega arith) in
    let progress = c.requires.known ∙ (λ i. Storing (record (announced c.args.self.now.seg c.args.put.now.tail c.args.put.now.count c.args.put.now.unit.now) { counter = same i })) in
    (λ i. (with_progress (progress i) c.args.seat.now.me.0, c.args.seat.now.me.1))
