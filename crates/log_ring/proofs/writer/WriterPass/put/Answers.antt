use Rattle.std.proofs.Common.{◌≡◌, ℕ, ◌+◌, ◌<◌, ap, ◌∙◌, subst, arith, inr}
use Rattle.ring_layout.specs.declared.steps.PutFault.TheVariants.{Busy}
use Rattle.log_ring.specs.Writers.{WriterState, IsRefused}
use Rattle.log_ring.proofs.writer.WriterPass.put.Goals as goal

pub loop-preserved : goal.loop-preserved
loop-preserved g c =
    let before = c.loop.invariant.2 in
    let busy = before.1 in
    let more = c.saturating_add-busy.ensures in
    let refused : IsRefused c.args.unit.now c.loop.self Busy c.try_put.new.self = subst (λ f. IsRefused c.args.unit.now c.loop.self f c.try_put.new.self) c.in-Err-Busy.field-0-is c.in-Err-Busy.ensures in
    let old = c.args.self.now in
    let sum : old.busy + before.0 + 1 ≡ old.busy + (before.0 + 1) = omega arith in (
      tt,
      tt,
      (before.0 + 1, omega arith, refused.1 ∙ (ap (λ (w : WriterState). record w { busy = w.busy + 1 }) before.2 ∙ ap (λ (n : ℕ). record old { busy = n }) sum), inr (subst (λ (w : WriterState). 1 < w.ring.writers) before.2 refused.2)),
    )
