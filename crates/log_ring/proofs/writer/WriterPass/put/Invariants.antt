use Rattle.std.proofs.Common.{◌≡◌, ◌⊎◌, ◌-◌, ◌^◌, ◌<◌, ℕ, min}
use Rattle.log_ring.specs.Writers.{with_busy}
use Rattle.log_ring.proofs.writer.WriterPass.put.Given as goal

-- the write token was found taken so often
abbrev pub invariant-loop : goal.invariant-loop
invariant-loop g l =
    (goal.iterator-loop g).can_next l.iterator' × (goal.iterator-loop g).is_finite l.iterator'
    × ((times : ℕ) × (l.busy ≡ min times (2 ^ 64 - 1)) × (l.self ≡ with_busy times l.initial.self) × ((times ≡ 0) ⊎ (1 < l.initial.self.ring.writers)))
