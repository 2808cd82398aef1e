use Rattle.std.proofs.Common.{◌≡◌, ◌+◌, ◌-◌, ◌≤◌, vec_len, vec_capacity}
use Rattle.log_ring.specs.Writers.{new_writers}
use Rattle.log_ring.specs.inside.Steps.{IsFirstSeat}
use Rattle.log_ring.proofs.ring.Ring.new.Given as goal

-- the passes of the writers before these were made
abbrev pub invariant-loop-k : goal.invariant-loop-k
invariant-loop-k l =
    (l.ring.seg ≡ l.fn.shape)
    × (l.ring.writers ≡ l.fn.writers)
    × (l.ring.readers ≡ l.fn.readers)
    × IsFirstSeat l.ring (l.fn.writers + 1 - l.k) 0 l.seat.table_id l.seat.me
    × (l.passes.items ≡ new_writers l.ring (l.k - 1))
    × (vec_len l.passes ≡ l.k - 1)
    × (l.fn.writers ≤ vec_capacity l.passes)
