use Rattle.std.proofs.Common.{◌≡◌, ◌-◌, ◌≤◌, vec_len, vec_capacity}
use Rattle.log_ring.specs.Readers.{new_passes}
use Rattle.log_ring.specs.inside.Steps.{IsFirstSeat}
use Rattle.log_ring.proofs.ring.Ring.split_readers.Given as goal

-- the passes of the readers before these were made
abbrev pub invariant-loop-k : goal.invariant-loop-k
invariant-loop-k l =
    IsFirstSeat l.self l.self.writers (l.fn.readers - l.k) l.seat.table_id l.seat.me
    × (l.passes.items ≡ new_passes l.self l.k)
    × (vec_len l.passes ≡ l.k)
    × (l.fn.readers ≤ vec_capacity l.passes)
