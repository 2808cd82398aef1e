use Rattle.std.proofs.Common.{◌+◌, ◌%◌, ℕ, sym, ap, ◌∙◌, arith}
use Rattle.log_ring.proofs.ReadLemmas.{loads_number}
use Rattle.log_ring.proofs.ring.Ring.load_number.Goals as goal

pub load-requires : goal.load-requires
load-requires c =
    let wide = c.self.invariant.0 in
    let least = c.self.invariant.2.0 in
    (c.requires.reader.0 ∙ sym (ap (λ z. z.table) c.self.view_is), omega arith, loads_number _ _ _ _ _ _ _ c.requires.reader.1 (omega arith) c.requires.unchecked (ap (λ (z : ℕ). 18 + z % 8) c.requires.segment))
