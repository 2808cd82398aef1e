use Rattle.std.proofs.Common.{◌≡◌, ℕ, ap, refl, sym, subst}
use Rattle.std.specs.Prelude.{nat_eq}
use Rattle.std.specs.HashMap.{get}
use Rattle.txn_groups.specs.inside.Indexed.{newest_in}
use Rattle.txn_groups.specs.inside.Kin.{IsNewestOf}
use Rattle.txn_groups.proofs.pending.seek.Goals as goal

-- the map is the same, and so is all that the index tells
pub returns-clause-went : goal.returns-clause-went
returns-clause-went c = λ held.
    let p = c.args.pending.now in
    let same = λ (v : ℕ). ap (λ places. get nat_eq places v) c.seek.ensures.same in
    record {
      kept = record { stand = held.stand; are = held.are; index = λ v. subst (IsNewestOf p.nodes.items v) (sym (same v)) (held.index v); free = held.free; counted = held.counted };
      told = refl;
    }

pub returns-clause-index : goal.returns-clause-index
returns-clause-index c = λ v. ap (λ places. get nat_eq places v) c.seek.ensures.same
