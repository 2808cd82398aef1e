use Rattle.std.proofs.Common.{not, refl, ap, sym, ◌∙◌}
use Rattle.txn_groups.specs.declared.pending.Pending.{Pending}
use Rattle.txn_groups.proofs.RaiseLemmas.{none_told, known_raised, first_raised}
use Rattle.txn_groups.proofs.raise.raise.Goals as goal

pub returns-then-is_none-clause-went : goal.returns-then-is_none-clause-went
returns-then-is_none-clause-went c = λ held times. none_told c.args.told c.args.pending.now (c.is_none.ensures ∙ ap not c.if-is_none.true) held times

pub returns-then-is_some-clause-went : goal.returns-then-is_some-clause-went
returns-then-is_some-clause-went c = λ held times. known_raised c.args.told c.raised-now.result c.args.pending.now c.raised-now.ensures (sym c.is_some.ensures ∙ c.if-is_some.true) held times

pub returns-clause-went : goal.returns-clause-went
returns-clause-went c = λ held times.
    let p : Pending = c.args.pending.now in
    let m : Pending = record p { nodes = c.time_nodes.new.nodes; time = c.raised-now.result } in
    first_raised c.args.told c.raised-now.result p m c.raised-now.ensures c.time_nodes.ensures refl refl refl refl refl refl held
