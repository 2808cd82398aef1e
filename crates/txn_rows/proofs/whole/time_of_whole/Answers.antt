use Rattle.std.proofs.Common.{arith, sym, ◌∙◌}
use Rattle.std.specs.Prelude.{IfSome}
use Rattle.std.proofs.lemmas.Option.{IfSome_then}
use Rattle.txn_rows.specs.inside.Quiet.{IsRun}
use Rattle.txn_rows.specs.inside.Whole.{inside_of}
use Rattle.txn_rows.proofs.WholeLemmas.{of_none, whole_found}
use Rattle.txn_rows.proofs.whole.time_of_whole.Goals as goal

pub returns-clause-whole : goal.returns-clause-whole
returns-clause-whole g c = λ key ordered.
    let state = g.S.Store.state c.args.store.now in
    let o = c.args.options in
    let u = c.args.unit.now in
    let none = of_none c.newest.result (sym c.is_some.ensures ∙ c.if-is_some.false) (rw c.vxid.ensures at (c.newest.ensures.none key ordered.kept)) in
    let late = c.last_in_time-last.ensures.late key ordered.kept ordered.times in
    let are = rw (c.time-before.ensures, c.records.ensures.records) at c.time_inside.ensures in
    let run : IfSome c.time_inside.result (λ time. IsRun o state time (inside_of u.records)) = IfSome_then c.time_inside.result are (λ time quiet. record { last = c.last_in_time-last.result; none_late = late; are = quiet }) in
    whole_found o state u c.time_inside.result c.requires.grouping none (omega (arith, c.if-rows-options.false, c.rows.ensures key ordered.kept)) c.requires.has_ends run
