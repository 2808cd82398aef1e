use Rattle.std.proofs.Common.{◌≡◌, ◌++◌, List, true, set, refl, ap, sym, ◌∙◌, subst}
use Rattle.std.specs.Result.{OnOk}
use Rattle.std.proofs.lemmas.Result.{on_ok_weaker}
use Rattle.std.proofs.lemmas.List.{get_or-set_same}
use Rattle.txn_rows.specs.declared.rows.Row.{Row}
use Rattle.txn_rows.specs.declared.group.Group.{Group}
use Rattle.txn_rows.specs.inside.Rows.{left_rows, LeftRows}
use Rattle.txn_rows.proofs.PendingLemmas.{ended_step}
use Rattle.txn_rows.proofs.TakeLemmas.{itself_is}
use Rattle.txn_rows.proofs.pending.PendingStore.end_row.Goals as goal

pub returns-clause-ok : goal.returns-clause-ok
returns-clause-ok c = λ key trees.
    let p = c.args.self.now in
    let rows : List Row = p.rows.items in
    let row : Row = c.index_mut.result.now in
    let new : Row = record row { ended = true } in
    let read : c.index.result.now ≡ new = c.index.ensures ∙ get_or-set_same rows c.args.at new c.index.result.now c.requires.within in
    let left = subst (λ (r : Row). OnOk c.leave.result (LeftRows c.args.grouping (left_rows r.root (set rows c.args.at new)) c.leave.new.rows.items c.args.out.now.items c.leave.new.out.items)) read c.leave.ensures.ok in
    on_ok_weaker c.leave.result
    (λ left. let step = ended_step c.args.grouping p.begun c.args.vxid c.args.at p.time rows row new c.leave.new.rows.items c.args.out.now.items c.leave.new.out.items trees c.requires c.index_mut.ensures.value refl left in
    record { kept = step.trees; state = step.state; groups = step.groups ∙ ap (λ (gs : List Group). c.args.out.now.items ++ gs) (sym (itself_is _)) })
    left
