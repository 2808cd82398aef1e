use Rattle.std.proofs.Common.{◌++◌, ◌∷◌, [], ap, sym, ◌∙◌}
use Rattle.txn_rows.specs.declared.group.Group.{Group}
use Rattle.txn_rows.specs.declared.group.Grouping.TheVariants.{Vxid}
use Rattle.txn_rows.specs.Grouping.{Leaving, reported}
use Rattle.txn_rows.proofs.StandLemmas.{trees_higher}
use Rattle.txn_rows.proofs.TakeLemmas.{itself_is}
use Rattle.txn_rows.proofs.WholeLemmas.{whole_left}
use Rattle.txn_rows.proofs.pending.PendingStore.hand_whole.Goals as goal

pub returns-clause-ok : goal.returns-clause-ok
returns-clause-ok c = λ key trees.
    let p = c.args.self.now in
    let out = c.args.out.now.items in
    let is = whole_left p.begun c.args.vxid p.time c.args.records.now p.rows.items trees in
    record {
      kept = trees_higher p.begun p.rows.items trees;
      state = sym (ap (λ (r : Leaving). r.state) is);
      groups =
          c.in_ok-push.ensures.items ∙ ap (λ (g : Group). out ++ g ∷ []) c.in_ok-group.ensures
          ∙ ap (λ (r : Leaving). out ++ reported Vxid r.groups) (sym is) ∙ ap (λ gs. out ++ gs) (sym (itself_is _));
    }
