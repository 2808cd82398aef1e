use Rattle.std.proofs.Common.{◌∷◌, ◌++◌, [], List, refl, ap, sym, ◌∙◌}
use Rattle.std.proofs.lemmas.Result.{on_ok_weaker}
use Rattle.txn_rows.specs.declared.group.Group.{Group}
use Rattle.txn_rows.specs.Grouping.{raw_group}
use Rattle.txn_rows.proofs.TakeLemmas.{itself_is}
use Rattle.txn_rows.proofs.pending.PendingStore.hand_alone.Goals as goal

pub returns-clause-ok : goal.returns-clause-ok
returns-clause-ok c = λ key trees.
    on_ok_weaker c.take_raw.result
    (λ added. record { kept = trees; state = refl; groups = added ∙ ap (λ (gs : List Group). c.args.out.now.items ++ gs) (sym (itself_is (raw_group c.args.vxid c.args.rec.now ∷ []))) })
    c.take_raw.ensures.ok
