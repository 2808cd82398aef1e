use Rattle.std.proofs.Common.{◌≡◌, ◌<◌, List, length, eqb, not, sym, ap, ◌∙◌, rules, arith}
use Rattle.std.proofs.lemmas.Fn.{filter_same}
use Rattle.std.proofs.lemmas.List.{get_or_default}
use Rattle.txn_rows.specs.declared.rows.Row.{Row}
use Rattle.txn_rows.proofs.LeaveLemmas.{takes_row, takes_none}
use Rattle.txn_rows.proofs.leave.take_rows.Goals as goal
use Rattle.txn_rows.proofs.leave.take_rows.Goals.{then-index-root+in_ok-push, else-index-root}

pub loop-i-preserved : goal.loop-i-preserved
loop-i-preserved c =
    let root = c.args.root in
    let i = c.loop-i.i in
    let first : List Row = c.args.rows.now.items in
    let within : i < length first = omega arith in
    elim c.if-index-root.branch [
      | then-index-root+in_ok-push w ↦
          let same : w.replace.result ≡ c.index.result.now = w.replace.ensures.value ∙ w.index_mut.ensures.value ∙ get_or_default c.loop-i.rows.items i _ _ (omega arith) ∙ sym c.index.ensures in
          rw (w.rows-is, w.tree-is, w.in_ok-push.ensures.items) (takes_row root i first _ _ w.replace.result w.replace.new.dest c.loop-i.invariant within (search rules) (ap (λ (r : Row). r.root) same ∙ w.if-index-root.true) (search rules))
      | else-index-root w ↦ rw (w.rows-is, w.tree-is) (takes_none root i first _ _ c.index.result.now c.loop-i.invariant within c.index.ensures (search rules))
    ]

pub returns-clause-others : goal.returns-clause-others
returns-clause-others c =
    filter_same _ (λ r. not (eqb r.root c.args.root)) _ (λ x b f k. search rules) _ _ c.retain.ensures.filtered ∙ c.loop-i.invariant.others
