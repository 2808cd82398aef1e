use Rattle.std.proofs.Common.{◌≡◌, ◌++◌, Some, List, length, refl, ap, sym, ◌∙◌, subst}
use Rattle.std.specs.Prelude.{slice_get}
use Rattle.std.specs.Result.{OnOk}
use Rattle.std.proofs.lemmas.Option.{slice_get_read}
use Rattle.vsl_record.specs.declared.record_type.Record.{Record}
use Rattle.txn_rows.specs.Transaction.{forced}
use Rattle.txn_groups.specs.declared.node.Node.{Node}
use Rattle.txn_groups.specs.inside.Nodes.{transaction_of_node}
use Rattle.txn_groups.specs.inside.Marked.{queries_of}
use Rattle.txn_groups.specs.inside.Remarked.{IsRemarked}
use Rattle.txn_groups.proofs.FoundLemmas.{same_node}
use Rattle.txn_groups.proofs.marking.mark_forced.Goals as goal

pub returns-clause-marks : goal.returns-clause-marks
returns-clause-marks c = λ x there are.
    let items = c.args.nodes.now.items in
    let g : Node = c.index-node.result.now in
    let read : slice_get items c.args.place ≡ Some g = slice_get_read items (length items) c.args.place g refl c.requires c.index-node.ensures in
    let same : x ≡ g = same_node items c.args.place x g there read in
    let is : (forced c.args.cause (transaction_of_node x)).records ≡ x.records ++ c.view-2.result =
    c.in_ok-more.ensures (transaction_of_node x) (ap (λ (n : Node). n.records) same ∙ sym c.view.ensures) ∙ ap (λ (more : List Record). x.records ++ more) (sym c.view-2.ensures) in
    subst (λ (all : List Record). OnOk c.mark_at.result (IsRemarked (queries_of c.args.askers.now) all c.args.place items c.mark_at.new.nodes.items)) (sym is) (c.mark_at.ensures.marks x x.records there are)
