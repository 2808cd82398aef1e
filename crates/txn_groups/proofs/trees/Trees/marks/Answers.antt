use Rattle.std.proofs.Common.{◌≡◌, inl, inr, Some, None, length, refl, sym, ◌∙◌}
use Rattle.std.specs.Prelude.{slice_get}
use Rattle.std.proofs.lemmas.Option.{slice_get_read, slice_get_past}
use Rattle.txn_groups.specs.declared.node.Node.{Node}
use Rattle.txn_groups.specs.inside.Indexed.{newest_in}
use Rattle.txn_groups.proofs.AskersLemmas.{marks_some}
use Rattle.txn_groups.proofs.IndexLemmas.{newest_none}
use Rattle.txn_groups.proofs.TreesLemmas.{told_node, newest_marks, some_weaker, none_weaker}
use Rattle.txn_groups.proofs.trees.Trees.marks.Goals as goal

pub returns-in_default-clause-none : goal.returns-in_default-clause-none
returns-in_default-clause-none c = λ queries q trees asked.
    let p = c.args.self.now.pending in
    newest_none p.nodes.items p.order.items c.args.vxid (newest_in p.index c.args.vxid) (trees.held.index c.args.vxid) (sym c.newest.ensures ∙ c.in_default.is)

pub returns-in_default-get-clause-none : goal.returns-in_default-get-clause-none
returns-in_default-get-clause-none c = λ queries q trees asked.
    let p = c.args.self.now.pending in
    let n = told_node p c.args.vxid c.in-Some.at trees.held (sym c.newest.ensures ∙ c.in-Some.is) in
    let past : slice_get p.nodes.items c.in-Some.at ≡ None = rw c.deref.ensures.value at (slice_get_past c.deref.result.now c.in-Some.at c.in_default-get.ensures.lookup.3) in
    absurd (let e : Some n.0 ≡ None = sym n.1.here ∙ past in cc)

pub returns-in-Some-get-2-clause-some : goal.returns-in-Some-get-2-clause-some
returns-in-Some-get-2-clause-some c = λ queries q trees asked.
    let p = c.args.self.now.pending in
    let x : Node = c.in-Some-get.node.now in
    let read : slice_get p.nodes.items c.in-Some.at ≡ Some x = rw c.deref.ensures.value at (slice_get_read c.deref.result.now (length c.deref.result.now) c.in-Some.at x refl c.in-Some-get.ensures.lookup.3.0 c.in-Some-get.ensures.lookup.1) in
    newest_marks queries q c.args.vxid c.in-Some.at c.args.query c.args.self.now x c.in-Some-get-2.marks.now trees (sym c.newest.ensures ∙ c.in-Some.is) read asked (inl c.in-Some-get-2.ensures.some)

pub returns-clause-some : goal.returns-clause-some
returns-clause-some c = λ queries q trees asked.
    let p = c.args.self.now.pending in
    let x : Node = c.in-Some-get.node.now in
    let read : slice_get p.nodes.items c.in-Some.at ≡ Some x = rw c.deref.ensures.value at (slice_get_read c.deref.result.now (length c.deref.result.now) c.in-Some.at x refl c.in-Some-get.ensures.lookup.3.0 c.in-Some-get.ensures.lookup.1) in
    some_weaker c.get-3.result (λ marks is. newest_marks queries q c.args.vxid c.in-Some.at c.args.query c.args.self.now x marks.now trees (sym c.newest.ensures ∙ c.in-Some.is) read asked (inr (c.in_default-get-2.ensures.none, is))) c.get-3.ensures.some

pub returns-clause-none : goal.returns-clause-none
returns-clause-none c = λ queries q trees asked.
    none_weaker c.get-3.result (λ missing. absurd (marks_some queries q c.args.query c.args.self.now.unmarked asked trees.unmarked missing)) c.get-3.ensures.none
