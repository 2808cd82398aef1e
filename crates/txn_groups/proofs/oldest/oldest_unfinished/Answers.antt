use Rattle.std.proofs.Common.{◌≡◌, Some, None, List, take, drop, ap, sym, ◌∙◌}
use Rattle.std.specs.List.{find}
use Rattle.txn_groups.specs.declared.node.Node.{Node}
use Rattle.txn_groups.specs.inside.Order.{is_open_at}
use Rattle.txn_groups.specs.inside.Oldest.{EntriesBelow}
use Rattle.txn_groups.proofs.OldestLemmas.{oldest_found, oldest_none}
use Rattle.txn_groups.proofs.oldest.oldest_unfinished.Goals as goal

pub returns-in-Some-clause-some : goal.returns-in-Some-clause-some
returns-in-Some-clause-some c = λ held none.
    let p = c.args.pending.now in
    let n = c.count_below-below.result in
    let below : EntriesBelow c.args.low (take n p.order.items) = (rw c.deref.ensures.value at c.count_below-below.ensures.below) p.begun held.are.stand.rising in
    let found : find (is_open_at p.nodes.items) (drop n p.order.items) ≡ Some c.in-Some.entry =
    ap (λ (nodes : List Node). find (is_open_at nodes) (drop n p.order.items)) (sym c.deref-3.ensures.value)
    ∙ ap (find (is_open_at c.deref-3.result.now)) (sym (c.split_at.ensures.back ∙ ap (drop n) c.deref-2.ensures.value)) ∙ sym c.first_open.ensures.first ∙ c.in-Some.is in
    oldest_found p c.args.low n c.in-Some.entry none below found

pub returns-in-None-clause-none : goal.returns-in-None-clause-none
returns-in-None-clause-none c = λ held none.
    let p = c.args.pending.now in
    let n = c.count_below-below.result in
    let below : EntriesBelow c.args.low (take n p.order.items) = (rw c.deref.ensures.value at c.count_below-below.ensures.below) p.begun held.are.stand.rising in
    let found : find (is_open_at p.nodes.items) (drop n p.order.items) ≡ None =
    ap (λ (nodes : List Node). find (is_open_at nodes) (drop n p.order.items)) (sym c.deref-3.ensures.value)
    ∙ ap (find (is_open_at c.deref-3.result.now)) (sym (c.split_at.ensures.back ∙ ap (drop n) c.deref-2.ensures.value)) ∙ sym c.first_open.ensures.first ∙ c.in-None.is in
    oldest_none p c.args.low n none below found
