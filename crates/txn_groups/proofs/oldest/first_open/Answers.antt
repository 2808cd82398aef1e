use Rattle.std.proofs.Common.{◌≡◌, false, List, sym, ◌∙◌, subst, arith}
use Rattle.std.specs.List.{list_any}
use Rattle.std.proofs.lemmas.List.{take_all}
use Rattle.txn_groups.specs.declared.order.Entry.{Entry}
use Rattle.txn_groups.specs.inside.Order.{is_open_at}
use Rattle.txn_groups.proofs.SetLemmas.{first_found, none_found}
use Rattle.txn_groups.proofs.OldestLemmas.{open_within}
use Rattle.txn_groups.proofs.oldest.first_open.Goals as goal

pub returns-then-is_open-clause-first : goal.returns-then-is_open-clause-first
returns-then-is_open-clause-first c =
    sym (first_found (is_open_at c.args.nodes.now) c.args.order.now c.loop-i.i _ c.loop-i-test.true c.loop-i.invariant (sym c.is_open.ensures ∙ c.if-is_open.true))

pub returns-then-is_open-clause-within : goal.returns-then-is_open-clause-within
returns-then-is_open-clause-within c = open_within c.args.nodes.now _ (sym c.is_open.ensures ∙ c.if-is_open.true)

pub returns-clause-first : goal.returns-clause-first
returns-clause-first c =
    let all = take_all c.loop-i.i c.args.order.now (omega (arith, c.loop-i-test.false)) in
    sym (none_found (is_open_at c.args.nodes.now) c.args.order.now (subst (λ (xs : List Entry). list_any (is_open_at c.args.nodes.now) xs ≡ false) all c.loop-i.invariant))
