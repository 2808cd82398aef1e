use Rattle.std.proofs.Common.{rules}
use Rattle.std.proofs.lemmas.List.Sorted.{answers_always}
use Rattle.txn_rows.proofs.SortLemmas.{lt, order, preorder_from_sort}
use Rattle.txn_rows.proofs.leave.sort_rows.Goals as goal

pub returns : goal.returns
returns c =
    let keys = answers_always _ _ _ (λ f a r next called. search rules) in
    preorder_from_sort _ _ (c.in_ok-sort_by.ensures.sorted lt order keys) (c.sort_by.ensures.stable lt order keys)
