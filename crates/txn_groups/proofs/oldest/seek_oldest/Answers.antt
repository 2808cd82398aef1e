use Rattle.std.proofs.Common.{◌≡◌, Some, length, refl}
use Rattle.std.specs.Prelude.{slice_get}
use Rattle.std.proofs.lemmas.Option.{slice_get_read}
use Rattle.txn_groups.specs.declared.node.Node.{Node}
use Rattle.txn_groups.proofs.NoneBelowLemmas.{low_where_none, low_read}
use Rattle.txn_groups.proofs.oldest.seek_oldest.Goals as goal

pub returns-in_default-clause-raised : goal.returns-in_default-clause-raised
returns-in_default-clause-raised c = λ held low. low_where_none _ (c.in_default.ensures.none held low.none)

pub returns-clause-raised : goal.returns-clause-raised
returns-clause-raised c = λ held low.
    let p = c.args.pending.now in
    let x : Node = c.index-node.result.now in
    let read : slice_get p.nodes.items c.in-Some.at ≡ Some x = slice_get_read p.nodes.items (length p.nodes.items) c.in-Some.at x refl c.in-Some.ensures.within c.index-node.ensures in
    low_read p c.in-Some.at x held (c.in-Some.ensures.some held low.none) read
