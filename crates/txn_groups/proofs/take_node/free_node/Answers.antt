use Rattle.std.proofs.Common.{length, refl, ap, sym, ◌∙◌, arith}
use Rattle.std.proofs.lemmas.Option.{slice_get_read, slice_get_within}
use Rattle.txn_groups.specs.inside.Taken.{records_at}
use Rattle.txn_groups.proofs.OutLemmas.{freed_set}
use Rattle.txn_groups.proofs.take_node.free_node.Goals as goal

pub returns-then-at-len-clause-freed : goal.returns-then-at-len-clause-freed
returns-then-at-len-clause-freed c = λ x read. freed_set c.args.nodes.now.items c.args.at _ (slice_get_within c.args.nodes.now.items c.args.at x read) refl

pub returns-then-at-len-clause-records : goal.returns-then-at-len-clause-records
returns-then-at-len-clause-records c =
    let items = c.args.nodes.now.items in
    let read = slice_get_read items (length items) c.args.at c.index_mut-node.result.now refl (omega (arith, c.if-at-len.true, c.len.ensures)) c.index_mut-node.ensures.value in
    c.replace.ensures.value ∙ ap records_at (sym read)
