-- the records before the index for which the query holds were given
use Rattle.std.proofs.Common.{◌≡◌, false, map, take}
use Rattle.txn_rows.specs.Grouping.{raw_group}
use Rattle.vsl_dispatch.specs.Entries.{IsSame}
use Rattle.text_printer.specs.Held.{held_groups}
use Rattle.text_printer.specs.inside.Asked.{alone_query}
use Rattle.text_printer.specs.inside.Next.{Gave}
use Rattle.text_printer.proofs.next.give_records.Given as goal

abbrev pub invariant-loop-i : goal.invariant-loop-i
invariant-loop-i g l = record {
  gave : Gave g.C.Consumer.keep g.C.Consumer.output g.C.Consumer.represents (held_groups (alone_query l.initial.asked) (map (raw_group l.unit.vxid) (take l.i l.records))) false l.initial.entry l.entry;
  consumer : IsSame g.C.Consumer.keep g.C.Consumer.output l.initial.entry.consumer l.entry.consumer;
  same : alone_query l.asked ≡ alone_query l.initial.asked;
}
