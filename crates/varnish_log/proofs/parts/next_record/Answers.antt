use Rattle.varnish_log.specs.inside.Views.{entry_of}
use Rattle.varnish_log.proofs.PartLemmas.{entry_next}
use Rattle.varnish_log.proofs.parts.next_record.Goals as goal

pub returns-in-Entry : goal.returns-in-Entry
returns-in-Entry c =
    let next = c.in-Entry.ensures in
    c.entry_part.ensures c.args.bytes.now next.0 (entry_next c.args.how c.args.form c.args.bytes.now c.in-Entry.behind.now (entry_of c.in-Entry.entry next.0) c.requires next.1 next.2)
