use Rattle.std.proofs.Common.{arith, map, ap, sym, subst, ◌∙◌}
use Rattle.std.specs.List.{AllByRecursion, sum_by}
use Rattle.log_model.specs.Interleaving.{IsInterleaving}
use Rattle.vsl_record.specs.Words.{unit_words}
use Rattle.counter_segments.specs.Sums.{AreOf, totals}
use Rattle.log_ring.specs.Writers.{AreWritersOf, units_put, entries_of, busy_of}
use Rattle.log_ring.specs.Readers.{history_taken}
use Rattle.log_ring.specs.Closed.{entries_from, HasReached}
use Rattle.traffic_feed.specs.Workers.{AllFed, listings_of}
use Rattle.live_run.specs.Runs.{MayBePut, LiveCounted}
use Rattle.live_run.proofs.WholeLemmas.{fed_writers, fed_counts, live_counted}
use Rattle.live_run.proofs.running.count_live.Goals as goal

pub close-requires-clause-ours : goal.close-requires-clause-ours
close-requires-clause-ours g c =
    let opened = c.in_ok-ring.field-0 in
    subst (AreOf opened.counters) (sym c.part-lefts.ensures.1) (fed_counts opened.ring opened.counters (listings_of opened.workers.items) c.run_workers-fed.result.items c.run_workers-fed.ensures.fed)

pub close-ring-requires-clause-ours : goal.close-ring-requires-clause-ours
close-ring-requires-clause-ours g c =
    let opened = c.in_ok-ring.field-0 in
    subst (AreWritersOf opened.ring) (sym c.part-lefts.ensures.0) (fed_writers opened.ring opened.counters (listings_of opened.workers.items) c.run_workers-fed.result.items c.run_workers-fed.ensures.fed)

pub returns : goal.returns
returns g c =
    let opened = c.in_ok-ring.field-0 in
    let o = c.in_ok-ring.ensures in
    let ls = c.args.listings.items in
    let fs = c.run_workers-fed.result.items in
    let lefts = c.part-lefts.ensures.0 in
    let closed = c.close-ring.result in
    let here = c.close-ring.ensures in
    subst (λ seg. LiveCounted seg ls closed c.in_ok-values.values) o.seg_is
    (live_counted opened.ring opened.counters ls fs closed c.in_ok-values.values (here.histories ∙ ap (map history_taken) o.readers_are) (omega (arith, o.seg_is)) o.writers
    (subst (λ xs. AllFed opened.ring opened.counters xs fs) o.listings_are c.run_workers-fed.ensures.fed) (subst (λ seg. MayBePut seg ls) (sym o.seg_is) c.requires.put)
    (subst (λ ws. IsInterleaving closed.log (map units_put ws)) lefts here.log)
    (subst (λ ws. IsInterleaving (entries_from unit_words opened.ring.seg 0 closed.log) (map entries_of ws)) lefts here.entries)
    (here.busy ∙ ap (sum_by busy_of) lefts) (subst (AllByRecursion (HasReached opened.ring.seg closed.log)) lefts here.found) (c.in_ok-values.ensures ∙ ap totals c.part-lefts.ensures.1))
