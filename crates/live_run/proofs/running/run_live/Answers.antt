use Rattle.std.proofs.Common.{arith, ◌≡◌, length, ap, sym, subst, ◌∙◌, vec_len}
use Rattle.std.proofs.lemmas.List.{length-map}
use Rattle.log_ring.specs.Writers.{AreWritersOf}
use Rattle.traffic_feed.specs.Workers.{listings_of}
use Rattle.vio.proofs.WholeLemmas.{OnErr-always}
use Rattle.live_run.specs.Runs.{feeds_of}
use Rattle.live_run.proofs.WholeLemmas.{fed_writers, fed_length}
use Rattle.live_run.proofs.RunLemmas.{IsClosedWith, closed_with, live_ran, live_short}
use Rattle.live_run.proofs.running.run_live.Goals as goal

pub part-lefts-requires-clause-room : goal.part-lefts-requires-clause-room
part-lefts-requires-clause-room g c =
    let opened = c.in_ok-ring.field-0 in
    let fed = c.run_beside-fed.result.fed in
    let many = fed_length opened.ring opened.counters (listings_of opened.workers.items) fed.items c.run_beside-fed.ensures.fed ∙ length-map opened.workers.items (λ w. w.listing) in
    let len : vec_len fed ≡ vec_len opened.workers = omega (arith, fed.ok.0, opened.workers.ok.0) in
    (omega (arith, c.in_ok-ring.ensures.lefts.1), omega (arith, c.in_ok-ring.ensures.counts.1))

pub close-ring-requires-clause-ours : goal.close-ring-requires-clause-ours
close-ring-requires-clause-ours g c =
    let opened = c.in_ok-ring.field-0 in
    subst (AreWritersOf opened.ring) (sym c.part-lefts.ensures.0) (fed_writers opened.ring opened.counters (listings_of opened.workers.items) c.run_beside-fed.result.fed.items c.run_beside-fed.ensures.fed)

pub close-ring-requires-clause-all : goal.close-ring-requires-clause-all
close-ring-requires-clause-all g c =
    let opened = c.in_ok-ring.field-0 in
    let fed = c.run_beside-fed.result.fed in
    let many = fed_length opened.ring opened.counters (listings_of opened.workers.items) fed.items c.run_beside-fed.ensures.fed ∙ ap length c.in_ok-ring.ensures.listings_are in
    let parts = ap length c.part-lefts.ensures.0 ∙ length-map fed.items (λ f. f.left) in
    omega (arith, c.part-lefts.result.0.ok.0, c.in_ok-ring.ensures.writers)

pub returns-in_err-ended-clause-short : goal.returns-in_err-ended-clause-short
returns-in_err-ended-clause-short g c =
    let feeds = feeds_of c.args.listings.items in
    let with : IsClosedWith c.args.shape c.in_ok-ring.field-0.ring c.in-Some.pass c.run_beside-fed.result.pass feeds c.close-ring.result = closed_with c.args.shape c.args.listings.items c.in_ok-ring.field-0 c.run_beside-fed.result.fed.items c.part-lefts.result.0.items c.pop.new.self.items c.push_reserved.new.self.items c.in-Some.pass c.run_beside-fed.result.pass c.close-ring.result
    (omega arith) c.requires.put c.in_ok-ring.ensures c.run_beside-fed.ensures.fed c.part-lefts.ensures.0 c.in-Some.ensures.items c.push_reserved.ensures.items
    c.close-ring.ensures.log c.close-ring.ensures.found c.close-ring.ensures.histories c.close-ring.ensures.readers c.items_are_the_history.ensures in
    OnErr-always c.from_residual-in_err-ended.result (live_short c.args.shape c.in_ok-ring.field-0.ring c.in-Some.pass c.run_beside-fed.result.pass feeds c.close-ring.result with
    (g.O.Output.took c.args.output.now c.run_beside-fed.new.output) (g.O.Output.printed c.args.output.now c.run_beside-fed.new.output) (g.O.Output.ended c.args.output.now) (g.O.Output.starved c.args.output.now) (g.O.Output.alone c.args.output.now) (g.O.Output.writes c.args.output.now) _ _ c.run_beside-fed.result.ran c.in_err-ended.field-0.0 c.in_err-ended.was c.run_beside-fed.ensures.read)

pub returns-clause-ran : goal.returns-clause-ran
returns-clause-ran g c =
    let feeds = feeds_of c.args.listings.items in
    let with : IsClosedWith c.args.shape c.in_ok-ring.field-0.ring c.in-Some.pass c.run_beside-fed.result.pass feeds c.close-ring.result = closed_with c.args.shape c.args.listings.items c.in_ok-ring.field-0 c.run_beside-fed.result.fed.items c.part-lefts.result.0.items c.pop.new.self.items c.push_reserved.new.self.items c.in-Some.pass c.run_beside-fed.result.pass c.close-ring.result
    (omega arith) c.requires.put c.in_ok-ring.ensures c.run_beside-fed.ensures.fed c.part-lefts.ensures.0 c.in-Some.ensures.items c.push_reserved.ensures.items
    c.close-ring.ensures.log c.close-ring.ensures.found c.close-ring.ensures.histories c.close-ring.ensures.readers c.items_are_the_history.ensures in
    live_ran c.args.shape c.in_ok-ring.field-0.ring c.in-Some.pass c.run_beside-fed.result.pass feeds c.close-ring.result with
    (g.O.Output.took c.args.output.now c.run_beside-fed.new.output) (g.O.Output.printed c.args.output.now c.run_beside-fed.new.output) (g.O.Output.ended c.args.output.now) (g.O.Output.starved c.args.output.now) (g.O.Output.alone c.args.output.now) (g.O.Output.writes c.args.output.now) _ _ c.run_beside-fed.result.ran c.in_ok-ended.ended c.in_ok-ended.was c.run_beside-fed.ensures.read
