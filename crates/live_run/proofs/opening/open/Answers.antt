use Rattle.std.proofs.Common.{arith, ◌≡◌, length, ap, sym, subst, ◌∙◌, vec_len}
use Rattle.std.proofs.lemmas.List.{length-map}
use Rattle.std.proofs.lemmas.List.FromFn.{length-map-range_with_len}
use Rattle.log_ring.specs.Writers.{new_writer}
use Rattle.live_run.specs.Runs.{MayBePut}
use Rattle.live_run.proofs.OpeningLemmas.{all_ready}
use Rattle.live_run.proofs.opening.open.Goals as goal

pub workers_of-requires-clause-passes : goal.workers_of-requires-clause-passes
workers_of-requires-clause-passes c =
    let opened = c.in_ok-opened.opened in
    let many : length opened.writers.items ≡ c.len-writers.result = ap length c.in_ok-opened.ensures.writers ∙ length-map-range_with_len (new_writer opened.ring) 0 c.len-writers.result in
    omega (arith, opened.writers.ok.0)

pub returns : goal.returns
returns c =
    let opened = c.in_ok-opened.opened in
    let counts = c.in_ok-counters in
    let workers = c.in_ok-workers_of in
    let are = workers.ensures.listings in
    let many : c.len-writers.result ≡ length c.args.listings.items = omega (arith, c.args.listings.ok.0) in
    let len : vec_len workers.field-0 ≡ c.len-writers.result = omega (arith, workers.field-0.ok.0, ap length are, length-map workers.field-0.items (λ w. w.listing)) in
    record {
      seg_is = c.in_ok-opened.ensures.ring.0;
      writers = omega (arith, c.in_ok-opened.ensures.ring.1);
      passes = omega (arith, counts.ensures.count);
      readers_are = c.in_ok-opened.ensures.readers;
      ready = all_ready opened.ring counts.field-0.counters c.args.listings.items workers.field-0.items opened.writers.items counts.field-0.passes.items c.len-writers.result c.len-writers.result
          (subst (λ seg. MayBePut seg c.args.listings.items) (sym c.in_ok-opened.ensures.ring.0) c.requires.put) are c.in_ok-opened.ensures.writers workers.ensures.passes counts.ensures.passes workers.ensures.counts;
      listings_are = are;
      room = (c.in_ok-with_capacity.ensures.items, omega (arith, c.in_ok-with_capacity.ensures.capacity));
      lefts = (c.in_ok-with_capacity-2.ensures.items, omega (arith, c.in_ok-with_capacity-2.ensures.capacity));
      counts = (c.in_ok-with_capacity-3.ensures.items, omega (arith, c.in_ok-with_capacity-3.ensures.capacity));
    }
