use Rattle.std.proofs.Common.{rules, ◌≡◌, ℕ, Some, length, map, replicate, sym, ap, ◌∙◌}
use Rattle.std.proofs.lemmas.List.{length-map}
use Rattle.std.proofs.lemmas.Simd.{map-map}
use Rattle.vsl_record.specs.Unit.{Log}
use Rattle.counter_segments.specs.Sums.{new_pass}
use Rattle.traffic_feed.specs.declared.listing.Listing.{Listing}
use Rattle.feed_schedule.proofs.TallyLemmas.{new_tallied}
use Rattle.feed_schedule.proofs.CountingLemmas.{written_first}
use Rattle.feed_schedule.proofs.counting.Counting.new.Goals as goal

pub returns-clause-written : goal.returns-clause-written
returns-clause-written c =
    let units : Listing → Log = λ l. l.units in
    let ring = c.in_ok-empty_ring.ensures in
    written_first c.args.shape c.args.seed (map units c.args.listings.items) _ _ _ _ c.requires.feeds c.requires.few ring.shape ring.empty ring.ended (c.in_ok-writers.ensures ∙ sym (map-map Some units c.args.listings.items)) (search rules) c.turns_of.ensures

pub returns-clause-tallied : goal.returns-clause-tallied
returns-clause-tallied c =
    let many : c.len-active.result ≡ length c.args.listings.items = search (rules, length-map) in
    let made = c.in_ok-made.ensures in
    new_tallied c.in_ok-made.made.counters c.args.listings.items _ _ _ c.requires.records c.requires.cuts c.in_ok-writers.ensures
    (c.in_ok-cuts.ensures ∙ ap (map (λ (l : Listing). l.cuts)) c.deref.ensures.value)
    (made.count ∙ many) (made.passes ∙ ap (λ (n : ℕ). replicate n (new_pass c.in_ok-made.made.counters)) many)
