use Rattle.std.proofs.Common.{rules, ℕ, ◌<◌, [], Some, map, sym, refl, ◌∙◌, subst}
use Rattle.std.proofs.lemmas.List.{length-map}
use Rattle.std.proofs.lemmas.Simd.{map-map}
use Rattle.vsl_record.specs.Unit.{Log}
use Rattle.traffic_feed.specs.declared.listing.Listing.{Listing}
use Rattle.feed_schedule.specs.Schedule.{Reads}
use Rattle.feed_schedule.proofs.ReplayingLemmas.{IsNew, steady_new, new_to_come}
use Rattle.feed_schedule.proofs.replay.Replay.new.Goals as goal

-- what is made is new
abbrev made : goal.After-turns_of → Type 0
made c = IsNew (record { ring = c.in_ok-ring.ring; cursor = c.in_ok-cursor.cursor; writers = c.in_ok-writers.writers.items; reading = Reads; drawn = c.turns_of.result }) c.len-active.result c.args.shape c.args.seed
    (map (λ (l : Listing). l.units) c.args.listings.items)

is_new : (c : goal.After-turns_of) → made c
is_new c = record {
  seg_is = c.in_ok-ring.ensures.shape;
  empty = c.in_ok-ring.ensures.empty;
  ended = c.in_ok-ring.ensures.ended;
  same = c.in_ok-cursor.ensures.shape;
  stands = c.in_ok-cursor.ensures.stands [];
  place = c.in_ok-cursor.ensures.place;
  counted = search rules;
  writers = c.in_ok-writers.ensures ∙ sym (map-map Some (λ (l : Listing). l.units) c.args.listings.items);
  reading = refl;
  drawn = c.turns_of.ensures;
  fit = c.requires.feeds;
  few = c.requires.few;
}

pub invariant_of-result : goal.invariant_of-result
invariant_of-result c =
    let units : Listing → Log = λ l. l.units in
    steady_new _ c.len-active.result c.args.shape c.args.seed (map units c.args.listings.items) (is_new c) (subst (λ (n : ℕ). n < 4294967295) (sym (length-map c.args.listings.items units)) c.requires.many)

pub returns : goal.returns
returns c = λ log history scheduled. new_to_come _ c.len-active.result c.args.shape c.args.seed (map (λ (l : Listing). l.units) c.args.listings.items) log history (is_new c) scheduled
