use Rattle.std.proofs.Common.{rules, ◌≡◌, ℕ, ◌<◌, List, subst, arith}
use Rattle.std.specs.Prelude.{slice_get, slice_index}
use Rattle.std.specs.List.{sum_by}
use Rattle.vsl_record.specs.declared.record_type.Record.{Record}
use Rattle.counter_segments.specs.Sums.{counter_count}
use Rattle.traffic_feed.specs.Counted.{causes}
use Rattle.traffic_feed.specs.inside.Raises.{raise_at}
use Rattle.traffic_feed.proofs.CountedLemmas.{records_few, shares_are, sum_at_small, unit_share_bound}
use Rattle.traffic_feed.proofs.shares.shares.Goals as goal

-- by how much the unit's records raise each counter
by_records : (c : goal.After-raised_by_all-sums) → (which : ℕ) → which < counter_count → slice_index c.raised_by_all-sums.result which ≡ sum_by (raise_at (slice_get causes which)) c.args.unit.now.records
by_records c = subst (λ (recs : List Record). (which : ℕ) → which < counter_count → slice_index c.raised_by_all-sums.result which ≡ sum_by (raise_at (slice_get causes which)) recs) c.records.ensures.records c.raised_by_all-sums.ensures

pub overflow_add-sums : goal.overflow_add-sums
overflow_add-sums c =
    let u = c.args.unit.now in
    let is = by_records c 17 (omega arith) in omega (arith, is, records_few u c.records.ensures.unit, sum_at_small (slice_get causes 17) u.records)

pub returns-clause-shares : goal.returns-clause-shares
returns-clause-shares c = shares_are c.args.unit.now c.raised_by_all-sums.result (search rules) (by_records c)

pub returns-clause-small : goal.returns-clause-small
returns-clause-small c = λ which below.
    let u = c.args.unit.now in
    let is = shares_are u c.raised_by_all-sums.result (search rules) (by_records c) which below in omega (arith, is, records_few u c.records.ensures.unit, unit_share_bound which u c.records.ensures.unit)
