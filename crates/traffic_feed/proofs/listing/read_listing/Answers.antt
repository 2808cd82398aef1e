use Rattle.std.proofs.Common.{◌≡◌, ◌+◌, ap, sym, ◌∙◌, inl, Ok, Err, refl}
use Rattle.std.proofs.lemmas.Bool.{eqb-true}
use Rattle.traffic_feed.specs.declared.fault.ListFault.TheVariants.{BadLine}
use Rattle.raw_records.specs.Lines.{IsFirstBad}
use Rattle.raw_records.specs.LineRead.{line_of}
use Rattle.raw_records.proofs.LineLemmas.{one_bad}
use Rattle.traffic_feed.proofs.PartlyLemmas.{IsFirstBad-next, IsPartlyRead-none, IsPartlyRead-more, IsRead, IsRead-from, within_segment, one_listing, no_bad_line}
use Rattle.traffic_feed.proofs.listing.read_listing.Goals as goal
use Rattle.traffic_feed.proofs.listing.read_listing.Goals.{In_default, In_ok-finish}

pub loop-rest-init : goal.loop-rest-init
loop-rest-init c = IsPartlyRead-none c.args.bytes.now c.args.reclen c.args.shape c.new-gathering.result c.new-gathering.ensures

pub loop-rest-preserved : goal.loop-rest-preserved
loop-rest-preserved c =
    IsPartlyRead-more _ c.loop-rest.rest.now c.first_line.result.0.now _ _ _ c.loop-rest.line _ _ (line_of c.in-Ok.read) c.loop-rest.invariant c.first_line.ensures.first c.first_line.ensures.shorter c.in-Ok.ensures.read c.in_ok-step.ensures

-- the next line is bad
next_bad : (c : In_default) → IsFirstBad c.args.bytes.now (c.loop-rest.line + 1)
next_bad c = IsFirstBad-next _ c.loop-rest.rest.now c.first_line.result.0.now c.first_line.result.1.now _ _ c.loop-rest.line _ c.loop-rest.invariant c.first_line.ensures.first c.in_default.ensures.refused

pub returns-in_default-clause-only : goal.returns-in_default-clause-only
returns-in_default-clause-only c = λ units cuts listing. absurd (no_bad_line _ _ _ units cuts _ listing (next_bad (goal.at.returns-in_default-clause-only c).In_default))

pub returns-in_default-clause-faulty : goal.returns-in_default-clause-faulty
returns-in_default-clause-faulty c = λ line first. inl (ap (λ n. Err (BadLine n)) (one_bad c.args.bytes.now _ line (next_bad (goal.at.returns-in_default-clause-faulty c).In_default) first))

-- all lines were read
all_read : (c : In_ok-finish) → IsRead c.args.bytes.now c.args.reclen c.args.shape c.in_ok-finish.field-0.units c.in_ok-finish.field-0.cuts
all_read c =
    IsRead-from _ c.loop-rest.rest.now _ _ c.loop-rest.line c.loop-rest.gathering _ _ c.loop-rest.invariant (eqb-true _ _ (sym c.is_empty.ensures ∙ c.loop-rest-test.false)) c.in_ok-finish.ensures.units c.in_ok-finish.ensures.cuts

pub returns-clause-read : goal.returns-clause-read
returns-clause-read c = (all_read c).listing

pub returns-clause-only : goal.returns-clause-only
returns-clause-only c = λ units cuts listing.
    let same = one_listing _ _ _ _ units _ cuts (all_read c).listing listing in
    let whole : c.in_ok-finish.field-0 ≡ record { units = units; cuts = cuts } = rw (← same.0, ← same.1) refl in
    inl (ap Ok whole)

pub returns-clause-faulty : goal.returns-clause-faulty
returns-clause-faulty c = λ line first. absurd (no_bad_line _ _ _ _ _ line (all_read c).listing first)

pub returns-clause-within : goal.returns-clause-within
returns-clause-within c = within_segment _ c.loop-rest.rest.now _ _ c.loop-rest.line _ _ c.loop-rest.invariant c.in_ok-finish.ensures.within

pub returns-clause-few_records : goal.returns-clause-few_records
returns-clause-few_records c = (all_read c).bounded.records

pub returns-clause-few_words : goal.returns-clause-few_words
returns-clause-few_words c = (all_read c).bounded.words

pub returns-clause-few_cuts : goal.returns-clause-few_cuts
returns-clause-few_cuts c = (all_read c).bounded.few_cuts
