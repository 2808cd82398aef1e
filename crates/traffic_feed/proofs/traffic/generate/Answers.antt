use Rattle.std.proofs.Common.{arith}
use Rattle.traffic_feed.proofs.MadeBounds.{IsMade, IsMade-from}
use Rattle.traffic_feed.proofs.MakingLemmas.{IsPartlyMade-none, IsPartlyMade-more, made_within}
use Rattle.traffic_feed.proofs.traffic.generate.Goals as goal
use Rattle.traffic_feed.proofs.traffic.generate.Goals.{In_ok-finish}

pub loop-k-init : goal.loop-k-init
loop-k-init c = IsPartlyMade-none c.args.seed c.args.reclen c.args.shape _ _ c.new-maker.ensures c.new-turns.ensures

pub make-requires-clause-cuts : goal.make-requires-clause-cuts
make-requires-clause-cuts c = omega (arith, c.loop-k.invariant.few_cuts, c.requires.most)

pub loop-k-preserved : goal.loop-k-preserved
loop-k-preserved c =
    IsPartlyMade-more c.args.seed c.args.reclen c.args.shape c.loop-k.k _ _ _ _ _ c.loop-k.invariant c.draw.ensures.drawn c.draw.ensures.draw c.in_ok-make.ensures.state c.in_ok-make.ensures.few_cuts

-- all requests were made
all_made : (c : In_ok-finish) → IsMade c.args.count c.args.seed c.args.reclen c.args.shape c.in_ok-finish.field-0.units c.in_ok-finish.field-0.cuts
all_made c = IsMade-from _ _ _ _ _ _ _ _ _ c.requires.most (omega (arith, c.loop-k-test.false, c.loop-k.auto.k-end)) c.loop-k.invariant c.in_ok-finish.ensures.units c.in_ok-finish.ensures.cuts

pub returns-clause-units : goal.returns-clause-units
returns-clause-units c = (all_made (goal.at.returns-clause-units c).In_ok-finish).units_are

pub returns-clause-cuts : goal.returns-clause-cuts
returns-clause-cuts c = (all_made (goal.at.returns-clause-cuts c).In_ok-finish).cuts_are

pub returns-clause-within : goal.returns-clause-within
returns-clause-within c = made_within _ _ _ _ _ _ _ c.loop-k.invariant c.in_ok-finish.ensures.within

pub returns-clause-few_records : goal.returns-clause-few_records
returns-clause-few_records c = (all_made (goal.at.returns-clause-few_records c).In_ok-finish).few_records

pub returns-clause-few_words : goal.returns-clause-few_words
returns-clause-few_words c = (all_made (goal.at.returns-clause-few_words c).In_ok-finish).few_words

pub returns-clause-few_cuts : goal.returns-clause-few_cuts
returns-clause-few_cuts c = (all_made (goal.at.returns-clause-few_cuts c).In_ok-finish).few_cuts
