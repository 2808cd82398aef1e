use Rattle.std.proofs.Common.{◌≤◌, ◌+◌, arith}
use Rattle.vsl_record.proofs.BlockLemmas.{within_more, entry_at}
use Rattle.vsl_record.proofs.records.span_of.Goals as goal
use Rattle.vsl_record.proofs.records.span_of.Goals.{then-at-from, else-at-from, then-until-end, else-until-end}

pub loop-entry-preserved : goal.loop-entry-preserved
loop-entry-preserved c =
    let l = c.loop-entry in
    let e = c.entry-item.result in
    let is = entry_at c.args.block.now c.args.entries.now l.entry-index e c.loop-entry-test.true c.entry-item.is c.requires in
    let low : c.if-at-from.from ≤ l.from = elim c.if-at-from.branch [ then-at-from w ↦ omega (arith, w.if-at-from, w.from-is) | else-at-from w ↦ omega (arith, w.from-is) ] in
    let at : c.if-at-from.from ≤ e.at = elim c.if-at-from.branch [ then-at-from w ↦ omega (arith, w.from-is) | else-at-from w ↦ omega (arith, w.if-at-from, w.from-is) ] in
    let high : l.until ≤ c.if-until-end.until = elim c.if-until-end.branch [ then-until-end w ↦ omega (arith, w.if-until-end, w.until-is) | else-until-end w ↦ omega (arith, w.until-is) ] in
    let end : e.at + e.size ≤ c.if-until-end.until = elim c.if-until-end.branch [ then-until-end w ↦ omega (arith, w.until-is) | else-until-end w ↦ omega (arith, w.if-until-end, w.until-is) ] in
    record {
      within = within_more l.from c.if-at-from.from l.until c.if-until-end.until l.entry-index c.args.entries.now e c.loop-entry-test.true c.entry-item.is low at high end l.invariant.within;
      begins = omega (arith, low, l.invariant.begins);
      ends = elim c.if-until-end.branch [ then-until-end w ↦ omega (arith, w.until-is, is.inside) | else-until-end w ↦ omega (arith, w.until-is, l.invariant.ends) ];
    }
