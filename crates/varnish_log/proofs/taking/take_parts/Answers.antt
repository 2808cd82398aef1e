use Rattle.std.proofs.Common.{subst, sym, ap, ◌∙◌, arith}
use Rattle.varnish_log.specs.declared.loss.Counts.{Counts}
use Rattle.varnish_log.specs.Counting.{with_loss}
use Rattle.varnish_log.specs.inside.Taking.{ArePartlyTaken}
use Rattle.varnish_log.specs.inside.Views.{says_record}
use Rattle.varnish_log.specs.inside.Written.{Kept}
use Rattle.varnish_log.proofs.TakingLemmas.{partly_all, partly_left, partly_more, partly_none, partly_nothing, record_counted}
use Rattle.varnish_log.proofs.taking.take_parts.Goals as goal

pub loop-vxid-init : goal.loop-vxid-init
loop-vxid-init c =
    subst (λ (kept : Kept). ArePartlyTaken c.args.how c.args.bytes.now c.args.bytes.now kept c.args.out.now.items c.args.out.now.items c.args.counts.now c.args.counts.now) (sym c.new-units.ensures) (partly_none c.args.how c.args.bytes.now c.args.out.now.items c.args.counts.now)

pub loop-vxid-preserved-in-Record : goal.loop-vxid-preserved-in-Record
loop-vxid-preserved-in-Record c =
    partly_more c.args.how c.args.bytes.now c.loop-vxid.rest.now c.in-Record.behind.now c.args.out.now.items c.loop-vxid.out.items c.take_record.new.out.items c.loop-vxid.units c.take_record.new.units c.args.counts.now c.loop-vxid.counts c.with_record.result
    (says_record c.in-Record.vxid c.in-Record.tag c.in-Record.mark c.in-Record.payload.now) c.loop-vxid.invariant c.in-Record.ensures.0 c.in-Record.ensures.1 (λ ls w. c.in_ok-take_record-in-Record.ensures.written c.args.out.now.items ls w)
    (c.with_record.ensures ∙ record_counted c.loop-vxid.counts c.in-Record.vxid c.in-Record.tag c.in-Record.mark c.in-Record.payload.now) (omega (arith, c.in_ok-take_record-in-Record.ensures.words))

pub loop-vxid-preserved-in-Nothing : goal.loop-vxid-preserved-in-Nothing
loop-vxid-preserved-in-Nothing c =
    let next = c.in-Nothing.ensures in
    subst (λ (x : Counts). ArePartlyTaken c.args.how c.args.bytes.now c.in-Nothing.behind.now c.loop-vxid.units c.args.out.now.items c.loop-vxid.out.items c.args.counts.now x) (sym c.with_part.ensures)
    (partly_nothing c.args.how c.args.bytes.now c.loop-vxid.rest.now c.in-Nothing.behind.now c.args.out.now.items c.loop-vxid.out.items c.loop-vxid.units c.args.counts.now c.loop-vxid.counts next.0 c.loop-vxid.invariant next.2 next.1)

pub loop-vxid-preserved : goal.loop-vxid-preserved
loop-vxid-preserved c =
    subst (λ (x : Counts). ArePartlyTaken c.args.how c.args.bytes.now c.in-LeftOut.behind.now c.loop-vxid.units c.args.out.now.items c.loop-vxid.out.items c.args.counts.now x) (sym (c.with_loss.ensures ∙ ap (with_loss c.in-LeftOut.loss) c.with_part-in-LeftOut.ensures))
    (partly_left c.args.how c.args.bytes.now c.loop-vxid.rest.now c.in-LeftOut.behind.now c.args.out.now.items c.loop-vxid.out.items c.loop-vxid.units c.args.counts.now c.loop-vxid.counts c.in-LeftOut.loss c.loop-vxid.invariant c.in-LeftOut.ensures.0 c.in-LeftOut.ensures.1)

pub returns-in-Stop-clause-taken : goal.returns-in-Stop-clause-taken
returns-in-Stop-clause-taken c =
    partly_all c.args.how c.in-Stop.stop c.args.bytes.now c.loop-vxid.rest.now c.args.out.now.items c.loop-vxid.out.items c.close.new.out.items c.loop-vxid.units c.args.counts.now c.loop-vxid.counts c.loop-vxid.invariant c.in-Stop.ensures
    (λ ls w. c.in_ok-close-in-Stop.ensures.written c.args.out.now.items ls w) (λ ls w. c.in_ok-close-in-Stop.ensures.units c.args.out.now.items ls w)
