use Rattle.std.proofs.Common.{subst, sym, false}
use Rattle.varnish_log.specs.inside.Written.{Kept}
use Rattle.varnish_log.specs.inside.Writers.{IsReady}
use Rattle.varnish_log.proofs.WrittenLemmas.{ready_new, ready_on}
use Rattle.varnish_log.proofs.units.UnitWriter.unit_for.Goals as goal

pub returns-in-Some-clause-ready : goal.returns-in-Some-clause-ready
returns-in-Some-clause-ready c = λ before ls w. ready_on c.args.self.now c.args.out.now.items before ls _ c.args.vxid c.args.mark w c.in-Some.ensures.some

pub returns-clause-ready : goal.returns-clause-ready
returns-clause-ready c = λ before ls w. subst (λ (k : Kept). IsReady (record { vxid = c.args.vxid; mark = c.args.mark; words = 1; ended = false }) k.body c.close.new.out.items before ls) (sym c.in_ok-close.ensures.nothing)
    (ready_new c.args.self.now c.args.out.now.items before ls c.args.vxid c.args.mark _ c.requires.vxid (c.in_ok-close.ensures.units before ls w) w c.in_default.ensures.none (c.in_ok-close.ensures.written before ls w))
