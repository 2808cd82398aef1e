use Rattle.std.proofs.Common.{rules, ◌≡◌, [], ◌∷◌, ◌++◌, sym, ap, ◌∙◌, subst}
use Rattle.std.proofs.lemmas.List.{append-nil}
use Rattle.vsl_record.specs.Unit.{Log}
use Rattle.ring_plain.specs.Ring.{RingState, IsRingOf}
use Rattle.feed_schedule.specs.Schedule.{put_by}
use Rattle.feed_schedule.proofs.WaitingLemmas.{one_put, none_put}
use Rattle.feed_schedule.proofs.replay.Writer.write.Goals as goal
use Rattle.feed_schedule.proofs.replay.Writer.write.Goals.{then-active-eq1, else-active-eq1}

pub returns-in_default-clause-put : goal.returns-in_default-clause-put
returns-in_default-clause-put c = λ log h.
    let none = none_put c.self.inside.left c.self.inside.put c.self.inside.listing.units c.as_slice.result.now c.args.self.now c.self.view_is c.as_slice.ensures (search rules) in
    let is : log ++ put_by 0 (c.args.self.now ∷ []) ≡ log = ap (λ (l : Log). log ++ l) none ∙ append-nil log in
    elim c.if-active-eq1.branch [
      | then-active-eq1 w ↦ subst (IsRingOf c.if-active-eq1.ring) (sym is) (subst (λ (r : RingState). IsRingOf r log) (sym w.ring-is) (w.end.ensures.log log h))
      | else-active-eq1 w ↦ subst (IsRingOf c.if-active-eq1.ring) (sym is) (subst (λ (r : RingState). IsRingOf r log) (sym w.ring-is) h)
    ]

pub returns-clause-put : goal.returns-clause-put
returns-clause-put c = λ log h.
    let one = one_put c.self.inside.left c.self.inside.put c.self.inside.listing.units c.as_slice.result.now c.args.self.now c.in-Some.unit.now c.self.view_is c.requires.stays c.as_slice.ensures (search rules) (search rules) in
    subst (λ (l : Log). IsRingOf c.put.new.self (log ++ l)) (sym one) (c.in-Ok.ensures.put log h)
