use Rattle.std.proofs.Common.{Err, ap, refl, arith}
use Rattle.vsl_file.specs.File.{most_bytes, Damaged}
use Rattle.vsl_file.proofs.ReaderStateLemmas.{gave_unit, gave_damaged, gave_too_large, gave_cut, hand_holds, unit_at_hand, ends_at_hand}
use Rattle.vsl_file.proofs.reader.FileReader.take.Goals as goal

pub returns-in-Ok-Whole-clause-stepped : goal.returns-in-Ok-Whole-clause-stepped
unfolding most_bytes
returns-in-Ok-Whole-clause-stepped g c = rw (← c.self.view_is) (λ taken units p.
    gave_unit c.args.version c.in-Ok-Whole.unit c.in-Ok-Whole.size _ _ _ taken units _ _ p (rw (← c.self.view_is) at c.requires) (omega arith) refl refl refl (rw c.in-Ok-Whole.field-0-is at c.in-Ok-Whole.ensures.took))

pub returns-in-Ok-Damaged-clause-stepped : goal.returns-in-Ok-Damaged-clause-stepped
unfolding most_bytes
returns-in-Ok-Damaged-clause-stepped g c = rw (← c.self.view_is) (λ taken units p.
    gave_damaged c.args.version _ _ taken units _ _ _ p (rw (← c.self.view_is) at c.requires) (omega arith) (rw c.in-Ok-Damaged.field-0-is at c.in-Ok-Damaged.ensures.took))

pub returns-in-Ok-TooLarge-clause-stepped : goal.returns-in-Ok-TooLarge-clause-stepped
unfolding most_bytes
returns-in-Ok-TooLarge-clause-stepped g c = rw (← c.self.view_is) (λ taken units p.
    gave_too_large c.args.version _ _ taken units _ _ _ p (rw (← c.self.view_is) at c.requires) (omega arith) (rw c.in-Ok-TooLarge.field-0-is at c.in-Ok-TooLarge.ensures.took))

pub returns-in-Err-Failed-clause-stepped : goal.returns-in-Err-Failed-clause-stepped
returns-in-Err-Failed-clause-stepped g c = rw (← c.self.view_is) (λ taken units p.
    gave_cut c.args.version _ _ taken units _ _ p (rw (← c.self.view_is) at c.requires) (c.in-Err-Failed.ensures.failed (ap Err c.in-Err-Failed.field-0-is)))

pub returns-in-Ok-Whole-clause-further : goal.returns-in-Ok-Whole-clause-further
returns-in-Ok-Whole-clause-further g c = rw (← c.self.view_is) (λ u is. let took = rw c.in-Ok-Whole.field-0-is at c.in-Ok-Whole.ensures.took in omega (arith, took.least))

pub returns-in-Ok-Whole-clause-at_hand : goal.returns-in-Ok-Whole-clause-at_hand
unfolding most_bytes
returns-in-Ok-Whole-clause-at_hand g c =
    let holds = rw (← c.self.view_is) at (hand_holds c.args.version c.args.self.now c.requires) in
    rw (← c.self.view_is) (λ taken units p hand.
    let took = rw c.in-Ok-Whole.field-0-is at (c.in-Ok-Whole.ensures.held (holds hand)) in
    unit_at_hand c.in-Ok-Whole.unit _ _ taken units _ _ p
    (gave_unit c.args.version c.in-Ok-Whole.unit c.in-Ok-Whole.size _ _ _ taken units _ _ p (rw (← c.self.view_is) at c.requires) (omega arith) refl refl refl (rw c.in-Ok-Whole.field-0-is at c.in-Ok-Whole.ensures.took)) (omega (arith, took)))

pub returns-in-Ok-Damaged-clause-at_hand : goal.returns-in-Ok-Damaged-clause-at_hand
unfolding most_bytes
returns-in-Ok-Damaged-clause-at_hand g c =
    let holds = rw (← c.self.view_is) at (hand_holds c.args.version c.args.self.now c.requires) in
    rw (← c.self.view_is) (λ taken units p hand.
    ends_at_hand (Damaged c.self.inside.place) _ taken units _ _ (c.in-Ok-Damaged.ensures.unread (holds hand))
    (gave_damaged c.args.version _ _ taken units _ _ _ p (rw (← c.self.view_is) at c.requires) (omega arith) (rw c.in-Ok-Damaged.field-0-is at c.in-Ok-Damaged.ensures.took)))
