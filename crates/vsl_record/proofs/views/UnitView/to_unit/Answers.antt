use Rattle.std.proofs.Common.{◌≡◌, ◌∙◌, [], ◌++◌, sym, inl, inr, append-nil}
use Rattle.vsl_record.specs.Words.{words_in, unit_words}
use Rattle.vsl_record.proofs.ViewLemmas.{same_unit, no_fault}
use Rattle.vsl_record.proofs.views.UnitView.to_unit.Goals as goal

pub returns-in-Ok : goal.returns-in-Ok
returns-in-Ok c = λ u s.
    let seen = rw (← c.self.view_is) at s in
    let is : words_in c.self.inside.bytes.now ≡ unit_words u ++ [] = seen.spelled ∙ sym (append-nil (unit_words u)) in
    elim (c.in-Ok.ensures.only u [] s.unit is) [
      | inl e ↦ same_unit _ u _ e
      | inr e ↦ absurd (no_fault _ _ e)
    ]
