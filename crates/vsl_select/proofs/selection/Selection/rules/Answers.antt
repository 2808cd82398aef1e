use Rattle.std.proofs.Common.{Bool, ap, subst, ◌∙◌}
use Rattle.std.specs.List.{All}
use Rattle.vsl_select.specs.Showing.{Showing}
use Rattle.vsl_select.specs.inside.Reading.{IsRead}
use Rattle.vsl_select.proofs.RuleLemmas.{texts_of}
use Rattle.vsl_select.proofs.selection.Selection.rules.Goals as goal

pub returns : goal.returns
returns c = record {
  texts = ap texts_of c.deref.ensures.value ∙ ap (λ (s : Showing). s.rules) c.self.view_is;
  read = subst (λ (k : Bool). ∥ All (IsRead k) c.deref.result.now ∥₁) (ap (λ (s : Showing). s.caseless) c.self.view_is) (rw c.deref.ensures.value c.self.inside.read);
}
