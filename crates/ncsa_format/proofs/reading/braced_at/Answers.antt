use Rattle.std.proofs.Common.{◌≡◌, ◌∙◌, ap, sym, drop, ℕ, List, Option, subst}
use Rattle.std.specs.Prelude.{IfOk}
use Rattle.std.proofs.lemmas.List.{nil_from_length}
use Rattle.ncsa_format.specs.Reading.{behind_name}
use Rattle.ncsa_format.specs.inside.Read.{read_of}
use Rattle.ncsa_format.specs.declared.formatter.Formatter.{Formatter}
use Rattle.ncsa_format.proofs.FormatterLemmas.{braced_is}
use Rattle.ncsa_format.proofs.reading.braced_at.Goals as goal

pub returns-in-Some : goal.returns-in-Some
returns-in-Some c =
    subst (λ (found : Option (Formatter × List ℕ)). IfOk c.behind_name.result (λ r. read_of r ≡ found))
    (ap (λ behind. behind_name c.cut.result.0.now (drop 1 behind)) (sym c.in-Some.ensures.cases.0) ∙ braced_is _ _ _ c.cut.ensures)
    c.behind_name.ensures

pub returns-in-None : goal.returns-in-None
returns-in-None c = ap (λ behind. behind_name c.cut.result.0.now (drop 1 behind)) (sym (nil_from_length _ c.in-None.ensures.cases)) ∙ braced_is _ _ _ c.cut.ensures
