use Rattle.std.proofs.Common.{◌≡◌, Option, subst}
use Rattle.std.specs.Prelude.{IfOk}
use Rattle.ncsa_format.specs.declared.formatter.Formatter.{Formatter}
use Rattle.ncsa_format.proofs.PartLemmas.{part_is}
use Rattle.ncsa_format.proofs.tag_part.part_asked.Goals as goal

pub returns : goal.returns
returns c = subst (λ (part : Option Formatter). IfOk c.tag_part.result (λ f. f ≡ part)) (part_is _ _ _ _ _ c.cut.ensures c.cut-2.ensures) c.tag_part.ensures
