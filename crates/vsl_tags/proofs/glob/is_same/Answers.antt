use Rattle.std.proofs.Common.{rules, ◌∙◌, sym}
use Rattle.std.proofs.lemmas.Slice.Eq.{bytes_eq-Decides}
use Rattle.vsl_tags.proofs.GlobLemmas.{is_same_lower}
use Rattle.vsl_tags.proofs.glob.is_same.Goals as goal

pub returns : goal.returns
returns c = search (rules, bytes_eq-Decides) ∙ sym (is_same_lower c.args.a.now c.args.b.now)
