-- A text that has no byte to escape is its own.
use Rattle.std.proofs.Common.{sym, ap, ◌++◌, ◌∙◌, List, ℕ}
use Rattle.log_model.proofs.AddingLemmas.{puts_all}
use Rattle.log_model.proofs.EscapingLemmas.{printed_plain}
use Rattle.log_model.proofs.escaping.put_escaped.Goals as goal

pub returns : goal.returns
returns g c =
    puts_all (c.in_ok-extend_from_slice.ensures.items ∙ ap (λ (x : List ℕ). c.args.out.now.items ++ x) (sym (printed_plain g.E.Escapes.escapes g.E.Escapes.printed g.met.E.Escapes.plain c.args.text.now (sym c.has_any_escape.ensures ∙ c.if-has_any_escape.false))))
