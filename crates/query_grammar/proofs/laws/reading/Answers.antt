use Rattle.std.proofs.Common.{sym, ◌∙◌}
use Rattle.query_grammar.specs.Steps.{steps_of}
use Rattle.query_grammar.specs.Scanner.{begin}
use Rattle.query_grammar.proofs.Scan.{ok_is}
use Rattle.query_grammar.proofs.Lines.{line_read, query_read}
use Rattle.query_grammar.proofs.Stops.{stops_at}
use Rattle.query_grammar.proofs.Looser.{run_looser}
use Rattle.query_grammar.proofs.Rulings.{are_rules}
use Rattle.query_grammar.proofs.Fine.{fine_lines_read, fine_lines_found}
use Rattle.query_grammar.proofs.Postfix.{one_tree}
use Rattle.query_grammar.proofs.Stands.{stands}
use Rattle.query_grammar.proofs.laws.reading.Goals as goal

pub returns-clause-complete : goal.returns-clause-complete
returns-clause-complete c = query_read 0

pub returns-clause-sound : goal.returns-clause-sound
returns-clause-sound c = λ rules are line out e.
    let h = line_read 0 line out ((run_looser rules line 0 begin are).same_ok out e) in
    (h.query, h.whole, h.steps)

pub returns-clause-stops : goal.returns-clause-stops
returns-clause-stops c = λ rules are line at e. stops_at line at ((run_looser rules line 0 begin are).same_stop at e)

pub returns-clause-one_tree : goal.returns-clause-one_tree
returns-clause-one_tree c = λ line p q is_p is_q. one_tree p q (ok_is (steps_of p) (steps_of q) (sym (query_read 0 line p is_p) ∙ query_read 0 line q is_q))

pub returns-clause-rules : goal.returns-clause-rules
returns-clause-rules c = are_rules

pub returns-clause-fine : goal.returns-clause-fine
returns-clause-fine c = λ is_tag is_decimal is_pattern most line q is f. (fine_lines_read is_tag is_decimal is_pattern most).each 0 line q (is, f)

pub returns-clause-only_fine : goal.returns-clause-only_fine
returns-clause-only_fine c = λ is_tag is_decimal is_pattern most line out e.
    let h = (fine_lines_found is_tag is_decimal is_pattern most).each 0 line out e in
    (h.query, h.is.0, h.is.1, h.steps)

pub returns-clause-stands : goal.returns-clause-stands
returns-clause-stands c = λ l line f e. stands l 0 line f e
