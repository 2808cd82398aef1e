use Rattle.std.proofs.Common.{None, sym, ◌∙◌}
use Rattle.query_grammar.specs.Steps.{steps_of}
use Rattle.query_grammar.proofs.Postfix.{one_tree}
use Rattle.query_grammar.proofs.Scan.{ok_is}
use Rattle.query_grammar.specs.Lines.{lines_of}
use Rattle.query_grammar.proofs.Lines.{lines_read, lines_found, queries_read, queries_found}
use Rattle.query_grammar.proofs.Fine.{fine_lines_read, fine_lines_found}
use Rattle.query_grammar.specs.Judging.{rules_of}
use Rattle.query_grammar.specs.Fine.{IsFineQuery}
use Rattle.query_grammar.proofs.Looser.{lines_looser}
use Rattle.query_grammar.proofs.TextStops.{text_stops_at}
use Rattle.query_grammar.proofs.laws.text_reading.Goals as goal

pub returns-clause-complete : goal.returns-clause-complete
returns-clause-complete c = λ text q is. queries_read (lines_of text) 0 None q is

pub returns-clause-sound : goal.returns-clause-sound
returns-clause-sound c = λ rules are text out e.
    let h = queries_found (lines_of text) 0 None out ((lines_looser rules (lines_of text) 0 None are).same_ok out e) in
    (h.query, h.are, h.steps)

pub returns-clause-stops : goal.returns-clause-stops
returns-clause-stops c = λ rules are text at e. text_stops_at text at ((lines_looser rules (lines_of text) 0 None are).same_stop at e)

pub returns-clause-one_tree : goal.returns-clause-one_tree
returns-clause-one_tree c = λ text p q is_p is_q. one_tree p q (ok_is (steps_of p) (steps_of q) (sym (queries_read (lines_of text) 0 None p is_p) ∙ queries_read (lines_of text) 0 None q is_q))

pub returns-clause-fine : goal.returns-clause-fine
returns-clause-fine c = λ is_tag is_decimal is_pattern most text q is. lines_read (rules_of is_tag is_decimal is_pattern most) (IsFineQuery is_tag is_decimal is_pattern most) (fine_lines_read is_tag is_decimal is_pattern most) (lines_of text) 0 None q is

pub returns-clause-only_fine : goal.returns-clause-only_fine
returns-clause-only_fine c = λ is_tag is_decimal is_pattern most text out e.
    let h = lines_found (rules_of is_tag is_decimal is_pattern most) (IsFineQuery is_tag is_decimal is_pattern most) (fine_lines_found is_tag is_decimal is_pattern most) (lines_of text) 0 None out e in
    (h.query, h.are, h.steps)
