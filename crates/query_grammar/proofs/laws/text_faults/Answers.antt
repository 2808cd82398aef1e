use Rattle.std.proofs.Common.{None, sym, ap, ◌∙◌}
use Rattle.std.specs.Result.{result_err}
use Rattle.query_grammar.specs.Judging.{rules_of}
use Rattle.query_grammar.specs.Lines.{lines_of}
use Rattle.query_grammar.specs.Fine.{IsFineQuery}
use Rattle.query_grammar.proofs.Lines.{lines_read, lines_found}
use Rattle.query_grammar.proofs.Fine.{fine_lines_read, fine_lines_found}
use Rattle.query_grammar.proofs.Looser.{lines_looser}
use Rattle.query_grammar.proofs.Rulings.{are_rules}
use Rattle.query_grammar.proofs.TextStops.{text_stops_at}
use Rattle.query_grammar.proofs.TextFaults.{faultless, fault_is, fault_read}
use Rattle.query_grammar.proofs.Stands.{text_stands}
use Rattle.query_grammar.proofs.laws.text_faults.Goals as goal

pub returns-clause-none : goal.returns-clause-none
returns-clause-none c = λ is_tag is_decimal is_pattern most text e.
    let clean = faultless is_tag is_decimal is_pattern most text e in
    let h = lines_found (rules_of is_tag is_decimal is_pattern most) (IsFineQuery is_tag is_decimal is_pattern most) (fine_lines_found is_tag is_decimal is_pattern most) (lines_of text) 0 None clean.read.steps clean.read.read in
    (clean.utf8, h.query, h.are)

pub returns-clause-only_none : goal.returns-clause-only_none
returns-clause-only_none c = λ is_tag is_decimal is_pattern most text q u is.
    fault_is is_tag is_decimal is_pattern most text u
    ∙ ap result_err (lines_read (rules_of is_tag is_decimal is_pattern most) (IsFineQuery is_tag is_decimal is_pattern most) (fine_lines_read is_tag is_decimal is_pattern most) (lines_of text) 0 None q is)

pub returns-clause-syntax : goal.returns-clause-syntax
returns-clause-syntax c = λ is_tag is_decimal is_pattern most text at u e.
    let stopped = fault_read _ _ (sym (fault_is is_tag is_decimal is_pattern most text u) ∙ e) in
    text_stops_at text at ((lines_looser (rules_of is_tag is_decimal is_pattern most) (lines_of text) 0 None (are_rules is_tag is_decimal is_pattern most)).same_stop at stopped)

pub returns-clause-stands : goal.returns-clause-stands
returns-clause-stands c = λ l text f u e. text_stands l text f (fault_read _ _ (sym (fault_is l.is_tag l.is_decimal l.is_pattern l.most text u) ∙ e))
