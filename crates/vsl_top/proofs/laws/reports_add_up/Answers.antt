use Rattle.vsl_top.proofs.ReportLemmas.{counts_add_up, each_is_counted, each_key_once, every_key_has_a_line, lines_are_sorted}
use Rattle.vsl_top.proofs.laws.reports_add_up.Goals as goal

pub returns : goal.returns
returns c = record { once = each_key_once; counted = each_is_counted; every = every_key_has_a_line; sum = counts_add_up; ordered = lines_are_sorted }
