use Rattle.std.proofs.Common.{◌∙◌}
use Rattle.vsl_stat.proofs.report.stat_text.Goals as goal

pub returns : goal.returns
returns c = c.or_cut_back.ensures c.args.out.now.items _ (c.len-before.ensures ∙ c.args.out.now.ok.0) c.put_all_told-put.ensures
