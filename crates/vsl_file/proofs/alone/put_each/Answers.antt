use Rattle.std.proofs.Common.{◌∙◌}
use Rattle.vsl_file.proofs.alone.put_each.Goals as goal

pub returns : goal.returns
returns c =
    let adds = c.or_cut_back.ensures c.args.out.now.items _ (c.len-before.ensures ∙ c.args.out.now.ok.0) c.put_each_of-put.ensures in
    record { ok = adds.ok; err = adds.err }
