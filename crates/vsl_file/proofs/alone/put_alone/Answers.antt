use Rattle.std.proofs.Common.{◌∙◌}
use Rattle.vsl_file.proofs.WritingLemmas.{on_ok_each}
use Rattle.vsl_file.proofs.alone.put_alone.Goals as goal

pub returns-clause-ok : goal.returns-clause-ok
returns-clause-ok c = on_ok_each _ c.or_cut_back.result (λ mark. (c.or_cut_back.ensures c.args.out.now.items _ (c.len-before.ensures ∙ c.args.out.now.ok.0) c.put_one-put.ensures).ok)

pub returns-clause-err : goal.returns-clause-err
returns-clause-err c = (c.or_cut_back.ensures c.args.out.now.items _ (c.len-before.ensures ∙ c.args.out.now.ok.0) c.put_one-put.ensures).err
