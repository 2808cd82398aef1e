use Rattle.std.proofs.Common.{rules}
use Rattle.log_model.proofs.PrefixLemmas.{prefix_past}
use Rattle.vsl_file.proofs.WritingLemmas.{one_alone}
use Rattle.vsl_file.proofs.alone.make_each.Goals as goal

pub loop-i-preserved : goal.loop-i-preserved
loop-i-preserved c =
    one_alone c.args.vxid c.args.records.now c.loop-i.i c.get.result _ _ _ (rw c.len-i-end.ensures at c.loop-i-test.true) c.get.ensures c.loop-i.invariant c.in_ok-put_one.ensures.ok

pub returns-in_err-put_one : goal.returns-in_err-put_one
returns-in_err-put_one c = record { ok = search rules; keeps = prefix_past _ _ _ _ c.loop-i.invariant c.put_one.ensures.keeps }
