use Rattle.std.proofs.Common.{◌++◌, ◌∙◌, ap, ℕ, List}
use Rattle.std.proofs.lemmas.Result.{on_ok_weaker}
use Rattle.vsl_file.proofs.WritingLemmas.{unit_of_parts}
use Rattle.vsl_file.proofs.writing.put_unit.Goals as goal

pub returns-in_default-clause-ok : goal.returns-in_default-clause-ok
returns-in_default-clause-ok c =
    let u = c.args.unit.now in
    on_ok_weaker c.put_records.result (λ added. added u.mark ∙ ap (λ (x : List ℕ). c.args.out.now.items ++ x) (unit_of_parts u c.vxid.result c.records.result c.vxid.ensures c.records.ensures.records)) c.put_records.ensures.ok
