use Rattle.std.proofs.Common.{rules}
use Rattle.std.proofs.lemmas.Fmt.{length-decimal-le}
use Rattle.vsl_select.proofs.PartLemmas.{at_right_cut, at_right_written}
use Rattle.vsl_select.proofs.vxid_columns.columns_of.Goals as goal

pub write_digits-first-requires : goal.write_digits-first-requires
write_digits-first-requires c = search (rules, length-decimal-le 20)

pub returns-clause-text : goal.returns-clause-text
returns-clause-text c =
    let d = c.write_digits-first.ensures in
    rw c.min.ensures (at_right_cut 10 10 _ _ _ _ d.start (at_right_written 20 _ 1 _ _ d.start d.written d.before))
