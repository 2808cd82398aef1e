use Rattle.std.proofs.Common.{◌∙◌, ap, drop, List, ℕ}
use Rattle.vsl_file.proofs.WritingLemmas.{body_behind}
use Rattle.vsl_file.proofs.alone.put_each_of.Goals as goal

pub copy_each-requires : goal.copy_each-requires
copy_each-requires c = rw (c.vxid-2.ensures, c.records-2.ensures.records) (c.split_at.ensures.back ∙ body_behind c.args.unit.now _ c.in-Some.ensures)
