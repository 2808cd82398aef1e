use Rattle.std.proofs.Common.{◌∙◌, ap}
use Rattle.std.specs.Map.{lookup}
use Rattle.vsl_top.specs.Report.{is_same}
use Rattle.vsl_top.proofs.CountLemmas.{counted_new}
use Rattle.vsl_top.proofs.TableLemmas.{same_counted}
use Rattle.vsl_top.proofs.counts.Counts.add_new.Goals as goal

pub returns : goal.returns
returns c = λ keys so_far.
    let same = c.in_ok-seed.ensures in
    counted_new keys c.seed.new.self _ _ c.in_ok-key.key (same_counted keys c.args.self.now c.seed.new.self same so_far) (ap (lookup (is_same _)) same ∙ c.requires) c.in_ok-key.ensures c.in_ok-insert.ensures.updates c.insert.ensures.unique
