use Rattle.std.proofs.Common.{rules}
use Rattle.std.proofs.lemmas.Iterator.{YieldsList-from_slice}
use Rattle.std.proofs.lemmas.Iterator.Search.{all_from_yields_List}
use borrow.Author.Tests.{tests}
use Rattle.varnish_log.specs.First.{is_text}
use Rattle.varnish_log.proofs.first.is_all_text.Goals as goal

pub returns : goal.returns
returns c = all_from_yields_List is_text _ _ _ c.all.ensures.ran (YieldsList-from_slice c.args.bytes.now (search rules)) (λ x b q k. search (rules, tests))
