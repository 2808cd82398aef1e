use Rattle.std.proofs.Common.{map, refl}
use Rattle.traffic_feed.specs.declared.requests.TheConstants.{ROWS}
use Rattle.traffic_feed.proofs.MakingLemmas.{tag_at, are_tags}
use Rattle.traffic_feed.proofs.maker.Maker.make.Goals as goal

pub say_all-requires-clause-tags : goal.say_all-requires-clause-tags
say_all-requires-clause-tags c = λ k none inside. rw tag_at (are_tags (map (λ row. row.1) ROWS) refl k none.1 inside)
