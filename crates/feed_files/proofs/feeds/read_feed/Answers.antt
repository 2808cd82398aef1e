-- The file has a bad line.
use Rattle.std.proofs.Common.{Err, ap}
use Rattle.feed_files.proofs.FeedLemmas.{took_bad}
use Rattle.feed_files.proofs.feeds.read_feed.Goals as goal

pub returns-in-Err-BadLine : goal.returns-in-Err-BadLine
returns-in-Err-BadLine g c =
    let bad = rw c.deref.ensures.value at (c.in-Err-BadLine.ensures.refused c.in-Err-BadLine.line (ap (λ f. Err f) c.in-Err-BadLine.field-0-is)) in
    record { took = took_bad c.in-Ok.ensures.1 bad c.in-Ok-read_named.ensures.reads }
