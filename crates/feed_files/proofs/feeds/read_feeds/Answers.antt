-- A feed stops those behind it, or there is no memory for its listing.
use Rattle.std.proofs.lemmas.Result.{err_from_is_err_and}
use Rattle.feed_files.proofs.FeedLemmas.{until_more, until_halted, until_lacked}
use Rattle.feed_files.proofs.feeds.read_feeds.Goals as goal

pub returns-in_err-listing : goal.returns-in_err-listing
returns-in_err-listing g c =
    let took = rw c.as_str.ensures at c.in_err-listing.ensures.took in let halt = err_from_is_err_and c.from_residual.result c.from_residual.ensures.1 in
    record { took = rw (halt.1, halt.2) (until_halted c.args.reclen c.args.shape c.loop-index.index c.args.names.now c.loop-index.listings.items c.index-names-index.result _ _ _ _ c.loop-index-test.true c.index-names-index.is c.loop-index.invariant took) }

pub returns-in_err-push : goal.returns-in_err-push
returns-in_err-push g c =
    let took = rw c.as_str.ensures at c.in_ok-listing.ensures.took in let halt = err_from_is_err_and c.from_residual-in_err-push.result c.from_residual-in_err-push.ensures.1 in
    let more = until_more c.args.reclen c.args.shape c.loop-index.index c.args.names.now c.loop-index.listings.items c.index-names-index.result c.in_ok-listing.listing _ _ _ c.loop-index-test.true c.index-names-index.is c.loop-index.invariant took in
    record { took = rw (halt.1, halt.2) (until_lacked c.args.reclen c.args.shape _ c.args.names.now _ _ _ more) }
