use Rattle.std.proofs.Common.{◌≡◌, ◌<◌, ◌≤◌, length}
use Rattle.vsl_record.specs.Words.{words_in}
use Rattle.log_ring.specs.inside.Steps.{HasCopied}
use Rattle.log_ring.proofs.ring.Ring.copy.Given as goal

-- the words below this one are copied
abbrev pub invariant-loop-word : goal.invariant-loop-word
invariant-loop-word g l =
    (l.seat.table_id ≡ l.initial.seat.table_id) × HasCopied l.head l.word (words_in l.bytes) l.fn.seat.me l.seat.me × (l.word ≤ l.count) × (0 < l.word) × (length l.bytes ≡ length l.fn.bytes)
