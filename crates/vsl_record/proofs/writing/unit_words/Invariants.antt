-- the words so far, and those that are left
use Rattle.std.proofs.Common.{◌≡◌, ◌++◌, length}
use Rattle.vsl_record.specs.Words.{unit_words}
use Rattle.vsl_record.proofs.writing.unit_words.Given as goal

abbrev pub invariant-loop-word : goal.invariant-loop-word
invariant-loop-word l = l.words.items ++ l.left ≡ unit_words l.unit

abbrev pub decreases-loop-word : goal.decreases-loop-word
decreases-loop-word l = length l.left
