-- what is left comes to what all words come to
use Rattle.std.proofs.Common.{◌≡◌, length, map}
use Rattle.std.specs.String.{string_bytes}
use Rattle.word_forms.specs.Items.{folded}
use Rattle.word_forms.specs.Words.{left}
use Rattle.vslog.specs.Words.{job_as, job_of, log_rows, usage_of, with_next}
use Rattle.vslog.proofs.words.read_job.Given as goal

abbrev pub invariant-loop-one : goal.invariant-loop-one
invariant-loop-one l = folded with_next usage_of (job_as l.job) (left log_rows l.left) ≡ job_of (map string_bytes l.words)

abbrev pub decreases-loop-one : goal.decreases-loop-one
decreases-loop-one l = length (left log_rows l.left)
