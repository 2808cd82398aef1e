-- Every job keeps to the limits.
use Rattle.std.proofs.Common.{◌≡◌, ℕ, ◌+◌, ◌≤◌, Bool, true, false, List, [], ◌∷◌, Option, Some, None, Result, Ok, Err, length, arith, lit≤, refl, subst, leb}
use Rattle.std.specs.Prelude.{IfSome, IfOk, unwrap_or, position, take, drop, if◌then◌else◌}
use Rattle.std.proofs.lemmas.Option.{IfSome_then}
use Rattle.vsl_decimal.specs.Whole.{whole_number}
use Rattle.vsl_decimal.proofs.WholeLemmas.{whole_number-writes}
use Rattle.tool_words.specs.declared.fault.UsageFault.{UsageFault}
use Rattle.tool_words.specs.declared.fault.UsageFault.TheVariants.{NoOnce, NoLog, TwoLogs}
use Rattle.tool_words.specs.declared.fault.WordsFault.{WordsFault}
use Rattle.tool_words.specs.declared.job.Job.{Job}
use Rattle.tool_words.specs.declared.job.Tool.{Tool}
use Rattle.tool_words.specs.declared.options.Choice.{Choice}
use Rattle.tool_words.specs.declared.options.Choice.TheVariants.{FeedFirst, Keep, Limit, Made, RecordLength, Segment, Timeout, Turns}
use Rattle.tool_words.specs.declared.reading.Given.{Given}
use Rattle.tool_words.specs.declared.reading.Reading.{Reading}
use Rattle.tool_words.specs.Answers.{Gives}
use Rattle.tool_words.specs.Fold.{number_for, plain_job, with_choice, with_options}
use Rattle.tool_words.specs.Job.{job_from, job_of, job_read, lacks_log, has_two_logs}
use Rattle.tool_words.specs.Number.{number_in, both, count_and_seed_at, is_comma}
use Rattle.tool_words.specs.Reading.{read_all}
use Rattle.tool_words.specs.Sound.{IsWithin, AreInRange, IsSound}
use Rattle.tool_words.proofs.ListingLemmas.{listings, all-few, feeds-with_options}

-- a number that is read is in its range
pub number_in-range : (low high : ℕ) (text : List ℕ) → IfSome (number_in low high text) (λ n. IsWithin low high n)
number_in-range low high text = elim (leb (length text) 9) as (λ short. IfSome (if short then whole_number low high text else None) (λ n. IsWithin low high n)) [
  | true ↦ IfSome_then (whole_number low high text) (whole_number-writes low high text) (λ n is. (is.3, is.4))
  | false ↦ tt
]

-- a number that is read, or another in the range
or_within : (o : Option ℕ) (low high before : ℕ) → IfSome o (λ n. IsWithin low high n) → IsWithin low high before → IsWithin low high (unwrap_or o before)
or_within (Some n) low high before read was = read
or_within None low high before read was = was

both_within : (count seed : Option ℕ) → IfSome count (λ n. IsWithin 1 100000 n) → IfSome seed (λ n. IsWithin 0 65536 n) → IfSome (both count seed) (λ n. IsWithin 1 100000 n.0 × IsWithin 0 65536 n.1)
both_within None seed c s = tt
both_within (Some count) None c s = tt
both_within (Some count) (Some seed) c s = (c, s)

made_within : (at : Option ℕ) (text : List ℕ) → IfSome (count_and_seed_at at text) (λ n. IsWithin 1 100000 n.0 × IsWithin 0 65536 n.1)
made_within None text = tt
made_within (Some at) text = both_within _ _ (number_in-range 1 100000 (take at text)) (number_in-range 0 65536 (drop (at + 1) text))

-- the numbers of a job are in their ranges
abbrev HasNumbers : Job → Type 0
HasNumbers job = AreInRange job.seg job.reclen job.limit job.timeout job.keep job.made job.order

numbers-plain : (tool : Tool) → HasNumbers (plain_job tool)
numbers-plain tool = record {
  segment = (lit≤ tt, lit≤ tt);
  record_length = (lit≤ tt, lit≤ tt);
  pending = (lit≤ tt, lit≤ tt);
  seconds = (lit≤ tt, lit≤ tt);
  groups = tt;
  requests = tt;
  turns = tt;
}

-- an option keeps the numbers in their ranges
numbers-with_choice : (choice : Choice) (at : ℕ) (value : List ℕ) (job : Job) → HasNumbers job → HasNumbers (with_choice choice at value job)
numbers-with_choice FeedFirst at value job n = record { segment = n.segment; record_length = n.record_length; pending = n.pending; seconds = n.seconds; groups = n.groups; requests = n.requests; turns = tt }
numbers-with_choice Keep at value job n = record { segment = n.segment; record_length = n.record_length; pending = n.pending; seconds = n.seconds; groups = number_in-range 1 999999999 value; requests = n.requests; turns = n.turns }
numbers-with_choice Limit at value job n = record { segment = n.segment; record_length = n.record_length; pending = or_within _ _ _ _ (number_in-range 1 1000000 value) n.pending; seconds = n.seconds; groups = n.groups; requests = n.requests; turns = n.turns }
numbers-with_choice Made at value job n = record { segment = n.segment; record_length = n.record_length; pending = n.pending; seconds = n.seconds; groups = n.groups; requests = made_within (position is_comma value) value; turns = n.turns }
numbers-with_choice RecordLength at value job n = record { segment = n.segment; record_length = or_within _ _ _ _ (number_in-range 16 4000 value) n.record_length; pending = n.pending; seconds = n.seconds; groups = n.groups; requests = n.requests; turns = n.turns }
numbers-with_choice Segment at value job n = record { segment = or_within _ _ _ _ (number_in-range 64 1048576 value) n.segment; record_length = n.record_length; pending = n.pending; seconds = n.seconds; groups = n.groups; requests = n.requests; turns = n.turns }
numbers-with_choice Timeout at value job n = record { segment = n.segment; record_length = n.record_length; pending = n.pending; seconds = or_within _ _ _ _ (number_in-range 1 1000000 value) n.seconds; groups = n.groups; requests = n.requests; turns = n.turns }
numbers-with_choice Turns at value job n = record { segment = n.segment; record_length = n.record_length; pending = n.pending; seconds = n.seconds; groups = n.groups; requests = n.requests; turns = (or_within (number_for Turns value) 0 65536 0 (number_in-range 0 65536 value) (lit≤ tt, lit≤ tt)).1 }
numbers-with_choice choice at value job n = n

numbers-with_options : (given : List Given) (job : Job) → HasNumbers job → HasNumbers (with_options given job)
numbers-with_options [] job n = n
numbers-with_options (one ∷ given) job n = numbers-with_options given (with_choice one.choice one.word one.value job) (numbers-with_choice one.choice one.word one.value job n)

-- the tests, by what each found
abbrev after_tests : Bool → Bool → Bool → Job → Result Job UsageFault
after_tests endless none two job = if endless then Err NoOnce else (if none then Err NoLog else (if two then Err TwoLogs else Ok job))

-- a job that passes the tests has one log
passed : (endless none two : Bool) (job found : Job) → lacks_log job ≡ none → has_two_logs job ≡ two → HasNumbers job → length job.feeds ≤ 16
    → after_tests endless none two job ≡ Ok found → IsSound found
passed true none two job found l t n f e = absurd (let bad : ⊥ = cc in bad)
passed false true two job found l t n f e = absurd (let bad : ⊥ = cc in bad)
passed false false true job found l t n f e = absurd (let bad : ⊥ = cc in bad)
passed false false false job found l t n f e =
    let same : job ≡ found = cc in
    subst IsSound same (record { numbers = n; log = l; one_log = t; feeds = f })

from : (tool : Option Tool) (given : List Given) (found : Job) → listings given ≤ 16 → job_from tool given ≡ Ok found → IsSound found
from None given found few e = absurd (let bad : ⊥ = cc in bad)
from (Some tool) given found few e =
    let job : Job = with_options given (plain_job tool) in
    passed _ _ _ job found refl refl (numbers-with_options given (plain_job tool) (numbers-plain tool)) (omega (arith, feeds-with_options given (plain_job tool))) e

read : (reading : Result Reading UsageFault) (found : Job) → IfOk reading (λ r. listings r.given ≤ 16) → job_read reading ≡ Ok found → IsSound found
read (Ok reading) found few e = from reading.tool reading.given found few e
read (Err fault) found few e = absurd (let bad : ⊥ = cc in bad)

-- a job that is answered is sound
pub sound_answer : (answer : Result Job WordsFault) (words : List (List ℕ)) → Gives answer (job_of words) → IfOk answer (λ job. IsSound job)
sound_answer (Ok job) words given = read (read_all words) job (all-few words) given
sound_answer (Err fault) words given = tt
