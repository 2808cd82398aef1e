-- Worked command lines: what is wrong with them, or what their job says.
use Rattle.std.proofs.Common.{◌≡◌, ℕ, zero, suc, List, [], ◌∷◌, true, false, refl}
use Rattle.std.specs.Prelude.{codes, replicate, Ok, Err, Some}
use Rattle.tool_words.specs.declared.fault.UsageFault.TheVariants.{UnknownTool, UnknownOption, NoValue, BadValue, NotHere, NoTool, NoOnce, NoLog, TwoLogs}
use Rattle.txn_rows.specs.declared.group.Grouping.TheVariants as groupings
use Rattle.tool_words.specs.declared.job.Order.TheVariants.{Turns, FeedFirst}
use Rattle.tool_words.specs.declared.job.StatMode.TheVariants as modes
use Rattle.tool_words.specs.declared.job.Tool.TheVariants as tools
use Rattle.tool_words.specs.Fold.{plain_job}
use Rattle.tool_words.specs.Job.{job_of}

top_without_once : job_of (codes "varnishtop" ∷ codes "-r" ∷ codes "f" ∷ []) ≡ Err NoOnce
top_without_once = refl

file_without_name : job_of (codes "varnishlog" ∷ codes "-r" ∷ []) ≡ Err (NoValue 1)
file_without_name = refl

no_groups : job_of (codes "varnishlog" ∷ codes "-k0" ∷ codes "-r" ∷ codes "f" ∷ []) ≡ Err (BadValue 1)
no_groups = refl

no_words : job_of [] ≡ Err NoTool
no_words = refl

name_of_an_instance : job_of (codes "varnishlog" ∷ codes "-n" ∷ codes "x" ∷ codes "-r" ∷ codes "f" ∷ []) ≡ Err (NotHere 1)
name_of_an_instance = refl

no_log : job_of (codes "varnishlog" ∷ []) ≡ Err NoLog
no_log = refl

-- the words of so many listings, and then these
abbrev feeds_then : ℕ → List (List ℕ) → List (List ℕ)
feeds_then zero words = words
feeds_then (suc n) words = codes "--feed" ∷ codes "a" ∷ feeds_then n words

seventeen_listings : job_of (feeds_then 17 []) ≡ Err (BadValue 33)
seventeen_listings = refl

seventeenth_without_a_name : job_of (feeds_then 16 (codes "--feed" ∷ [])) ≡ Err (NoValue 32)
seventeenth_without_a_name = refl

sixteen_listings : job_of (feeds_then 16 (codes "varnishlog" ∷ [])) ≡ Ok (record (plain_job tools.Log) { feeds = replicate 16 (codes "a") })
sixteen_listings = refl

minus_before_the_tool : job_of (codes "-" ∷ codes "varnishlog" ∷ []) ≡ Err (UnknownOption 0)
minus_before_the_tool = refl

minus_after_the_tool : job_of (codes "varnishlog" ∷ codes "-" ∷ []) ≡ Err (UnknownOption 1)
minus_after_the_tool = refl

two_minus_before_the_tool : job_of (codes "--" ∷ []) ≡ Err (UnknownOption 0)
two_minus_before_the_tool = refl

two_minus_after_the_tool : job_of (codes "varnishlog" ∷ codes "--" ∷ []) ≡ Err (UnknownOption 1)
two_minus_after_the_tool = refl

empty_word_before_the_tool : job_of ([] ∷ []) ≡ Err (UnknownTool 0)
empty_word_before_the_tool = refl

empty_word_after_the_tool : job_of (codes "varnishlog" ∷ [] ∷ []) ≡ Err (UnknownOption 1)
empty_word_after_the_tool = refl

rest_is_the_value : job_of (codes "varnishlog" ∷ codes "-qr" ∷ codes "f" ∷ []) ≡ Err (UnknownOption 2)
rest_is_the_value = refl

bad_value_in_the_next_word : job_of (codes "varnishlog" ∷ codes "-k" ∷ codes "1000000000" ∷ []) ≡ Err (BadValue 2)
bad_value_in_the_next_word = refl

first_fault_from_the_left : job_of (codes "varnishlog" ∷ codes "-aZn" ∷ codes "-k0" ∷ []) ≡ Err (UnknownOption 1)
first_fault_from_the_left = refl

two_logs_after_all_else : job_of (codes "--feed" ∷ codes "a" ∷ codes "varnishlog" ∷ codes "-r" ∷ codes "f" ∷ []) ≡ Err TwoLogs
two_logs_after_all_else = refl

fault_before_two_logs : job_of (codes "--feed" ∷ codes "a" ∷ codes "varnishlog" ∷ codes "-r" ∷ codes "f" ∷ codes "-k0" ∷ []) ≡ Err (BadValue 5)
fault_before_two_logs = refl

access_lines_by_session : job_of (codes "varnishncsa" ∷ codes "-gsession" ∷ []) ≡ Err (BadValue 1)
access_lines_by_session = refl

counters_of_no_log : job_of (codes "varnishstat" ∷ codes "-l" ∷ []) ≡ Ok (record (plain_job tools.Stat) { stat = modes.List })
counters_of_no_log = refl

counters_before_json : job_of (codes "varnishstat" ∷ codes "-l1j" ∷ []) ≡ Ok (record (plain_job tools.Stat) { stat = modes.List })
counters_before_json = refl

joined_letters : job_of (codes "varnishlog" ∷ codes "-dgraw" ∷ codes "-ar" ∷ codes "f" ∷ [])
    ≡ Ok (record (plain_job tools.Log) { grouping = groupings.Raw; append = true; file = Some (codes "f") })
joined_letters = refl

last_grouping_counts : job_of (codes "varnishlog" ∷ codes "-graw" ∷ codes "-g" ∷ codes "session" ∷ codes "-rf" ∷ [])
    ≡ Ok (record (plain_job tools.Log) { grouping = groupings.Session; file = Some (codes "f") })
last_grouping_counts = refl

queries_gather : job_of (codes "varnishlog" ∷ codes "-qEnd" ∷ codes "-Q" ∷ codes "-" ∷ codes "-r" ∷ codes "-" ∷ [])
    ≡ Ok (record (plain_job tools.Log) { queries = record { file = false; text = codes "End" } ∷ record { file = true; text = codes "-" } ∷ []; file = Some (codes "-") })
queries_gather = refl

rules_have_places : job_of (codes "varnishlog" ∷ codes "-iEnd" ∷ codes "-X" ∷ codes "x" ∷ codes "-r" ∷ codes "f" ∷ [])
    ≡ Ok (record (plain_job tools.Log) {
      rules = record { include = true; regex = false; text = codes "End"; word = 1 } ∷ record { include = false; regex = true; text = codes "x"; word = 3 } ∷ [];
      file = Some (codes "f");
    })
rules_have_places = refl

made_requests : job_of (codes "--gen" ∷ codes "4,7" ∷ codes "--turns" ∷ codes "07" ∷ codes "--ring" ∷ codes "64" ∷ codes "varnishlog" ∷ [])
    ≡ Ok (record (plain_job tools.Log) { made = Some (4, 7); order = Turns 7; seg = 64 })
made_requests = refl

last_order_counts : job_of (codes "--turns" ∷ codes "7" ∷ codes "--feed-first" ∷ codes "--feed" ∷ codes "a" ∷ codes "varnishlog" ∷ [])
    ≡ Ok (record (plain_job tools.Log) { order = FeedFirst; feeds = codes "a" ∷ [] })
last_order_counts = refl

counters_without_once : job_of (codes "varnishstat" ∷ []) ≡ Err NoOnce
counters_without_once = refl

counters_of_a_file : job_of (codes "varnishstat" ∷ codes "-1" ∷ codes "-r" ∷ codes "f" ∷ []) ≡ Err (NotHere 2)
counters_of_a_file = refl

counters_once_without_a_log : job_of (codes "varnishstat" ∷ codes "-1" ∷ []) ≡ Err NoLog
counters_once_without_a_log = refl

once_is_asked_before_the_log : job_of (codes "varnishtop" ∷ []) ≡ Err NoOnce
once_is_asked_before_the_log = refl

taglists_are_tested_later : job_of (codes "varnishlog" ∷ codes "-i" ∷ codes "Nope" ∷ []) ≡ Err NoLog
taglists_are_tested_later = refl

operand : job_of (codes "varnishlog" ∷ codes "-a" ∷ codes "f" ∷ []) ≡ Err (UnknownOption 2)
operand = refl

letter_of_no_column : job_of (codes "varnishncsa" ∷ codes "-i" ∷ []) ≡ Err (UnknownOption 1)
letter_of_no_column = refl

letter_of_another_byte : job_of (codes "varnishlog" ∷ codes "-Z" ∷ []) ≡ Err (UnknownOption 1)
letter_of_another_byte = refl

unknown_tool : job_of (codes "vlog" ∷ codes "varnishlog" ∷ []) ≡ Err (UnknownTool 0)
unknown_tool = refl

name_as_a_part_of_another : job_of (codes "varnishlogs" ∷ []) ≡ Err (UnknownTool 0)
name_as_a_part_of_another = refl

unknown_word_before_the_tool : job_of (codes "-a" ∷ codes "varnishlog" ∷ []) ≡ Err (UnknownOption 0)
unknown_word_before_the_tool = refl

value_of_the_last_letter_alone : job_of (codes "varnishlog" ∷ codes "-ar" ∷ []) ≡ Err (NoValue 1)
value_of_the_last_letter_alone = refl

feed_without_a_name : job_of (codes "--feed" ∷ []) ≡ Err (NoValue 0)
feed_without_a_name = refl

made_requests_without_a_seed : job_of (codes "--gen" ∷ codes "4" ∷ codes "varnishlog" ∷ []) ≡ Err (BadValue 1)
made_requests_without_a_seed = refl

no_made_requests : job_of (codes "--gen" ∷ codes "0,7" ∷ codes "varnishlog" ∷ []) ≡ Err (BadValue 1)
no_made_requests = refl

too_many_made_requests : job_of (codes "--gen" ∷ codes "100001,7" ∷ codes "varnishlog" ∷ []) ≡ Err (BadValue 1)
too_many_made_requests = refl

segment_too_small : job_of (codes "--ring" ∷ codes "63" ∷ codes "varnishlog" ∷ []) ≡ Err (BadValue 1)
segment_too_small = refl

segment_too_large : job_of (codes "--ring" ∷ codes "1048577" ∷ codes "varnishlog" ∷ []) ≡ Err (BadValue 1)
segment_too_large = refl

record_too_short : job_of (codes "--reclen" ∷ codes "15" ∷ codes "varnishlog" ∷ []) ≡ Err (BadValue 1)
record_too_short = refl

record_too_long : job_of (codes "--reclen" ∷ codes "4001" ∷ codes "varnishlog" ∷ []) ≡ Err (BadValue 1)
record_too_long = refl

seed_too_large : job_of (codes "--turns" ∷ codes "65537" ∷ codes "varnishlog" ∷ []) ≡ Err (BadValue 1)
seed_too_large = refl

ten_digits : job_of (codes "varnishlog" ∷ codes "-k" ∷ codes "0000000001" ∷ codes "-rf" ∷ []) ≡ Err (BadValue 2)
ten_digits = refl

number_with_a_sign : job_of (codes "varnishlog" ∷ codes "-k" ∷ codes "-1" ∷ codes "-rf" ∷ []) ≡ Err (BadValue 2)
number_with_a_sign = refl

empty_number : job_of (codes "varnishlog" ∷ codes "-k" ∷ [] ∷ codes "-rf" ∷ []) ≡ Err (BadValue 2)
empty_number = refl

no_pending_transactions : job_of (codes "varnishlog" ∷ codes "-L" ∷ codes "0" ∷ codes "-rf" ∷ []) ≡ Err (BadValue 2)
no_pending_transactions = refl

too_many_seconds : job_of (codes "varnishlog" ∷ codes "-T" ∷ codes "1000001" ∷ codes "-rf" ∷ []) ≡ Err (BadValue 2)
too_many_seconds = refl

unknown_grouping : job_of (codes "varnishlog" ∷ codes "-g" ∷ codes "Raw" ∷ codes "-rf" ∷ []) ≡ Err (BadValue 2)
unknown_grouping = refl

bad_value_before_a_missing_one : job_of (codes "varnishlog" ∷ codes "-k" ∷ codes "x" ∷ codes "-r" ∷ []) ≡ Err (BadValue 2)
bad_value_before_a_missing_one = refl

two_logs_by_made_requests : job_of (codes "--gen" ∷ codes "4,7" ∷ codes "varnishlog" ∷ codes "-rf" ∷ []) ≡ Err TwoLogs
two_logs_by_made_requests = refl

leading_zeros : job_of (codes "varnishlog" ∷ codes "-k" ∷ codes "007" ∷ codes "-rf" ∷ [])
    ≡ Ok (record (plain_job tools.Log) { keep = Some 7; file = Some (codes "f") })
leading_zeros = refl

value_with_a_minus_sign : job_of (codes "varnishlog" ∷ codes "-r" ∷ codes "-k" ∷ codes "-q" ∷ codes "-r" ∷ [])
    ≡ Ok (record (plain_job tools.Log) { file = Some (codes "-k"); queries = record { file = false; text = codes "-r" } ∷ [] })
value_with_a_minus_sign = refl

tool_as_a_value : job_of (codes "--feed" ∷ codes "varnishlog" ∷ codes "varnishncsa" ∷ [])
    ≡ Ok (record (plain_job tools.Ncsa) { feeds = codes "varnishlog" ∷ [] })
tool_as_a_value = refl

last_file_counts : job_of (codes "varnishlog" ∷ codes "-rf" ∷ codes "-r" ∷ codes "g" ∷ [])
    ≡ Ok (record (plain_job tools.Log) { file = Some (codes "g") })
last_file_counts = refl

turns_after_feed_first : job_of (codes "--feed-first" ∷ codes "--turns" ∷ codes "0" ∷ codes "--feed" ∷ codes "a" ∷ codes "varnishlog" ∷ [])
    ≡ Ok (record (plain_job tools.Log) { order = Turns 0; feeds = codes "a" ∷ [] })
turns_after_feed_first = refl

counters_as_json : job_of (codes "--feed" ∷ codes "a" ∷ codes "varnishstat" ∷ codes "-1j" ∷ codes "-fMAIN.*" ∷ codes "-f" ∷ [] ∷ [])
    ≡ Ok (record (plain_job tools.Stat) { feeds = codes "a" ∷ []; stat = modes.Json; globs = codes "MAIN.*" ∷ [] ∷ [] })
counters_as_json = refl

access_lines : job_of (codes "varnishncsa" ∷ codes "-bcECd" ∷ codes "-F" ∷ codes "%h" ∷ codes "-g" ∷ codes "request" ∷ codes "-w" ∷ codes "out" ∷ codes "-r" ∷ codes "-" ∷ [])
    ≡ Ok (record (plain_job tools.Ncsa) { sides = record { backend = true; client = true; esi = true }; caseless = true; format = Some (codes "%h"); grouping = groupings.Request; write = Some (codes "out"); file = Some (codes "-") })
access_lines = refl

counts_of_first_fields : job_of (codes "varnishtop" ∷ codes "-1f" ∷ codes "-L" ∷ codes "1000000" ∷ codes "-T1" ∷ codes "-rf" ∷ [])
    ≡ Ok (record (plain_job tools.Top) { first_field = true; limit = 1000000; timeout = 1; file = Some (codes "f") })
counts_of_first_fields = refl

limits_of_the_ring : job_of (codes "--ring" ∷ codes "1048576" ∷ codes "--reclen" ∷ codes "4000" ∷ codes "--gen" ∷ codes "100000,65536" ∷ codes "varnishlog" ∷ codes "-Avk999999999" ∷ [])
    ≡ Ok (record (plain_job tools.Log) { seg = 1048576; reclen = 4000; made = Some (100000, 65536); text = true; verbose = true; keep = Some 999999999 })
limits_of_the_ring = refl
