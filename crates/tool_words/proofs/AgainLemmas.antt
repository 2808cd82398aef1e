-- Of an option that is given again the last counts, and those that gather are kept in order.
use Rattle.std.proofs.Common.{◌≡◌, ℕ, true, false, List, [], ◌∷◌, ◌++◌, Option, Some, None, refl, sym, ap, subst, ◌∙◌, append_assoc}
use Rattle.std.specs.Prelude.{is_some, unwrap_or}
use Rattle.std.proofs.lemmas.List.{append-nil}
use Rattle.txn_rows.specs.declared.group.Grouping.{Grouping}
use Rattle.tool_words.specs.declared.job.Job.{Job}
use Rattle.tool_words.specs.declared.job.StatMode.{StatMode}
use Rattle.tool_words.specs.declared.job.StatMode.TheVariants as modes
use Rattle.tool_words.specs.declared.options.Choice.{Choice}
use Rattle.tool_words.specs.declared.options.Choice.TheVariants.{Append, Exclude, ExcludePattern, Feed, Glob, Group, Include, IncludePattern, Json, Limit, ListCounters, Query, QueryFile, RecordLength, Segment, Timeout}
use Rattle.tool_words.specs.declared.reading.Given.{Given}
use Rattle.tool_words.specs.Again.{AreGathered, LastCounts, feed_choice, gathers, glob_choice, query_choice, rule_choice, says}
use Rattle.tool_words.specs.Fold.{number_for, or_json, with_choice, with_options}
use Rattle.tool_words.specs.Number.{grouping_named}
use Rattle.tool_words.proofs.JobLemmas.{with_options-then}

-- ---- the last counts

-- what a change leaves doesn't ask whether it was made before another option, too
abbrev Hides : (Job → Job) → Choice → Type 0
Hides change other = (at : ℕ) (value : List ℕ) (job : Job) → change (with_choice other at value (change job)) ≡ change (with_choice other at value job)

json_again : (mode : StatMode) → or_json (or_json mode) ≡ or_json mode
json_again modes.List = refl
json_again mode = refl

hides_group : (o : Option Grouping) (other : Choice) → Hides (λ job. record job { grouping = unwrap_or o job.grouping }) other
hides_group None other at value job = refl
hides_group (Some n) Append at value job = refl
hides_group (Some n) other at value job = refl

hides_limit : (o : Option ℕ) (other : Choice) → Hides (λ job. record job { limit = unwrap_or o job.limit }) other
hides_limit None other at value job = refl
hides_limit (Some n) Append at value job = refl
hides_limit (Some n) other at value job = refl

hides_reclen : (o : Option ℕ) (other : Choice) → Hides (λ job. record job { reclen = unwrap_or o job.reclen }) other
hides_reclen None other at value job = refl
hides_reclen (Some n) Append at value job = refl
hides_reclen (Some n) other at value job = refl

hides_seg : (o : Option ℕ) (other : Choice) → Hides (λ job. record job { seg = unwrap_or o job.seg }) other
hides_seg None other at value job = refl
hides_seg (Some n) Append at value job = refl
hides_seg (Some n) other at value job = refl

hides_timeout : (o : Option ℕ) (other : Choice) → Hides (λ job. record job { timeout = unwrap_or o job.timeout }) other
hides_timeout None other at value job = refl
hides_timeout (Some n) Append at value job = refl
hides_timeout (Some n) other at value job = refl

hides_json : (other : Choice) → Hides (λ job. record job { stat = or_json job.stat }) other
hides_json Json at value job = ap (λ (mode : StatMode). record job { stat = or_json mode }) (json_again job.stat)
hides_json ListCounters at value job = refl
hides_json other at value job = ap (λ (mode : StatMode). record (with_choice other at value job) { stat = mode }) (json_again job.stat)

-- an option that gathers nothing hides what it did before
hides : (choice other : Choice) (at : ℕ) (value : List ℕ) → gathers choice ≡ false → Hides (with_choice choice at value) other
hides Exclude other at value none = absurd cc
hides ExcludePattern other at value none = absurd cc
hides Feed other at value none = absurd cc
hides Glob other at value none = absurd cc
hides Include other at value none = absurd cc
hides IncludePattern other at value none = absurd cc
hides Query other at value none = absurd cc
hides QueryFile other at value none = absurd cc
hides Group other at value none = hides_group (grouping_named value) other
hides Limit other at value none = hides_limit (number_for Limit value) other
hides RecordLength other at value none = hides_reclen (number_for RecordLength value) other
hides Segment other at value none = hides_seg (number_for Segment value) other
hides Timeout other at value none = hides_timeout (number_for Timeout value) other
hides Json other at value none = hides_json other
hides choice other at value none = elim other as (λ other. Hides (with_choice choice at value) other) [ Append ↦ λ at value job. refl | more ↦ λ at value job. refl ]

-- and it does the same where it stands before itself, if its value says something
said_again : {A : Type 0} (o p : Option A) (n : A) → is_some o ≡ true → unwrap_or o (unwrap_or p n) ≡ unwrap_or o n
said_again (Some x) p n said = refl
said_again None p n said = absurd (let bad : false ≡ true = said in cc)

hides_itself : (choice : Choice) (at : ℕ) (value : List ℕ) (word : ℕ) (text : List ℕ) (job : Job) → gathers choice ≡ false → says choice value ≡ true → with_choice choice at value (with_choice choice word text job) ≡ with_choice choice at value job
hides_itself Exclude at value word text job none said = absurd cc
hides_itself ExcludePattern at value word text job none said = absurd cc
hides_itself Feed at value word text job none said = absurd cc
hides_itself Glob at value word text job none said = absurd cc
hides_itself Include at value word text job none said = absurd cc
hides_itself IncludePattern at value word text job none said = absurd cc
hides_itself Query at value word text job none said = absurd cc
hides_itself QueryFile at value word text job none said = absurd cc
hides_itself Group at value word text job none said = ap (λ (g : Grouping). record job { grouping = g }) (said_again (grouping_named value) (grouping_named text) job.grouping said)
hides_itself Limit at value word text job none said = ap (λ (n : ℕ). record job { limit = n }) (said_again (number_for Limit value) (number_for Limit text) job.limit said)
hides_itself RecordLength at value word text job none said = ap (λ (n : ℕ). record job { reclen = n }) (said_again (number_for RecordLength value) (number_for RecordLength text) job.reclen said)
hides_itself Segment at value word text job none said = ap (λ (n : ℕ). record job { seg = n }) (said_again (number_for Segment value) (number_for Segment text) job.seg said)
hides_itself Timeout at value word text job none said = ap (λ (n : ℕ). record job { timeout = n }) (said_again (number_for Timeout value) (number_for Timeout text) job.timeout said)
hides_itself Json at value word text job none said = ap (λ (mode : StatMode). record job { stat = mode }) (json_again job.stat)
hides_itself choice at value word text job none said = refl

-- two jobs that are one behind an option are one behind it where others come before
module _ (last : Given) (none : gathers last.choice ≡ false) where
  abbrev change : Job → Job
  change = with_choice last.choice last.word last.value

  same_behind : (between : List Given) (job other : Job) → change job ≡ change other → change (with_options between job) ≡ change (with_options between other)
  same_behind [] job other same = same
  same_behind (one ∷ between) job other same =
      let hidden : (j : Job) → change (with_choice one.choice one.word one.value (change j)) ≡ change (with_choice one.choice one.word one.value j) = hides last.choice one.choice last.word last.value none one.word one.value in
      same_behind between _ _ (sym (hidden job) ∙ ap (λ (j : Job). change (with_choice one.choice one.word one.value j)) same ∙ hidden other)

pub last_counts : LastCounts
last_counts before between after first last job same none said =
    let own : (word : ℕ) (text : List ℕ) (j : Job) → with_choice last.choice last.word last.value (with_choice last.choice word text j) ≡ with_choice last.choice last.word last.value j = λ word text j. hides_itself last.choice last.word last.value word text j none said in
    let job_before : Job = with_options before job in
    let hidden = subst (λ (c : Choice). with_choice last.choice last.word last.value (with_choice c first.word first.value job_before) ≡ with_choice last.choice last.word last.value job_before) (sym same) (own first.word first.value job_before) in
    with_options-then before (first ∷ (between ++ last ∷ after)) job
    ∙ with_options-then between (last ∷ after) (with_choice first.choice first.word first.value job_before)
    ∙ ap (with_options after) (same_behind last none between (with_choice first.choice first.word first.value job_before) job_before hidden)
    ∙ sym (with_options-then between (last ∷ after) job_before)
    ∙ sym (with_options-then before (between ++ last ∷ after) job)

-- ---- what gathers

gathered_one : (choice : Choice) (at : ℕ) (value : List ℕ) (job : Job) → AreGathered (record { choice = choice; word = at; value = value } ∷ []) job (with_choice choice at value job)
gathered_one Append at value job = record { queries = sym (append-nil job.queries); rules = sym (append-nil job.rules); feeds = sym (append-nil job.feeds); globs = sym (append-nil job.globs) }
gathered_one Exclude at value job = record { queries = sym (append-nil job.queries); rules = refl; feeds = sym (append-nil job.feeds); globs = sym (append-nil job.globs) }
gathered_one ExcludePattern at value job = record { queries = sym (append-nil job.queries); rules = refl; feeds = sym (append-nil job.feeds); globs = sym (append-nil job.globs) }
gathered_one Feed at value job = record { queries = sym (append-nil job.queries); rules = sym (append-nil job.rules); feeds = refl; globs = sym (append-nil job.globs) }
gathered_one Glob at value job = record { queries = sym (append-nil job.queries); rules = sym (append-nil job.rules); feeds = sym (append-nil job.feeds); globs = refl }
gathered_one Include at value job = record { queries = sym (append-nil job.queries); rules = refl; feeds = sym (append-nil job.feeds); globs = sym (append-nil job.globs) }
gathered_one IncludePattern at value job = record { queries = sym (append-nil job.queries); rules = refl; feeds = sym (append-nil job.feeds); globs = sym (append-nil job.globs) }
gathered_one Query at value job = record { queries = refl; rules = sym (append-nil job.rules); feeds = sym (append-nil job.feeds); globs = sym (append-nil job.globs) }
gathered_one QueryFile at value job = record { queries = refl; rules = sym (append-nil job.rules); feeds = sym (append-nil job.feeds); globs = sym (append-nil job.globs) }
gathered_one choice at value job = record { queries = sym (append-nil job.queries); rules = sym (append-nil job.rules); feeds = sym (append-nil job.feeds); globs = sym (append-nil job.globs) }

-- behind one, all that follow it
behind : {A : Type 0} (was first more then now : List A) → then ≡ was ++ (first ++ []) → now ≡ then ++ more → now ≡ was ++ (first ++ more)
behind {A} was first more then now one rest = rest ∙ ap (λ (xs : List A). xs ++ more) (one ∙ ap (λ (xs : List A). was ++ xs) (append-nil first)) ∙ append_assoc was first more

pub all_gathered : (given : List Given) (job : Job) → AreGathered given job (with_options given job)
all_gathered [] job = record { queries = sym (append-nil job.queries); rules = sym (append-nil job.rules); feeds = sym (append-nil job.feeds); globs = sym (append-nil job.globs) }
all_gathered (one ∷ given) job =
    let first = gathered_one one.choice one.word one.value job in
    let rest = all_gathered given (with_choice one.choice one.word one.value job) in
    record {
      queries = behind job.queries (query_choice one.choice one.value) _ _ _ first.queries rest.queries;
      rules = behind job.rules (rule_choice one.choice one.word one.value) _ _ _ first.rules rest.rules;
      feeds = behind job.feeds (feed_choice one.choice one.value) _ _ _ first.feeds rest.feeds;
      globs = behind job.globs (glob_choice one.choice one.value) _ _ _ first.globs rest.globs;
    }
