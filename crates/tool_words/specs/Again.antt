-- What counts of an option that is given again (varnishlog(1), varnishncsa(1), varnishtop(1), varnishstat(1), "OPTIONS"; that the last one counts is this project's choice).
use Rattle.std.specs.Prelude.{◌≡◌, ℕ, Bool, true, false, is_some, List, [], ◌∷◌, ◌++◌}
use Rattle.std.specs.List.{All, flat_map}
use Rattle.vsl_select.specs.declared.rule_text.RuleText.{RuleText}
use Rattle.tool_words.specs.declared.job.Job.{Job}
use Rattle.tool_words.specs.declared.job.QueryText.{QueryText}
use Rattle.tool_words.specs.declared.options.Choice.{Choice}
use Rattle.tool_words.specs.declared.options.Choice.TheVariants as choices
use Rattle.tool_words.specs.declared.reading.Given.{Given}
use Rattle.tool_words.specs.Fold.{number_for, with_options}
use Rattle.tool_words.specs.Number.{grouping_named}

-- whether an option adds to what was given before it: a query, a rule, a listing or a glob
abbrev pub gathers : Choice → Bool
gathers choices.Exclude = true
gathers choices.ExcludePattern = true
gathers choices.Feed = true
gathers choices.Glob = true
gathers choices.Include = true
gathers choices.IncludePattern = true
gathers choices.Query = true
gathers choices.QueryFile = true
gathers choice = false

-- whether a value says the number or the grouping that an option wants in place of the one before; others have what they say of any value
abbrev pub says : Choice → List ℕ → Bool
says choices.Group value = is_some (grouping_named value)
says choices.Limit value = is_some (number_for choices.Limit value)
says choices.RecordLength value = is_some (number_for choices.RecordLength value)
says choices.Segment value = is_some (number_for choices.Segment value)
says choices.Timeout value = is_some (number_for choices.Timeout value)
says choice value = true

-- the given options have such values
abbrev pub AllSay : List Given → Type 0
AllSay given = All (λ (one : Given). says one.choice one.value ≡ true) given

-- of an option that gathers nothing, given again, the last counts: the one before it might as well not be there
abbrev pub LastCounts : Type 0
LastCounts = (before between after : List Given) (first last : Given) (job : Job) → first.choice ≡ last.choice →
    gathers last.choice ≡ false → says last.choice last.value ≡ true
    → with_options (before ++ first ∷ (between ++ last ∷ after)) job ≡ with_options
    (before ++ (between ++ last ∷ after)) job

-- the query that an option gives
abbrev pub query_choice : Choice → List ℕ → List QueryText
query_choice choices.Query value = record { file = false; text = value } ∷ []
query_choice choices.QueryFile value = record { file = true; text = value } ∷ []
query_choice choice value = []

-- the rule that an option gives, with the place of its word
abbrev pub rule_choice : Choice → ℕ → List ℕ → List RuleText
rule_choice choices.Include at value = record { include = true; regex = false; text = value; word = at } ∷ []
rule_choice choices.Exclude at value = record { include = false; regex = false; text = value; word = at } ∷ []
rule_choice choices.IncludePattern at value = record { include = true; regex = true; text = value; word = at } ∷ []
rule_choice choices.ExcludePattern at value = record { include = false; regex = true; text = value; word = at } ∷ []
rule_choice choice at value = []

-- the name of a listing that an option gives
abbrev pub feed_choice : Choice → List ℕ → List (List ℕ)
feed_choice choices.Feed value = value ∷ []
feed_choice choice value = []

-- the glob that an option gives
abbrev pub glob_choice : Choice → List ℕ → List (List ℕ)
glob_choice choices.Glob value = value ∷ []
glob_choice choice value = []

-- behind those that a job had, its queries, rules, listings and globs are those of all the given options, in their order
pub record AreGathered (given : List Given) (was job : Job) : Type 0 where
  pub queries : job.queries ≡ was.queries ++ flat_map (λ (one : Given). query_choice one.choice one.value) given
  pub rules : job.rules ≡ was.rules ++ flat_map (λ (one : Given). rule_choice one.choice one.word one.value) given
  pub feeds : job.feeds ≡ was.feeds ++ flat_map (λ (one : Given). feed_choice one.choice one.value) given
  pub globs : job.globs ≡ was.globs ++ flat_map (λ (one : Given). glob_choice one.choice one.value) given
