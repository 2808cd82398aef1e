-- At most sixteen listings are named.
use Rattle.std.proofs.Common.{◌≡◌, ℕ, ◌+◌, ◌≤◌, Bool, true, false, cond, not, List, [], ◌∷◌, length, arith, lit≤, refl, leb, length-append}
use Rattle.std.specs.Prelude.{IfOk, count_by}
use Rattle.std.specs.List.{list_all}
use Rattle.std.proofs.lemmas.Bool.{leb-true, ltb-true}
use Rattle.std.proofs.lemmas.List.Sums.{sum_by-cons, sum_by_push}
use Rattle.tool_words.specs.declared.job.Job.{Job}
use Rattle.tool_words.specs.declared.job.Tool.{Tool}
use Rattle.tool_words.specs.declared.job.Tool.TheVariants as tools
use Rattle.tool_words.specs.declared.options.Choice.{Choice}
use Rattle.tool_words.specs.declared.options.Choice.TheVariants.{Feed}
use Rattle.tool_words.specs.declared.options.Form.{Form}
use Rattle.tool_words.specs.declared.options.Form.TheVariants.{FeedName}
use Rattle.tool_words.specs.declared.options.Meaning.{Meaning}
use Rattle.tool_words.specs.declared.options.Meaning.TheVariants.{Flag, Value, NotHere}
use Rattle.tool_words.specs.declared.reading.Given.{Given}
use Rattle.tool_words.specs.Fold.{with_choice, with_options}
use Rattle.tool_words.specs.Options.{letters_of}
use Rattle.tool_words.specs.Reading.{is_feed, read_all, takes}
use Rattle.tool_words.proofs.GivenLemmas.{all-so, with_one}

-- how many of the given options name a listing
abbrev pub listings : List Given → ℕ
listings given = count_by (λ (g : Given). is_feed g.choice) given

-- whether an option names at most sixteen listings, or none
abbrev is_few : Meaning → Bool
is_few (Value Feed (FeedName most)) = leb most 16
is_few (Value choice form) = not (is_feed choice)
is_few (Flag choice) = not (is_feed choice)
is_few NotHere = true

tables-few : (tool : Tool) → list_all (λ (row : ℕ × Meaning). is_few row.1) (letters_of tool) ≡ true
tables-few tools.Log = refl
tables-few tools.Ncsa = refl
tables-few tools.Top = refl
tables-few tools.Stat = refl

-- an option that is taken leaves them few
none_more : (feed : Bool) (n : ℕ) → not feed ≡ true → n ≤ 16 → n + cond feed 1 0 ≤ 16
none_more true n not_feed few = absurd (let bad : ⊥ = cc in bad)
none_more false n not_feed few = omega arith

taken : (given : List Given) (choice : Choice) (form : Form) (value : List ℕ) → is_few (Value choice form) ≡ true → listings given ≤ 16 → takes given choice form value ≡ true
    → listings given + cond (is_feed choice) 1 0 ≤ 16
taken given Feed (FeedName most) value few n took = omega (arith, ltb-true _ _ took, leb-true _ _ few)
taken given choice form value few n took = none_more (is_feed choice) (listings given) few n

given-few : (choice : Choice) (given : List Given) (at : ℕ) (value : List ℕ) → listings given + cond (is_feed choice) 1 0 ≤ 16 → listings (with_one given choice at value) ≤ 16
given-few choice given at value n = omega (arith, sum_by_push (λ (g : Given). cond (is_feed g.choice) 1 0) given (record { choice = choice; word = at; value = value }))

-- the words name at most sixteen listings
pub all-few : (words : List (List ℕ)) → IfOk (read_all words) (λ r. listings r.given ≤ 16)
all-few words =
    all-so is_few (λ given. listings given ≤ 16)
    (λ choice given at value few n. given-few choice given at value (none_more (is_feed choice) (listings given) few n))
    (λ choice form given at value few took n. given-few choice given at value (taken given choice form value few n took))
    tables-few refl words (lit≤ tt)

-- a job names as many listings as are given
feeds-with_choice : (choice : Choice) (at : ℕ) (value : List ℕ) (job : Job) → length (with_choice choice at value job).feeds ≡ length job.feeds + cond (is_feed choice) 1 0
feeds-with_choice Feed at value job = length-append job.feeds (value ∷ [])
feeds-with_choice choice at value job = omega arith

pub feeds-with_options : (given : List Given) (job : Job) → length (with_options given job).feeds ≡ length job.feeds + listings given
feeds-with_options [] job = omega arith
feeds-with_options (one ∷ given) job =
    omega (arith, feeds-with_options given (with_choice one.choice one.word one.value job), feeds-with_choice one.choice one.word one.value job, sum_by-cons (λ (g : Given). cond (is_feed g.choice) 1 0) one given)
