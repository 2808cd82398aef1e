-- The options of each tool and those before the tool, written out (varnishlog(1), varnishncsa(1), varnishtop(1), varnishstat(1), "OPTIONS"; those before the tool are this project's choice).
use Rattle.std.specs.Prelude.{◌≡◌, List, [], ◌∷◌, ℕ, map, codes}
use Rattle.tool_words.specs.declared.job.Tool.{Tool}
use Rattle.tool_words.specs.declared.job.Tool.TheVariants as tools
use Rattle.tool_words.specs.declared.options.Choice.TheVariants as choices
use Rattle.tool_words.specs.declared.options.Form.TheVariants.{Text, FeedName, Number, CountAndSeed, AnyGrouping, AccessGrouping}
use Rattle.tool_words.specs.declared.options.Meaning.{Meaning}
use Rattle.tool_words.specs.declared.options.Meaning.TheVariants.{Flag, Value, NotHere}
use Rattle.tool_words.specs.declared.options.TheConstants.{WORDS}
use Rattle.tool_words.specs.Options.{letters_of}

-- the letters of varnishlog: what each means, or that it is an option of Varnish's that is left out here
abbrev pub log_letters : List (List ℕ × Meaning)
log_letters =
    (codes "r", Value choices.FileName Text) ∷
    (codes "g", Value choices.Group AnyGrouping) ∷
    (codes "L", Value choices.Limit Number) ∷
    (codes "T", Value choices.Timeout Number) ∷
    (codes "q", Value choices.Query Text) ∷
    (codes "Q", Value choices.QueryFile Text) ∷
    (codes "k", Value choices.Keep Number) ∷
    (codes "b", Flag choices.Backend) ∷
    (codes "c", Flag choices.Client) ∷
    (codes "E", Flag choices.Esi) ∷
    (codes "C", Flag choices.Caseless) ∷
    (codes "d", Flag choices.FromHead) ∷
    (codes "i", Value choices.Include Text) ∷
    (codes "x", Value choices.Exclude Text) ∷
    (codes "I", Value choices.IncludePattern Text) ∷
    (codes "X", Value choices.ExcludePattern Text) ∷
    (codes "w", Value choices.Write Text) ∷
    (codes "a", Flag choices.Append) ∷
    (codes "v", Flag choices.Verbose) ∷
    (codes "A", Flag choices.AsText) ∷
    (codes "D", NotHere) ∷
    (codes "h", NotHere) ∷
    (codes "n", NotHere) ∷
    (codes "P", NotHere) ∷
    (codes "R", NotHere) ∷
    (codes "t", NotHere) ∷
    (codes "u", NotHere) ∷
    (codes "V", NotHere) ∷ []

-- the letters of varnishncsa, so
abbrev pub ncsa_letters : List (List ℕ × Meaning)
ncsa_letters =
    (codes "r", Value choices.FileName Text) ∷
    (codes "g", Value choices.Group AccessGrouping) ∷
    (codes "L", Value choices.Limit Number) ∷
    (codes "T", Value choices.Timeout Number) ∷
    (codes "q", Value choices.Query Text) ∷
    (codes "Q", Value choices.QueryFile Text) ∷
    (codes "k", Value choices.Keep Number) ∷
    (codes "b", Flag choices.Backend) ∷
    (codes "c", Flag choices.Client) ∷
    (codes "E", Flag choices.Esi) ∷
    (codes "C", Flag choices.Caseless) ∷
    (codes "d", Flag choices.FromHead) ∷
    (codes "w", Value choices.Write Text) ∷
    (codes "a", Flag choices.Append) ∷
    (codes "F", Value choices.Format Text) ∷
    (codes "D", NotHere) ∷
    (codes "f", NotHere) ∷
    (codes "h", NotHere) ∷
    (codes "j", NotHere) ∷
    (codes "n", NotHere) ∷
    (codes "P", NotHere) ∷
    (codes "R", NotHere) ∷
    (codes "t", NotHere) ∷
    (codes "V", NotHere) ∷ []

-- the letters of varnishtop, so
abbrev pub top_letters : List (List ℕ × Meaning)
top_letters =
    (codes "r", Value choices.FileName Text) ∷
    (codes "g", Value choices.Group AnyGrouping) ∷
    (codes "L", Value choices.Limit Number) ∷
    (codes "T", Value choices.Timeout Number) ∷
    (codes "q", Value choices.Query Text) ∷
    (codes "Q", Value choices.QueryFile Text) ∷
    (codes "k", Value choices.Keep Number) ∷
    (codes "b", Flag choices.Backend) ∷
    (codes "c", Flag choices.Client) ∷
    (codes "E", Flag choices.Esi) ∷
    (codes "C", Flag choices.Caseless) ∷
    (codes "d", Flag choices.FromHead) ∷
    (codes "i", Value choices.Include Text) ∷
    (codes "x", Value choices.Exclude Text) ∷
    (codes "I", Value choices.IncludePattern Text) ∷
    (codes "X", Value choices.ExcludePattern Text) ∷
    (codes "1", Flag choices.Once) ∷
    (codes "f", Flag choices.FirstField) ∷
    (codes "h", NotHere) ∷
    (codes "n", NotHere) ∷
    (codes "p", NotHere) ∷
    (codes "t", NotHere) ∷
    (codes "V", NotHere) ∷ []

-- the letters of varnishstat, so
abbrev pub stat_letters : List (List ℕ × Meaning)
stat_letters =
    (codes "1", Flag choices.Once) ∷
    (codes "j", Flag choices.Json) ∷
    (codes "l", Flag choices.ListCounters) ∷
    (codes "f", Value choices.Glob Text) ∷
    (codes "h", NotHere) ∷
    (codes "I", NotHere) ∷
    (codes "n", NotHere) ∷
    (codes "r", NotHere) ∷
    (codes "t", NotHere) ∷
    (codes "V", NotHere) ∷
    (codes "x", NotHere) ∷
    (codes "X", NotHere) ∷ []

-- the words that may stand before the tool
abbrev pub words_before : List (List ℕ × Meaning)
words_before =
    (codes "--feed", Value choices.Feed (FeedName 16)) ∷
    (codes "--gen", Value choices.Made CountAndSeed) ∷
    (codes "--feed-first", Flag choices.FeedFirst) ∷
    (codes "--turns", Value choices.Turns Number) ∷
    (codes "--ring", Value choices.Segment Number) ∷
    (codes "--reclen", Value choices.RecordLength Number) ∷ []

-- the letters of a tool, as they are written out here
abbrev pub written_letters : Tool → List (List ℕ × Meaning)
written_letters tools.Log = log_letters
written_letters tools.Ncsa = ncsa_letters
written_letters tools.Top = top_letters
written_letters tools.Stat = stat_letters

-- the rows of a tool are these letters, each with what it means, and no others
abbrev pub HasLetters : Tool → Type 0
HasLetters tool = map (λ row. (row.0 ∷ [], row.1)) (letters_of tool) ≡ written_letters tool

-- the rows of the words before the tool are these, and no others
abbrev pub HasWords : Type 0
HasWords = map (λ row. (row.0.now, row.1)) WORDS ≡ words_before
