-- What single steps come to.
use Rattle.std.specs.Prelude.{◌≡◌, ℕ, ◌<◌, ◌≤◌, Bool, List, [], ◌∷◌, length, map, take, Option, Some, None, Result, Ok, Err}
use Rattle.log_model.specs.declared.fault.Halt.{Halt}
use Rattle.log_model.specs.declared.fault.Halt.TheVariants as halts
use Rattle.vio.specs.World.{Seen, Read}
use Rattle.vio.specs.Calls.{Call, Lack, Mark, Take}
use Rattle.vsl_file.specs.File.{file_header}
use Rattle.query_grammar.specs.Tree as tree
use Rattle.query_parser.specs.declared.query.Query.{Query}
use Rattle.query_parser.specs.declared.test.Test.{Test}
use Rattle.query_parser.specs.Parsed.{Means, HasTree}
use Rattle.vsl_select.specs.declared.rule_text.SelectFault.{SelectFault}
use Rattle.vsl_select.specs.declared.rule_text.SelectFault.TheVariants as rules
use Rattle.job_steps.specs.declared.fault.ToolFault.{ToolFault}
use Rattle.job_steps.specs.Appends.{IsStart, IsStartBy, LookStops}
use Rattle.job_steps.specs.Queries.{Ask, AreAsked, HoldsAsAsked}
use Rattle.job_steps.specs.Steps.{Found, FoundText, IsRuleAnswer}

-- a rule that is refused is answered by its fault, and want of memory by want of memory
abbrev pub IsRuleHalt : SelectFault → Halt ToolFault → Type 0
IsRuleHalt why (halts.Fault fault) = IsRuleAnswer why fault
IsRuleHalt why halts.NoMemory = why ≡ rules.NoMemory

-- what was read so far is what is asked so far
abbrev pub HasAsk : Option Query → Ask → Type 0
HasAsk None None = Unit {0}
HasAsk (Some query) (Some t) = HasTree query t
HasAsk None (Some t) = ⊥
HasAsk (Some query) None = ⊥

-- a text was found, and a query is what it means
pub record QueryMeans (caseless : Bool) (query : Query) (found : List Found) : Type 0 where
  pub text : List ℕ
  pub are : found ≡ FoundText text ∷ []
  pub means : tree.Query Test
  pub is : Means caseless text means
  pub has_tree : HasTree query means

-- texts were found, and a query asks what they ask
pub record QueriesAsk (caseless : Bool) (query : Query) (found : List Found) : Type 0 where
  pub texts : List (List ℕ)
  pub are : found ≡ map FoundText texts
  pub ask : Ask
  pub asked : AreAsked caseless None texts ask
  pub holds : HoldsAsAsked query ask

-- ---- a log file that is looked at

-- so many of its first bytes were read
pub record HasRead (handle size : ℕ) (start : List ℕ) (before now : Seen) : Type 0 where
  pub read : Read handle (take size start) before now
  pub within : size ≤ 8
  pub eight : length start ≡ 8

-- fewer bytes than a header has were read from a handle
pub record ReadFew (handle : ℕ) (before now : Seen) : Type 0 where
  pub bytes : List ℕ
  pub read : Read handle bytes before now
  pub few : length bytes < length file_header

-- its first bytes were read from this handle
abbrev pub IsStartOf : ℕ → List ℕ → List Call → Type 0
IsStartOf handle start calls = (mark : Mark) × (calls ≡ Take handle start mark ∷ []) × IsStart start mark

-- what looking at a file comes to: it begins with the header, or is refused; or there was no memory to open it
abbrev pub Looked : {A : Type 0} → List ℕ → Result A (Halt ToolFault) → List Call → Type 0
Looked name (Ok done) calls = IsStartBy name file_header calls
Looked name (Err (halts.Fault fault)) calls = LookStops name fault calls
Looked name (Err halts.NoMemory) calls = calls ≡ Lack ∷ []
