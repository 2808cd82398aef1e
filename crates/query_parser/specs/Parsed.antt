-- The query that a text is, and its first fault (vsl-query(7)).
use Rattle.std.specs.Prelude.{◌≡◌, ℕ, Bool, false, is_some, List, Option}
use Rattle.std.specs.Str.{IsUtf8}
use Rattle.vsl_tags.specs.TagSet.{matches_any}
use Rattle.vsl_decimal.specs.Decimal.{decimal_of}
use Rattle.query_grammar.specs.Step.{TestParts}
use Rattle.query_grammar.specs.Grammar.{Written}
use Rattle.query_grammar.specs.Fine.{IsFineText}
use Rattle.query_grammar.specs.Tree as tree
use Rattle.query_grammar.specs.Tree.{Single, Negated, Both, Either, tree_of, tree_steps}
use Rattle.query_grammar.specs.Scanner.{Fault}
use Rattle.query_grammar.specs.QueryFault.{query_fault}
use Rattle.query_parser.specs.declared.fault.QueryFault.{QueryFault}
use Rattle.query_parser.specs.declared.query.Query.{Query}
use Rattle.query_parser.specs.declared.test.Test.{Test}
use Rattle.query_parser.specs.Answers.{IsAnswer}
use Rattle.query_parser.specs.Meant.{IsMeant}
use Rattle.vsl_pattern.specs.Patterns.{is_good_pattern}

-- a text is a decimal
abbrev pub is_decimal : List ℕ → Bool
is_decimal text = is_some (decimal_of text)

-- how many parentheses and `not`s may be open at once
abbrev pub most_open : ℕ
most_open = 64

-- the text is this query, as it is written: each name is a tag's or matches one, numbers and patterns are good, and it is not too deep
abbrev pub IsQueryText : Bool → List ℕ → Written → Type 0
IsQueryText caseless text q = IsUtf8 text × IsFineText matches_any is_decimal (is_good_pattern caseless) most_open text q

-- the first fault of a text. The manual's word `vxid` is here a name like others, and no tag's: `-g raw` prints the
-- number of each record (this project's choice)
abbrev pub first_fault : Bool → List ℕ → Option Fault
first_fault caseless text = query_fault matches_any is_decimal (is_good_pattern caseless) most_open text

-- a tree of tests is what a tree of written tests means
abbrev pub IsTreeMeant : Bool → tree.Query TestParts → tree.Query Test → Type 0
IsTreeMeant caseless (Single parts) (Single test) = IsMeant caseless parts test
IsTreeMeant caseless (Negated p) (Negated q) = IsTreeMeant caseless p q
IsTreeMeant caseless (Both p q) (Both r s) = IsTreeMeant caseless p r × IsTreeMeant caseless q s
IsTreeMeant caseless (Either p q) (Either r s) = IsTreeMeant caseless p r × IsTreeMeant caseless q s
IsTreeMeant caseless p q = ⊥

-- a query has the tests and operators of this tree
pub record HasTree (query : Query) (t : tree.Query Test) : Type 0 where
  pub asks : query.always ≡ false
  pub steps : query.steps.items ≡ tree_steps t

-- the tree is what the text means
abbrev pub Means : Bool → List ℕ → tree.Query Test → Type 0
Means caseless text t = (q : Written) × IsQueryText caseless text q × IsTreeMeant caseless (tree_of q) t

-- the query is what the text means
abbrev pub IsParsed : Bool → List ℕ → Query → Type 0
IsParsed caseless text query = (t : tree.Query Test) × Means caseless text t × HasTree query t

-- the fault is the first of the text
abbrev pub IsRefused : Bool → List ℕ → QueryFault → Type 0
IsRefused caseless text fault = IsAnswer fault (first_fault caseless text)
