-- What the queries of a job ask (varnishlog(1), -q, -Q and -C).
use Rattle.std.specs.Prelude.{◌≡◌, ℕ, Bool, true, List, [], ◌∷◌, filter, Option, Some, None}
use Rattle.txn_rows.specs.declared.group.Group.{Group}
use Rattle.query_grammar.specs.Tree.{Query, Either}
use Rattle.query_parser.specs.declared.test.Test.{Test}
use Rattle.query_parser.specs.declared.query.Query as parsed
use Rattle.query_parser.specs.Parsed.{Means}
use Rattle.query_eval.specs.Meaning.{tree_holds, is_held}

-- what is asked of groups: a tree of tests, or nothing
abbrev pub Ask : Type 0
Ask = Option (Query Test)

-- a group is one that is asked for: each is where nothing is asked
abbrev pub is_asked : Ask → Group → Bool
is_asked None group = true
is_asked (Some t) group = tree_holds t group

-- the groups that are asked for, in their order
abbrev pub chosen : Ask → List Group → List Group
chosen ask groups = filter (is_asked ask) groups

-- a query behind earlier ones, to which it is joined by `or`
abbrev pub joined : Ask → Query Test → Query Test
joined None t = t
joined (Some earlier) t = Either earlier t

-- these texts, behind earlier queries, ask this
abbrev pub AreAsked : Bool → Ask → List (List ℕ) → Ask → Type 0
AreAsked caseless earlier [] ask = ask ≡ earlier
AreAsked caseless earlier (text ∷ texts) ask = (t : Query Test) × Means caseless text t ×
    AreAsked caseless (Some (joined earlier t)) texts ask

-- a query holds for the groups that are asked for
pub record HoldsAsAsked (query : parsed.Query) (ask : Ask) : Type 0 where
  pub each : (group : Group) → is_held query group ≡ is_asked ask group
