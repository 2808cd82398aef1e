-- What a query says of a group whose records satisfy none of its tests.
use Rattle.std.specs.Prelude.{◌≡◌, Bool, []}
use Rattle.txn_rows.specs.declared.group.Group.{Group}
use Rattle.query_parser.specs.declared.query.Query.{Query}
use Rattle.query_eval.specs.Meaning.{is_held}
use Rattle.query_eval.specs.Marks.{answer_of}

-- this is what a query says of groups whose members satisfy none of its tests
abbrev pub IsUnseen : Query → Bool → Type 0
IsUnseen query unseen = (group : Group) → answer_of query [] ≡ answer_of query group.members → unseen ≡ is_held query group
