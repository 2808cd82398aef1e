-- Queries that are asked of groups, one after the other (this project's choice).
use Rattle.query_parser.specs.declared.query.Query.{Query}
use Rattle.query_eval.specs.declared.asker.Asker.{Asker}

-- the query that is asked
abbrev pub asker_query : Asker → Query
asker_query a = a.query.now
