-- Queries that records by themselves are asked.
use Rattle.query_parser.specs.declared.query.Query.{Query}
use Rattle.query_eval.specs.Asker.{asker_query}
use Rattle.text_printer.specs.declared.alone.AskedAlone.{AskedAlone}

-- the query that is asked
abbrev pub alone_query : AskedAlone → Query
alone_query a = asker_query a.asker
