-- reading on from here is reading the line
use Rattle.std.proofs.Common.{◌≡◌, ◌+◌, length}
use Rattle.query_parser.specs.inside.Stages.{HasWhole}
use Rattle.query_parser.proofs.Driving.{Leads}
use Rattle.query_parser.proofs.draft.read_line.Given as goal

abbrev pub invariant-loop-rest : goal.invariant-loop-rest
invariant-loop-rest l = record {
  place : l.at + length l.rest ≡ l.from + length l.line;
  whole : HasWhole l.draft.stage;
  leads : Leads l.caseless l.at l.draft l.rest l.from l.line;
}

abbrev pub decreases-loop-rest : goal.decreases-loop-rest
decreases-loop-rest l = length l.rest
