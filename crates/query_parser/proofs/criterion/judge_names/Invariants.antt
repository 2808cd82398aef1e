-- the fault of the names that are left is the fault of all
use Rattle.std.proofs.Common.{◌≡◌, ◌≤◌, ◌+◌, [], length}
use Rattle.vsl_tags.specs.TagSet.{matches_any}
use Rattle.query_grammar.specs.Judging.{names_fault}
use Rattle.query_parser.proofs.criterion.judge_names.Given as goal

abbrev pub invariant-loop-more : goal.invariant-loop-more
invariant-loop-more l = record {
  all : names_fault matches_any l.at l.at [] l.rest ≡ names_fault matches_any l.place l.place [] l.text;
  within : l.at + length l.rest ≤ l.place + length l.text;
}

abbrev pub decreases-loop-more : goal.decreases-loop-more
decreases-loop-more l = length l.rest
