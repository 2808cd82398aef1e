-- what goes on from the bytes so far goes on from the beginning
use Rattle.std.proofs.Common.{◌≡◌, ◌-◌, ◌≤◌, length}
use Rattle.query_grammar.specs.Moves.{Kept, can_close}
use Rattle.query_grammar.proofs.Prefixes.{Behind}
use Rattle.query_parser.specs.inside.Stages.{mark_mode}
use Rattle.query_parser.proofs.token.mark_len.Given as goal

abbrev pub invariant-loop-count : goal.invariant-loop-count
invariant-loop-count l = record {
  behind : (k : Kept) → can_close k.waiting ≡ l.closable → Behind (mark_mode l.tested) k l.text l.count;
  within : l.count ≤ length l.text;
}

abbrev pub decreases-loop-count : goal.decreases-loop-count
decreases-loop-count l = length l.text - l.count
