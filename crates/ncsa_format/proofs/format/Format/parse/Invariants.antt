-- the whole is read as the pieces so far before those of the rest, which is no longer
use Rattle.std.proofs.Common.{◌≡◌, length, ◌≤◌}
use Rattle.ncsa_format.specs.Reading.{read_pieces}
use Rattle.ncsa_format.specs.inside.Draft.{drafted}
use Rattle.ncsa_format.specs.inside.Read.{all_before}
use Rattle.ncsa_format.proofs.format.Format.parse.Given as goal

abbrev pub invariant-loop-first : goal.invariant-loop-first
invariant-loop-first l = (read_pieces l.whole ≡ all_before (drafted l.draft) (read_pieces l.rest)) × (length l.rest ≤ length l.whole)

abbrev pub decreases-loop-first : goal.decreases-loop-first
decreases-loop-first l = length l.rest
