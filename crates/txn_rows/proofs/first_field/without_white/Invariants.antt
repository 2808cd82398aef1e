-- what is left has the fields of the text
use Rattle.std.proofs.Common.{◌≡◌, length}
use Rattle.vsl_decimal.specs.Field.{fields}
use Rattle.txn_rows.proofs.first_field.without_white.Given as goal

abbrev pub invariant-loop-b : goal.invariant-loop-b
invariant-loop-b l = fields l.rest ≡ fields l.text

abbrev pub decreases-loop-b : goal.decreases-loop-b
decreases-loop-b l = length l.rest
