-- Worked examples, computed from the definitions.
use Rattle.std.proofs.Common.{◌≡◌, ℕ, pos, Bool, true, false, List, None, Some, refl}
use Rattle.std.specs.Prelude.{codes}
use Rattle.vsl_tags.specs.declared.tag_set.TagSet.{TagSet}
use Rattle.query_parser.specs.declared.operator.Comparison.TheVariants as comparisons
use Rattle.query_parser.specs.declared.operator.Comparison.{Comparison}
use Rattle.query_parser.specs.declared.test.Bound.TheVariants.{AtLeast, AtMost}
use Rattle.query_parser.specs.declared.test.Check.{Check}
use Rattle.query_parser.specs.declared.test.Check.TheVariants.{Number, Text}
use Rattle.query_parser.specs.declared.test.Criterion.{Criterion}
use Rattle.query_eval.specs.Meaning.{meets_level, subject, satisfies, subject_satisfies}

-- a comparison with this scaled operand, without or with a period
compared_with : Comparison → ℕ → Bool → Check
compared_with comparison scaled whole = Number comparison (record { scaled = pos scaled }) whole

-- `Timestamp:Process[2]`, of any tags
since_start : TagSet → Criterion
since_start tags = record { level = None; tags = tags; prefix = Some (codes "Process"); field = Some 2 }

processed : List ℕ
processed = codes "Process: 1672628645.9 0.800000 0.1"

since_start_is : (tags : TagSet) → subject (since_start tags) processed ≡ Some (codes "0.800000")
unfolding since_start processed
since_start_is tags = refl

-- `Timestamp:Process[2] > 0.8`
not_slow : (tags : TagSet) → subject_satisfies (compared_with comparisons.Greater 800000000000000000 false) (subject (since_start tags) processed) ≡ false
unfolding since_start processed compared_with
not_slow tags = refl

slow : (tags : TagSet) → subject_satisfies (compared_with comparisons.Greater 800000000000000000 false) (subject (since_start tags) (codes "Process: 1672628645.9 0.8000001 0.1")) ≡ true
unfolding since_start compared_with
slow tags = refl

-- `RespStatus == 200` compares integral parts
status : satisfies (compared_with comparisons.Equal 200000000000000000000 true) (codes "200.9") ≡ true
unfolding compared_with
status = refl

-- `RespStatus == 200.0` compares numbers as they are
other_status : satisfies (compared_with comparisons.Equal 200000000000000000000 false) (codes "200.9") ≡ false
unfolding compared_with
other_status = refl

same_status : satisfies (compared_with comparisons.Equal 200000000000000000000 false) (codes "200") ≡ true
unfolding compared_with
same_status = refl

-- what is no number satisfies no comparison, not even `!=`
no_number : satisfies (compared_with comparisons.NotEqual 200000000000000000000 true) (codes "none") ≡ false
unfolding compared_with
no_number = refl

-- white space round a number doesn't count
blanks : satisfies (compared_with comparisons.Equal 200000000000000000000 true) (codes " 200 ") ≡ true
unfolding compared_with
blanks = refl

-- `ne` with `-C`
differs : satisfies (Text false true (codes "Keep-Alive")) (codes "keep-alive") ≡ false
differs = refl

-- a field that isn't there is no subject
no_such_field : (tags : TagSet) → subject (since_start tags) (codes "Process: 1672628645.9") ≡ None
unfolding since_start
no_such_field tags = refl

-- nor is the payload of another prefix
other_prefix : (tags : TagSet) → subject (since_start tags) (codes "Resp: 1672628645.9 0.9 0.1") ≡ None
unfolding since_start
other_prefix tags = refl

-- a record by itself has the level 0
by_itself : meets_level (Some (record { number = 1; bound = AtLeast })) 0 ≡ false
by_itself = refl

below_two : meets_level (Some (record { number = 2; bound = AtMost })) 1 ≡ true
below_two = refl
