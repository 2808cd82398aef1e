-- No report has a number with a fraction.
use Rattle.std.proofs.Common.{◌≡◌, ℕ, false, List, [], ◌∷◌, Ordering, Less, Equal, Greater, refl}
use Rattle.std.specs.Ordering.{nat_cmp, match_ordering}
use Rattle.std.specs.Cmp.Lexicographic.{slice_cmp}
use Rattle.std.proofs.lemmas.Bool.{or_parts}
use Rattle.serde_json.specs.Data.{Data, number, unsigned, object, Members, no_members, member, put}
use Rattle.serde_json.specs.Written.{has_float, members_have_float}
use Rattle.std.specs.Prelude.{slice_index, codes}
use Rattle.vsl_stat.specs.Report.{by_name, counter_data, name_of, selected}
use Rattle.vsl_stat.specs.inside.Selecting.{report_data}

-- members without a fraction, in any order
either : (o : Ordering) (a b c : Members) → members_have_float a ≡ false → members_have_float b ≡ false → members_have_float c ≡ false → members_have_float (match_ordering o a b c) ≡ false
either Less a b c in_a in_b in_c = in_a
either Equal a b c in_a in_b in_c = in_b
either Greater a b c in_a in_b in_c = in_c

-- what is put among members without a fraction leaves them so
put_whole : (k : List ℕ) (d : Data) (ms : Members) → has_float d ≡ false → members_have_float ms ≡ false → members_have_float (put k d ms) ≡ false
put_whole k d no_members of_d of_ms = rw of_d refl
put_whole k d (member l e ms) of_d of_ms =
    let parts = or_parts (has_float e) (members_have_float ms) of_ms in
    either (slice_cmp nat_cmp k l) _ _ _ (rw (of_d) of_ms) (rw of_d parts.1) (rw parts.0 (put_whole k d ms of_d parts.1))

-- the counters have no fraction
by_name_whole : (values numbers : List ℕ) (ms : Members) → members_have_float ms ≡ false → members_have_float (by_name values numbers ms) ≡ false
by_name_whole values [] ms of_ms = of_ms
by_name_whole values (n ∷ numbers) ms of_ms = by_name_whole values numbers _ (put_whole (name_of n) (counter_data n (slice_index values n)) ms refl of_ms)

-- a report of members without a fraction has none
around_whole : (ms : Members) → members_have_float ms ≡ false
    → has_float (object (member (codes "counters") (object ms) (member (codes "version") (number (unsigned 1)) no_members))) ≡ false
around_whole ms e = rw e refl

-- the report has no fraction
pub report_whole : (values : List ℕ) (globs : List (List ℕ)) → has_float (report_data values globs) ≡ false
report_whole values globs = around_whole (by_name values (selected globs) no_members) (by_name_whole values (selected globs) no_members refl)
