-- The time of a VXID, and what a transaction knows of it after a part of a log.
use Rattle.std.proofs.Common.{◌≡◌, ◌<◌, ◌≤◌, ℕ, true, false, ltb, Option, Some, None, List, [], ◌∷◌, ◌++◌, refl, ap, sym, ◌∙◌, subst, max, arith}
use Rattle.std.specs.List.{flat_map}
use Rattle.std.proofs.lemmas.Bool.{ltb-true, ltb-false, both_ways, or_parts}
use Rattle.txn_rows.specs.declared.group.Grouping.{Grouping}
use Rattle.txn_rows.specs.Grouping.{raised, first_known}
use Rattle.txn_partition.specs.LogFacts.{Entry, is_in, names_in, named, time_told, log_time, first_time, before_named, time_named}
use Rattle.txn_partition.specs.inside.Parted.{where_known}
use Rattle.txn_rows.proofs.LineLemmas.{by_cases}
use Rattle.txn_partition.proofs.NamedLemmas.{in_append}
use Rattle.txn_partition.proofs.LinkedLemmas.{told_or_not}
use Rattle.txn_partition.proofs.RegularLemmas.{in_names}

-- the order of times doesn't count
raised_both : (x y : ℕ) → raised (Some x) (Some y) ≡ Some (max x y)
raised_both x y = by_cases (raised (Some x) (Some y) ≡ Some (max x y)) (ltb y x)
    (λ e. let less : y < x = ltb-true y x e in rw e (ap Some (omega (arith, less))))
    (λ e. let most : x ≤ y = ltb-false y x e in rw e (ap Some (omega (arith, most))))

raised_swap : (a b c : Option ℕ) → raised a (raised b c) ≡ raised b (raised a c)
raised_swap None b c = refl
raised_swap (Some x) None c = refl
raised_swap (Some x) (Some y) None = raised_both x y ∙ ap Some (omega arith) ∙ sym (raised_both y x)
raised_swap (Some x) (Some y) (Some z) =
    ap (raised (Some x)) (raised_both y z) ∙ raised_both x (max y z) ∙ ap Some (omega arith) ∙ sym (ap (raised (Some y)) (raised_both x z) ∙ raised_both y (max x z))

-- the log time after one more record
pub log_time_more : (before : List Entry) (e : Entry) → log_time (before ++ e ∷ []) ≡ raised (time_told e) (log_time before)
log_time_more [] e = refl
log_time_more (x ∷ before) e = ap (raised (time_told x)) (log_time_more before e) ∙ raised_swap (time_told x) (time_told e) (log_time before)

-- a time that is known stays known
raised_known : (told : Option ℕ) (n : ℕ) → (m : ℕ) × (raised told (Some n) ≡ Some m)
raised_known None n = (n, refl)
raised_known (Some t) n = (max t n, raised_both t n)

-- no log time is known where no first time is
none_told_as : (o now first : Option ℕ) → first_known o first ≡ None → (first ≡ None → now ≡ None) → raised o now ≡ None
none_told_as None now first e later = later e
none_told_as (Some t) now first e later = absurd (cc)

pub none_told : (xs : List Entry) → first_time xs ≡ None → log_time xs ≡ None
none_told [] e = refl
none_told (x ∷ xs) e = none_told_as (time_told x) (log_time xs) (first_time xs) e (none_told xs)

none_known_as : (o now first : Option ℕ) → raised o now ≡ None → (now ≡ None → first ≡ None) → first_known o first ≡ None
none_known_as None now first e later = later e
none_known_as (Some t) None first e later = absurd (cc)
none_known_as (Some t) (Some n) first e later = absurd (let f : Some (max t n) ≡ None = sym (raised_both t n) ∙ e in cc)

none_known : (xs : List Entry) → log_time xs ≡ None → first_time xs ≡ None
none_known [] e = refl
none_known (x ∷ xs) e = none_known_as (time_told x) (log_time xs) (first_time xs) e (none_known xs)

first_then : (a b c : Option ℕ) → first_known a (first_known b c) ≡ first_known (first_known a b) c
first_then None b c = refl
first_then (Some n) b c = refl

pub first_append : (xs ys : List Entry) → first_time (xs ++ ys) ≡ first_known (first_time xs) (first_time ys)
first_append [] ys = refl
first_append (e ∷ xs) ys = ap (first_known (time_told e)) (first_append xs ys) ∙ first_then (time_told e) (first_time xs) (first_time ys)

-- where a VXID is named by the record at hand and not before, that is where it is first named
fresh_there : (grouping : Grouping) (before : List Entry) (e : Entry) (rest : List Entry) (v : ℕ) → is_in v (flat_map (names_in grouping) before) ≡ false → is_in v (names_in grouping e) ≡ true → before_named grouping v (before ++ e ∷ rest) ≡ before
fresh_there grouping [] e rest v none here = rw here refl
fresh_there grouping (x ∷ before) e rest v none here =
    let parts = or_parts (is_in v (names_in grouping x)) (is_in v (flat_map (names_in grouping) before)) (sym (in_append v (names_in grouping x) (flat_map (names_in grouping) before)) ∙ none) in
    rw (parts.0) (ap (λ (es : List Entry). x ∷ es) (fresh_there grouping before e rest v parts.1 here))

none_both : (o before there : Option ℕ) → first_known o before ≡ None → (before ≡ None → there ≡ None) → first_known o there ≡ None
none_both None before there none later = later none
none_both (Some t) before there none later = absurd (cc)

-- where nothing tells the time up to the record at hand, nothing does before a VXID that is named by then
none_there : (grouping : Grouping) (before : List Entry) (e : Entry) (rest : List Entry) (v : ℕ) → first_time before ≡ None → is_in v (flat_map (names_in grouping) (before ++ e ∷ [])) ≡ true → first_time (before_named grouping v (before ++ e ∷ rest)) ≡ None
none_there grouping [] e rest v none here =
    by_cases (first_time (before_named grouping v (e ∷ rest)) ≡ None) (is_in v (names_in grouping e)) (λ s. rw s refl)
    (λ s. absurd (both_ways (is_in v (flat_map (names_in grouping) (e ∷ []))) (in_append v (names_in grouping e) [] ∙ rw s refl) here))
none_there grouping (x ∷ before) e rest v none here =
    by_cases (first_time (before_named grouping v (x ∷ before ++ e ∷ rest)) ≡ None) (is_in v (names_in grouping x))
    (λ s. rw s refl)
    (λ s. let later : is_in v (flat_map (names_in grouping) (before ++ e ∷ [])) ≡ true =
    rw s at (sym (in_append v (names_in grouping x) (flat_map (names_in grouping) (before ++ e ∷ []))) ∙ here) in
    rw s (none_both (time_told x) (first_time before) (first_time (before_named grouping v (before ++ e ∷ rest))) none (λ n. none_there grouping before e rest v n later)))

time_from : (lt first : Option ℕ) → where_known lt (first_known lt first) ≡ lt
time_from None first = refl
time_from (Some n) first = refl

-- a VXID that is named now has the log time, if it is known
pub time_new : (grouping : Grouping) (all before : List Entry) (e : Entry) (rest : List Entry) → before ++ e ∷ rest ≡ all → (v : ℕ) → is_in v (named grouping before) ≡ false → is_in v (names_in grouping e) ≡ true → where_known (log_time before) (time_named grouping all v) ≡ log_time before
time_new grouping all before e rest whole v none here =
    ap (λ (es : List Entry). where_known (log_time before) (first_known (log_time es) (first_time all)))
    (ap (before_named grouping v) (sym whole) ∙ fresh_there grouping before e rest v (sym (in_names v grouping before) ∙ none) here)
    ∙ time_from (log_time before) (first_time all)

-- what was known stays
known_stays : (told : Option ℕ) (n m : ℕ) (a : Option ℕ) → first_known (where_known (Some n) (first_known a (Some m))) (raised told (Some n)) ≡ where_known (raised told (Some n)) (first_known a (Some m))
known_stays told n m None = let k = raised_known told n in rw (k.1) refl
known_stays told n m (Some t) = let k = raised_known told n in rw (k.1) refl

-- a first time is the time of all that were named
first_told : (told a first : Option ℕ) → ((t : ℕ) → told ≡ Some t → first_known a first ≡ Some t) → first_known (where_known None (first_known a first)) (raised told None) ≡ where_known (raised told None) (first_known a first)
first_told None a first some = refl
first_told (Some t) a first some = sym (some t refl)

-- the times of transactions after one more record
pub time_on : (grouping : Grouping) (all before : List Entry) (e : Entry) (rest : List Entry) → before ++ e ∷ rest ≡ all → (v : ℕ) → is_in v (named grouping (before ++ e ∷ [])) ≡ true →
    first_known (where_known (log_time before) (time_named grouping all v)) (raised (time_told e) (log_time before)) ≡ where_known (raised (time_told e) (log_time before)) (time_named grouping all v)
time_on grouping all before e rest whole v here =
    let a : Option ℕ = log_time (before_named grouping v all) in
    let told : Option ℕ = time_told e in
    let Goal : Option ℕ → Option ℕ → Type 0 = λ lt first. first_known (where_known lt (first_known a first)) (raised told lt) ≡ where_known (raised told lt) (first_known a first) in
    let first_is : first_time all ≡ first_known (first_time before) (first_known told (first_time rest)) = ap first_time (sym whole) ∙ first_append before (e ∷ rest) in
    told_or_not (Goal (log_time before) (first_time all)) (log_time before)
    (λ none. let unknown : first_time before ≡ None = none_known before none in
    let earlier : a ≡ None = none_told (before_named grouping v all) (ap (λ (es : List Entry). first_time (before_named grouping v es)) (sym whole) ∙ none_there grouping before e rest v unknown (sym (in_names v grouping (before ++ e ∷ [])) ∙ here)) in
    subst (λ (lt : Option ℕ). Goal lt (first_time all)) (sym none) (first_told told a (first_time all)
    (λ t is. ap (λ (o : Option ℕ). first_known o (first_time all)) earlier ∙ first_is ∙ ap (λ (o : Option ℕ). first_known o (first_known told (first_time rest))) unknown ∙ ap (λ (o : Option ℕ). first_known o (first_time rest)) is)))
    (λ n known. told_or_not (Goal (log_time before) (first_time all)) (first_time before)
    (λ unknown. absurd (let f : None ≡ Some n = sym (none_told before unknown) ∙ known in cc))
    (λ m first. let whole_first : first_time all ≡ Some m = first_is ∙ ap (λ (o : Option ℕ). first_known o (first_known told (first_time rest))) first in
    subst (λ (lt : Option ℕ). Goal lt (first_time all)) (sym known) (subst (λ (o : Option ℕ). Goal (Some n) o) (sym whole_first) (known_stays told n m a))))
