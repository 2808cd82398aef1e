-- All that a record of a regular log tells, before any group leaves: the transactions are those of the VXIDs that
-- are named by then.
use Rattle.std.proofs.Common.{◌≡◌, ⊎_elim, ℕ, Bool, true, false, eqb, cond, ◌||◌, ◌&&◌, Option, None, List, [], ◌∷◌, ◌++◌, length, map, refl, ap, sym, ◌∙◌, subst, append-nil, append_assoc}
use Rattle.std.specs.List.{filter, flat_map}
use Rattle.std.proofs.lemmas.Bool.{eq-eqb, ne_eqb, both_ways, or_left, or_right, false_from_ne_true}
use Rattle.std.proofs.lemmas.Simd.{map-map}
use Rattle.vsl_tags.specs.Tags.{timestamp_tag}
use Rattle.txn_rows.specs.declared.group.Grouping.{Grouping}
use Rattle.txn_rows.specs.Time.{time_of}
use Rattle.txn_rows.specs.Transaction.{Transaction, is_pending, with_record, with_kind}
use Rattle.txn_rows.specs.Links.{with_link}
use Rattle.txn_rows.specs.Grouping.{State, with_transaction, with_other, with_claim, raised, first_known, timed, with_time, with_log_time, with_all_told}
use Rattle.txn_partition.specs.LogFacts.{Entry, Link, links_in, links_of, is_in, names_in, named, time_told, log_time, time_named}
use Rattle.txn_partition.specs.Partition.{class_root, AreRegular, ends_later}
use Rattle.txn_rows.specs.inside.Rows.{with_one}
use Rattle.txn_partition.specs.inside.Parted.{where_known, transaction_at, open_names, state_at, with_new_ones}
use Rattle.txn_rows.proofs.LineLemmas.{by_cases}
use Rattle.txn_rows.proofs.PendingLemmas.{one_told}
use Rattle.txn_partition.proofs.NamedLemmas.{added, in_added, added_in, in_filter, in_new_ones, filter_added, AreApart, apart_added, apart_filter}
use Rattle.txn_partition.proofs.MappedLemmas.{pending_mapped, map_same, changed_at, changed_mapped}
use Rattle.txn_partition.proofs.RegularLemmas.{own_end, named_append, joined_by}
use Rattle.txn_partition.proofs.ClassLemmas.{links_append, part_named, ends_class, in_open, open_in, open_same}
use Rattle.txn_partition.proofs.TimedLemmas.{time_on, log_time_more}
use Rattle.txn_partition.proofs.ToldLemmas.{mapped, other_mapped, own_mapped, fresh_at, recorded, recorded_other, record_told}
use Rattle.txn_partition.proofs.LinkToldLemmas.{OneLink, links_few, with_both, with_joined, told_links, claim_is, IsTold}
use Rattle.txn_partition.proofs.LinkMadeLemmas.{AtLink, link_parent, named_apart, relinked, link_made}

-- a record at its place in a regular log
pub record AtRecord (grouping : Grouping) (all before : List Entry) (e : Entry) (rest : List Entry) : Type 0 where
  pub regular : AreRegular grouping all
  pub whole : before ++ e ∷ rest ≡ all

pub whole_behind : (grouping : Grouping) (all before : List Entry) (e : Entry) (rest : List Entry) → AtRecord grouping all before e rest → (before ++ e ∷ []) ++ rest ≡ all
whole_behind grouping all before e rest a = append_assoc before (e ∷ []) rest ∙ a.whole

own_there : (grouping : Grouping) (before : List Entry) (e : Entry) → is_in e.vxid (named grouping (before ++ e ∷ [])) ≡ true
own_there grouping before e =
    ap (is_in e.vxid) (named_append grouping before (e ∷ [])) ∙ in_new_ones e.vxid (named grouping before) (flat_map (names_in grouping) (e ∷ []))
    ∙ or_right (is_in e.vxid (named grouping before)) (is_in e.vxid (flat_map (names_in grouping) (e ∷ []))) (or_left (eqb e.vxid e.vxid) (is_in e.vxid (joined_by (links_in grouping e) ++ [])) (eq-eqb e.vxid e.vxid refl))

-- its VXID is named, and its class has an End to come
own_is_named : (grouping : Grouping) (all before : List Entry) (e : Entry) (rest : List Entry) → AtRecord grouping all before e rest → is_in e.vxid (named grouping all) ≡ true
own_is_named grouping all before e rest a = part_named grouping all (before ++ e ∷ []) rest (whole_behind grouping all before e rest a) e.vxid (own_there grouping before e)

own_open : (grouping : Grouping) (all before : List Entry) (e : Entry) (rest : List Entry) → AtRecord grouping all before e rest → ends_later grouping all (e ∷ rest) e.vxid ≡ true
own_open grouping all before e rest a =
    ends_class (class_root grouping all) e.vxid (e ∷ rest) (own_end grouping all a.regular before e rest a.whole (own_is_named grouping all before e rest a)).1

-- and so it is among those that are open
pub own_among : (grouping : Grouping) (all before : List Entry) (e : Entry) (rest : List Entry) → AtRecord grouping all before e rest → is_in e.vxid (open_names grouping all (before ++ e ∷ []) (e ∷ rest)) ≡ true
own_among grouping all before e rest a = open_in grouping all (before ++ e ∷ []) (e ∷ rest) e.vxid (own_there grouping before e) (own_open grouping all before e rest a)

-- what is open stands among the open ones where it is named
open_there : (p : ℕ → Bool) (names : List ℕ) (v : ℕ) → p v ≡ true → is_in v (filter p names) ≡ is_in v names
open_there p names v passes = in_filter v p names ∙ rw passes (by_cases ((is_in v names && true) ≡ is_in v names) (is_in v names) (λ e. rw e refl) (λ e. rw e refl))

-- the VXIDs that are named from there on
named_from : (grouping : Grouping) (all before : List Entry) (e : Entry) (rest : List Entry) → AtRecord grouping all before e rest → named grouping all ≡ with_new_ones (named grouping before) (e.vxid ∷ (joined_by (links_in grouping e) ++ flat_map (names_in grouping) rest))
named_from grouping all before e rest a = ap (named grouping) (sym a.whole) ∙ named_append grouping before (e ∷ rest)

-- its own transaction begins, if it isn't there
begun_told : (grouping : Grouping) (all before : List Entry) (e : Entry) (rest : List Entry) → AtRecord grouping all before e rest →
    with_transaction e.vxid (state_at grouping all before (e ∷ rest))
    ≡ mapped (transaction_at grouping all before) (filter (ends_later grouping all (e ∷ rest)) (added e.vxid (named grouping before))) (added e.vxid (named grouping before)) (log_time before)
begun_told grouping all before e rest a =
    let T : ℕ → Transaction = transaction_at grouping all before in
    let p : ℕ → Bool = ends_later grouping all (e ∷ rest) in
    let first : List ℕ = named grouping before in
    let open_here : p e.vxid ≡ true = own_open grouping all before e rest a in
    own_mapped T (λ x. refl) (filter p first) first (log_time before) e.vxid (own_end grouping all a.regular before e rest a.whole (own_is_named grouping all before e rest a)).0
    (open_there p first e.vxid open_here)
    (λ new. fresh_at grouping all before e rest a.whole e.vxid first (joined_by (links_in grouping e) ++ flat_map (names_in grouping) rest) new
    (or_left (eqb e.vxid e.vxid) (is_in e.vxid (joined_by (links_in grouping e))) (eq-eqb e.vxid e.vxid refl)) (named_from grouping all before e rest a) new)
    ∙ ap (λ (names : List ℕ). mapped T names (added e.vxid first) (log_time before)) (sym (filter_added p e.vxid first open_here))

-- and gets the record
record_gone : (grouping : Grouping) (all before : List Entry) (e : Entry) (rest : List Entry) → AtRecord grouping all before e rest → (names : List ℕ) → AreApart names →
    with_kind e.vxid e.rec (with_record e.vxid e.rec (map (transaction_at grouping all before) names)) ≡ map (recorded grouping all before e) names
record_gone grouping all before e rest a names apart =
    let T : ℕ → Transaction = transaction_at grouping all before in
    one_told e.vxid e.rec (map T names) ∙ changed_mapped T (λ x. refl) e.vxid (with_one e.rec) names apart
    ∙ map_same (changed_at e.vxid (with_one e.rec) T) (recorded grouping all before e) names (λ x here. record_told grouping all a.regular before e rest a.whole (own_is_named grouping all before e rest a) x)

-- a VXID that isn't there once the own is, is another, and was not there
not_added : (v x : ℕ) (names : List ℕ) → is_in x (added v names) ≡ false → (is_in x names ≡ false) × (eqb v x ≡ false)
not_added v x names none = (
  false_from_ne_true (is_in x names) (λ here. both_ways (is_in x (added v names)) none (in_added x v names here)),
  ne_eqb v x (λ e. both_ways (is_in x (added v names)) none (subst (λ (y : ℕ). is_in y (added v names) ≡ true) e (added_in v names))),
)

-- one that the link names begins
link_begun : (grouping : Grouping) (all before : List Entry) (e : Entry) (rest : List Entry) → AtRecord grouping all before e rest → (names : List ℕ) (v : ℕ) (more : List ℕ) → ((x : ℕ) → is_in x (added e.vxid (named grouping before)) ≡ true → is_in x names ≡ true) →
    named grouping all ≡ with_new_ones names (v ∷ more) → is_in v (names_in grouping e) ≡ true → ends_later grouping all (e ∷ rest) v ≡ true →
    with_other v (mapped (recorded grouping all before e) (filter (ends_later grouping all (e ∷ rest)) names) names (log_time before))
    ≡ mapped (recorded grouping all before e) (filter (ends_later grouping all (e ∷ rest)) (added v names)) (added v names) (log_time before)
link_begun grouping all before e rest a names v more has all_named named_here open_here =
    let p : ℕ → Bool = ends_later grouping all (e ∷ rest) in
    let T : ℕ → Transaction = recorded grouping all before e in
    other_mapped T (λ x. refl) (filter p names) names (log_time before) v (open_there p names v open_here)
    (λ new.
    let none = not_added e.vxid v (named grouping before) (false_from_ne_true (is_in v (added e.vxid (named grouping before))) (λ here. both_ways (is_in v names) new (has v here))) in
    recorded_other grouping all before e v none.1 ∙ fresh_at grouping all before e rest a.whole v names more none.0 named_here all_named new)
    ∙ ap (λ (xs : List ℕ). mapped T xs (added v names) (log_time before)) (sym (filter_added p v names open_here))

recorded_told : (grouping : Grouping) (all before : List Entry) (e : Entry) → IsTold grouping all (links_of grouping before) (recorded grouping all before e)
recorded_told grouping all before e = record { vxid = λ x. refl; serial = λ x. refl; parent = λ x. refl }

-- the transactions once links are made
abbrev linked_at : Grouping → List Entry → List Entry → Entry → ℕ → Transaction
linked_at grouping all before e = relinked grouping all (links_of grouping (before ++ e ∷ [])) (recorded grouping all before e)

-- where the record makes none
no_link : (grouping : Grouping) (all before : List Entry) (e : Entry) (rest : List Entry) → links_in grouping e ≡ [] →
    mapped (recorded grouping all before e) (filter (ends_later grouping all (e ∷ rest)) (added e.vxid (named grouping before))) (added e.vxid (named grouping before)) (log_time before)
    ≡ mapped (linked_at grouping all before e) (open_names grouping all (before ++ e ∷ []) (e ∷ rest)) (named grouping (before ++ e ∷ [])) (log_time before)
no_link grouping all before e rest none =
    let T : ℕ → Transaction = recorded grouping all before e in
    let p : ℕ → Bool = ends_later grouping all (e ∷ rest) in
    let now : named grouping (before ++ e ∷ []) ≡ added e.vxid (named grouping before) = named_append grouping before (e ∷ []) ∙ ap (λ (ls : List Link). with_new_ones (named grouping before) (e.vxid ∷ (joined_by ls ++ []))) none in
    let links : links_of grouping (before ++ e ∷ []) ≡ links_of grouping before = links_append grouping before (e ∷ []) ∙ ap (λ (ls : List Link). links_of grouping before ++ (ls ++ [])) none ∙ append-nil (links_of grouping before) in
    ap (λ (ts : List Transaction). record { pending = ts; begun = length (added e.vxid (named grouping before)); time = log_time before })
    (map_same T (linked_at grouping all before e) (filter p (added e.vxid (named grouping before))) (λ x here. ap (λ (ls : List Link). relinked grouping all ls T x) (sym links)))
    ∙ ap (λ (names : List ℕ). mapped (linked_at grouping all before e) (filter p names) names (log_time before)) (sym now)

-- where it makes one
one_link : (grouping : Grouping) (all before : List Entry) (e : Entry) (rest : List Entry) → AtRecord grouping all before e rest → (one : OneLink grouping e) →
    with_joined one.link (mapped (recorded grouping all before e) (filter (ends_later grouping all (e ∷ rest)) (added e.vxid (named grouping before))) (added e.vxid (named grouping before)) (log_time before))
    ≡ mapped (linked_at grouping all before e) (open_names grouping all (before ++ e ∷ []) (e ∷ rest)) (named grouping (before ++ e ∷ [])) (log_time before)
one_link grouping all before e rest a one =
    let c : ℕ = one.link.child in
    let p : ℕ = one.link.parent in
    let T : ℕ → Transaction = recorded grouping all before e in
    let is_open : ℕ → Bool = ends_later grouping all (e ∷ rest) in
    let first : List ℕ = added e.vxid (named grouping before) in
    let later : List ℕ = flat_map (names_in grouping) rest in
    let at : AtLink grouping all before e rest = record { regular = a.regular; whole = a.whole; one = one } in
    let all_named : named grouping all ≡ with_new_ones first (c ∷ p ∷ later) = named_from grouping all before e rest a ∙ ap (λ (ls : List Link). with_new_ones first (joined_by ls ++ later)) one.is in
    let names_are : names_in grouping e ≡ e.vxid ∷ c ∷ p ∷ [] = ap (λ (ls : List Link). e.vxid ∷ joined_by ls) one.is in
    let same : is_open c ≡ is_open p = open_same grouping all (e ∷ rest) a.regular c p (link_parent grouping all before e rest at) in
    let own : is_open e.vxid ≡ true = own_open grouping all before e rest a in
    let open_p : is_open p ≡ true = ⊎_elim (λ (is : c ≡ e.vxid). sym same ∙ ap is_open is ∙ own) (λ (is : p ≡ e.vxid). ap is_open is ∙ own) one.own in
    let open_c : is_open c ≡ true = same ∙ open_p in
    let now : named grouping (before ++ e ∷ []) ≡ added p (added c first) = named_append grouping before (e ∷ []) ∙ ap (λ (ls : List Link). with_new_ones (named grouping before) (e.vxid ∷ (joined_by ls ++ []))) one.is in
    let both : with_both one.link (mapped T (filter is_open first) first (log_time before)) ≡ mapped T (filter is_open (added p (added c first))) (added p (added c first)) (log_time before) =
    ap (with_other p) (link_begun grouping all before e rest a first c (p ∷ later) (λ x here. here) all_named (ap (is_in c) names_are ∙ or_right (eqb e.vxid c) (eqb c c || (eqb p c || false)) (or_left (eqb c c) (eqb p c || false) (eq-eqb c c refl))) open_c)
    ∙ link_begun grouping all before e rest a (added c first) p later (λ x here. in_added x c first here) all_named
    (ap (is_in p) names_are ∙ or_right (eqb e.vxid p) (eqb c p || (eqb p p || false)) (or_right (eqb c p) (eqb p p || false) (or_left (eqb p p) false (eq-eqb p p refl)))) open_p in
    let among : (x : ℕ) → is_in x (added p (added c first)) ≡ true → is_open x ≡ true → is_in x (open_names grouping all (before ++ e ∷ []) (e ∷ rest)) ≡ true = λ x here open_x. open_in grouping all (before ++ e ∷ []) (e ∷ rest) x (ap (is_in x) now ∙ here) open_x in
    let made = link_made grouping all before e rest at T (recorded_told grouping all before e) (λ x. refl) (among c (in_added c p (added c first) (added_in c first)) open_c) (among p (added_in p (added c first)) open_p) in
    ap (λ (s : State). record s { pending = with_link c p s.pending }) (both ∙ ap (λ (names : List ℕ). mapped T (filter is_open names) names (log_time before)) (sym now))
    ∙ ap (λ (ts : List Transaction). record { pending = ts; begun = length (named grouping (before ++ e ∷ [])); time = log_time before }) made

-- the transactions once the time is told
abbrev pub timed_at : Grouping → List Entry → List Entry → Entry → ℕ → Transaction
timed_at grouping all before e x = record (linked_at grouping all before e x) { time = where_known (log_time (before ++ e ∷ [])) (time_named grouping all x) }

time_gone : (grouping : Grouping) (all before : List Entry) (e : Entry) (rest : List Entry) → AtRecord grouping all before e rest → (names : List ℕ) → ((x : ℕ) → is_in x names ≡ true → is_in x (named grouping (before ++ e ∷ [])) ≡ true) → (all_named : List ℕ) →
    with_log_time e.rec (mapped (linked_at grouping all before e) names all_named (log_time before)) ≡ mapped (timed_at grouping all before e) names all_named (log_time (before ++ e ∷ []))
time_gone grouping all before e rest a names within all_named =
    let T : ℕ → Transaction = linked_at grouping all before e in
    let lt : Option ℕ = log_time before in
    let s : State = mapped T names all_named lt in
    let by : Option ℕ → ℕ → Transaction = λ now x. record (T x) { time = where_known now (time_named grouping all x) } in
    let now : log_time (before ++ e ∷ []) ≡ raised (time_told e) lt = log_time_more before e in
    let told : with_log_time e.rec s ≡ mapped (by (raised (time_told e) lt)) names all_named (raised (time_told e) lt) =
    by_cases (with_log_time e.rec s ≡ mapped (by (raised (time_told e) lt)) names all_named (raised (time_told e) lt)) (eqb e.rec.tag timestamp_tag)
    (λ t. let time : time_told e ≡ time_of e.rec.payload = rw t refl in
    let later : Option ℕ = raised (time_of e.rec.payload) lt in
    ap (λ (b : Bool). cond b (with_time (time_of e.rec.payload) s) s) t
    ∙ ap (λ (ts : List Transaction). record { pending = ts; begun = length all_named; time = later })
    (map-map (timed later) T names
    ∙ map_same (λ x. timed later (T x)) (by later) names (λ x here. ap (λ (o : Option ℕ). record (T x) { time = o })
    (ap (λ (o : Option ℕ). first_known (where_known lt (time_named grouping all x)) (raised o lt)) (sym time) ∙ time_on grouping all before e rest a.whole x (within x here) ∙ ap (λ (o : Option ℕ). where_known (raised o lt) (time_named grouping all x)) time)))
    ∙ ap (λ (o : Option ℕ). mapped (by (raised o lt)) names all_named (raised o lt)) (sym time))
    (λ t. let time : time_told e ≡ None = rw t refl in
    ap (λ (b : Bool). cond b (with_time (time_of e.rec.payload) s) s) t ∙ ap (λ (o : Option ℕ). mapped (by (raised o lt)) names all_named (raised o lt)) (sym time)) in
    told ∙ ap (λ (o : Option ℕ). mapped (by o) names all_named o) (sym now)

-- all that a record tells
pub all_told : (grouping : Grouping) (all before : List Entry) (e : Entry) (rest : List Entry) → AtRecord grouping all before e rest →
    with_all_told grouping e.vxid e.rec (state_at grouping all before (e ∷ rest))
    ≡ mapped (timed_at grouping all before e) (open_names grouping all (before ++ e ∷ []) (e ∷ rest)) (named grouping (before ++ e ∷ [])) (log_time (before ++ e ∷ []))
all_told grouping all before e rest a =
    let p : ℕ → Bool = ends_later grouping all (e ∷ rest) in
    let first : List ℕ = added e.vxid (named grouping before) in
    let names : List ℕ = filter p first in
    let T : ℕ → Transaction = recorded grouping all before e in
    let begun : State = mapped T names first (log_time before) in
    let now : State = mapped (linked_at grouping all before e) (open_names grouping all (before ++ e ∷ []) (e ∷ rest)) (named grouping (before ++ e ∷ [])) (log_time before) in
    let here : is_pending e.vxid begun.pending ≡ true = pending_mapped T (λ x. refl) e.vxid names ∙ open_there p first e.vxid (own_open grouping all before e rest a) ∙ added_in e.vxid (named grouping before) in
    let claimed : with_claim grouping e.vxid e.rec begun ≡ now =
    claim_is grouping e begun here ∙ ⊎_elim
    (λ (none : links_in grouping e ≡ []). ap (λ (ls : List Link). told_links ls begun) none ∙ no_link grouping all before e rest none)
    (λ (one : OneLink grouping e). ap (λ (ls : List Link). told_links ls begun) one.is ∙ one_link grouping all before e rest a one)
    (links_few grouping e) in
    ap (λ (s : State). with_log_time e.rec (with_claim grouping e.vxid e.rec (record s { pending = with_kind e.vxid e.rec (with_record e.vxid e.rec s.pending) }))) (begun_told grouping all before e rest a)
    ∙ ap (λ (ts : List Transaction). with_log_time e.rec (with_claim grouping e.vxid e.rec (record { pending = ts; begun = length first; time = log_time before })))
    (record_gone grouping all before e rest a names (apart_filter p first (apart_added (named grouping before) e.vxid (named_apart grouping before))))
    ∙ ap (with_log_time e.rec) claimed
    ∙ time_gone grouping all before e rest a (open_names grouping all (before ++ e ∷ []) (e ∷ rest)) (λ x is. (in_open grouping all (before ++ e ∷ []) (e ∷ rest) x is).0) (named grouping (before ++ e ∷ []))
