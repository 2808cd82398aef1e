-- What a record of a regular log tells of the transactions of VXIDs: it begins those that it names, and goes to its
-- own.
use Rattle.std.proofs.Common.{◌≡◌, ◌+◌, ℕ, Bool, true, false, not, eqb, cond, ◌&&◌, Option, Some, None, List, [], ◌∷◌, ◌++◌, length, map, refl, ap, sym, ◌∙◌, subst, append-nil, append_assoc}
use Rattle.std.proofs.lemmas.Bool.{eqb-true, eqb-false, ne_eqb}
use Rattle.std.proofs.lemmas.List.{length_push, map-append}
use Rattle.vsl_tags.specs.Tags.{begin_tag}
use Rattle.vsl_record.specs.declared.record_type.Record.{Record}
use Rattle.txn_rows.specs.declared.group.Grouping.{Grouping}
use Rattle.txn_rows.specs.declared.group.Kind.{Kind}
use Rattle.txn_rows.specs.declared.group.Reason.{Reason}
use Rattle.txn_rows.specs.declared.group.ParentLink.{ParentLink}
use Rattle.txn_rows.specs.declared.claim.Claim.{Claim}
use Rattle.txn_rows.specs.Claim.{claim_of}
use Rattle.txn_rows.specs.Transaction.{Transaction, empty_transaction, is_pending, is_open, claimed_kind, longer}
use Rattle.txn_rows.specs.Grouping.{State, with_new, with_transaction, with_other}
use Rattle.txn_partition.specs.LogFacts.{Entry, records_of, has_end, links_of, is_in, names_in, named, parent_of, log_time, time_named}
use Rattle.txn_partition.specs.Partition.{begin_claim, kind_told, reason_told, AreRegular}
use Rattle.txn_rows.specs.inside.Rows.{with_one}
use Rattle.txn_partition.specs.inside.Parted.{place, parent_link, where_known, transaction_at, with_new_ones}
use Rattle.txn_rows.proofs.LineLemmas.{by_cases}
use Rattle.txn_partition.proofs.NamedLemmas.{added, grown, place_behind}
use Rattle.txn_partition.proofs.MappedLemmas.{AreNamed, pending_mapped, open_mapped, changed_at}
use Rattle.txn_partition.proofs.RegularLemmas.{records_append, records_own, begins_first, unnamed_records, unnamed_parent, unnamed_end}
use Rattle.txn_partition.proofs.TimedLemmas.{time_new}

-- a state of the transactions of VXIDs, after so many were named
abbrev pub mapped : (ℕ → Transaction) → List ℕ → List ℕ → Option ℕ → State
mapped T names all_named time = record { pending = map T names; begun = length all_named; time = time }

-- a transaction that begins is that of its VXID
abbrev pub IsFresh : (ℕ → Transaction) → List ℕ → Option ℕ → ℕ → Type 0
IsFresh T all_named time v = T v ≡ empty_transaction (length all_named) v time

new_mapped : (T : ℕ → Transaction) (names all_named : List ℕ) (time : Option ℕ) (v : ℕ) → IsFresh T all_named time v → with_new v (mapped T names all_named time) ≡ mapped T (names ++ v ∷ []) (all_named ++ v ∷ []) time
new_mapped T names all_named time v fresh =
    let pending : map T names ++ empty_transaction (length all_named) v time ∷ [] ≡ map T (names ++ v ∷ []) = ap (λ (t : Transaction). map T names ++ t ∷ []) (sym fresh) ∙ sym (map-append T names (v ∷ [])) in
    let begun : length all_named + 1 ≡ length (all_named ++ v ∷ []) = sym (length_push all_named v) in
    ap (λ (ts : List Transaction). record { pending = ts; begun = length all_named + 1; time = time }) pending
    ∙ ap (λ (n : ℕ). record { pending = map T (names ++ v ∷ []); begun = n; time = time }) begun

-- one that is named begins, where none of its VXID is pending
new_or_not : (T : ℕ → Transaction) (names all_named : List ℕ) (time : Option ℕ) (v : ℕ) (here : Bool) → here ≡ is_in v names → is_in v names ≡ is_in v all_named → (is_in v all_named ≡ false → IsFresh T all_named time v) →
    cond here (mapped T names all_named time) (with_new v (mapped T names all_named time)) ≡ mapped T (added v names) (added v all_named) time
new_or_not T names all_named time v true here same fresh = rw (sym same, sym here) refl
new_or_not T names all_named time v false here same fresh = rw (sym same, sym here) (new_mapped T names all_named time v (fresh (sym same ∙ sym here)))

pub other_mapped : (T : ℕ → Transaction) → AreNamed T → (names all_named : List ℕ) (time : Option ℕ) (v : ℕ) → is_in v names ≡ is_in v all_named → (is_in v all_named ≡ false → IsFresh T all_named time v) →
    with_other v (mapped T names all_named time) ≡ mapped T (added v names) (added v all_named) time
other_mapped T is names all_named time v same fresh = new_or_not T names all_named time v (is_pending v (map T names)) (pending_mapped T is v names) same fresh

open_is : (a b : Bool) → b ≡ false → (a && not b) ≡ a
open_is true b e = ap not e
open_is false b e = refl

pub own_mapped : (T : ℕ → Transaction) → AreNamed T → (names all_named : List ℕ) (time : Option ℕ) (v : ℕ) → (T v).ended ≡ false → is_in v names ≡ is_in v all_named → (is_in v all_named ≡ false → IsFresh T all_named time v) →
    with_transaction v (mapped T names all_named time) ≡ mapped T (added v names) (added v all_named) time
own_mapped T is names all_named time v unended same fresh =
    new_or_not T names all_named time v (is_open v (map T names)) (open_mapped T is v names ∙ open_is (is_in v names) (T v).ended unended) same fresh

-- transactions are the same where all that is told of them is
same_fields : (t u : Transaction) → t.serial ≡ u.serial → t.vxid ≡ u.vxid → t.kind ≡ u.kind → t.reason ≡ u.reason → t.records ≡ u.records → t.parent ≡ u.parent → t.ended ≡ u.ended → t.time ≡ u.time → t ≡ u
same_fields t u a b c d e f g h =
    ap {B = Transaction} (λ (x : ℕ). record { serial = x; vxid = t.vxid; kind = t.kind; reason = t.reason; records = t.records; parent = t.parent; ended = t.ended; time = t.time }) a
    ∙ ap {B = Transaction} (λ (x : ℕ). record { serial = u.serial; vxid = x; kind = t.kind; reason = t.reason; records = t.records; parent = t.parent; ended = t.ended; time = t.time }) b
    ∙ ap {B = Transaction} (λ (x : Kind). record { serial = u.serial; vxid = u.vxid; kind = x; reason = t.reason; records = t.records; parent = t.parent; ended = t.ended; time = t.time }) c
    ∙ ap {B = Transaction} (λ (x : Reason). record { serial = u.serial; vxid = u.vxid; kind = u.kind; reason = x; records = t.records; parent = t.parent; ended = t.ended; time = t.time }) d
    ∙ ap {B = Transaction} (λ (x : List Record). record { serial = u.serial; vxid = u.vxid; kind = u.kind; reason = u.reason; records = x; parent = t.parent; ended = t.ended; time = t.time }) e
    ∙ ap {B = Transaction} (λ (x : Option ParentLink). record { serial = u.serial; vxid = u.vxid; kind = u.kind; reason = u.reason; records = u.records; parent = x; ended = t.ended; time = t.time }) f
    ∙ ap {B = Transaction} (λ (x : Bool). record { serial = u.serial; vxid = u.vxid; kind = u.kind; reason = u.reason; records = u.records; parent = u.parent; ended = x; time = t.time }) g
    ∙ ap {B = Transaction} (λ (x : Option ℕ). record { serial = u.serial; vxid = u.vxid; kind = u.kind; reason = u.reason; records = u.records; parent = u.parent; ended = u.ended; time = x }) h

append_one : (xs : List ℕ) (y : ℕ) (ys : List ℕ) → (xs ++ y ∷ []) ++ ys ≡ xs ++ y ∷ ys
append_one xs y ys = append_assoc xs (y ∷ []) ys

-- the place of the VXID that is named next
place_next : (v : ℕ) (names more all_named : List ℕ) → all_named ≡ with_new_ones names (v ∷ more) → is_in v names ≡ false → place v all_named ≡ length names
place_next v names more all_named whole new =
    let behind = grown (added v names) more in
    let is : with_new_ones names (v ∷ more) ≡ names ++ v ∷ behind.0 = behind.1 ∙ ap (λ (b : Bool). cond b names (names ++ v ∷ []) ++ behind.0) new ∙ append_one names v behind.0 in
    ap (place v) (whole ∙ is) ∙ place_behind v names behind.0 new

-- of a VXID that was not named the transaction is empty
pub fresh_at : (grouping : Grouping) (all before : List Entry) (e : Entry) (rest : List Entry) → before ++ e ∷ rest ≡ all → (v : ℕ) (names more : List ℕ) → is_in v (named grouping before) ≡ false → is_in v (names_in grouping e) ≡ true →
    named grouping all ≡ with_new_ones names (v ∷ more) → is_in v names ≡ false → IsFresh (transaction_at grouping all before) names (log_time before) v
fresh_at grouping all before e rest whole v names more none here all_named new =
    let serial : place v (named grouping all) ≡ length names = place_next v names more (named grouping all) all_named new in
    let records : records_of v before ≡ [] = unnamed_records grouping before v none in
    let parent : parent_link grouping all v (parent_of (links_of grouping before) v) ≡ None = ap (parent_link grouping all v) (unnamed_parent grouping before v none) in
    let ended : has_end v before ≡ false = unnamed_end grouping before v none in
    let time : where_known (log_time before) (time_named grouping all v) ≡ log_time before = time_new grouping all before e rest whole v none here in
    same_fields (transaction_at grouping all before v) (empty_transaction (length names) v (log_time before)) serial refl
    (ap (λ (rs : List Record). kind_told (begin_claim rs)) records) (ap (λ (rs : List Record). reason_told (begin_claim rs)) records) records parent ended time

-- a transaction with records, and what the first Begin of them tells
abbrev pub with_records : Transaction → List Record → Transaction
with_records t records = record t { kind = kind_told (begin_claim records); reason = reason_told (begin_claim records); records = records }

begin_claim_more : (records : List Record) (rec : Record) → eqb rec.tag begin_tag ≡ false → begin_claim (records ++ rec ∷ []) ≡ begin_claim records
begin_claim_more [] rec other = rw other refl
begin_claim_more (r ∷ records) rec other =
    by_cases (begin_claim (r ∷ records ++ rec ∷ []) ≡ begin_claim (r ∷ records)) (eqb r.tag begin_tag) (λ e. rw e refl) (λ e. rw e (begin_claim_more records rec other))

first_claim : (t : Transaction) (rec : Record) (claim : Option Claim) → claimed_kind claim (longer rec (with_records t [])) ≡ record t { kind = kind_told claim; reason = reason_told claim; records = rec ∷ [] }
first_claim t rec None = refl
first_claim t rec (Some claim) = refl

-- one record more, which is a Begin only where there were none
one_more : (t : Transaction) (records : List Record) (rec : Record) → (eqb rec.tag begin_tag ≡ true → records ≡ []) → with_one rec (with_records t records) ≡ with_records t (records ++ rec ∷ [])
one_more t records rec first =
    let whole : List Record → Type 0 = λ rs. with_one rec (with_records t rs) ≡ with_records t (rs ++ rec ∷ []) in
    by_cases (whole records) (eqb rec.tag begin_tag)
    (λ e. subst whole (sym (first e)) (
    ap (λ (b : Bool). claimed_kind (cond b (claim_of rec.payload) None) (longer rec (with_records t []))) e
    ∙ first_claim t rec (claim_of rec.payload)
    ∙ sym (ap (λ (b : Bool). record t { kind = kind_told (cond b (claim_of rec.payload) None); reason = reason_told (cond b (claim_of rec.payload) None); records = rec ∷ [] }) e)))
    (λ e. ap (λ (b : Bool). claimed_kind (cond b (claim_of rec.payload) None) (longer rec (with_records t records))) e
    ∙ sym (ap (λ (c : Option Claim). record t { kind = kind_told c; reason = reason_told c; records = records ++ rec ∷ [] }) (begin_claim_more records rec e)))

-- the transaction of a VXID once the record at hand has gone to its own
abbrev pub recorded : Grouping → List Entry → List Entry → Entry → ℕ → Transaction
recorded grouping all before e v = with_records (transaction_at grouping all before v) (records_of v (before ++ e ∷ []))

records_other : (before : List Entry) (e : Entry) (v : ℕ) → eqb e.vxid v ≡ false → records_of v (before ++ e ∷ []) ≡ records_of v before
records_other before e v other = records_append v before (e ∷ []) ∙ ap (λ (es : List Record). records_of v before ++ es) (rw other refl) ∙ append-nil (records_of v before)

records_one : (before : List Entry) (e : Entry) → records_of e.vxid (before ++ e ∷ []) ≡ records_of e.vxid before ++ e.rec ∷ []
records_one before e = records_append e.vxid before (e ∷ []) ∙ ap (λ (es : List Record). records_of e.vxid before ++ es) (records_own e [])

-- another's stays
pub recorded_other : (grouping : Grouping) (all before : List Entry) (e : Entry) (v : ℕ) → eqb e.vxid v ≡ false → recorded grouping all before e v ≡ transaction_at grouping all before v
recorded_other grouping all before e v other = ap (with_records (transaction_at grouping all before v)) (records_other before e v other)

pub record_told : (grouping : Grouping) (all : List Entry) → AreRegular grouping all → (before : List Entry) (e : Entry) (rest : List Entry) → before ++ e ∷ rest ≡ all → is_in e.vxid (named grouping all) ≡ true → (v : ℕ) →
    changed_at e.vxid (with_one e.rec) (transaction_at grouping all before) v ≡ recorded grouping all before e v
record_told grouping all r before e rest whole here v =
    let T : ℕ → Transaction = transaction_at grouping all before in
    by_cases (changed_at e.vxid (with_one e.rec) T v ≡ recorded grouping all before e v) (eqb v e.vxid)
    (λ same. let is : v ≡ e.vxid = eqb-true v e.vxid same in
    rw same (subst (λ (x : ℕ). with_one e.rec (T x) ≡ recorded grouping all before e x) (sym is)
    (one_more (T e.vxid) (records_of e.vxid before) e.rec (λ begin. begins_first grouping all r before e rest whole here (eqb-true e.rec.tag begin_tag begin))
    ∙ ap (with_records (T e.vxid)) (sym (records_one before e)))))
    (λ other. rw other (sym (recorded_other grouping all before e v (ne_eqb e.vxid v (λ s. eqb-false v e.vxid other (sym s))))))
