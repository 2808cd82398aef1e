-- Where the units that were taken are units, the records of groups are such records.
use Rattle.std.proofs.Common.{◌≡◌, ◌<◌, ◌≤◌, ◌-◌, ℕ, zero, suc, Bool, true, false, not, eqb, ltb, leb, cond, Option, Some, None, List, [], ◌∷◌, ◌++◌, length, refl, ap, subst, ltb-true, arith}
use Rattle.std.specs.Prelude.{codes, slice_index, slice_index_or, IfSome}
use Rattle.std.specs.List.{All, AllByRecursion, list_all}
use Rattle.std.specs.Option.{option_map}
use Rattle.std.proofs.lemmas.Bool.{and_parts}
use Rattle.std.proofs.lemmas.List.Elements.{All-nil, All-cons, All-append, All-map, All-filter}
use Rattle.vsl_decimal.specs.Field.{field_of}
use Rattle.vsl_decimal.specs.Whole.{whole_number}
use Rattle.vsl_decimal.proofs.WholeLemmas.{Writes, whole_number-writes}
use Rattle.vsl_tags.specs.Tags.{end_tag, vsl_tag}
use Rattle.vsl_record.specs.declared.mark.Mark.{Mark}
use Rattle.vsl_record.specs.declared.record_type.Record.{Record}
use Rattle.vsl_record.specs.Payload.{IsPayload}
use Rattle.vsl_record.specs.Unit.{vxid_end, IsRecordOf}
use Rattle.txn_rows.specs.declared.group.Grouping.{Grouping}
use Rattle.txn_rows.specs.declared.group.GroupOptions.{GroupOptions}
use Rattle.txn_rows.specs.declared.group.Kind.{Kind}
use Rattle.txn_rows.specs.declared.group.Kind.TheVariants as kinds
use Rattle.txn_rows.specs.declared.group.Reason.{Reason}
use Rattle.txn_rows.specs.declared.group.Reason.TheVariants as reasons
use Rattle.txn_rows.specs.declared.group.Cause.{Cause}
use Rattle.txn_rows.specs.declared.group.Cause.TheVariants.{Overflow, Timeout, Flush}
use Rattle.txn_rows.specs.declared.group.Member.{Member}
use Rattle.txn_rows.specs.declared.claim.Claim.{Claim}
use Rattle.txn_rows.specs.declared.which.Which.{Which}
use Rattle.txn_rows.specs.Claim.{claim_from, claim_of, kind_named, most_digits, named, reason_named, vxid_named}
use Rattle.txn_rows.specs.Store.{test_of}
use Rattle.txn_rows.specs.Transaction.{Transaction, cause_text, empty_transaction, is_open, is_unknown, newest, with_newest, claimed_kind, ended, forced, first_mark, oldest, with_oldest}
use Rattle.txn_rows.specs.Links.{with_parent, can_join, children, root_of, tree_of, path_of, preorder, member_of, group_of}
use Rattle.txn_rows.specs.Grouping.{Taken, TakenUnit, Missed, State, Leaving, no_state, nothing_left, with_new, with_transaction, raised, timed, left_by, forced_one, after_end, ended_one, flush, with_all_told, taken_steps, left_of, raw_group}
use Rattle.txn_rows.proofs.LineLemmas.{by_cases, either}
use Rattle.txn_rows.proofs.KeepLemmas.{HoldsOn, flush_holds}
use Rattle.txn_rows.proofs.ChangeLemmas.{newest_one, oldest_one}
use Rattle.txn_rows.proofs.OrderLemmas.{all_preorder}
use Rattle.txn_partition.specs.OfUnits.{TakesUnit, TakeUnits, AreOfUnits, IsOfUnits, IsGroupOfUnits}
use Rattle.txn_partition.proofs.ClaimKeptLemmas.{KeepsClaim, claim_kept, HoldsOf, holds_of, IsGood, items_of, one_each}

-- the VXID of a claim is in range
named_below : (few : Bool) (text : List ℕ) (n : ℕ) → cond few (whole_number 0 (vxid_end - 1) text) None ≡ Some n → n < vxid_end
named_below false text n e = absurd (cc)
named_below true text n e =
    let writes = subst (λ o. IfSome o (Writes 0 (vxid_end - 1) text)) e (whole_number-writes 0 (vxid_end - 1) text) in
    omega (arith, writes.4)

vxid_below : (o : Option (List ℕ)) (n : ℕ) → named vxid_named o ≡ Some n → n < vxid_end
vxid_below None n e = absurd (cc)
vxid_below (Some text) n e = named_below (leb (length text) most_digits) text n e

from_below : (kind : Option Kind) (vxid : Option ℕ) (reason : Reason) (claim : Claim) → claim_from kind vxid reason ≡ Some claim → vxid ≡ Some claim.vxid
from_below None vxid reason claim e = absurd (cc)
from_below (Some kind) None reason claim e = absurd (cc)
from_below (Some kind) (Some vxid) reason claim e =
    let made : Claim = record { kind = kind; vxid = vxid; reason = reason } in
    let same : Some made ≡ Some claim = e in
    let is : made ≡ claim = (cc) in
    ap (λ (c : Claim). Some c.vxid) is

claim_below : (payload : List ℕ) (claim : Claim) → claim_of payload ≡ Some claim → claim.vxid < vxid_end
claim_below payload claim e =
    vxid_below (field_of payload 2) claim.vxid (from_below (named kind_named (field_of payload 1)) (named vxid_named (field_of payload 2)) (reason_named (field_of payload 3)) claim e)

-- a transaction has the VXID and the records of units
record AreUnits (t : Transaction) : Type 0 where
  vxid : t.vxid < vxid_end
  records : AreOfUnits t.records

abbrev IsRecord : Record → Type 0
IsRecord rec = IsRecordOf rec.mark rec

-- and so has each that is pending
abbrev AllUnits : State → Type 0
AllUnits state = All AreUnits state.pending

new_units : (vxid : ℕ) (state : State) → vxid < vxid_end → AllUnits state → AllUnits (with_new vxid state)
new_units vxid state below all =
    let new : Transaction = empty_transaction state.begun vxid state.time in
    All-append AreUnits state.pending (new ∷ []) all (All-cons AreUnits new [] (record { vxid = below; records = All-nil IsRecord }) (All-nil AreUnits))

claimed_units : (claim : Option Claim) (t : Transaction) → AreUnits t → AreUnits (claimed_kind claim t)
claimed_units None t u = u
claimed_units (Some claim) t u = either AreUnits (is_unknown t.kind) (record t { kind = claim.kind; reason = claim.reason }) t (record { vxid = u.vxid; records = u.records }) u

parent_units : (c p : Option Transaction) (pending : List Transaction) → All AreUnits pending → All AreUnits (with_parent c p pending)
parent_units None p pending all = all
parent_units (Some c) None pending all = all
parent_units (Some c) (Some p) pending all =
    let change : Transaction → Transaction = λ t. record t { parent = Some (record { serial = p.serial; vxid = p.vxid; number = children pending p }) } in
    either (All AreUnits) (can_join pending c p) (with_newest c.vxid change pending) pending
    (one_each AreUnits change (newest c.vxid pending) pending (with_newest c.vxid change pending) (newest_one c.vxid change pending) (λ t u. record { vxid = u.vxid; records = u.records }) all) all

-- a unit's record
record IsGoodRecord (vxid : ℕ) (rec : Record) : Type 0 where
  below : vxid < vxid_end
  is : IsRecord rec

units_keep : (grouping : Grouping) (vxid : ℕ) (rec : Record) → KeepsClaim grouping vxid rec AllUnits AllUnits
units_keep grouping vxid rec = record {
  kind = λ claim state all. one_each AreUnits (claimed_kind claim) (newest vxid state.pending) state.pending (with_newest vxid (claimed_kind claim) state.pending) (newest_one vxid (claimed_kind claim) state.pending) (claimed_units claim) all;
  other = λ claim is state none all. new_units claim.vxid state (claim_below rec.payload claim is) all;
  parent = λ claim tag is gives state all. parent_units (newest vxid state.pending) (newest claim.vxid state.pending) state.pending all;
  child = λ claim tag is gives state all. parent_units (newest claim.vxid state.pending) (newest vxid state.pending) state.pending all;
  none = λ state all. all;
  time = λ told state all. All-map AreUnits (timed (raised told state.time)) state.pending (λ k d within. let u = all k d within in record { vxid = u.vxid; records = u.records });
}

longer_units : (rec : Record) → IsRecord rec → (t : Transaction) → AreUnits t → AreUnits (record t { records = t.records ++ rec ∷ [] })
longer_units rec is t u = record { vxid = u.vxid; records = All-append IsRecord t.records (rec ∷ []) u.records (All-cons IsRecord rec [] is (All-nil IsRecord)) }

told_units : (grouping : Grouping) (vxid : ℕ) (rec : Record) (state : State) → IsGoodRecord vxid rec → AllUnits state → AllUnits (with_all_told grouping vxid rec state)
told_units grouping vxid rec state good all =
    let longer : Transaction → Transaction = λ t. record t { records = t.records ++ rec ∷ [] } in
    let begun : State = with_transaction vxid state in
    claim_kept AllUnits AllUnits grouping vxid rec (units_keep grouping vxid rec) state
    (one_each AreUnits longer (newest vxid begun.pending) begun.pending (with_newest vxid longer begun.pending) (newest_one vxid longer begun.pending) (longer_units rec good.is)
    (either AllUnits (is_open vxid state.pending) state (with_new vxid state) all (new_units vxid state good.below all)))

-- the members that leave, and what is pending, have the records of units
record LeaveUnits (r : Leaving) : Type 0 where
  groups : All IsGroupOfUnits r.groups
  pending : AllUnits r.state

nothing_units : (state : State) → AllUnits state → LeaveUnits (nothing_left state)
nothing_units state all = record { groups = All-nil IsGroupOfUnits; pending = all }

left_units : (o : Option Transaction) (state : State) → AllUnits state → LeaveUnits (left_by o state)
left_units None state all = nothing_units state all
left_units (Some t) state all =
    let root : Transaction = root_of state.pending t in
    let tree : List Transaction = tree_of state.pending root in
    let in_tree : Transaction → Bool = λ u. eqb (root_of state.pending u).serial root.serial in
    let ordered : List Transaction = preorder (path_of state.pending) tree in
    let told : All AreUnits ordered = all_preorder AreUnits (path_of state.pending) tree (All-filter in_tree AreUnits state.pending all) in
    let group : IsGroupOfUnits (group_of state.pending root) = All-map IsOfUnits (member_of state.pending) ordered (λ k d within. let u = told k d within in record { vxid = u.vxid; records = u.records }) in
    by_cases (LeaveUnits (left_by (Some t) state)) (list_all (λ (u : Transaction). u.ended) tree)
    (λ e. rw e (record { groups = All-cons IsGroupOfUnits (group_of state.pending root) [] group (All-nil IsGroupOfUnits); pending = All-filter (λ u. not (in_tree u)) AreUnits state.pending all }))
    (λ e. rw e (nothing_units state all))

-- the records of a force-completion are such records
bytes_below : (xs : List ℕ) → list_all (λ b. ltb b 256) xs ≡ true → (i : ℕ) → slice_index xs i < 256
bytes_below [] e i = omega arith
bytes_below (x ∷ xs) e zero = (let parts = and_parts (ltb x 256) (list_all (λ b. ltb b 256) xs) e in ltb-true x 256 parts.0)
bytes_below (x ∷ xs) e (suc i) = bytes_below xs (and_parts (ltb x 256) (list_all (λ b. ltb b 256) xs) e).1 i

text_is : (text : List ℕ) → list_all (λ b. ltb b 256) text ≡ true → length text ≤ 4000 → IsPayload text
text_is text bytes short = record { bytes = bytes_below text bytes; short = short }

cause_is : (cause : Cause) → IsPayload (cause_text cause)
cause_is Overflow = text_is (codes "store overflow") refl (omega arith)
cause_is Timeout = text_is (codes "timeout") refl (omega arith)
cause_is Flush = text_is (codes "flush") refl (omega arith)

forced_units : (cause : Cause) (t : Transaction) → AreUnits t → AreUnits (forced cause t)
forced_units cause t u =
    let mark : Mark = first_mark t.records in
    let vsl : Record = record { tag = vsl_tag; mark = mark; payload = cause_text cause } in
    let end : Record = record { tag = end_tag; mark = mark; payload = codes "synth" } in
    let vsl_is : IsRecord vsl = record { tag = (omega arith, omega arith); has_mark = refl; payload = cause_is cause } in
    let end_is : IsRecord end = record { tag = (omega arith, omega arith); has_mark = refl; payload = text_is (codes "synth") refl (omega arith) } in
    record { vxid = u.vxid; records = All-append IsRecord t.records (vsl ∷ end ∷ []) u.records (All-cons IsRecord vsl (end ∷ []) vsl_is (All-cons IsRecord end [] end_is (All-nil IsRecord))) }

abbrev UnitsOn : State → Leaving → Type 0
UnitsOn state r = AllUnits state → LeaveUnits r

one_units : (which : Which) (cause : Cause) (state : State) → UnitsOn state (forced_one (test_of which) cause state)
one_units which cause state all =
    let test : Transaction → Bool = test_of which in
    let now : List Transaction = with_oldest test (forced cause) state.pending in
    left_units (option_map (forced cause) (oldest test state.pending)) (record state { pending = now })
    (one_each AreUnits (forced cause) (oldest test state.pending) state.pending now (oldest_one test (forced cause) state.pending) (forced_units cause) all)

units_on : HoldsOn UnitsOn
units_on = record {
  none = nothing_units;
  after = λ first next state a b all. let x = a all in let y = b x.pending in record { groups = All-append IsGroupOfUnits first.groups (next first.state).groups x.groups y.groups; pending = y.pending };
  one = one_units;
}

end_units : (vxid : ℕ) (rec : Record) (state : State) → AllUnits state → LeaveUnits (after_end vxid rec state)
end_units vxid rec state all =
    let now : List Transaction = with_newest vxid ended state.pending in
    either LeaveUnits (eqb rec.tag end_tag) (ended_one vxid state) (nothing_left state)
    (left_units (newest vxid now) (record state { pending = now })
    (one_each AreUnits ended (newest vxid state.pending) state.pending now (newest_one vxid ended state.pending) (λ t u. record { vxid = u.vxid; records = u.records }) all))
    (nothing_units state all)

raw_units : (vxid : ℕ) (rec : Record) → IsGoodRecord vxid rec → IsGroupOfUnits (raw_group vxid rec)
raw_units vxid rec good =
    let m : Member = record { vxid = vxid; kind = kinds.Record; reason = reasons.Other; level = 0; parent = 0; records = rec ∷ [] } in
    All-cons IsOfUnits m [] (record { vxid = good.below; records = All-cons IsRecord rec [] good.is (All-nil IsRecord) }) (All-nil IsOfUnits)

units_over : (options : GroupOptions) → HoldsOf options IsGoodRecord UnitsOn
units_over options = holds_of options IsGoodRecord UnitsOn units_on
    (λ vxid rec state good all. record { groups = All-cons IsGroupOfUnits (raw_group vxid rec) [] (raw_units vxid rec good) (All-nil IsGroupOfUnits); pending = all })
    (λ vxid rec state good all. end_units vxid rec (with_all_told options.grouping vxid rec state) (told_units options.grouping vxid rec state good all))

-- each record of a unit is one
records_good : (mark : Mark) (vxid : ℕ) (records : List Record) → vxid < vxid_end → AllByRecursion (IsRecordOf mark) records → All (IsGoodRecord vxid) records
records_good mark vxid [] below all = All-nil (IsGoodRecord vxid)
records_good mark vxid (rec ∷ records) below all =
    All-cons (IsGoodRecord vxid) rec records (record { below = below; is = record { tag = all.0.tag; has_mark = refl; payload = all.0.payload } }) (records_good mark vxid records below all.1)

item_good : (item : Taken) → TakesUnit item → IsGood IsGoodRecord item
item_good (TakenUnit u) is = records_good u.mark u.vxid u.records is.vxid is.records
item_good Missed is = tt

-- whatever units were taken, flushed at the end or not
pub left_are_of_units : (options : GroupOptions) (taken : List Taken) (flushed : Bool) → TakeUnits taken → All IsGroupOfUnits (left_of options taken flushed)
left_are_of_units options taken flushed are =
    let run : Leaving = taken_steps options taken no_state in
    let over = units_over options in
    let left = items_of options IsGoodRecord UnitsOn over taken no_state (λ k d within. item_good (slice_index_or taken k d) (are k d within)) (All-nil AreUnits) in
    either (All IsGroupOfUnits) flushed (run.groups ++ (flush run.state).groups) run.groups
    (All-append IsGroupOfUnits run.groups (flush run.state).groups left.groups (flush_holds UnitsOn units_on run.state left.pending).groups) left.groups
