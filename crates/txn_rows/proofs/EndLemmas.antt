-- Each member of a group that left has one End, its last record.
use Rattle.std.proofs.Common.{◌≡◌, ℕ, Bool, true, false, not, eqb, Option, Some, None, List, [], ◌∷◌, ◌++◌, refl, ap, sym, subst, ◌∙◌, eq-eqb, eqb-true, arith}
use Rattle.std.specs.Prelude.{◌≢◌, codes, slice_index_or}
use Rattle.std.specs.List.{All, list_all}
use Rattle.std.specs.Option.{option_map}
use Rattle.std.proofs.lemmas.Bool.{and_parts, both_ways, eqb-false, not-true}
use Rattle.std.proofs.lemmas.List.{append_assoc}
use Rattle.std.proofs.lemmas.List.Elements.{All-nil, All-cons, All-head, All-tail, All-append, All-map, All-filter}
use Rattle.std.proofs.lemmas.List.Sums.{AllPass-from_list_all}
use Rattle.vsl_tags.specs.Tags.{timestamp_tag, begin_tag, link_tag, end_tag, vsl_tag}
use Rattle.vsl_record.specs.declared.record_type.Record.{Record}
use Rattle.txn_rows.specs.declared.group.Grouping.{Grouping}
use Rattle.txn_rows.specs.declared.group.GroupOptions.{GroupOptions}
use Rattle.txn_rows.specs.declared.group.Cause.{Cause}
use Rattle.txn_rows.specs.declared.group.Member.{Member}
use Rattle.txn_rows.specs.declared.claim.Claim.{Claim}
use Rattle.txn_rows.specs.declared.which.Which.{Which}
use Rattle.txn_rows.specs.Store.{test_of}
use Rattle.txn_rows.specs.declared.which.Which.TheVariants.{Unfinished, Late}
use Rattle.txn_rows.specs.Transaction.{Transaction, cause_text, empty_transaction, is_unknown, is_pending, is_open, newest, with_newest, with_record, claimed_kind, ended, forced, first_mark, oldest, with_oldest}
use Rattle.txn_rows.specs.Links.{with_parent, can_join, children, root_of, tree_of, path_of, preorder, member_of, group_of}
use Rattle.txn_rows.specs.Grouping.{Taken, State, Leaving, no_state, nothing_left, then_left, with_new, with_transaction, raised, timed, left_by, forced_one, after_end, ended_one, is_behind, flush, with_all_told, is_raw, taken_steps}
use Rattle.txn_rows.specs.Ends.{HasNoEnd, IsEnded, TellsEnd, HasEnded}
use Rattle.txn_rows.proofs.LineLemmas.{by_cases, either}
use Rattle.txn_rows.proofs.KeepLemmas.{HoldsOn, HoldsOver, holds_over, flush_holds, items_hold, Keeps, begun_kept, told_kept}
use Rattle.txn_rows.proofs.ChangeLemmas.{newest_in, open_in, newest_split, newest_twice}
use Rattle.txn_rows.proofs.OrderLemmas.{all_preorder}

-- the End of a transaction that has ended is its last record
abbrev Tells : Transaction → Type 0
Tells t = TellsEnd t.ended t.records

-- a fact of each transaction, of which the newest of a VXID or the oldest that passes is changed
newest_all : (P : Transaction → Type 0) (vxid : ℕ) (change : Transaction → Transaction) (pending : List Transaction) → ((t : Transaction) → newest vxid pending ≡ Some t → P t → P (change t)) → All P pending → All P (with_newest vxid change pending)
newest_all P vxid change [] keeps all = all
newest_all P vxid change (t ∷ pending) keeps all =
    let head : P t = All-head P t pending all in
    let tail : All P pending = All-tail P t pending all in
    by_cases (All P (with_newest vxid change (t ∷ pending))) (is_pending vxid pending)
    (λ e. rw e (All-cons P t (with_newest vxid change pending) head (newest_all P vxid change pending (λ u is. keeps u (rw e is)) tail)))
    (λ e. by_cases (All P (with_newest vxid change (t ∷ pending))) (eqb t.vxid vxid)
    (λ q. rw (e, q) (All-cons P (change t) pending (keeps t (rw (e, q) refl) head) tail))
    (λ q. rw (e, q) all))

oldest_all : (P : Transaction → Type 0) (choose : Transaction → Bool) (change : Transaction → Transaction) (pending : List Transaction) → ((t : Transaction) → choose t ≡ true → P t → P (change t)) → All P pending → All P (with_oldest choose change pending)
oldest_all P choose change [] keeps all = all
oldest_all P choose change (t ∷ pending) keeps all =
    let head : P t = All-head P t pending all in
    let tail : All P pending = All-tail P t pending all in
    by_cases (All P (with_oldest choose change (t ∷ pending))) (choose t)
    (λ e. rw e (All-cons P (change t) pending (keeps t e head) tail))
    (λ e. rw e (All-cons P t (with_oldest choose change pending) head (oldest_all P choose change pending keeps tail)))

-- a record goes to a transaction that has not ended
open_newest : (vxid : ℕ) (pending : List Transaction) (t : Transaction) → is_open vxid pending ≡ true → newest vxid pending ≡ Some t → t.ended ≡ false
open_newest vxid pending t o e =
    let s = newest_split vxid pending t e in
    not-true t.ended (sym (ap (is_open vxid) s.whole ∙ open_in vxid s.front t s.back s.same s.none) ∙ o)

begun_newest : (vxid : ℕ) (state : State) (t : Transaction) → newest vxid (with_transaction vxid state).pending ≡ Some t → t.ended ≡ false
begun_newest vxid state t e =
    let new : Transaction = empty_transaction state.begun vxid state.time in
    by_cases (t.ended ≡ false) (is_open vxid state.pending)
    (λ o. open_newest vxid state.pending t o (rw o at e))
    (λ o. let last : newest vxid (state.pending ++ new ∷ []) ≡ Some t = rw o at e in
    let same : Some new ≡ Some t = sym (newest_in vxid state.pending new [] (eq-eqb vxid vxid refl) refl) ∙ last in
    let is : new ≡ t = (cc) in
    ap (λ (x : Transaction). x.ended) (sym is))

-- what a transaction tells that has ended, or has not
tells_of : (b : Bool) (t : Transaction) → t.ended ≡ b → Tells t → TellsEnd b t.records
tells_of b t e tells = subst (λ (x : Bool). TellsEnd x t.records) e tells

no_end : (records : List Record) (rec : Record) → rec.tag ≢ end_tag → HasNoEnd records → HasNoEnd (records ++ rec ∷ [])
no_end records rec other none =
    let P : Record → Type 0 = λ r. r.tag ≢ end_tag in
    All-append P records (rec ∷ []) none (All-cons P rec [] other (All-nil P))

claimed_tells : (claim : Option Claim) (t : Transaction) → Tells t → Tells (claimed_kind claim t)
claimed_tells None t tells = tells
claimed_tells (Some claim) t tells = either Tells (is_unknown t.kind) (record t { kind = claim.kind; reason = claim.reason }) t tells tells

parent_tells : (c p : Option Transaction) (pending : List Transaction) → All Tells pending → All Tells (with_parent c p pending)
parent_tells None p pending all = all
parent_tells (Some c) None pending all = all
parent_tells (Some c) (Some p) pending all =
    let change : Transaction → Transaction = λ t. record t { parent = Some (record { serial = p.serial; vxid = p.vxid; number = children pending p }) } in
    either (All Tells) (can_join pending c p) (with_newest c.vxid change pending) pending (newest_all Tells c.vxid change pending (λ t is tells. tells) all) all

-- each pending transaction tells its End
abbrev AllTell : State → Type 0
AllTell state = All Tells state.pending

new_tells : (vxid : ℕ) (state : State) → AllTell state → AllTell (with_new vxid state)
new_tells vxid state all =
    let new : Transaction = empty_transaction state.begun vxid state.time in
    All-append Tells state.pending (new ∷ []) all (All-cons Tells new [] (All-nil (λ (r : Record). r.tag ≢ end_tag)) (All-nil Tells))

tells_keeps : Keeps AllTell
tells_keeps = record {
  new = new_tells;
  kind = λ vxid claim state all. newest_all Tells vxid (claimed_kind claim) state.pending (λ t is tells. claimed_tells claim t tells) all;
  link = λ child parent state all. parent_tells (newest child state.pending) (newest parent state.pending) state.pending all;
  time = λ told state all. All-map Tells (timed (raised told state.time)) state.pending all;
}

-- a record that is no End
told_tells : (grouping : Grouping) (vxid : ℕ) (rec : Record) (state : State) → rec.tag ≢ end_tag → AllTell state → AllTell (with_all_told grouping vxid rec state)
told_tells grouping vxid rec state other all =
    told_kept AllTell tells_keeps grouping vxid rec state
    (newest_all Tells vxid (λ t. record t { records = t.records ++ rec ∷ [] }) (with_transaction vxid state).pending
    (λ t is tells. let open_one = begun_newest vxid state t is in rw open_one (no_end t.records rec other (tells_of false t open_one tells))) (begun_kept AllTell tells_keeps vxid state all))

-- what leaves has ended, and what is pending tells its End
record Ends (r : Leaving) : Type 0 where
  groups : All HasEnded r.groups
  pending : AllTell r.state

nothing_ends : (state : State) → AllTell state → Ends (nothing_left state)
nothing_ends state all = record { groups = All-nil HasEnded; pending = all }

ends_then : (first : Leaving) (next : State → Leaving) → Ends first → (AllTell first.state → Ends (next first.state)) → Ends (then_left first next)
ends_then first next a b =
    let c = b a.pending in
    record { groups = All-append HasEnded first.groups (next first.state).groups a.groups c.groups; pending = c.pending }

left_ends : (o : Option Transaction) (state : State) → AllTell state → Ends (left_by o state)
left_ends None state all = nothing_ends state all
left_ends (Some t) state all =
    let root : Transaction = root_of state.pending t in
    let tree : List Transaction = tree_of state.pending root in
    let in_tree : Transaction → Bool = λ u. eqb (root_of state.pending u).serial root.serial in
    by_cases (Ends (left_by (Some t) state)) (list_all (λ (u : Transaction). u.ended) tree)
    (λ e. let told : All Tells tree = All-filter in_tree Tells state.pending all in
    let whole : All (λ (u : Transaction). u.ended ≡ true) tree = AllPass-from_list_all (λ (u : Transaction). u.ended) tree e in
    let done : All (λ (u : Transaction). IsEnded u.records) tree = λ k d lt. tells_of true (slice_index_or tree k d) (whole k d lt) (told k d lt) in
    let group : HasEnded (group_of state.pending root) = All-map (λ (m : Member). IsEnded m.records) (member_of state.pending) (preorder (path_of state.pending) tree) (all_preorder (λ (u : Transaction). IsEnded u.records) (path_of state.pending) tree done) in
    rw e (record { groups = All-cons HasEnded (group_of state.pending root) [] group (All-nil HasEnded); pending = All-filter (λ u. not (in_tree u)) Tells state.pending all }))
    (λ e. rw e (nothing_ends state all))

-- an End that is put to the records of a transaction ends them
with_end : (records : List Record) (rec : Record) → rec.tag ≡ end_tag → HasNoEnd records → IsEnded (records ++ rec ∷ [])
with_end records rec is none = record { front = records; last = rec; whole = refl; end = is; before = none }

-- a test that no transaction passes that has ended
abbrev IsOfOpen : (Transaction → Bool) → Type 0
IsOfOpen choose = (t : Transaction) → choose t ≡ true → t.ended ≡ false

forced_tells : (cause : Cause) (t : Transaction) → t.ended ≡ false → Tells t → Tells (forced cause t)
forced_tells cause t e tells =
    let vsl : Record = record { tag = vsl_tag; mark = first_mark t.records; payload = cause_text cause } in
    let end : Record = record { tag = end_tag; mark = first_mark t.records; payload = codes "synth" } in
    subst IsEnded (append_assoc t.records (vsl ∷ []) (end ∷ [])) (with_end (t.records ++ vsl ∷ []) end refl (no_end t.records vsl (λ is. omega (arith, is)) (tells_of false t e tells)))

one_ends : (choose : Transaction → Bool) → IsOfOpen choose → (cause : Cause) (state : State) → AllTell state → Ends (forced_one choose cause state)
one_ends choose of_open cause state all =
    left_ends (option_map (forced cause) (oldest choose state.pending)) (record state { pending = with_oldest choose (forced cause) state.pending })
    (oldest_all Tells choose (forced cause) state.pending (λ t is tells. forced_tells cause t (of_open t is) tells) all)

which_open : (which : Which) → IsOfOpen (test_of which)
which_open Unfinished t e = not-true t.ended e
which_open (Late seconds now) t e = not-true t.ended (and_parts (not t.ended) (is_behind seconds t.time now) e).0

abbrev EndsOn : State → Leaving → Type 0
EndsOn state r = AllTell state → Ends r

ends_on : HoldsOn EndsOn
ends_on = record {
  none = nothing_ends;
  after = λ first next state a b all. ends_then first next (a all) b;
  one = λ which cause state all. one_ends (test_of which) (which_open which) cause state all;
}

-- an End goes to its transaction, and does nothing else
told_end : (grouping : Grouping) (vxid : ℕ) (rec : Record) (state : State) → rec.tag ≡ end_tag → with_all_told grouping vxid rec state ≡ record (with_transaction vxid state) { pending = with_record vxid rec (with_transaction vxid state).pending }
told_end grouping vxid rec state is =
    let t : eqb rec.tag timestamp_tag ≡ false = ap (λ (n : ℕ). eqb n timestamp_tag) is in
    let b : eqb rec.tag begin_tag ≡ false = ap (λ (n : ℕ). eqb n begin_tag) is in
    let l : eqb rec.tag link_tag ≡ false = ap (λ (n : ℕ). eqb n link_tag) is in
    rw (t, b, l) refl

-- it ends that transaction
end_ends : (vxid : ℕ) (rec : Record) (state : State) → rec.tag ≡ end_tag → AllTell state → Ends (ended_one vxid (record (with_transaction vxid state) { pending = with_record vxid rec (with_transaction vxid state).pending }))
end_ends vxid rec state is all =
    let begun : State = with_transaction vxid state in
    let longer : Transaction → Transaction = λ t. record t { records = t.records ++ rec ∷ [] } in
    let now : List Transaction = with_newest vxid ended (with_newest vxid longer begun.pending) in
    let tells : All Tells now = subst (All Tells) (sym (newest_twice vxid longer ended begun.pending (λ t. refl)))
    (newest_all Tells vxid (λ t. ended (longer t)) begun.pending (λ t here told. with_end t.records rec is (tells_of false t (begun_newest vxid state t here) told)) (begun_kept AllTell tells_keeps vxid state all)) in
    left_ends (newest vxid now) (record begun { pending = now }) tells

after_end_ends : (grouping : Grouping) (vxid : ℕ) (rec : Record) (state : State) → AllTell state → Ends (after_end vxid rec (with_all_told grouping vxid rec state))
after_end_ends grouping vxid rec state all =
    let told : State = with_all_told grouping vxid rec state in
    by_cases (Ends (after_end vxid rec told)) (eqb rec.tag end_tag)
    (λ e. let is : rec.tag ≡ end_tag = eqb-true rec.tag end_tag e in
    rw e (subst (λ (s : State). Ends (ended_one vxid s)) (sym (told_end grouping vxid rec state is)) (end_ends vxid rec state is all)))
    (λ e. rw e (nothing_ends told (told_tells grouping vxid rec state (eqb-false rec.tag end_tag e) all)))

taken_ends : (options : GroupOptions) (taken : List Taken) → is_raw options.grouping ≡ false → Ends (taken_steps options taken no_state)
taken_ends options taken whole =
    let over : HoldsOver options EndsOn = holds_over options EndsOn ends_on (λ vxid rec state raw. absurd (both_ways (is_raw options.grouping) whole raw)) (after_end_ends options.grouping) in
    items_hold options EndsOn over taken no_state (All-nil Tells)

-- whatever was taken, a pending transaction tells its End
pub each_pending_tells : (options : GroupOptions) (taken : List Taken) → is_raw options.grouping ≡ false → All (λ t. TellsEnd t.ended t.records) (taken_steps options taken no_state).state.pending
each_pending_tells options taken whole = (taken_ends options taken whole).pending

-- and each member of a group has one End, its last record
pub each_member_ended : (options : GroupOptions) (taken : List Taken) → is_raw options.grouping ≡ false →
    All HasEnded ((taken_steps options taken no_state).groups ++ (flush (taken_steps options taken no_state).state).groups)
each_member_ended options taken whole =
    let run : Leaving = taken_steps options taken no_state in
    (ends_then run flush (taken_ends options taken whole) (flush_holds EndsOn ends_on run.state)).groups
