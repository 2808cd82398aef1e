-- What is kept up to an End, of a record whose claim is known, and over items whose records are known.
use Rattle.std.proofs.Common.{◌≡◌, ℕ, true, false, eqb, cond, Option, Some, None, List, [], ◌∷◌, ◌++◌, refl, sym, subst}
use Rattle.std.specs.Prelude.{⊤}
use Rattle.std.specs.List.{All}
use Rattle.std.proofs.lemmas.Bool.{eqb-true, cond_both}
use Rattle.std.proofs.lemmas.List.Elements.{All-cons, All-head, All-tail, All-append}
use Rattle.vsl_tags.specs.Tags.{timestamp_tag, begin_tag, link_tag}
use Rattle.vsl_record.specs.declared.record_type.Record.{Record}
use Rattle.txn_rows.specs.declared.group.Grouping.{Grouping}
use Rattle.txn_rows.specs.declared.group.GroupOptions.{GroupOptions}
use Rattle.txn_rows.specs.declared.claim.Claim.{Claim}
use Rattle.txn_rows.specs.Claim.{claim_of}
use Rattle.txn_rows.specs.Time.{time_of}
use Rattle.txn_rows.specs.Transaction.{Transaction, is_pending, with_newest, with_record, claimed_kind}
use Rattle.txn_rows.specs.Links.{with_link}
use Rattle.txn_rows.specs.Grouping.{Taken, TakenUnit, Missed, State, Leaving, nothing_left, then_left, after_end, after_timeouts, after_overflow, unfinished, with_new, with_transaction, with_other, gives_parent, with_parent_named, with_child_named, with_claim, with_time, with_all_told, grouped, is_raw, raw_group, step, steps, passes_over, taken_step, taken_steps}
use Rattle.txn_rows.proofs.LineLemmas.{either}
use Rattle.txn_rows.proofs.KeepLemmas.{HoldsOn, timeouts_hold, down_holds, flush_holds}
use Rattle.txn_rows.proofs.ChangeLemmas.{ChangesOne}
use Rattle.txn_rows.proofs.OrderLemmas.{all_left, all_right}

-- a fact of a state that this record's rules keep, after it went to its transaction, and one that holds after its claim
pub record KeepsClaim (grouping : Grouping) (vxid : ℕ) (rec : Record) (P R : State → Type 0) : Type 0 where
  pub kind : (claim : Option Claim) (state : State) → P state → P (record state { pending = with_newest vxid (claimed_kind claim) state.pending })
  pub other : (claim : Claim) → claim_of rec.payload ≡ Some claim → (state : State) → is_pending claim.vxid state.pending ≡ false → P state → P (with_new claim.vxid state)
  pub parent : (claim : Claim) → rec.tag ≡ begin_tag → claim_of rec.payload ≡ Some claim → gives_parent grouping claim ≡ true → (state : State) → P state → R (record state { pending = with_link vxid claim.vxid state.pending })
  pub child : (claim : Claim) → rec.tag ≡ link_tag → claim_of rec.payload ≡ Some claim → gives_parent grouping claim ≡ true → (state : State) → P state → R (record state { pending = with_link claim.vxid vxid state.pending })
  pub none : (state : State) → P state → R state
  pub time : (told : Option ℕ) (state : State) → R state → R (with_time told state)

-- one record's rules
module _ (P R : State → Type 0) (grouping : Grouping) (vxid : ℕ) (rec : Record) (keeps : KeepsClaim grouping vxid rec P R) where
  other_kept : (claim : Claim) → claim_of rec.payload ≡ Some claim → (state : State) → P state → P (with_other claim.vxid state)
  other_kept claim is state p =
      cond_both (is_pending claim.vxid state.pending) state (with_new claim.vxid state) P (λ e. p) (λ e. keeps.other claim is state e p)

  parent_kept : rec.tag ≡ begin_tag → (o : Option Claim) → claim_of rec.payload ≡ o → (state : State) → P state → R (with_parent_named grouping vxid o state)
  parent_kept tag None is state p = keeps.none state p
  parent_kept tag (Some claim) is state p =
      let both : State = with_other claim.vxid state in
      cond_both (gives_parent grouping claim) (record both { pending = with_link vxid claim.vxid both.pending }) state R
      (λ e. keeps.parent claim tag is e both (other_kept claim is state p)) (λ e. keeps.none state p)

  child_kept : rec.tag ≡ link_tag → (o : Option Claim) → claim_of rec.payload ≡ o → (state : State) → P state → R (with_child_named grouping vxid o state)
  child_kept tag None is state p = keeps.none state p
  child_kept tag (Some claim) is state p =
      let both : State = with_other claim.vxid state in
      cond_both (gives_parent grouping claim) (record both { pending = with_link claim.vxid vxid both.pending }) state R
      (λ e. keeps.child claim tag is e both (other_kept claim is state p)) (λ e. keeps.none state p)

  -- the rules after the record went to its transaction
  pub claim_kept : (state : State) → P (record (with_transaction vxid state) { pending = with_record vxid rec (with_transaction vxid state).pending }) → R (with_all_told grouping vxid rec state)
  claim_kept state p =
      let begun : State = with_transaction vxid state in
      let claim : Option Claim = claim_of rec.payload in
      let added : List Transaction = with_record vxid rec begun.pending in
      let told : List Transaction = with_newest vxid (claimed_kind claim) added in
      let kind : State = record begun { pending = cond (eqb rec.tag begin_tag) told added } in
      let kind_kept : P kind = either (λ ts. P (record begun { pending = ts })) (eqb rec.tag begin_tag) told added (keeps.kind claim (record begun { pending = added }) p) p in
      let child : State = with_child_named grouping vxid claim kind in
      let linked : State = with_claim grouping vxid rec kind in
      let linked_kept : R linked = cond_both (eqb rec.tag begin_tag) (with_parent_named grouping vxid claim kind) (cond (eqb rec.tag link_tag) child kind) R
      (λ e. parent_kept (eqb-true rec.tag begin_tag e) claim refl kind kind_kept)
      (λ e. cond_both (eqb rec.tag link_tag) child kind R (λ f. child_kept (eqb-true rec.tag link_tag f) claim refl kind kind_kept) (λ f. keeps.none kind kind_kept)) in
      let time : Option ℕ = time_of rec.payload in
      either R (eqb rec.tag timestamp_tag) (with_time time linked) linked (keeps.time time linked linked_kept) linked_kept

-- a fact of a step that holds of the parts of steps, and of the step of each record that is good
pub record HoldsOf (options : GroupOptions) (Good : ℕ → Record → Type 0) (Q : State → Leaving → Type 0) : Type 0 where
  pub on : HoldsOn Q
  pub one : (vxid : ℕ) (rec : Record) (state : State) → Good vxid rec → Q state (step options vxid rec state)

pub holds_of : (options : GroupOptions) (Good : ℕ → Record → Type 0) (Q : State → Leaving → Type 0) → HoldsOn Q →
    ((vxid : ℕ) (rec : Record) (state : State) → Good vxid rec → Q state (record { state = state; groups = raw_group vxid rec ∷ [] })) →
    ((vxid : ℕ) (rec : Record) (state : State) → Good vxid rec → Q state (after_end vxid rec (with_all_told options.grouping vxid rec state))) → HoldsOf options Good Q
holds_of options Good Q on alone ends = record {
  on = on;
  one = λ vxid rec state good.
      let first : Leaving = after_end vxid rec (with_all_told options.grouping vxid rec state) in
      let late : Leaving = then_left first (after_timeouts options.timeout state.time) in
      cond_both (is_raw options.grouping) (record { state = state; groups = raw_group vxid rec ∷ [] }) (grouped options vxid rec state) (Q state)
      (λ e. alone vxid rec state good)
      (λ e. on.after late (after_overflow options.limit) state
      (on.after first (after_timeouts options.timeout state.time) state (ends vxid rec state good) (timeouts_hold Q on options.timeout state.time first.state))
      (down_holds Q on options.limit (unfinished late.state) late.state));
}

-- an item all of whose records are good
abbrev pub IsGood : (ℕ → Record → Type 0) → Taken → Type 0
IsGood Good (TakenUnit u) = All (Good u.vxid) u.records
IsGood Good Missed = ⊤

steps_of : (options : GroupOptions) (Good : ℕ → Record → Type 0) (Q : State → Leaving → Type 0) → HoldsOf options Good Q → (vxid : ℕ) (records : List Record) (state : State) → All (Good vxid) records → Q state (steps options vxid records state)
steps_of options Good Q over vxid [] state good = over.on.none state
steps_of options Good Q over vxid (rec ∷ records) state good =
    let first : Leaving = step options vxid rec state in
    over.on.after first (steps options vxid records) state (over.one vxid rec state (All-head (Good vxid) rec records good)) (steps_of options Good Q over vxid records first.state (All-tail (Good vxid) rec records good))

item_of : (options : GroupOptions) (Good : ℕ → Record → Type 0) (Q : State → Leaving → Type 0) → HoldsOf options Good Q → (item : Taken) (state : State) → IsGood Good item → Q state (taken_step options item state)
item_of options Good Q over (TakenUnit u) state good =
    either (Q state) (passes_over options.grouping u.vxid) (nothing_left state) (steps options u.vxid u.records state) (over.on.none state) (steps_of options Good Q over u.vxid u.records state good)
item_of options Good Q over Missed state good = flush_holds Q over.on state

pub items_of : (options : GroupOptions) (Good : ℕ → Record → Type 0) (Q : State → Leaving → Type 0) → HoldsOf options Good Q → (taken : List Taken) (state : State) → All (IsGood Good) taken → Q state (taken_steps options taken state)
items_of options Good Q over [] state good = over.on.none state
items_of options Good Q over (item ∷ taken) state good =
    let first : Leaving = taken_step options item state in
    over.on.after first (taken_steps options taken) state (item_of options Good Q over item state (All-head (IsGood Good) item taken good)) (items_of options Good Q over taken first.state (All-tail (IsGood Good) item taken good))

-- a fact of each transaction, of which one is changed or none
pub one_each : (P : Transaction → Type 0) (change : Transaction → Transaction) (o : Option Transaction) (was now : List Transaction) → ChangesOne change o was now → ((t : Transaction) → P t → P (change t)) → All P was → All P now
one_each P change None was now c keeps all = subst (All P) (sym c) all
one_each P change (Some t) was now c keeps all =
    let split : All P (c.front ++ t ∷ c.back) = subst (All P) c.was all in
    let rest : All P (t ∷ c.back) = all_right P c.front (t ∷ c.back) split in
    subst (All P) (sym c.is) (All-append P c.front (change t ∷ c.back) (all_left P c.front (t ∷ c.back) split)
    (All-cons P (change t) c.back (keeps t (All-head P t c.back rest)) (All-tail P t c.back rest)))
