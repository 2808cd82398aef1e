-- The rules of a record, one after another.
use Rattle.std.proofs.Common.{◌≡◌, ℕ, Bool, false, true, cond, Option, List, [], ◌∷◌, ◌++◌, map, refl, ap, sym, ◌∙◌, subst, append_assoc}
use Rattle.std.proofs.lemmas.List.{append-nil, map-append}
use Rattle.std.proofs.lemmas.List.Elements.{filter-append}
use Rattle.log_model.specs.Prefix.{IsPrefix}
use Rattle.log_model.proofs.PrefixLemmas.{prefix_then, prefix_after}
use Rattle.vsl_record.specs.declared.record_type.Record.{Record}
use Rattle.txn_rows.specs.declared.group.Group.{Group}
use Rattle.txn_rows.specs.declared.group.Grouping.{Grouping}
use Rattle.txn_rows.specs.declared.group.Cause.TheVariants.{Timeout}
use Rattle.txn_rows.specs.Transaction.{Transaction, is_pending, newest, ended}
use Rattle.txn_rows.specs.Grouping.{State, Leaving, nothing_left, then_left, left_by, ended_one, after_end, after_timeouts, has_risen, forced_all, is_late, with_all_told, is_reported, reported}
use Rattle.txn_rows.specs.Table.{itself}
use Rattle.txn_rows.specs.Store.{Went, WentBy, AddsPart}
use Rattle.txn_rows.specs.inside.Steps.{GoesOn}
use Rattle.txn_rows.proofs.ChangeLemmas.{newest_none, newest_none_stays}

-- where no transaction of the VXID is pending, none ends
pub ended_none : (vxid : ℕ) (state : State) → is_pending vxid state.pending ≡ false → ended_one vxid state ≡ nothing_left state
ended_none vxid state none =
    ap (λ (ts : List Transaction). left_by (newest vxid ts) (record state { pending = ts })) (newest_none_stays vxid ended state.pending (newest_none vxid state.pending none))
    ∙ ap (λ (o : Option Transaction). left_by o state) (newest_none vxid state.pending none)

-- a table hands out the groups themselves
pub itself_is : (groups : List Group) → map itself groups ≡ groups
itself_is [] = refl
itself_is (g ∷ groups) = ap (λ (gs : List Group). g ∷ gs) (itself_is groups)

-- of two steps those groups are handed out that are of each
handed_then : {L : Type 0} (hand : Group → L) (grouping : Grouping) (first : Leaving) (next : State → Leaving) → map hand (reported grouping (then_left first next).groups) ≡ map hand (reported grouping first.groups) ++ map hand (reported grouping (next first.state).groups)
handed_then hand grouping first next =
    ap (map hand) (filter-append (is_reported grouping) first.groups (next first.state).groups) ∙ map-append hand (reported grouping first.groups) (reported grouping (next first.state).groups)

-- a part of what comes first
pub part_first : {L : Type 0} (hand : Group → L) (grouping : Grouping) (first : Leaving) (next : State → Leaving) {out out_now : List L} → AddsPart hand grouping first out out_now → AddsPart hand grouping (then_left first next) out out_now
part_first hand grouping first next part = record {
  added = part.added;
  is = prefix_then part.is (record { rest = map hand (reported grouping (next first.state).groups); is = handed_then hand grouping first next });
  gained = part.gained;
}

-- nothing of what is to be done was done
pub part_none : {L : Type 0} (hand : Group → L) (grouping : Grouping) (step : Leaving) (out : List L) → AddsPart hand grouping step out out
part_none hand grouping step out = record { added = []; is = record { rest = map hand (reported grouping step.groups); is = refl }; gained = sym (append-nil out) }

-- after a rise to this time, those that are late are force-completed
pub late_is : (seconds : ℕ) (before now : Option ℕ) (state : State) → now ≡ state.time → has_risen before now ≡ true → after_timeouts seconds before state ≡ forced_all (is_late seconds now) Timeout state
late_is seconds before now state is risen =
    ap (λ (b : Bool). cond b (forced_all (is_late seconds state.time) Timeout state) (nothing_left state)) (ap (has_risen before) (sym is) ∙ risen)
    ∙ ap (λ (t : Option ℕ). forced_all (is_late seconds t) Timeout state) (sym is)

-- what a store names: what is so of it while no call failed, the state that it keeps, and what it hands out for a group
module _ {S L : Type 0} (holds : S → Type 0) (state_of : S → State) (hand : Group → L) where
  -- nothing left
  pub nothing_step : (grouping : Grouping) (store : S) (out : List L) (step : Leaving) → holds store → step ≡ nothing_left (state_of store) → WentBy holds state_of hand grouping step store out out
  nothing_step grouping store out step kept is = record {
    kept = kept;
    state = sym (ap (λ (r : Leaving). r.state) is);
    groups = sym (append-nil out) ∙ ap (λ (r : Leaving). out ++ map hand (reported grouping r.groups)) (sym is);
  }

  -- a step, and what follows it
  pub step_then : (grouping : Grouping) (first : Leaving) (next : State → Leaving) {out mid out_now : List L} {store now : S} → WentBy holds state_of hand grouping first store out mid → WentBy holds state_of hand grouping (next (state_of store)) now mid out_now → WentBy holds state_of hand grouping (then_left first next) now out out_now
  step_then grouping first next {out} {mid} one two =
      let handed : Leaving → List L = λ r. map hand (reported grouping r.groups) in
      record {
        kept = two.kept;
        state = two.state ∙ ap (λ (s : State). (next s).state) one.state;
        groups =
            two.groups
            ∙ ap (λ (s : State). mid ++ handed (next s)) one.state
            ∙ ap (λ (ls : List L). ls ++ handed (next first.state)) one.groups
            ∙ append_assoc out (handed first) (handed (next first.state))
            ∙ ap (λ (ls : List L). out ++ ls) (sym (handed_then hand grouping first next));
      }

  -- a step, and a part of what follows it
  pub part_then : (grouping : Grouping) (first : Leaving) (next : State → Leaving) {out mid out_now : List L} {store : S} → WentBy holds state_of hand grouping first store out mid → AddsPart hand grouping (next (state_of store)) mid out_now → AddsPart hand grouping (then_left first next) out out_now
  part_then grouping first next {out} one part =
      let handed : Leaving → List L = λ r. map hand (reported grouping r.groups) in
      record {
        added = handed first ++ part.added;
        is = subst (λ (ls : List L). IsPrefix (handed first ++ part.added) ls) (ap (λ (s : State). handed first ++ handed (next s)) one.state ∙ sym (handed_then hand grouping first next)) (prefix_after (handed first) part.is);
        gained = part.gained ∙ ap (λ (ls : List L). ls ++ part.added) one.groups ∙ append_assoc out (handed first) part.added;
      }

  -- all is still to be done, and then a step less
  pub goes_first : (grouping : Grouping) (all : Leaving) (out : List L) → GoesOn holds state_of hand grouping all all out out
  goes_first grouping all out = record { whole = λ last now step. step; part = λ now part. part }

  pub goes_then : (grouping : Grouping) (all first : Leaving) (next : State → Leaving) {out mid out_now : List L} {store : S} → GoesOn holds state_of hand grouping all (then_left first next) out mid → WentBy holds state_of hand grouping first store mid out_now → GoesOn holds state_of hand grouping all (next (state_of store)) out out_now
  goes_then grouping all first next on one = record {
    whole = λ last now step. on.whole last now (step_then grouping first next one step);
    part = λ now part. on.part now (part_then grouping first next one part);
  }

  -- what the End of a record does that was told
  pub told_end : (grouping : Grouping) (vxid : ℕ) (rec : Record) (state : State) {store now : S} {out out_now : List L} → Went holds state_of (with_all_told grouping vxid rec state) store → WentBy holds state_of hand grouping (after_end vxid rec (state_of store)) now out out_now →
      WentBy holds state_of hand grouping (after_end vxid rec (with_all_told grouping vxid rec state)) now out out_now
  told_end grouping vxid rec state {store} {now} {out} {out_now} told = subst (λ (s : State). WentBy holds state_of hand grouping (after_end vxid rec s) now out out_now) told.told
