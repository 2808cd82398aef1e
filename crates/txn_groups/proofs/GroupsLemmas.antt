-- What a truncated fact of a store says of its groups.
use Rattle.std.proofs.Common.{◌≡◌, ◌<◌, ◌+◌, ◌-◌, ℕ, zero, suc, Bool, false, Option, Some, None, List, [], ◌∷◌, ◌++◌, length, map, take, drop, Result, Ok, Err, refl, ap, sym, ◌∙◌, subst, arith}
use Rattle.std.specs.Prelude.{slice_get, IfSome, IfNone}
use Rattle.std.specs.Result.{is_err, OnOk, OnErr}
use Rattle.std.specs.Coded.{Coded, Coded-set, codes}
use Rattle.std.proofs.Math.Logic.{∥∥₁_elim}
use Rattle.std.proofs.Math.Seq.{take-append_seam}
use Rattle.std.proofs.lemmas.List.{take-append-drop, length-append}
use Rattle.txn_rows.specs.declared.group.GroupOptions.{GroupOptions}
use Rattle.txn_rows.specs.Grouping.{State, Leaving, no_state, reported}
use Rattle.txn_rows.specs.Store.{Went, WentBy, AddsPart, IsOrdered}
use Rattle.txn_rows.specs.TableState.{TableState}
use Rattle.txn_rows.specs.Table.{GainsPrefix, TableStepped}
use Rattle.txn_rows.specs.States.{Standing, IsSound}
use Rattle.txn_rows.specs.Times.{IsTimed}
use Rattle.txn_rows.proofs.TableLemmas.{stepped}
use Rattle.query_parser.specs.declared.query.Query.{Query}
use Rattle.query_eval.specs.declared.chosen.Chosen.{Chosen}
use Rattle.txn_groups.specs.declared.trees.Trees.{Trees}
use Rattle.txn_groups.specs.Groups.{GroupsState, GroupsStepped, GroupsFailed, chosen}
use Rattle.txn_groups.specs.inside.Trees.{IsTrees, state_of_trees}
use Rattle.txn_groups.proofs.TreesLemmas.{no_trees}

chosen_code : Coded (List Chosen)
chosen_code = Prim.hlevel codes

table_code : Coded TableState
table_code = Prim.hlevel codes

-- where something is so, what follows from it is, at most one proof of which there can be
pub on_ok_elim : {A T E P : Type 0} (r : Result T E) → ∥ A ∥₁ → IsProp P → (A → OnOk r P) → OnOk r P
on_ok_elim (Ok x) so one follows = ∥∥₁_elim so one follows
on_ok_elim (Err e) so one follows = tt

pub if_some_elim : {A B : Type 0} {P : B → Type 0} (o : Option B) → ∥ A ∥₁ → ((b : B) → IsProp (P b)) → (A → IfSome o P) → IfSome o P
if_some_elim None so one follows = tt
if_some_elim (Some b) so one follows = ∥∥₁_elim so (one b) follows

pub if_none_elim : {A B P : Type 0} (o : Option B) → ∥ A ∥₁ → IsProp P → (A → IfNone o P) → IfNone o P
if_none_elim None so one follows = ∥∥₁_elim so one follows
if_none_elim (Some b) so one follows = tt

-- a part that was gained, by its length alone
gained_by_length : (all before now : List Chosen) → GainsPrefix all before now → now ≡ before ++ take (length now - length before) all
gained_by_length all before now gains =
    let n = length now - length before in
    let counted : length now ≡ length before + length gains.added = ap length gains.gained ∙ length-append before gains.added in
    let same : n ≡ length gains.added = omega arith in
    let part : take n all ≡ gains.added = ap (λ (k : ℕ). take k all) same ∙ ap (take (length gains.added)) gains.is.is ∙ take-append_seam gains.added gains.is.rest in
    gains.gained ∙ ap (λ (l : List Chosen). before ++ l) (sym part)

gains_by_length : (all before now : List Chosen) → now ≡ before ++ take (length now - length before) all → GainsPrefix all before now
gains_by_length all before now is =
    let n = length now - length before in
    record { added = take n all; is = record { rest = drop n all; is = sym (take-append-drop n all) }; gained = is }

-- what groups tell, by their fields
abbrev told : GroupOptions → List Query → Trees → Bool → GroupsState
told options queries store failed = record { table = record { options = options; state = state_of_trees store; failed = failed }; queries = queries }

-- what a call says of groups by what their store did, where that is sound
pub groups_stepped : {T E : Type 0} (r : Result T E) (options : GroupOptions) (queries : List Query) (leaving : Leaving) (store now : Trees) (failed after : Bool) (out_before out_now : List Chosen) → failed ≡ false → after ≡ is_err r → ∥ IsSound (IsTrees queries) state_of_trees options.limit store ∥₁ →
    (IsOrdered (IsTrees queries) state_of_trees store → OnOk r (WentBy (IsTrees queries) state_of_trees (chosen queries) options.grouping leaving now out_before out_now)) → OnOk r (GroupsStepped leaving (told options queries store failed) (told options queries now after) out_before out_now)
groups_stepped {E = F} (Ok x) options queries leaving store now failed after out_before out_now kept ok so went =
    let steps : IsSound (IsTrees queries) state_of_trees options.limit store → TableStepped (chosen queries) leaving (told options queries store failed).table (told options queries now after).table out_before out_now =
    λ s. stepped (IsTrees queries) state_of_trees (chosen queries) {E = F} (Ok x) leaving (told options queries store failed).table now after out_before out_now kept ok (went s.ordered) in
    record {
      table = record {
        was_sound = kept;
        state = ∥∥₁_elim so (Coded-set table_code _ _) (λ s. (steps s).state);
        groups = ∥∥₁_elim so (Coded-set chosen_code _ _) (λ s. (steps s).groups);
      };
      queries = refl;
    }
groups_stepped (Err e) options queries leaving store now failed after out_before out_now kept ok so went = tt

pub groups_failed : {T E : Type 0} (r : Result T E) (options : GroupOptions) (queries : List Query) (leaving : Leaving) (store now : Trees) (failed after : Bool) (out_before out_now : List Chosen) → after ≡ is_err r → ∥ IsSound (IsTrees queries) state_of_trees options.limit store ∥₁ →
    (IsOrdered (IsTrees queries) state_of_trees store → OnErr r (AddsPart (chosen queries) options.grouping leaving out_before out_now)) → OnErr r (GroupsFailed leaving (told options queries store failed) (told options queries now after) out_before out_now)
groups_failed (Ok x) options queries leaving store now failed after out_before out_now err so part = tt
groups_failed (Err e) options queries leaving store now failed after out_before out_now err so part = record {
  table = record {
    options = refl;
    failed = err;
    gains =
        let all : List Chosen = map (chosen queries) (reported options.grouping leaving.groups) in
        gains_by_length all out_before out_now (∥∥₁_elim so (Coded-set chosen_code _ _) (λ s. gained_by_length all out_before out_now (part s.ordered)));
  };
  queries = refl;
}

-- nothing is pending
no_rows_stand : Standing no_state
no_rows_stand = record { rows = []; trees = no_trees; told = refl; unended = λ s row here. absurd (let e : None ≡ Some row = here in cc) }

pub new_is_sound : (queries : List Query) (limit : ℕ) (t : Trees) → Went (IsTrees queries) state_of_trees no_state t → IsSound (IsTrees queries) state_of_trees limit t
new_is_sound queries limit t went = record {
  ordered = record { kept = went.kept; times = subst IsTimed (sym went.told) tt };
  standing = subst Standing (sym went.told) no_rows_stand;
  within = omega (arith, ap (λ (s : State). length s.pending) went.told);
}

-- there is a query at each place
pub query_at : (queries : List Query) (place : ℕ) → place < length queries → (query : Query) × (slice_get queries place ≡ Some query)
query_at [] place within = absurd (omega (arith, within))
query_at (query ∷ queries) zero within = (query, refl)
query_at (query ∷ queries) (suc place) within = query_at queries place (omega (arith, within))
