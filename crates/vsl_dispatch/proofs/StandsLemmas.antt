-- What a consumer received, and what was taken of its text, call by call.
use Rattle.std.proofs.Common.{◌≡◌, ◌⊎◌, ℕ, ◌&&◌, ◌||◌, not, Bool, true, false, if◌then◌else◌, List, [], ◌∷◌, ◌++◌, Option, None, refl, sym, ap, subst, ◌∙◌, ⊎_elim}
use Rattle.std.specs.Bool.{MatchBool}
use Rattle.std.proofs.lemmas.Bool.{MatchBool-at_false, and_right}
use Rattle.vsl_record.specs.Unit.{LogUnit}
use Rattle.txn_rows.specs.declared.group.Group.{Group}
use Rattle.vsl_dispatch.specs.Groups.{raw_groups, kept, is_filled}
use Rattle.vsl_dispatch.specs.Entries.{Ended, Finished, Handed, IsSame, Offered, OfferedTo, Received, Stands, TextTaken}
use Rattle.vsl_dispatch.specs.declared.entry.Entry.{Entry}
use Rattle.vsl_dispatch.proofs.GroupLemmas.{kept_filled, kept_open, filled_more, filled_last, open_more}

-- a flag that is not set
not_set : (b : Bool) → true ≡ not b → b ≡ false
not_set true e = e
not_set false e = refl

module _ {C : Type 0} (keep : C → Option ℕ) (output : C → List Group → Bool → List ℕ) (represents : C → List Group → Bool → List ℕ → Type 0) where
  -- one that takes groups received all that were for it, and fewer than it keeps
  all_received : (entry : Entry C) (groups : List Group) (taken : List ℕ) → entry.live ≡ true → Stands keep output represents false entry groups taken
      → (is_filled (keep entry.consumer) groups ≡ false) × represents entry.consumer groups false taken
  all_received entry groups taken live stands =
      let fewer : is_filled (keep entry.consumer) groups ≡ false = stands.live ∙ ap not live in (
        fewer,
        subst (λ (gs : List Group). represents entry.consumer gs false taken) (kept_open (keep entry.consumer) groups fewer)
            (subst (λ (b : Bool). represents entry.consumer (kept (keep entry.consumer) groups) (not b) taken) live stands.holds),
      )

  -- and the other way round
  stands_open : (entry : Entry C) (groups : List Group) (taken : List ℕ) → entry.live ≡ true → is_filled (keep entry.consumer) groups ≡ false → represents entry.consumer groups false taken
      → Stands keep output represents false entry groups taken
  stands_open entry groups taken live fewer all = record {
    live = fewer ∙ sym (ap not live);
    holds = subst (λ (b : Bool). represents entry.consumer (kept (keep entry.consumer) groups) (not b) taken) (sym live)
        (subst (λ (gs : List Group). represents entry.consumer gs false taken) (sym (kept_open (keep entry.consumer) groups fewer)) all);
  }

  -- to one that takes no groups none is added
  stands_filled : (entry : Entry C) (groups more : List Group) (taken : List ℕ) → entry.live ≡ false → Stands keep output represents false entry groups taken
      → Stands keep output represents false entry (groups ++ more) taken
  stands_filled entry groups more taken gone stands =
      let filled : is_filled (keep entry.consumer) groups ≡ true = stands.live ∙ ap not gone in record {
        live = filled_more (keep entry.consumer) groups more filled ∙ sym (ap not gone);
        holds = subst (λ (gs : List Group). represents entry.consumer gs (not entry.live) taken) (sym (kept_filled (keep entry.consumer) groups more filled)) stands.holds;
      }

  -- ---- a group

  -- with a group more a consumer has as many as it keeps exactly where it takes no more, and keeps all of them
  kept_now : (live : Bool) (group : Group) (old new : Entry C) (groups : List Group) (taken : List ℕ) → new.live ≡ live → IsSame keep output old.consumer new.consumer → Received keep output represents group old new
      → is_filled (keep old.consumer) groups ≡ false → represents old.consumer groups false taken
      → (is_filled (keep new.consumer) (groups ++ group ∷ []) ≡ not live) × (kept (keep new.consumer) (groups ++ group ∷ []) ≡ groups ++ group ∷ [])
  kept_now true group old new groups taken is same got fewer all =
      let still : is_filled (keep new.consumer) (groups ++ group ∷ []) ≡ false =
      ap (λ (most : Option ℕ). is_filled most (groups ++ group ∷ [])) same.keeps ∙ open_more (keep old.consumer) groups group fewer (got.more is groups taken all) in
      (still, kept_open (keep new.consumer) (groups ++ group ∷ []) still)
  kept_now false group old new groups taken is same got fewer all = filled_last (keep new.consumer) (groups ++ group ∷ []) (same.keeps ∙ got.last is groups taken all)

  -- one that takes groups was given one
  stands_received : (group : Group) (old new : Entry C) (groups : List Group) (taken : List ℕ) → IsSame keep output old.consumer new.consumer → Received keep output represents group old new
      → is_filled (keep old.consumer) groups ≡ false → represents old.consumer groups false taken → Stands keep output represents false new (groups ++ group ∷ []) taken
  stands_received group old new groups taken same got fewer all =
      let now = kept_now new.live group old new groups taken refl same got fewer all in record {
        live = now.0;
        holds = subst (λ (gs : List Group). represents new.consumer gs (not new.live) taken) (sym now.1) (got.takes groups taken all);
      }

  handed_so : (live : Bool) (group : Group) (old new : Entry C) (groups : List Group) (taken : List ℕ) → old.live ≡ live → IsSame keep output old.consumer new.consumer
      → MatchBool live (Received keep output represents group old new) (new ≡ old) → Stands keep output represents false old groups taken
      → Stands keep output represents false new (groups ++ group ∷ []) taken
  handed_so true group old new groups taken is same got stands =
      let all = all_received old groups taken is stands in stands_received group old new groups taken same got all.0 all.1
  handed_so false group old new groups taken is same stays stands =
      subst (λ (entry : Entry C). Stands keep output represents false entry (groups ++ group ∷ []) taken) (sym stays) (stands_filled old groups (group ∷ []) taken is stands)

  -- after a group that was given where the query holds for it
  pub stands_handed : (group : Group) (holds : Bool) (old new : Entry C) (groups : List Group) (taken : List ℕ) → IsSame keep output old.consumer new.consumer
      → Handed keep output represents group holds old new → Stands keep output represents false old groups taken
      → Stands keep output represents false new (if holds then groups ++ group ∷ [] else groups) taken
  stands_handed group true old new groups taken same handed stands = handed_so old.live group old new groups taken refl same handed stands
  stands_handed group false old new groups taken same handed stands = subst (λ (entry : Entry C). Stands keep output represents false entry groups taken) (sym handed) stands

  -- ---- the records of a unit

  offered_so : (live : Bool) (u : LogUnit) (took : Bool) (old new : Entry C) (groups : List Group) (taken : List ℕ) → old.live ≡ live → IsSame keep output old.consumer new.consumer
      → MatchBool live ((new.live ≡ true) × Offered keep output represents u took old.consumer new.consumer) ((took ≡ false) × (new ≡ old))
      → Stands keep output represents false old groups taken → Stands keep output represents false new (if took then groups ++ raw_groups u else groups) taken
  offered_so true u true old new groups taken is same offered stands =
      let all = all_received old groups taken is stands in
      let none : keep new.consumer ≡ None = same.keeps ∙ offered.1.all refl in
      stands_open new (groups ++ raw_groups u) taken offered.0 (ap (λ (most : Option ℕ). is_filled most (groups ++ raw_groups u)) none) (offered.1.takes groups taken all.1)
  offered_so true u false old new groups taken is same offered stands =
      let all = all_received old groups taken is stands in
      stands_open new groups taken offered.0 (ap (λ (most : Option ℕ). is_filled most groups) same.keeps ∙ all.0) (offered.1.takes groups taken all.1)
  offered_so false u took old new groups taken is same offered stands =
      subst (λ (t : Bool). Stands keep output represents false new (if t then groups ++ raw_groups u else groups) taken) (sym offered.0)
      (subst (λ (entry : Entry C). Stands keep output represents false entry groups taken) (sym offered.1) stands)

  -- after the records of a unit were offered, which a consumer takes only if it keeps all
  pub stands_offered : (u : LogUnit) (took : Bool) (old new : Entry C) (groups : List Group) (taken : List ℕ) → IsSame keep output old.consumer new.consumer
      → OfferedTo keep output represents u took old new → Stands keep output represents false old groups taken
      → Stands keep output represents false new (if took then groups ++ raw_groups u else groups) taken
  stands_offered u took old new groups taken same offered stands = offered_so old.live u took old new groups taken refl same offered stands

  -- ---- a text

  -- after a text was taken, what was taken is what is written of the groups that were received
  pub stands_text : (text : List ℕ) (ended : Bool) (old new : Entry C) (groups : List Group) (taken : List ℕ)
      → TextTaken keep output represents text old new → Stands keep output represents ended old groups taken
      → Stands keep output represents ended new groups (taken ++ text) × (taken ++ text ≡ output old.consumer (kept (keep old.consumer) groups) (ended || is_filled (keep old.consumer) groups))
  stands_text text ended old new groups taken took stands =
      let first = kept (keep old.consumer) groups in
      let keeps : keep old.consumer ≡ keep new.consumer = sym took.gave.same.keeps in
      let now : Stands keep output represents ended new groups (taken ++ text) = record {
        live = subst (λ (most : Option ℕ). (ended || is_filled most groups) ≡ not old.live) keeps stands.live ∙ sym (ap not took.live);
        holds = subst (λ (most : Option ℕ). represents new.consumer (kept most groups) (not new.live) (taken ++ text)) keeps
            (subst (λ (b : Bool). represents new.consumer first (not b) (taken ++ text)) (sym took.live) (took.gave.takes first (not old.live) taken stands.holds));
      } in
      (now, took.gave.whole first (not old.live) taken stands.holds ∙ ap (λ (b : Bool). output old.consumer first b) (sym stands.live))

  -- ---- the end

  finished_so : (live : Bool) (old new : Entry C) (groups : List Group) (taken : List ℕ) → old.live ≡ live → IsSame keep output old.consumer new.consumer
      → MatchBool live (Ended keep output represents old new) (new ≡ old) → Stands keep output represents false old groups taken → Stands keep output represents true new groups taken
  finished_so true old new groups taken is same ended stands =
      let first = kept (keep old.consumer) groups in
      let before : represents old.consumer first false taken = subst (λ (b : Bool). represents old.consumer first (not b) taken) is stands.holds in record {
        live = sym (ap not ended.live);
        holds = subst (λ (most : Option ℕ). represents new.consumer (kept most groups) (not new.live) taken) (sym same.keeps)
            (subst (λ (b : Bool). represents new.consumer first (not b) taken) (sym ended.live) (ended.ends first taken before));
      }
  finished_so false old new groups taken is same stays stands =
      let now : Stands keep output represents true old groups taken = record { live = sym (ap not is); holds = stands.holds } in
      subst (λ (entry : Entry C). Stands keep output represents true entry groups taken) (sym stays) now

  -- after the end
  pub ended_finished : (old new : Entry C) (groups : List Group) (taken : List ℕ) → IsSame keep output old.consumer new.consumer
      → Finished keep output represents old new → Stands keep output represents false old groups taken → Stands keep output represents true new groups taken
  ended_finished old new groups taken same finished stands = finished_so old.live old new groups taken refl same finished stands

  -- and after it neither a group nor the end changes anything
  pub ended_stays : (group : Group) (holds : Bool) (old new : Entry C) (groups : List Group) (taken : List ℕ)
      → Handed keep output represents group holds old new ⊎ Finished keep output represents old new → Stands keep output represents true old groups taken → Stands keep output represents true new groups taken
  ended_stays group holds old new groups taken did stands =
      let gone : old.live ≡ false = not_set old.live stands.live in
      let stays : new ≡ old = ⊎_elim (λ (handed : Handed keep output represents group holds old new). MatchBool-at_false (Received keep output represents group old new) (new ≡ old) (and_right holds old.live gone) handed)
      (λ (finished : Finished keep output represents old new). MatchBool-at_false (Ended keep output represents old new) (new ≡ old) gone finished) did in
      subst (λ (entry : Entry C). Stands keep output represents true entry groups taken) (sym stays) stands

  -- ---- what a consumer keeps and writes stays the same

  same_so : (b : Bool) (P : Type 0) (old new : Entry C) → (P → IsSame keep output old.consumer new.consumer) → MatchBool b P (new ≡ old) → IsSame keep output old.consumer new.consumer
  same_so true P old new same did = same did
  same_so false P old new same stays = record { keeps = ap (λ (entry : Entry C). keep entry.consumer) stays; writes = ap (λ (entry : Entry C). output entry.consumer) stays }

  pub handed_same : (group : Group) (holds : Bool) (old new : Entry C) → Handed keep output represents group holds old new → IsSame keep output old.consumer new.consumer
  handed_same group holds old new handed = same_so (holds && old.live) (Received keep output represents group old new) old new (λ (got : Received keep output represents group old new). got.same) handed

  offered_same_so : (live : Bool) (u : LogUnit) (took : Bool) (old new : Entry C) → MatchBool live ((new.live ≡ true) × Offered keep output represents u took old.consumer new.consumer) ((took ≡ false) × (new ≡ old))
      → IsSame keep output old.consumer new.consumer
  offered_same_so true u took old new offered = offered.1.same
  offered_same_so false u took old new offered = record { keeps = ap (λ (entry : Entry C). keep entry.consumer) offered.1; writes = ap (λ (entry : Entry C). output entry.consumer) offered.1 }

  pub offered_same : (u : LogUnit) (took : Bool) (old new : Entry C) → OfferedTo keep output represents u took old new → IsSame keep output old.consumer new.consumer
  offered_same u took old new offered = offered_same_so old.live u took old new offered

  pub finished_same : (old new : Entry C) → Finished keep output represents old new → IsSame keep output old.consumer new.consumer
  finished_same old new finished = same_so old.live (Ended keep output represents old new) old new (λ (ended : Ended keep output represents old new). ended.same) finished
