-- What the consumer received.
use Rattle.std.proofs.Common.{◌≡◌, ◌+◌, ℕ, Bool, true, false, List, [], ◌∷◌, ◌++◌, length, length-append, map, Option, None, Some, is_some, Result, Ok, Err, OnOk, refl, sym, ap, subst, ◌∙◌}
use Rattle.std.specs.List.{filter, flat_map}
use Rattle.std.proofs.lemmas.List.{append-nil, map-append}
use Rattle.std.proofs.lemmas.List.Concat.{flat_map-append}
use Rattle.vsl_record.specs.declared.record_type.Record.{Record}
use Rattle.txn_rows.specs.declared.group.Group.{Group}
use Rattle.txn_rows.specs.Grouping.{raw_group}
use Rattle.vsl_dispatch.specs.Received.{HasReceived}
use Rattle.vsl_select.specs.Showing.{Showing}
use Rattle.vsl_select.specs.Shown.{is_shown_alone, shown}
use Rattle.vsl_select.proofs.RawLemmas.{of_shown}
use Rattle.vsl_top.specs.Report.{Key, key_of, keys_of, top_text}
use Rattle.vsl_top.specs.Counting.{AreCounted, IsTop}
use Rattle.vsl_top.specs.inside.Keys.{member_keys}
use Rattle.vsl_top.specs.declared.counts.Counts.{Counts}
use Rattle.vsl_top.specs.declared.consumer.TopConsumer.{TopConsumer}

-- the keys of groups, and of more groups
keys_append : (showing : Showing) (first_field : Bool) (xs ys : List Group) → keys_of showing first_field (xs ++ ys) ≡ keys_of showing first_field xs ++ keys_of showing first_field ys
keys_append showing first_field xs ys =
    ap (map (key_of first_field)) (flat_map-append (λ (g : Group). flat_map (λ m. m.records) (shown showing g).members) xs ys) ∙ map-append (key_of first_field) _ _

-- nothing is written before the groups have ended
nothing_before : (taken text : List ℕ) → taken ++ text ≡ [] → taken ≡ []
nothing_before [] text e = refl
nothing_before (b ∷ taken) text e = absurd (cc)

-- the report is written
pub ended : (old new : TopConsumer) (groups : List Group) (taken text : List ℕ) → IsTop old groups false taken → new.viewer ≡ old.viewer → new.first_field ≡ old.first_field
    → new.received ≡ old.received → new.counts ≡ old.counts → text ≡ [] → new.text.items ≡ text ++ top_text old.viewer old.first_field groups → IsTop new groups true taken
ended old new groups taken text top viewer first_field received counts empty is = record {
  received = rw received top.received;
  counted = rw (viewer, first_field, counts) top.counted;
  text = rw (viewer, first_field, nothing_before taken old.text.items top.text, is, empty) refl;
}

-- a group more was received
pub group_taken : (old new : TopConsumer) (groups : List Group) (group : Group) (taken : List ℕ) → IsTop old groups false taken → new.viewer ≡ old.viewer → new.first_field ≡ old.first_field
    → new.text.items ≡ old.text.items → HasReceived new.received (length groups + 1)
    → ((keys : List Key) → AreCounted keys old.counts → AreCounted (keys ++ member_keys old.viewer old.first_field group.members) new.counts) → IsTop new (groups ++ group ∷ []) false taken
group_taken old new groups group taken top viewer first_field text received counts = record {
  received = rw (length-append groups (group ∷ [])) received;
  counted = rw (viewer, first_field, keys_append old.viewer old.first_field groups (group ∷ []), append-nil (flat_map (λ m. m.records) (shown old.viewer group).members)) (counts _ top.counted);
  text = rw text top.text;
}

-- the keys of what is shown of records by themselves
raw_keys : (showing : Showing) (first_field : Bool) (vxid : ℕ) (records : List Record)
    → keys_of showing first_field (map (raw_group vxid) records) ≡ map (key_of first_field) (filter (is_shown_alone showing) records)
raw_keys showing first_field vxid records =
    ap (map (key_of first_field)) (of_shown (λ m. m.records) showing vxid (λ rec. rec ∷ []) (λ m. refl) (λ rec. refl) records ∙ each_alone (filter (is_shown_alone showing) records))
  where
    each_alone : (all : List Record) → flat_map (λ rec. rec ∷ []) all ≡ all
    each_alone [] = refl
    each_alone (rec ∷ all) = ap (λ (rest : List Record). rec ∷ rest) (each_alone all)

-- records by themselves were received
pub records_taken : (old new : TopConsumer) (groups : List Group) (vxid : ℕ) (records : List Record) (taken : List ℕ) → IsTop old groups false taken → new.viewer ≡ old.viewer
    → new.first_field ≡ old.first_field → new.text.items ≡ old.text.items → new.received.keep ≡ None
    → ((keys : List Key) → AreCounted keys old.counts → AreCounted (keys ++ map (key_of old.first_field) (filter (is_shown_alone old.viewer) records)) new.counts) → IsTop new (groups ++ map (raw_group vxid) records) false taken
records_taken old new groups vxid records taken top viewer first_field text keep counts = record {
  received = λ most is. absurd (let clash = sym is ∙ keep in cc);
  counted = rw (viewer, first_field, keys_append old.viewer old.first_field groups (map (raw_group vxid) records), raw_keys old.viewer old.first_field vxid records) (counts _ top.counted);
  text = rw text top.text;
}

-- where nothing is hidden, the keys of all records are those of the records that are shown by themselves
pub all_shown : (viewer selection : Showing) (first_field : Bool) (taken records : List Record) (keys : List Key) (counts : Counts) → selection ≡ viewer → taken ≡ records
    → filter (is_shown_alone selection) records ≡ records → AreCounted (keys ++ map (key_of first_field) taken) counts
    → AreCounted (keys ++ map (key_of first_field) (filter (is_shown_alone viewer) records)) counts
all_shown viewer selection first_field taken records keys counts same is all =
    subst (λ (rs : List Record). AreCounted (keys ++ map (key_of first_field) rs) counts) (is ∙ sym all ∙ ap (λ (s : Showing). filter (is_shown_alone s) records) same)

pub none_from : (o : Option ℕ) → is_some o ≡ false → o ≡ None
none_from None e = refl
none_from (Some n) e = absurd (cc)

-- what follows from what holds where there is an answer
pub on_ok : {T E P Q : Type 0} (r : Result T E) → (P → Q) → OnOk r P → OnOk r Q
on_ok (Ok x) f p = f p
on_ok (Err e) f p = tt
