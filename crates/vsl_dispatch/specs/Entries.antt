-- What becomes of consumers, and of what they write (this project's choice).
use Rattle.std.specs.Prelude.{◌≡◌, ◌≢◌, ℕ, ◌<◌, ◌&&◌, ◌||◌, not, Bool, true, false, if◌then◌else◌, List, [], ◌∷◌, ◌++◌, length, Option, Some, None, slice_get, count_by}
use Rattle.std.specs.Bool.{MatchBool}
use Rattle.vsl_record.specs.Unit.{LogUnit}
use Rattle.txn_rows.specs.declared.group.Group.{Group}
use Rattle.vsl_dispatch.specs.Groups.{raw_groups, kept, is_filled}
use Rattle.vsl_dispatch.specs.declared.dispatcher.Dispatcher.{Dispatcher}
use Rattle.vsl_dispatch.specs.declared.entry.Entry.{Entry}

-- the entries of a dispatcher, in order. Each group is given to all of them, since a log on standard input can't be
-- read twice
abbrev pub entries_of : {C : Type 0} → Dispatcher C → List (Entry C)
entries_of d = d.entries.items

-- whether a dispatcher found no memory once. From then on it takes no group, so that no consumer writes what comes behind
-- a group that it lacks
abbrev pub has_failed : {C : Type 0} → Dispatcher C → Bool
has_failed d = d.failed

-- the place of a consumer that takes groups
abbrev pub new_entry : {C : Type 0} → C → Entry C
new_entry c = record { consumer = c; live = true }

-- how many consumers take groups
abbrev pub count_live : {C : Type 0} → List (Entry C) → ℕ
count_live {C} entries = count_by (λ (entry : Entry C). entry.live) entries

-- what a consumer names: how many groups it keeps, and what it writes of groups
module _ {C : Type 0} (keep : C → Option ℕ) (output : C → List Group → Bool → List ℕ) where
  -- a consumer keeps as many groups, and writes the same of groups, as before
  pub record IsSame (c d : C) : Type 0 where
    pub keeps : keep d ≡ keep c
    pub writes : output d ≡ output c

-- the same, and what it represents
module _ {C : Type 0} (keep : C → Option ℕ) (output : C → List Group → Bool → List ℕ) (represents : C → List Group → Bool → List ℕ → Type 0) where
  -- a consumer that takes groups was given one: it goes on, or that was the last that it keeps, and it was ended
  pub record Received (group : Group) (old new : Entry C) : Type 0 where
    pub same : IsSame keep output old.consumer new.consumer
    pub takes : (groups : List Group) (taken : List ℕ) → represents old.consumer groups false taken →
        represents new.consumer (groups ++ group ∷ []) (not new.live) taken
    pub last : new.live ≡ false → (groups : List Group) (taken : List ℕ) → represents old.consumer groups false taken →
        keep old.consumer ≡ Some (length (groups ++ group ∷ []))
    pub more : new.live ≡ true → (groups : List Group) (taken : List ℕ) → represents old.consumer groups false taken →
        keep old.consumer ≢ Some (length (groups ++ group ∷ []))

  -- a group was given to an entry where its query holds: one that takes no groups, and one for which the query doesn't hold, stay as they are
  abbrev pub Handed : Group → Bool → Entry C → Entry C → Type 0
  Handed group holds old new = MatchBool (holds && old.live) (Received group old new) (new ≡ old)

  -- no memory was found for the entry at a place: those before it were given the group, and those behind it were not
  pub record GivenBefore (at : ℕ) (group : Group) (holds : List Bool) (before now : List (Entry C)) : Type 0 where
    pub within : at < length before
    pub given : (i : ℕ) (b : Bool) (old new : Entry C) → i < at → slice_get holds i ≡ Some b →
        slice_get before i ≡ Some old → slice_get now i ≡ Some new → Handed group b old new
    pub others : (i : ℕ) → at < i → slice_get now i ≡ slice_get before i

  -- no group will follow: a consumer was ended, and takes none
  pub record Ended (old new : Entry C) : Type 0 where
    pub same : IsSame keep output old.consumer new.consumer
    pub live : new.live ≡ false
    pub ends : (groups : List Group) (taken : List ℕ) → represents old.consumer groups false taken →
        represents new.consumer groups true taken

  -- an entry was ended: one that takes no groups stays as it is
  abbrev pub Finished : Entry C → Entry C → Type 0
  Finished old new = MatchBool old.live (Ended old new) (new ≡ old)

  -- no memory was found for the entry at a place: those before it were ended, and those behind it were not
  pub record FinishedBefore (at : ℕ) (before now : List (Entry C)) : Type 0 where
    pub within : at < length before
    pub ended : (i : ℕ) (old new : Entry C) → i < at → slice_get before i ≡ Some old → slice_get now i ≡ Some new →
        Finished old new
    pub others : (i : ℕ) → at < i → slice_get now i ≡ slice_get before i

  -- a text was taken from a consumer. It is what was written since the last time: so the lines of varnishlog come with
  -- each unit, and the report of varnishtop at the end
  pub record GaveText (text : List ℕ) (c d : C) : Type 0 where
    pub same : IsSame keep output c d
    pub whole : (groups : List Group) (ended : Bool) (taken : List ℕ) → represents c groups ended taken →
        taken ++ text ≡ output c groups ended
    pub takes : (groups : List Group) (ended : Bool) (taken : List ℕ) → represents c groups ended taken →
        represents d groups ended (taken ++ text)

  -- a text was taken from an entry, whose consumer takes groups where it did before
  pub record TextTaken (text : List ℕ) (old new : Entry C) : Type 0 where
    pub live : new.live ≡ old.live
    pub gave : GaveText text old.consumer new.consumer

  -- the records of a unit, each as a group by itself, were offered to a consumer, which took them or not. That is a
  -- short way, and changes no text
  pub record Offered (u : LogUnit) (took : Bool) (c d : C) : Type 0 where
    pub same : IsSame keep output c d
    pub takes : (groups : List Group) (taken : List ℕ) → represents c groups false taken →
        represents d (if took then groups ++ raw_groups u else groups) false taken
    pub all : took ≡ true → keep c ≡ None

  -- they were offered to an entry: one that takes groups goes on, and one that takes no groups takes none
  abbrev pub OfferedTo : LogUnit → Bool → Entry C → Entry C → Type 0
  OfferedTo u took old new = MatchBool old.live ((new.live ≡ true) × Offered u took old.consumer new.consumer)
      ((took ≡ false) × (new ≡ old))

  -- of the groups that were for it, which have ended or not, a consumer received the first, at most as many as it keeps, and of its text these
  -- bytes were taken; it takes groups where they are fewer than it keeps and haven't ended, and else was ended
  pub record Stands (ended : Bool) (entry : Entry C) (groups : List Group) (taken : List ℕ) : Type 0 where
    pub live : (ended || is_filled (keep entry.consumer) groups) ≡ not entry.live
    pub holds : represents entry.consumer (kept (keep entry.consumer) groups) (not entry.live) taken
