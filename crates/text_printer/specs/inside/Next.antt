-- What comes next, and how a printer takes it (this project's choice).
use Rattle.std.specs.Prelude.{◌≡◌, ℕ, Bool, true, false, List, [], ◌∷◌, ◌++◌, Option, map, filter, get_or}
use Rattle.txn_rows.specs.declared.group.Group.{Group}
use Rattle.txn_rows.specs.Grouping.{Taken, TakenUnit, taken_step, reported}
use Rattle.txn_rows.specs.Grouping as taken_items
use Rattle.txn_rows.specs.TableState.{TableState}
use Rattle.query_parser.specs.declared.query.Query.{Query}
use Rattle.query_eval.specs.declared.chosen.Chosen.{Chosen}
use Rattle.vsl_dispatch.specs.Entries.{Stands}
use Rattle.vsl_dispatch.specs.declared.entry.Entry.{Entry}
use Rattle.text_printer.specs.declared.next.Next.{Next}
use Rattle.text_printer.specs.declared.next.Next.TheVariants.{Unit, Missed, End}
use Rattle.text_printer.specs.Held.{held_groups}

-- whether the log has ended
abbrev pub is_end : Next → Bool
is_end (Unit u) = false
is_end Missed = false
is_end End = true

-- what a table takes: at the end it completes what is pending, as at an overrun
abbrev pub item_of : Next → Taken
item_of (Unit u) = TakenUnit u.now
item_of Missed = taken_items.Missed
item_of End = taken_items.Missed

-- what was taken with it: the end completes what is pending, and is no item
abbrev pub taken_with : List Taken → Next → List Taken
taken_with taken (Unit u) = taken ++ TakenUnit u.now ∷ []
taken_with taken Missed = taken ++ taken_items.Missed ∷ []
taken_with taken End = taken

-- whether the first query that a group was asked holds for it
abbrev pub first_holds : Chosen → Bool
first_holds chosen = get_or chosen.holds 0 false

-- the groups for which the first query that they were asked holds, in their order
abbrev pub first_held : List Chosen → List Group
first_held all = map (λ chosen. chosen.group) (filter first_holds all)

module _ {C : Type 0} (keep : C → Option ℕ) (output : C → List Group → Bool → List ℕ) (represents : C → List Group → Bool → List ℕ → Type 0) where
  -- an entry was given these groups, and was ended or not
  pub record Gave (groups : List Group) (ended : Bool) (old new : Entry C) : Type 0 where
    pub each : (before : List Group) (taken : List ℕ) →
        Stands keep output represents false old before taken →
        Stands keep output represents ended new (before ++ groups) taken

  -- a table took what comes next; of the groups that it completed and for which the query holds, an entry was given the first, and these are left
  pub record Completed (query : Query) (next : Next) (old new : TableState) (entry_old entry_new : Entry C) (left : List Chosen) : Type 0 where
    pub options : new.options ≡ old.options
    pub state : new.state ≡ (taken_step old.options (item_of next) old.state).state
    pub sound : old.failed ≡ false → new.failed ≡ false
    pub given : List Group
    pub groups : held_groups query
        (reported old.options.grouping (taken_step old.options (item_of next) old.state).groups) ≡ given ++
        first_held left
    pub gave : Gave given false entry_old entry_new
