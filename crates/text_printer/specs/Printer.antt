-- What a printer represents: what it was given, units and overruns, of which a text is due (this project's choice).
use Rattle.std.specs.Prelude.{◌≡◌, ℕ, ◌||◌, Bool, false, List, [], ◌++◌, Option}
use Rattle.log_model.specs.Prefix.{IsPrefix}
use Rattle.txn_rows.specs.declared.group.Group.{Group}
use Rattle.txn_rows.specs.declared.group.GroupOptions.{GroupOptions}
use Rattle.txn_rows.specs.Grouping.{Taken, no_state, taken_steps, groups_of}
use Rattle.txn_rows.specs.TableState.{TableState}
use Rattle.query_parser.specs.declared.query.Query.{Query}
use Rattle.txn_groups.specs.Groups.{groups_state}
use Rattle.ring_layout.specs.declared.item.Item.{Item}
use Rattle.fan_output.specs.Ends.{Due}
use Rattle.vsl_dispatch.specs.Groups.{kept, is_filled}
use Rattle.vsl_dispatch.specs.Entries.{Stands}
use Rattle.vsl_dispatch.specs.declared.entry.Entry.{Entry}
use Rattle.text_printer.specs.Held.{held_groups}
use Rattle.text_printer.specs.Taken.{taken_of}
use Rattle.text_printer.specs.declared.printer.Printer.{Printer}

-- what a printer is to write: how records are grouped, which groups are asked for, how many of them are kept, and what is written of those, ended or not
pub record Plan : Type 0 where
  pub options : GroupOptions
  pub query : Query
  pub keep : Option ℕ
  pub writes : List Group → Bool → List ℕ

-- what is written of groups: nothing of none, and it goes on where more of them come, or their end
pub record IsOutput (writes : List Group → Bool → List ℕ) : Type 0 where
  pub none : (ended : Bool) → writes [] ended ≡ []
  pub grows : (groups more : List Group) (ended : Bool) → IsPrefix (writes groups false) (writes (groups ++ more) ended)

-- what a printer tells: the table of what is pending, the query that groups are asked, and the place of its consumer
pub record PrinterState (C : Type 0) : Type 0 where
  pub table : TableState
  pub query : Query
  pub entry : Entry C

-- what a printer tells
abbrev pub printer_state : {C : Type 0} → Printer C → PrinterState C
printer_state p = record { table = (groups_state p.groups).table; query = p.query.now; entry = p.entry }

-- the groups of what was taken that are asked for, where that has ended or not
abbrev pub asked_groups : Plan → List Taken → Bool → List Group
asked_groups plan taken ended = held_groups plan.query (groups_of plan.options taken ended)

-- whether the groups of what was taken that are asked for are as many as are kept
abbrev pub has_all : Plan → List Taken → Bool
has_all plan taken = is_filled plan.keep (asked_groups plan taken false)

-- the text that is due for what was taken, where that has ended or not: what is written of the groups that are asked for, at most as many as are kept; with the last
-- that is kept they have ended too
abbrev pub due : Plan → List Taken → Bool → List ℕ
due plan taken ended = plan.writes (kept plan.keep (asked_groups plan taken ended)) (ended || has_all plan taken)

-- what is due at a sink under a plan, behind a text; and the name that faults give the sink
abbrev pub due_of : List ℕ → List ℕ → Plan → Due
due_of head name p = record {
  head = head;
  text = λ met all. due p (taken_of met) all;
  filled = λ met. has_all p (taken_of met);
  name = name;
}

-- the plan of a printer: no call changes it
abbrev pub plan_of : {C : Type 0} → (C → Option ℕ) → (C → List Group → Bool → List ℕ) → PrinterState C → Plan
plan_of keep output p = record {
  options = p.table.options;
  query = p.query;
  keep = keep p.entry.consumer;
  writes = output p.entry.consumer;
}

module _ {C : Type 0} (keep : C → Option ℕ) (output : C → List Group → Bool → List ℕ) (represents : C → List Group → Bool → List ℕ → Type 0) where
  -- a printer was given this, which has ended or not, and no call was refused: its text grows with what is given; until the end what is pending is that of it; its consumer received
  -- the groups that are asked for, at most as many as are kept, and these bytes were taken of its text
  pub record Represents (p : PrinterState C) (taken : List Taken) (ended : Bool) (bytes : List ℕ) : Type 0 where
    pub grows : (list more : List Taken) (all : Bool) → IsPrefix (due (plan_of keep output p) list false) (due (plan_of keep output p) (list ++ more) all)
    pub state : ended ≡ false → p.table.state ≡ (taken_steps p.table.options taken no_state).state
    pub sound : ended ≡ false → p.table.failed ≡ false
    pub stands : Stands keep output represents ended p.entry (asked_groups (plan_of keep output p) taken ended) bytes

-- its text, that at place 0, of items which are all or not
abbrev pub text_at : {C : Type 0} → (C → Option ℕ) → (C → List Group → Bool → List ℕ) → Printer C → ℕ → List Item →
    Bool → List ℕ
text_at keep output p place met all = due (plan_of keep output (printer_state p)) (taken_of met) all

-- whether items complete as many groups as are kept
abbrev pub filled_at : {C : Type 0} → (C → Option ℕ) → (C → List Group → Bool → List ℕ) → Printer C → ℕ → List Item → Bool
filled_at keep output p place met = has_all (plan_of keep output (printer_state p)) (taken_of met)

-- it was given these items, which are all or not, and of its text these bytes were taken
abbrev pub HoldsAt : {C : Type 0} → (C → Option ℕ) → (C → List Group → Bool → List ℕ) →
    (C → List Group → Bool → List ℕ → Type 0) → Printer C → ℕ → List Item → Bool → List ℕ → Type 0
HoldsAt keep output represents p place met all taken = (place ≡ 0) × Represents keep output represents (printer_state p) (taken_of met) all taken
