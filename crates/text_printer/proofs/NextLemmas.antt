-- How what comes next changes a printer, step by step.
use Rattle.std.proofs.Common.{◌≡◌, ℕ, ◌<◌, ◌+◌, ◌||◌, Bool, false, true, not, cond, List, [], ◌∷◌, ◌++◌, length, map, take, get_or, Option, refl, sym, ap, subst, ◌∙◌, append_assoc}
use Rattle.std.proofs.lemmas.List.{append-nil, map-append, take_more}
use Rattle.std.proofs.lemmas.List.Elements.{filter-append}
use Rattle.std.specs.List.{filter}
use Rattle.log_model.specs.Prefix.{IsPrefix}
use Rattle.vsl_record.specs.Unit.{LogUnit}
use Rattle.vsl_record.specs.declared.record_type.Record.{Record}
use Rattle.txn_rows.specs.declared.group.Group.{Group}
use Rattle.txn_rows.specs.declared.group.Grouping.{Grouping}
use Rattle.txn_rows.specs.declared.group.Grouping.TheVariants.{Raw}
use Rattle.txn_rows.specs.Grouping.{Taken, TakenUnit, flush, unit_step, no_state, nothing_left, passes_over, raw_group, reported, steps, taken_step, taken_steps}
use Rattle.txn_rows.specs.Grouping as taken_items
use Rattle.txn_rows.specs.TableState.{TableState}
use Rattle.txn_rows.proofs.GroupingLemmas.{steps_append}
use Rattle.txn_rows.proofs.RawLemmas.{raw_groups_left}
use Rattle.query_parser.specs.declared.query.Query.{Query}
use Rattle.query_eval.specs.Meaning.{is_held}
use Rattle.query_eval.specs.declared.chosen.Chosen.{Chosen}
use Rattle.txn_groups.specs.Groups.{GroupsState, GroupsStepped, chosen}
use Rattle.vsl_dispatch.specs.Groups.{raw_groups, kept, is_filled}
use Rattle.vsl_dispatch.specs.Entries.{Finished, Handed, IsSame, OfferedTo, Stands, TextTaken}
use Rattle.vsl_dispatch.specs.declared.entry.Entry.{Entry}
use Rattle.vsl_dispatch.proofs.StandsLemmas.{ended_finished, stands_handed, stands_offered, stands_text}
use Rattle.text_printer.specs.declared.next.Next.{Next}
use Rattle.text_printer.specs.declared.next.Next.TheVariants.{Unit, Missed, End}
use Rattle.text_printer.specs.Held.{held_groups}
use Rattle.text_printer.specs.Printer.{Plan, PrinterState, Represents, asked_groups, due, has_all, plan_of}
use Rattle.text_printer.specs.inside.Next.{Completed, Gave, first_held, first_holds, is_end, item_of, taken_with}
use Rattle.text_printer.proofs.DueLemmas.{tested_more, tested_end}

-- a query that holds always holds for each group
pub always_holds : (query : Query) → query.always ≡ true → (groups : List Group) → held_groups query groups ≡ groups
always_holds query always [] = refl
always_holds query always (group ∷ groups) = rw always (ap (λ (gs : List Group). group ∷ gs) (always_holds query always groups))

-- ---- groups for which the first query holds

first_more : (holds : Bool) (one : Chosen) (all : List Chosen) (groups : List Group) → map (λ (c : Chosen). c.group) all ≡ groups
    → map (λ (c : Chosen). c.group) (cond holds (one ∷ all) all) ≡ cond holds (one.group ∷ groups) groups
first_more true one all groups is = ap (λ (gs : List Group). one.group ∷ gs) is
first_more false one all groups is = is

-- where one query is asked, they are those for which it holds
first_is : (query : Query) (groups : List Group) → first_held (map (chosen (query ∷ [])) groups) ≡ held_groups query groups
first_is query [] = refl
first_is query (group ∷ groups) = first_more (is_held query group) (chosen (query ∷ []) group) (filter first_holds (map (chosen (query ∷ [])) groups)) (held_groups query groups) (first_is query groups)

first_append : (xs ys : List Chosen) → first_held (xs ++ ys) ≡ first_held xs ++ first_held ys
first_append xs ys = rw (filter-append, map-append) refl

module _ {C : Type 0} (keep : C → Option ℕ) (output : C → List Group → Bool → List ℕ) (represents : C → List Group → Bool → List ℕ → Type 0) where
  -- ---- groups that are given

  -- none was given
  pub gave_none : (entry : Entry C) → Gave keep output represents [] false entry entry
  gave_none entry = record { each = λ before taken stands. subst (λ (all : List Group). Stands keep output represents false entry all taken) (sym (append-nil before)) stands }

  -- one was given
  pub gave_handed : (group : Group) (old new : Entry C) → IsSame keep output old.consumer new.consumer → Handed keep output represents group true old new → Gave keep output represents (group ∷ []) false old new
  gave_handed group old new same handed = record { each = λ before taken stands. stands_handed keep output represents group true old new before taken same handed stands }

  -- the records of a unit were offered
  pub gave_offered : (u : LogUnit) (took : Bool) (old new : Entry C) → IsSame keep output old.consumer new.consumer → OfferedTo keep output represents u took old new → Gave keep output represents (cond took (raw_groups u) []) false old new
  gave_offered u true old new same offered = record { each = λ before taken stands. stands_offered keep output represents u true old new before taken same offered stands }
  gave_offered u false old new same offered = record {
    each = λ before taken stands. subst (λ (all : List Group). Stands keep output represents false new all taken) (sym (append-nil before)) (stands_offered keep output represents u false old new before taken same offered stands);
  }

  -- it was ended
  pub gave_end : (old new : Entry C) → IsSame keep output old.consumer new.consumer → Finished keep output represents old new → Gave keep output represents [] true old new
  gave_end old new same finished = record {
    each = λ before taken stands. subst (λ (all : List Group). Stands keep output represents true new all taken) (sym (append-nil before)) (ended_finished keep output represents old new before taken same finished stands);
  }

  -- groups were given, and more
  gave_then : (gs hs : List Group) (ended : Bool) (old middle new : Entry C) → Gave keep output represents gs false old middle → Gave keep output represents hs ended middle new → Gave keep output represents (gs ++ hs) ended old new
  gave_then gs hs ended old middle new first next = record {
    each = λ before taken stands. subst (λ (all : List Group). Stands keep output represents ended new all taken) (append_assoc before gs hs)
        (next.each (before ++ gs) taken (first.each before taken stands));
  }

  -- a group more was given, where the first query holds for it
  pub gave_next : (all : List Chosen) (i : ℕ) (one : Chosen) (old middle new : Entry C) → i < length all → one ≡ get_or all i one → Gave keep output represents (first_held (take i all)) false old middle
      → Gave keep output represents (first_held (one ∷ [])) false middle new → Gave keep output represents (first_held (take (i + 1) all)) false old new
  gave_next all i one old middle new within is first next =
      let more : first_held (take (i + 1) all) ≡ first_held (take i all) ++ first_held (one ∷ []) =
      rw (take_more all i one within, sym is) (first_append (take i all) (one ∷ [])) in
      rw more (gave_then (first_held (take i all)) (first_held (one ∷ [])) false old middle new first next)

  -- a record by itself more was given, where the query holds for it
  pub gave_record : (query : Query) (vxid : ℕ) (records : List Record) (i : ℕ) (rec : Record) (old middle new : Entry C) → i < length records → rec ≡ get_or records i rec
      → Gave keep output represents (held_groups query (map (raw_group vxid) (take i records))) false old middle → Gave keep output represents (held_groups query (raw_group vxid rec ∷ [])) false middle new
      → Gave keep output represents (held_groups query (map (raw_group vxid) (take (i + 1) records))) false old new
  gave_record query vxid records i rec old middle new within is first next =
      let more : held_groups query (map (raw_group vxid) (take (i + 1) records)) ≡ held_groups query (map (raw_group vxid) (take i records)) ++ held_groups query (raw_group vxid rec ∷ []) =
      ap (λ (rs : List Record). held_groups query (map (raw_group vxid) rs)) (take_more records i rec within ∙ ap (λ (r : Record). take i records ++ r ∷ []) (sym is))
      ∙ ap (held_groups query) (map-append (raw_group vxid) (take i records) (rec ∷ []))
      ∙ filter-append (is_held query) (map (raw_group vxid) (take i records)) (raw_group vxid rec ∷ []) in
      subst (λ (gs : List Group). Gave keep output represents gs false old new) (sym more)
      (gave_then (held_groups query (map (raw_group vxid) (take i records))) (held_groups query (raw_group vxid rec ∷ [])) false old middle new first next)

  -- groups were given, and it was ended
  pub gave_finished : (gs : List Group) (old middle new : Entry C) → Gave keep output represents gs false old middle → IsSame keep output middle.consumer new.consumer → Finished keep output represents middle new → Gave keep output represents gs true old new
  gave_finished gs old middle new first same finished = subst (λ (all : List Group). Gave keep output represents all true old new) (append-nil gs) (gave_then gs [] true old middle new first (gave_end middle new same finished))

  -- ---- what comes next, in a table

  -- the table took it, and the groups that it completed are left
  pub completed_all : (query : Query) (next : Next) (old new : GroupsState) (left : List Chosen) (entry_old entry_new : Entry C) → old.queries ≡ query ∷ [] → GroupsStepped (taken_step old.table.options (item_of next) old.table.state) old new [] left
      → Gave keep output represents [] false entry_old entry_new → Completed keep output represents query next old.table new.table entry_old entry_new left
  completed_all query next old new left entry_old entry_new only stepped gave =
      let now = stepped.table.state in
      let groups = reported old.table.options.grouping (taken_step old.table.options (item_of next) old.table.state).groups in record {
        options = ap (λ (t : TableState). t.options) now;
        state = ap (λ (t : TableState). t.state) now;
        sound = λ sound. ap (λ (t : TableState). t.failed) now;
        given = [];
        groups = sym (ap first_held stepped.table.groups ∙ ap (λ (queries : List Query). first_held (map (chosen queries) groups)) only ∙ first_is query groups);
        gave = gave;
      }

  -- the same where it completes all that is pending
  pub completed_flush : (query : Query) (next : Next) (old new : GroupsState) (left : List Chosen) (entry : Entry C) → item_of next ≡ taken_items.Missed → old.queries ≡ query ∷ [] → GroupsStepped (flush old.table.state) old new [] left
      → Completed keep output represents query next old.table new.table entry entry left
  completed_flush query next old new left entry is only stepped = completed_all query next old new left entry entry only (rw is stepped) (gave_none entry)

  -- the records of a unit for which the query holds were given, each as a group by itself
  pub completed_raw : (query : Query) (next : Next) (u : LogUnit) (table : TableState) (old new : Entry C) → item_of next ≡ TakenUnit u → table.options.grouping ≡ Raw
      → Gave keep output represents (held_groups query (raw_groups u)) false old new → Completed keep output represents query next table table old new []
  completed_raw query next u table old new told raw gave =
      let run = steps table.options u.vxid u.records table.state in
      let is : unit_step table.options u table.state ≡ run = ap (λ (g : Grouping). cond (passes_over g u.vxid) (nothing_left table.state) run) raw in
      let left = raw_groups_left table.options raw u.vxid u.records table.state in
      let groups : reported table.options.grouping run.groups ≡ raw_groups u = rw (sym raw) at left.1 in record {
        options = refl;
        state = rw (told, is) (sym left.0);
        sound = λ sound. sound;
        given = held_groups query (raw_groups u);
        groups = rw (told, is, append-nil) (ap (held_groups query) groups);
        gave = gave;
      }

  -- ---- a printer

  -- what was taken with it is one item more, or the end
  with_item : (taken : List Taken) (next : Next) → is_end next ≡ false → taken_with taken next ≡ taken ++ item_of next ∷ []
  with_item taken (Unit u) open_ = refl
  with_item taken Missed open_ = refl
  with_item taken End open_ = absurd cc

  -- the groups that are asked for of it
  asked_with : (plan : Plan) (taken : List Taken) (next : Next) → asked_groups plan (taken_with taken next) (is_end next) ≡ asked_groups plan (taken ++ item_of next ∷ []) false
  asked_with plan taken (Unit u) = refl
  asked_with plan taken Missed = refl
  asked_with plan taken End = tested_end (is_held plan.query) plan.options taken

  -- the plan stays, where the options, the query and what the consumer names do
  pub same_plan : (p q : PrinterState C) (middle : Entry C) → q.table.options ≡ p.table.options → q.query ≡ p.query → IsSame keep output p.entry.consumer middle.consumer → IsSame keep output middle.consumer q.entry.consumer → plan_of keep output q ≡ plan_of keep output p
  same_plan p q middle options query first next = λ i. record { options = options i; query = query i; keep = (next.keeps ∙ first.keeps) i; writes = (next.writes ∙ first.writes) i }

  -- what comes next was taken, and its groups were given
  pub advanced : (next : Next) (taken : List Taken) (bytes : List ℕ) (p q : PrinterState C) (middle : Entry C) (left : List Chosen) → plan_of keep output q ≡ plan_of keep output p → Represents keep output represents p taken false bytes
      → Completed keep output represents p.query next p.table q.table p.entry middle left → Gave keep output represents (first_held left) (is_end next) middle q.entry
      → Represents keep output represents q (taken_with taken next) (is_end next) bytes
  advanced next taken bytes p q middle left same old step gave =
      let plan = plan_of keep output p in
      let all = asked_groups plan (taken ++ item_of next ∷ []) false in
      let whole : asked_groups plan taken false ++ (step.given ++ first_held left) ≡ all = rw (sym step.groups, old.state refl) (sym (tested_more (is_held plan.query) plan.options taken (item_of next))) in
      let stands = (gave_then step.given (first_held left) (is_end next) p.entry middle q.entry step.gave gave).each (asked_groups plan taken false) bytes old.stands in record {
        grows = subst (λ (x : Plan). (list more : List Taken) (ended : Bool) → IsPrefix (due x list false) (due x (list ++ more) ended)) (sym same) old.grows;
        state = λ open_. step.state ∙ rw (old.state refl, step.options, with_item taken next open_) (sym (steps_append p.table.options taken (item_of next ∷ []) no_state).0);
        sound = λ open_. step.sound (old.sound refl);
        stands = subst (λ (x : List Group). Stands keep output represents (is_end next) q.entry x bytes) (whole ∙ sym (asked_with plan taken next) ∙ ap (λ (x : Plan). asked_groups x (taken_with taken next) (is_end next)) (sym same)) stands;
      }

  -- what was taken of its text is what is due
  due_out : (p : PrinterState C) (taken : List Taken) (ended : Bool) → output p.entry.consumer (kept (keep p.entry.consumer) (asked_groups (plan_of keep output p) taken ended)) (ended || is_filled (keep p.entry.consumer) (asked_groups (plan_of keep output p) taken ended))
      ≡ due (plan_of keep output p) taken ended
  due_out p taken false = refl
  due_out p taken true = refl

  -- a text was taken of its consumer
  pub text_out : (p q : PrinterState C) (text : List ℕ) (taken : List Taken) (ended : Bool) (bytes : List ℕ) → q.table ≡ p.table → plan_of keep output q ≡ plan_of keep output p → TextTaken keep output represents text p.entry q.entry → Represents keep output represents p taken ended bytes
      → Represents keep output represents q taken ended (bytes ++ text) × (bytes ++ text ≡ due (plan_of keep output p) taken ended)
  text_out p q text taken ended bytes table same took old =
      let now = stands_text keep output represents text ended p.entry q.entry (asked_groups (plan_of keep output p) taken ended) bytes took old.stands in (
        record {
          grows = subst (λ (x : Plan). (list more : List Taken) (all : Bool) → IsPrefix (due x list false) (due x (list ++ more) all)) (sym same) old.grows;
          state = λ open_. rw table (old.state open_);
          sound = λ open_. rw table (old.sound open_);
          stands = subst (λ (x : Plan). Stands keep output represents ended q.entry (asked_groups x taken ended) (bytes ++ text)) (sym same) now.0;
        },
        now.1 ∙ due_out p taken ended,
      )

  -- whether it has as many groups as are kept
  pub filled_is : (p : PrinterState C) (taken : List Taken) (bytes : List ℕ) (b : Bool) → b ≡ p.entry.live → Represents keep output represents p taken false bytes → not b ≡ has_all (plan_of keep output p) taken
  filled_is p taken bytes b is old = ap not is ∙ sym old.stands.live
