-- A log that is regular and calm: so the law of the partition speaks of some.
use Rattle.std.proofs.Common.{◌≡◌, ◌≤◌, ⊎_elim, ℕ, zero, suc, true, false, eqb, ◌||◌, Option, Some, None, List, [], ◌∷◌, ◌++◌, length, refl, ap, sym, ◌∙◌, subst, arith}
use Rattle.std.specs.Prelude.{◌≢◌}
use Rattle.std.specs.Prelude.{codes}
use Rattle.std.specs.List.{flat_map}
use Rattle.std.proofs.lemmas.Bool.{eqb-true, or_cases}
use Rattle.std.proofs.Math.Bool.{or-false}
use Rattle.std.proofs.lemmas.List.{length-append}
use Rattle.std.proofs.lemmas.List.Elements.{All-nil, All-cons}
use Rattle.std.proofs.lemmas.List.Sums.{count_by-le-length}
use Rattle.vsl_tags.specs.Tags.{begin_tag, end_tag}
use Rattle.vsl_record.specs.declared.mark.Mark.{Mark}
use Rattle.vsl_record.specs.declared.mark.Mark.TheVariants.{Client, Backend}
use Rattle.vsl_record.specs.declared.record_type.Record.{Record}
use Rattle.vsl_record.specs.Unit.{Log}
use Rattle.txn_rows.specs.declared.group.Grouping.TheVariants.{Vxid, Request}
use Rattle.txn_rows.specs.declared.group.Grouping.{Grouping}
use Rattle.txn_rows.specs.declared.group.GroupOptions.{GroupOptions}
use Rattle.txn_rows.specs.Grouping.{all_taken, groups_of, first_known, is_behind}
use Rattle.txn_rows.specs.Ends.{IsEnded}
use Rattle.txn_partition.specs.LogFacts.{Entry, Link, entries_of, records_of, has_end, links_of, is_in, names_in, named, parent_of, log_time, first_time, time_named}
use Rattle.txn_partition.specs.Partition.{line_up, ends_later, IsBegun, Regular, Calm, partition}
use Rattle.txn_rows.proofs.LineLemmas.{by_cases}
use Rattle.txn_partition.proofs.NamedLemmas.{grown}
use Rattle.txn_partition.proofs.LinkedLemmas.{line_none}
use Rattle.txn_partition.proofs.RegularLemmas.{named_append}
use Rattle.txn_partition.proofs.TimedLemmas.{first_append, none_told}

-- what holds of both VXIDs holds of each that is named
each_of_two : (P : ℕ → Type 0) → P 3 → P 2 → (v : ℕ) → is_in v (3 ∷ 2 ∷ []) ≡ true → P v
each_of_two P three two v here = ⊎_elim
    (λ (a : eqb 3 v ≡ true). subst P (eqb-true 3 v a) three)
    (λ (b : (eqb 2 v || false) ≡ true). subst P (eqb-true 2 v (sym (or-false (eqb 2 v)) ∙ b)) two)
    (or_cases (eqb 3 v) (eqb 2 v || false) here)

abbrev told : ℕ → List ℕ → Mark → Record
told tag payload mark = record { tag = tag; mark = mark; payload = payload }

abbrev options : Grouping → ℕ → ℕ → GroupOptions
options grouping limit timeout = record { grouping = grouping; limit = limit; timeout = timeout }

-- a request and its fetch, the fetch first
abbrev fetched : Log
fetched =
    record { vxid = 3; mark = Backend; records = told 42 (codes "bereq 2 fetch") Backend ∷ told 44 [] Backend ∷ [] } ∷
    record { vxid = 2; mark = Client; records = told 42 (codes "req 1 rxreq") Client ∷ told 43 (codes "bereq 3 fetch") Client ∷ told 44 [] Client ∷ [] } ∷ []

-- the partition of a log is its groups
fetched_parted : partition fetched Request ≡ groups_of (options Request 1000 120) (all_taken fetched) true
fetched_parted = refl

alone_parted : partition fetched Vxid ≡ groups_of (options Vxid 1000 120) (all_taken fetched) true
alone_parted = refl

-- its records
abbrev entries : List Entry
entries = entries_of fetched

abbrev fetch_begin : Record
fetch_begin = told 42 (codes "bereq 2 fetch") Backend

abbrev begin : Record
begin = told 42 (codes "req 1 rxreq") Client

abbrev link : Record
link = told 43 (codes "bereq 3 fetch") Client

begins : (v : ℕ) → is_in v (named Request entries) ≡ true → IsBegun (records_of v entries)
begins = each_of_two (λ v. IsBegun (records_of v entries))
    (record {
      first = fetch_begin;
      later = told 44 [] Backend ∷ [];
      whole = refl;
      begin = refl;
      well_formed = λ e. cc;
      only = All-cons (λ (r : Record). r.tag ≢ begin_tag) (told 44 [] Backend) [] (λ e. let f : 44 ≡ 42 = e in omega (arith, f)) (All-nil (λ (r : Record). r.tag ≢ begin_tag));
    })
    (record {
      first = begin;
      later = link ∷ told 44 [] Client ∷ [];
      whole = refl;
      begin = refl;
      well_formed = λ e. cc;
      only = All-cons (λ (r : Record). r.tag ≢ begin_tag) link (told 44 [] Client ∷ []) (λ e. let f : 43 ≡ 42 = e in omega (arith, f))
          (All-cons (λ (r : Record). r.tag ≢ begin_tag) (told 44 [] Client) [] (λ e. let f : 44 ≡ 42 = e in omega (arith, f)) (All-nil (λ (r : Record). r.tag ≢ begin_tag)));
    })

ends : (v : ℕ) → is_in v (named Request entries) ≡ true → IsEnded (records_of v entries)
ends = each_of_two (λ v. IsEnded (records_of v entries))
    (record {
      front = fetch_begin ∷ [];
      last = told 44 [] Backend;
      whole = refl;
      end = refl;
      before = All-cons (λ (r : Record). r.tag ≢ end_tag) fetch_begin [] (λ e. let f : 42 ≡ 44 = e in omega (arith, f)) (All-nil (λ (r : Record). r.tag ≢ end_tag));
    })
    (record {
      front = begin ∷ link ∷ [];
      last = told 44 [] Client;
      whole = refl;
      end = refl;
      before = All-cons (λ (r : Record). r.tag ≢ end_tag) begin (link ∷ []) (λ e. let f : 42 ≡ 44 = e in omega (arith, f))
          (All-cons (λ (r : Record). r.tag ≢ end_tag) link [] (λ e. let f : 43 ≡ 44 = e in omega (arith, f)) (All-nil (λ (r : Record). r.tag ≢ end_tag)));
    })

-- its only link: 3 is a child of 2
abbrev fetches : Link
fetches = record { child = 3; parent = 2 }

-- the child of a link, and the parent
abbrev Linked : ℕ → ℕ → Type 0
Linked child parent = (3 ≡ child) × (2 ≡ parent)

linked_two : (child parent : ℕ) → parent_of (fetches ∷ fetches ∷ []) child ≡ Some parent → Linked child parent
linked_two child parent e =
    by_cases (Linked child parent) (eqb 3 child)
    (λ s. let f : Some 2 ≡ Some parent = rw s at e in (eqb-true 3 child s, (cc)))
    (λ s. absurd (let f : None ≡ Some parent = rw s at e in cc))

below_none : (n : ℕ) → is_in 3 (line_up (fetches ∷ fetches ∷ []) n (Some 2)) ≡ false
below_none zero = refl
below_none (suc n) = ap (is_in 3) (line_none (fetches ∷ fetches ∷ []) n)

first_linked : (child parent : ℕ) (before rest : List Entry) → before ++ rest ≡ entries → (has_end child before || has_end parent before) ≡ true → parent_of (links_of Request before) 3 ≡ Some 2
first_linked child parent [] rest whole ended = absurd (cc)
first_linked child parent (e ∷ before) rest whole ended =
    let first : e ≡ record { vxid = 3; rec = fetch_begin } = (let f : e ∷ (before ++ rest) ≡ entries = whole in cc) in
    ap (λ (d : Entry). parent_of (links_of Request (d ∷ before)) 3) first

fetched_regular : Regular fetched Request
fetched_regular = record {
  begins = begins;
  ends = ends;
  one_parent =
      All-cons (λ (l : Link). parent_of (fetches ∷ fetches ∷ []) l.child ≡ Some l.parent) fetches (fetches ∷ []) refl
      (All-cons (λ (l : Link). parent_of (fetches ∷ fetches ∷ []) l.child ≡ Some l.parent) fetches [] refl (All-nil (λ (l : Link). parent_of (fetches ∷ fetches ∷ []) l.child ≡ Some l.parent)));
  no_return = λ child parent n e.
      let two = linked_two child parent e in
      subst (λ (c : ℕ). is_in c (line_up (fetches ∷ fetches ∷ []) n (Some parent)) ≡ false) two.0
      (subst (λ (p : ℕ). is_in 3 (line_up (fetches ∷ fetches ∷ []) n (Some p)) ≡ false) two.1 (below_none n));
  linked_before = λ before rest whole child parent e ended.
      let two = linked_two child parent e in
      subst (λ (c : ℕ). parent_of (links_of Request before) c ≡ Some parent) two.0
      (subst (λ (p : ℕ). parent_of (links_of Request before) 3 ≡ Some p) two.1 (first_linked child parent before rest whole ended));
}

-- two are named at most
few_named : (before rest : List Entry) → before ++ rest ≡ entries → length (named Request before) ≤ 2
few_named before rest whole =
    let more = grown (named Request before) (flat_map (names_in Request) rest) in
    omega (arith, ap length (sym more.1 ∙ sym (named_append Request before rest) ∙ ap (named Request) whole), length-append (named Request before) more.0)

unknown_behind : (seconds : ℕ) (time : Option ℕ) → is_behind seconds time None ≡ false
unknown_behind seconds None = refl
unknown_behind seconds (Some n) = refl

first_none : (a b : Option ℕ) → first_known a b ≡ None → a ≡ None
first_none None b e = refl
first_none (Some n) b e = absurd (cc)

fetched_calm : Calm fetched (options Request 1000 120)
fetched_calm = record {
  few = λ before rest whole. omega (arith, count_by-le-length (ends_later Request entries rest) (named Request before), few_named before rest whole);
  early = λ before rest whole v to_come.
      let none : log_time before ≡ None = none_told before (first_none (first_time before) (first_time rest) (sym (first_append before rest) ∙ ap first_time whole)) in
      ap (is_behind 120 (time_named Request entries v)) none ∙ unknown_behind 120 (time_named Request entries v);
}
