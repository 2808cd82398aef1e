-- Passes that are joined one by one, from the last.
use Rattle.std.proofs.Common.{◌≡◌, ℕ, ◌<◌, ◌≤◌, List, [], ◌∷◌, ◌++◌, map, max, length, le_trans, sym, refl, ap, ◌∙◌, subst, arith, append_assoc}
use Rattle.std.specs.Prelude.{sum_by}
use Rattle.std.proofs.Math.Nat.{le-max_left, le-max_right}
use Rattle.std.specs.List.{AllByRecursion}
use Rattle.std.proofs.lemmas.List.{append-nil, length-map}
use Rattle.std.proofs.lemmas.List.Sums.{sum_by-cons}
use Rattle.atomic_table.specs.Seated.{TableId}
use Rattle.atomic_table.specs.Table.{Me, Joins, Allows, step}
use mathlib.Core.Option.{none}
use Rattle.log_model.specs.Interleaving.{IsInterleaving}
use Rattle.vsl_record.specs.Unit.{LogUnit, Log}
use Rattle.vsl_record.specs.Words.{unit_words}
use Rattle.ring_layout.specs.declared.history.HistoryItem.{HistoryItem}
use Rattle.ring_layout.specs.Places.{tail}
use Rattle.log_ring.specs.declared.rule.RingKey.{RingKey}
use Rattle.log_ring.specs.declared.rule.WriterView.{WriterView}
use Rattle.log_ring.specs.declared.rule.ReaderView.{ReaderView}
use Rattle.log_ring.specs.declared.rule.View.{View}
use Rattle.log_ring.specs.Ring.{RingSet}
use Rattle.log_ring.specs.Writers.{WriterState, units_put, busy_of, AreWritersOf, entries_of}
use Rattle.log_ring.specs.Readers.{ReaderState, history_taken, AreReadersOf, history_of}
use Rattle.log_ring.specs.Closed.{IsDoneWith, HasReached, entries_from, IsDone}
use Rattle.log_ring.specs.inside.Rule.{HoldsOneLog}
use Rattle.log_ring.specs.inside.Writing.{first_entries, both_views, no_view}
use Rattle.log_ring.specs.inside.Reading.{reader_of}
use Rattle.log_ring.specs.inside.Closing.{units_of, entries_in, Settles}
use Rattle.log_ring.specs.inside.Steps.{set_of, first_number, writer_of, IsLeftSeat, writer_in, reader_in, IsJoined, IsJoinedWith, IsReaderSeat}
use Rattle.log_ring.proofs.PassLemmas.{all_before}
use Rattle.log_ring.proofs.SeatingLemmas.{joins}
use Rattle.log_ring.proofs.CloseLemmas.{settles}

found_upto : (n m : ℕ) (ws : List WriterState) → n ≤ m → AllByRecursion (λ (w : WriterState). w.found ≤ n) ws → AllByRecursion (λ (w : WriterState). w.found ≤ m) ws
found_upto n m [] up all = tt
found_upto n m (w ∷ ws) up all = (le_trans all.0 up, found_upto n m ws up all.1)

-- the last of these writers is of the ring
pub last_of : (ring : RingSet) (whole rest : List WriterState) (last : WriterState) → whole ≡ rest ++ last ∷ [] → AreWritersOf ring whole → last.ring ≡ ring
last_of ring whole rest last split ours = (all_before (λ (w : WriterState). w.ring ≡ ring) rest last (subst (AreWritersOf ring) split ours)).1

-- the writer of a seat whose writer left
left_share : (table : TableId) (me : Me ℕ View) (w : WriterState) → IsLeftSeat me → writer_of table me.0 ≡ w → me.0.writers ≡ writer_in w ∷ []
left_share table me w finished is =
    let own : writer_in (writer_of table me.0) ≡ finished.writer = ap (λ (l : List WriterView). record { number = first_number l; entries = first_entries l }) finished.one in
    finished.one ∙ ap (λ (s : WriterView). s ∷ []) (sym own ∙ ap writer_in is)

-- the last one is the first that is joined
pub joined_first : (ring : RingSet) (whole rest : List WriterState) (last : WriterState) (table : TableId) (me : Me ℕ View) → whole ≡ rest ++ last ∷ [] → AreWritersOf ring whole → IsLeftSeat me → writer_of table me.0 ≡ last
    → IsJoined ring whole rest [] table me
joined_first ring whole rest last table me split ours finished is =
    let parts = all_before (λ (w : WriterState). w.ring ≡ ring) rest last (subst (AreWritersOf ring) split ours) in record {
      ours = ap (λ (w : WriterState). w.ring.table) is ∙ ap (λ (r : RingSet). r.table) parts.1;
      idle = finished.idle;
      progress = finished.progress;
      taken = last ∷ [];
      parts = sym split;
      some = omega arith;
      seg = ap (λ (w : WriterState). w.ring.seg) is ∙ ap (λ (r : RingSet). r.seg) parts.1;
      writers = left_share table me last finished is;
      busy = ap busy_of is ∙ (let s = sum_by-cons busy_of last [] in omega arith);
      found = (let e = ap (λ (w : WriterState). w.found) is in omega arith, tt);
      readers_are = finished.no_reader;
      are_of = parts.0;
    }

-- one more is joined
pub joined_more : (ring : RingSet) (whole before rest : List WriterState) (last : WriterState) (table table' new_table : TableId) (me all new : Me ℕ View) → IsJoined ring whole before [] table' all → before ≡ rest ++ last ∷ [] → IsLeftSeat me → writer_of table me.0 ≡ last
    → new_table ≡ table → new ≡ (both_views me.0 all.0, me.1) → IsJoined ring whole rest [] new_table new
joined_more ring whole before rest last table table' new_table me all new joined split finished is same made =
    let parts = all_before (λ (w : WriterState). w.ring ≡ ring) rest last (subst (AreWritersOf ring) split joined.are_of) in record {
      ours = same ∙ ap (λ (w : WriterState). w.ring.table) is ∙ ap (λ (r : RingSet). r.table) parts.1;
      idle = ap (λ (m : Me ℕ View). m.1) made ∙ finished.idle;
      progress = ap (λ (m : Me ℕ View). m.0.progress) made ∙ finished.progress;
      taken = last ∷ joined.taken;
      parts = sym (append_assoc rest (last ∷ []) joined.taken) ∙ (ap (λ (l : List WriterState). l ++ joined.taken) (sym split) ∙ joined.parts);
      some = omega arith;
      seg = ap (λ (m : Me ℕ View). m.0.ring.seg) made ∙ (ap (λ (w : WriterState). w.ring.seg) is ∙ ap (λ (r : RingSet). r.seg) parts.1);
      writers = ap (λ (m : Me ℕ View). m.0.writers) made ∙ (λ i. left_share table me last finished is i ++ joined.writers i);
      busy = ap (λ (m : Me ℕ View). m.0.busy) made ∙ (let a = ap busy_of is in let b = joined.busy in let s = sum_by-cons busy_of last joined.taken in omega arith);
      found =
          let most : new.0.found ≡ max me.0.found all.0.found = ap (λ (m : Me ℕ View). m.0.found) made in
          let own : me.0.found ≡ last.found = ap (λ (w : WriterState). w.found) is in
          let a = le-max_left me.0.found all.0.found in
          let b = le-max_right me.0.found all.0.found in (omega arith, found_upto all.0.found new.0.found joined.taken (omega arith) joined.found);
      readers_are = ap (λ (m : Me ℕ View). m.0.readers) made ∙ (λ i. finished.no_reader i ++ joined.readers_are i);
      are_of = parts.0;
    }

pub join_allowed : (key : RingKey) (ring : RingSet) (whole rest : List WriterState) (table : TableId) (id other : ℕ) (me all : Me ℕ View) → IsJoined ring whole rest [] table all → IsLeftSeat me → Joins (HoldsOneLog unit_words key) id me.0 other all.0 (both_views me.0 all.0) no_view
join_allowed key ring whole rest table id other me all joined finished =
    let count : length me.0.writers ≡ 1 = ap (λ (l : List WriterView). length l) finished.one in
    joins unit_words key id me.0 other all.0 (omega arith) joined.progress

pub last_reader : (ring : RingSet) (whole rest : List ReaderState) (last : ReaderState) → whole ≡ rest ++ last ∷ [] → AreReadersOf ring whole → last.ring ≡ ring
last_reader ring whole rest last split ours = (all_before (λ (r : ReaderState). r.ring ≡ ring) rest last (subst (AreReadersOf ring) split ours)).1

-- no reader is joined yet
pub none_joined : (ring : RingSet) (writers : List WriterState) (readers : List ReaderState) (table : TableId) (me : Me ℕ View) → AreReadersOf ring readers → IsJoined ring writers [] [] table me → IsJoinedWith ring writers readers readers table me
none_joined ring writers readers table me ours joined = record { taken = []; parts = append-nil readers; joined = joined; are_of = ours }

-- one reader more is joined
pub reader_joined : (ring : RingSet) (writers : List WriterState) (whole before rest : List ReaderState) (last : ReaderState) (table table' new_table : TableId) (me all new : Me ℕ View) → IsJoinedWith ring writers whole before table' all → before ≡ rest ++ last ∷ [] → IsReaderSeat me → reader_of me.0 ≡ last.reader → set_of table me.0.ring ≡ last.ring
    → new_table ≡ table → new ≡ (both_views me.0 all.0, me.1) → IsJoinedWith ring writers whole rest new_table new
reader_joined ring writers whole before rest last table table' new_table me all new so_far split seat part is same made =
    let parts = all_before (λ (r : ReaderState). r.ring ≡ ring) rest last (subst (AreReadersOf ring) split so_far.are_of) in
    let joined = so_far.joined in record {
      taken = last ∷ so_far.taken;
      parts = sym (append_assoc rest (last ∷ []) so_far.taken) ∙ (ap (λ (l : List ReaderState). l ++ so_far.taken) (sym split) ∙ so_far.parts);
      joined = record {
        ours = same ∙ (ap (λ (r : RingSet). r.table) is ∙ ap (λ (r : RingSet). r.table) parts.1);
        idle = ap (λ (m : Me ℕ View). m.1) made ∙ seat.idle;
        progress = ap (λ (m : Me ℕ View). m.0.progress) made ∙ seat.progress;
        taken = joined.taken;
        parts = joined.parts;
        some = joined.some;
        seg = ap (λ (m : Me ℕ View). m.0.ring.seg) made ∙ (ap (λ (r : RingSet). r.seg) is ∙ ap (λ (r : RingSet). r.seg) parts.1);
        writers = ap (λ (m : Me ℕ View). m.0.writers) made ∙ (λ i. seat.no_writer i ++ joined.writers i);
        busy = ap (λ (m : Me ℕ View). m.0.busy) made ∙ (let a = seat.busy in let b = joined.busy in omega arith);
        found =
            let most : new.0.found ≡ max me.0.found all.0.found = ap (λ (m : Me ℕ View). m.0.found) made in
            let b = le-max_right me.0.found all.0.found in found_upto all.0.found new.0.found joined.taken (omega arith) joined.found;
        readers_are = ap (λ (m : Me ℕ View). m.0.readers) made ∙ (λ i. (seat.one ∙ ap (λ (r : ReaderView). r ∷ []) part) i ++ joined.readers_are i);
        are_of = tt;
      };
      are_of = parts.0;
    }

pub reader_allowed : (key : RingKey) (ring : RingSet) (writers : List WriterState) (whole rest : List ReaderState) (table : TableId) (id other : ℕ) (me all : Me ℕ View) → IsJoinedWith ring writers whole rest table all → IsReaderSeat me → Joins (HoldsOneLog unit_words key) id me.0 other all.0 (both_views me.0 all.0) no_view
reader_allowed key ring writers whole rest table id other me all so_far seat =
    let count : length me.0.readers ≡ 1 = ap (λ (l : List ReaderView). length l) seat.one in
    joins unit_words key id me.0 other all.0 (omega arith) so_far.joined.progress

-- the units of all writers
units_map : (ws : List WriterState) → map units_of (map writer_in ws) ≡ map units_put ws
units_map [] = refl
units_map (w ∷ ws) = ap (λ (l : List Log). units_put w ∷ l) (units_map ws)

-- the seat that stands for all writers gets the log
pub settle_allowed : (key : RingKey) (ring : RingSet) (whole : List WriterState) (readers : List ReaderView) (table : TableId) (slots id : ℕ) (me : Me ℕ View) → IsJoined ring whole [] readers table me → length whole ≡ key.writers → 0 < key.writers → Allows (HoldsOneLog unit_words key) slots id me 0 (λ x. x) (Settles unit_words (step slots 0 0 0 none) me)
settle_allowed key ring whole readers table slots id me joined all some_one =
    let count : length me.0.writers ≡ length joined.taken = ap (λ (l : List WriterView). length l) joined.writers ∙ length-map joined.taken writer_in in
    let same : length joined.taken ≡ length whole = ap (λ (l : List WriterState). length l) joined.parts in
    settles unit_words key slots id me joined.progress (omega arith) some_one

pub settled_log : (ring : RingSet) (whole : List WriterState) (readers : List ReaderView) (table : TableId) (me : Me ℕ View) (found : ℕ) (new : Me ℕ View) → IsJoined ring whole [] readers table me → Settles unit_words (step 0 0 0 0 none) me found new → IsInterleaving new.0.log (map units_put whole)
settled_log ring whole readers table me found new joined told =
    let log_is : told.0 ≡ new.0.log = sym (ap (λ (m : Me ℕ View). m.0.log) told.1) in
    let lists : map units_of me.0.writers ≡ map units_put whole = ap (map units_of) joined.writers ∙ (units_map joined.taken ∙ ap (map units_put) joined.parts) in
    subst (λ (z : Log × List Log). IsInterleaving z.0 z.1) (λ i. (log_is i, lists i)) told.2.writers

entries_map : (ws : List WriterState) → map entries_in (map writer_in ws) ≡ map entries_of ws
entries_map [] = refl
entries_map (w ∷ ws) = ap (λ (l : List (List (ℕ × LogUnit))). entries_of w ∷ l) (entries_map ws)

pub settled_entries : (ring : RingSet) (whole : List WriterState) (readers : List ReaderView) (table : TableId) (me : Me ℕ View) (found : ℕ) (new : Me ℕ View) → IsJoined ring whole [] readers table me → Settles unit_words (step 0 0 0 0 none) me found new
    → IsInterleaving (entries_from unit_words ring.seg 0 new.0.log) (map entries_of whole)
settled_entries ring whole readers table me found new joined told =
    let log_is : told.0 ≡ new.0.log = sym (ap (λ (m : Me ℕ View). m.0.log) told.1) in
    let lists : map entries_in me.0.writers ≡ map entries_of whole = ap (map entries_in) joined.writers ∙ (entries_map joined.taken ∙ ap (map entries_of) joined.parts) in
    subst (λ (z : (ℕ × Log) × List (List (ℕ × LogUnit))). IsInterleaving (entries_from unit_words z.0.0 0 z.0.1) z.1) (λ i. ((joined.seg i, log_is i), lists i)) told.2.entries

pub settled_busy : (ring : RingSet) (whole : List WriterState) (readers : List ReaderView) (table : TableId) (me : Me ℕ View) (found : ℕ) (new : Me ℕ View) → IsJoined ring whole [] readers table me → Settles unit_words (step 0 0 0 0 none) me found new → new.0.busy ≡ sum_by busy_of whole
settled_busy ring whole readers table me found new joined told = ap (λ (m : Me ℕ View). m.0.busy) told.1 ∙ (joined.busy ∙ ap (sum_by busy_of) joined.parts)

done_with : (seg : ℕ) (log : Log) (rs : List ReaderState) → AllByRecursion (IsDone unit_words seg log) (map reader_in rs) → AllByRecursion (IsDoneWith seg log) rs
done_with seg log [] all = tt
done_with seg log (r ∷ rs) all = (all.0, done_with seg log rs all.1)

histories_map : (rs : List ReaderState) → map history_of (map reader_in rs) ≡ map history_taken rs
histories_map [] = refl
histories_map (r ∷ rs) = ap (λ (l : List (List (HistoryItem LogUnit))). history_taken r ∷ l) (histories_map rs)

pub settled_histories : (ring : RingSet) (writers : List WriterState) (readers : List ReaderState) (table : TableId) (me : Me ℕ View) (found : ℕ) (new : Me ℕ View) → IsJoinedWith ring writers readers [] table me → Settles unit_words (step 0 0 0 0 none) me found new → map history_of new.0.readers ≡ map history_taken readers
settled_histories ring writers readers table me found new so_far told =
    ap (λ (m : Me ℕ View). map history_of m.0.readers) told.1 ∙ (ap (map history_of) so_far.joined.readers_are ∙ (histories_map so_far.taken ∙ ap (map history_taken) so_far.parts))

pub settled_found : (ring : RingSet) (whole : List WriterState) (readers : List ReaderView) (table : TableId) (me : Me ℕ View) (found : ℕ) (new : Me ℕ View) → IsJoined ring whole [] readers table me → Settles unit_words (step 0 0 0 0 none) me found new → AllByRecursion (HasReached ring.seg new.0.log) whole
settled_found ring whole readers table me found new joined told =
    let log_is : told.0 ≡ new.0.log = sym (ap (λ (m : Me ℕ View). m.0.log) told.1) in
    let most : me.0.found ≤ tail unit_words ring.seg new.0.log = subst (λ (z : ℕ × Log). me.0.found ≤ tail unit_words z.0 z.1) (λ i. (joined.seg i, log_is i)) told.2.found in
    subst (AllByRecursion (HasReached ring.seg new.0.log)) joined.parts (found_upto me.0.found (tail unit_words ring.seg new.0.log) joined.taken most joined.found)

pub settled_readers : (ring : RingSet) (writers : List WriterState) (readers : List ReaderState) (table : TableId) (me : Me ℕ View) (found : ℕ) (new : Me ℕ View) → me.0.ring.seg ≡ ring.seg → IsJoinedWith ring writers readers [] table me → Settles unit_words (step 0 0 0 0 none) me found new → AllByRecursion (IsDoneWith ring.seg new.0.log) readers
settled_readers ring writers readers table me found new seg so_far told =
    let log_is : told.0 ≡ new.0.log = sym (ap (λ (m : Me ℕ View). m.0.log) told.1) in
    let all = subst (AllByRecursion (IsDone unit_words me.0.ring.seg told.0)) so_far.joined.readers_are told.2.readers in
    subst (λ (z : ℕ × (Log × List ReaderState)). AllByRecursion (IsDoneWith z.0 z.1.0) z.1.1) (λ i. (seg i, (log_is i, so_far.parts i))) (done_with me.0.ring.seg told.0 so_far.taken all)
