-- The first seat, while passes are made of it.
use Rattle.std.proofs.Common.{◌≡◌, ℕ, zero, suc, ◌+◌, ◌-◌, ◌<◌, ◌≤◌, List, [], ◌∷◌, ◌++◌, sym, ap, ◌∙◌, arith}
use Rattle.atomic_table.specs.Seated.{TableId}
use Rattle.atomic_table.specs.Table.{Me, Splits, opening}
use Rattle.vsl_record.specs.Words.{unit_words}
use Rattle.ring_layout.specs.Places.{IsSegment}
use Rattle.log_ring.specs.declared.rule.RingKey.{RingKey}
use Rattle.std.specs.Prelude.{slice_index_or}
use Rattle.log_ring.specs.declared.rule.ReaderView.{ReaderView}
use Rattle.log_ring.specs.declared.rule.View.{View}
use Rattle.std.proofs.lemmas.List.FromFn.{map-range_with_len_more}
use Rattle.log_ring.specs.Ring.{RingSet, most_writers}
use Rattle.log_ring.specs.Writers.{WriterState, new_writer, new_writers}
use Rattle.log_ring.specs.Readers.{ReaderState, new_reader, new_pass, new_passes}
use Rattle.log_ring.specs.inside.Rule.{HoldsOneLog}
use Rattle.log_ring.specs.inside.Writing.{first_view, new_writer_views, later_writers, without_writer, one_writer, first_entries, new_reader_views, later_readers, first_reader, without_reader, one_reader}
use Rattle.log_ring.specs.inside.Reading.{reader_of}
use Rattle.log_ring.specs.inside.Steps.{set_of, writer_of, first_number, AreFirstWords, IsFirstSeat, IsReaderSeat}
use Rattle.log_ring.proofs.SeatingLemmas.{opens, splits, splits_reader}

new_more : (n k : ℕ) → 0 < k → new_writer_views n k ≡ record { number = n; entries = [] } ∷ new_writer_views (n + 1) (k - 1)
new_more n zero some_one = absurd (omega arith)
new_more n (suc k) some_one = ap (λ (z : ℕ). record { number = n; entries = [] } ∷ new_writer_views (n + 1) z) (omega arith)

-- a table of these words is opened
pub table_opens : (key : RingKey) (ws : List ℕ) → IsSegment key.seg → key.writers ≤ most_writers → AreFirstWords key.seg ws → HoldsOneLog unit_words key (opening ws [] (first_view key))
table_opens key ws shape few are = opens unit_words key ws shape few are.wide are.token are.mark are.zeros

module _ (ring : RingSet) (k m : ℕ) (table : TableId) (me : Me ℕ View) where
  pub first_splits : (key : RingKey) (id : ℕ) → IsFirstSeat ring k m table me → 0 < k → Splits (HoldsOneLog unit_words key) id me.0 (without_writer me.0) (one_writer me.0)
  first_splits key id first some_one = splits unit_words key id me.0 _ _ (first.writers ∙ new_more (ring.writers - k) k some_one) first.progress first.finished

  -- without its first writer
  pub first_later : (new_table : TableId) (new : Me ℕ View) → IsFirstSeat ring k m table me → 0 < k → new_table ≡ table → new ≡ (without_writer me.0, me.1) → IsFirstSeat ring (k - 1) m new_table new
  first_later new_table new first some_one same is =
      let upto = first.upto in
      let number : ring.writers - k + 1 ≡ ring.writers - (k - 1) = omega arith in record {
        ours = same ∙ first.ours;
        idle = ap (λ (s : Me ℕ View). s.1) is ∙ first.idle;
        ring_is = ap (λ (s : Me ℕ View). set_of ring.table s.0.ring) is ∙ first.ring_is;
        progress = ap (λ (s : Me ℕ View). s.0.progress) is ∙ first.progress;
        finished = ap (λ (s : Me ℕ View). s.0.finished) is ∙ first.finished;
        writers = ap (λ (s : Me ℕ View). s.0.writers) is ∙ (ap later_writers (first.writers ∙ new_more (ring.writers - k) k some_one) ∙ ap (λ (z : ℕ). new_writer_views z (k - 1)) number);
        readers = ap (λ (s : Me ℕ View). s.0.readers) is ∙ first.readers;
        found = ap (λ (s : Me ℕ View). s.0.found) is ∙ first.found;
        busy = ap (λ (s : Me ℕ View). s.0.busy) is ∙ first.busy;
        upto = omega arith;
      }

-- the writers below the next one
pub writers_more : (ring : RingSet) (passes : List WriterState) (pass : WriterState) (k : ℕ) → passes ≡ new_writers ring k → pass ≡ new_writer ring k → passes ++ pass ∷ [] ≡ new_writers ring (k + 1)
writers_more ring passes pass k so_far is = (λ i. so_far i ++ is i ∷ []) ∙ sym (map-range_with_len_more (new_writer ring) 0 k k (omega arith))

-- the passes of one reader more
pub passes_more : (ring : RingSet) (passes : List ReaderState) (pass : ReaderState) (k : ℕ) → passes ≡ new_passes ring k → pass ≡ new_pass ring → passes ++ pass ∷ [] ≡ new_passes ring (k + 1)
passes_more ring passes pass k so_far is = (λ i. so_far i ++ is i ∷ []) ∙ sym (map-range_with_len_more (λ (j : ℕ). new_pass ring) 0 k k (omega arith))

-- the first seat, once it stands for the last writer alone
pub last_writer : (ring : RingSet) (k m : ℕ) (table : TableId) (me : Me ℕ View) → IsFirstSeat ring k m table me → k ≡ 1 → writer_of table me.0 ≡ new_writer ring (ring.writers - 1)
last_writer ring k m table me first one =
    let writers = first.writers ∙ new_more (ring.writers - k) k (omega arith) in
    let ring_is : set_of table me.0.ring ≡ ring = ap (λ z. set_of z me.0.ring) first.ours ∙ first.ring_is in
    let number : first_number me.0.writers ≡ ring.writers - 1 = ap first_number writers ∙ omega arith in
    let entries : first_entries me.0.writers ≡ [] = ap first_entries writers in
    (λ i. record { ring = ring_is i; number = number i; entries = entries i; found = first.found i; busy = first.busy i })

readers_more : (m : ℕ) → 0 < m → new_reader_views m ≡ new_reader ∷ new_reader_views (m - 1)
readers_more zero some_one = absurd (omega arith)
readers_more (suc m) some_one = let up : m ≡ suc m - 1 = omega arith in ap (λ (z : ℕ). new_reader ∷ new_reader_views z) up

module _ (ring : RingSet) (k m : ℕ) (table : TableId) (me : Me ℕ View) where
  pub first_reads : (key : RingKey) (id : ℕ) → IsFirstSeat ring k m table me → 0 < m → Splits (HoldsOneLog unit_words key) id me.0 (without_reader me.0) (one_reader me.0)
  first_reads key id first some_one = splits_reader unit_words key id me.0 _ _ (first.readers ∙ readers_more m some_one)

  -- without its first reader
  pub first_unread : (new_table : TableId) (new : Me ℕ View) → IsFirstSeat ring k m table me → 0 < m → new_table ≡ table → new ≡ (without_reader me.0, me.1) → IsFirstSeat ring k (m - 1) new_table new
  first_unread new_table new first some_one same is = record {
    ours = same ∙ first.ours;
    idle = ap (λ (s : Me ℕ View). s.1) is ∙ first.idle;
    ring_is = ap (λ (s : Me ℕ View). set_of ring.table s.0.ring) is ∙ first.ring_is;
    progress = ap (λ (s : Me ℕ View). s.0.progress) is ∙ first.progress;
    finished = ap (λ (s : Me ℕ View). s.0.finished) is ∙ first.finished;
    writers = ap (λ (s : Me ℕ View). s.0.writers) is ∙ first.writers;
    readers = ap (λ (s : Me ℕ View). s.0.readers) is ∙ ap later_readers (first.readers ∙ readers_more m some_one);
    found = ap (λ (s : Me ℕ View). s.0.found) is ∙ first.found;
    busy = ap (λ (s : Me ℕ View). s.0.busy) is ∙ first.busy;
    upto = first.upto;
  }

  -- the seat of that reader
  pub reader_seat : (new : Me ℕ View) → IsFirstSeat ring k m table me → 0 < m → new ≡ (one_reader me.0, []) → IsReaderSeat new × (reader_of new.0 ≡ new_reader)
  reader_seat new first some_one is =
      let readers : new.0.readers ≡ new_reader ∷ [] = ap (λ (s : Me ℕ View). s.0.readers) is ∙ ap first_reader (first.readers ∙ readers_more m some_one) in
      let part : reader_of new.0 ≡ new_reader = ap (λ (l : List ReaderView). slice_index_or l 0 new_reader) readers in (
        record {
          idle = ap (λ (s : Me ℕ View). s.1) is;
          no_writer = ap (λ (s : Me ℕ View). s.0.writers) is;
          progress = ap (λ (s : Me ℕ View). s.0.progress) is;
          busy = ap (λ (s : Me ℕ View). s.0.busy) is;
          one = readers ∙ ap (λ (r : ReaderView). r ∷ []) (sym part);
        },
        part,
      )
