-- What a log file gave, read by read.
use Rattle.std.proofs.Common.{◌≡◌, ℕ, ◌+◌, ◌<◌, Bool, true, false, not, Option, Some, None, Err, List, [], ◌∷◌, ◌++◌, length, length-append, refl, sym, ap, subst, ◌∙◌, append_assoc, arith, inl, inr}
use Rattle.std.proofs.lemmas.List.{map-append, append-nil}
use Rattle.vio.specs.World.{Seen, Reading, Read}
use Rattle.vio.specs.Calls.{Mark, Went, MetEnd, FailedEach, Call, Take, AreOn, Marks, taken_by, is_end, fails}
use Rattle.vio.proofs.TouchLemmas.{one_of_right}
use Rattle.vio.proofs.CallLemmas.{did_take, fails_late, taken_append, taken_here, read_last}
use Rattle.vsl_words.specs.declared.version.Version.{Version}
use Rattle.vsl_record.specs.Unit.{LogUnit, Log}
use Rattle.ring_layout.specs.declared.item.Item.{Item}
use Rattle.ring_layout.specs.declared.item.Item.TheVariants as items
use Rattle.vsl_file.specs.File.{FileEnding, NotALog, Damaged, TooLarge, Whole, IsFile, HoldsWhole, stops_early}
use Rattle.vsl_file.specs.ReaderState.{AreUnitsOf, ReaderState, Represents, GaveUnit, GaveEnd, EndsSo, Refused, SteppedAtHand, holds_next, is_at_hand, used}
use Rattle.vsl_file.specs.declared.fault.FileFault.{FileFault}
use Rattle.vsl_file.specs.declared.fault.FileFault.TheVariants as file_faults
use Rattle.one_run.specs.Run.{AtReads, CameTo, Made, asked_of}
use Rattle.run_sources.specs.declared.file_items.FileItems.{FileItems}
use Rattle.run_sources.specs.Sources.{FileAsks, FileGave, FileCame, BeginsLog, FileBegins, FileEnds, FileStopped, file_halt}
use Rattle.run_sources.specs.Laws.{taken_stays}

-- ---- of the bytes alone

begins_so : (r : ReaderState) (taken : List ℕ) (units : Log) → Represents r taken units → BeginsLog taken units
begins_so r taken units p =
    record { version = r.version; rest = r.rest; are_units = p.are_units; parts = p.parts; most = omega (arith, p.most, ap length p.parts, length-append (used r.version units) r.rest) }

-- more bytes begin with the same
begins_on : (taken more : List ℕ) (units : Log) → BeginsLog taken units → BeginsLog (taken ++ more) units
begins_on taken more units p = record {
  version = p.version;
  rest = p.rest ++ more;
  are_units = p.are_units;
  parts = ap (λ (x : List ℕ). x ++ more) p.parts ∙ append_assoc (used p.version units) p.rest more;
  most = p.most;
}

few_by : (v : Option Version) (taken rest : List ℕ) (units : Log) → taken ≡ used v units ++ rest → length rest < 65536 → length taken < length (used v units) + 65536
few_by v taken rest units parts short = omega (arith, ap length parts, length-append (used v units) rest, short)

-- what a reader gave, of the bytes alone
pub file_came : (start now : FileItems) (calls : List Call) (met : List Item) (all : Bool) → FileGave start now calls met all → FileCame start.reader.handle calls met all
unfolding begins_so
file_came start now calls met all p = let taken = taken_by start.reader.handle calls in record {
  units = p.units;
  are = p.are;
  begins = begins_so now.reader taken p.units p.represents;
  few = few_by now.reader.version taken now.reader.rest p.units p.represents.parts p.represents.short;
  whole = p.whole;
}

pub came_begins : (h : ℕ) (calls : List Call) (met : List Item) (all : Bool) → FileCame h calls met all → FileBegins h calls met
came_begins h calls met all p = record { units = p.units; are = p.are; begins = p.begins }

-- ---- what is written behind it takes nothing

module _ (h : ℕ) (calls more : List Call) (met : List Item) (writes : List ℕ) (on : AreOn [] writes more) where
  came_on : (IsSo : List ℕ → Type 0) → IsSo (taken_by h calls) → IsSo (taken_by h (calls ++ more))
  came_on IsSo p = subst IsSo (taken_stays h calls more writes on) p

-- ---- one read more

taken_more : (h : ℕ) (calls : List Call) (added : List ℕ) (mark : Mark) → taken_by h calls ++ added ≡ taken_by h (calls ++ Take h added mark ∷ [])
taken_more h calls added mark = sym (taken_append h calls (Take h added mark ∷ []) ∙ ap (λ (x : List ℕ). taken_by h calls ++ x) (taken_here h added mark))

-- what was given where nothing more is at hand is all that lies whole in what was taken
not_false : (b : Bool) → not b ≡ false → b ≡ true
not_false true none = refl
not_false false none = absurd cc

asks_whole : (v : Option Version) (rest taken : List ℕ) (units : Log) → AreUnitsOf v units → taken ≡ used v units ++ rest → (v ≡ None → length rest < 8) → holds_next v rest ≡ false → HoldsWhole taken units
asks_whole None rest taken units are parts short none = inl (omega (arith, ap length parts, short refl), are)
asks_whole (Some v) rest taken units are parts short none = inr (v, rest, record { are_units = are; parts = parts }, not_false (stops_early v rest) none)

pub file_asks : (start now : FileItems) (calls : List Call) (met : List Item) → FileGave start now calls met false → is_at_hand now.reader ≡ false → FileAsks start.reader.handle calls met
file_asks start now calls met p none = (p.units, p.are, asks_whole now.reader.version now.reader.rest (taken_by start.reader.handle calls) p.units p.represents.are_units p.represents.parts (p.unread refl) none)

-- with no call more
came_so : (IsSo : List Call → Type 0) (calls : List Call) → IsSo calls → IsSo (calls ++ [])
came_so IsSo calls p = subst IsSo (sym (append-nil calls)) p

-- units of a file whose header wasn't read are none
no_unit : (v : Option Version) (units : Log) (u : LogUnit) → AreUnitsOf v (units ++ u ∷ []) → v ≡ None → ⊥
no_unit None [] u are fresh = absurd cc
no_unit None (w ∷ units) u are fresh = absurd cc
no_unit (Some v) units u are fresh = absurd cc

module _ (start now : FileItems) (calls : List Call) (met : List Item) (s t : Seen) (p : FileGave start now calls met false) (none : is_at_hand now.reader ≡ false) where
  one_read : (go : Bool) {IsSo : List Call → Type 0} (added : List ℕ) (mark : Mark) → fails go (Take start.reader.handle added mark ∷ []) ≡ true → Read now.reader.handle added s t → Marks Reading now.reader.handle mark s t
      → IsSo (Take start.reader.handle added mark ∷ []) → Made go (start.reader.handle ∷ []) [] (λ more. AtReads (λ part. FileAsks start.reader.handle (calls ++ part) met) more × IsSo more) s t
  one_read go added mark fail read marks so =
      let h = start.reader.handle in record {
        calls = Take h added mark ∷ [];
        did = did_take h added mark s t (subst (λ (i : ℕ). Read i added s t) p.handle read) (subst (λ (i : ℕ). Marks Reading i mark s t) p.handle marks);
        on = (inl refl, tt);
        fail = fail;
        is = ((came_so (λ list. FileAsks h list met) calls (file_asks start now calls met p none), tt), so);
      }

  pub file_unit : (next : FileItems) (u : LogUnit) → next.reader.handle ≡ now.reader.handle → GaveUnit u now.reader next.reader (taken_by start.reader.handle calls) p.units s t
      → Made true (start.reader.handle ∷ []) [] (λ more. AtReads (λ part. FileAsks start.reader.handle (calls ++ part) met) more × FileGave start next (calls ++ more) (met ++ items.Unit u ∷ []) false) s t
  file_unit next u same gave = one_read true gave.added Went refl gave.read tt (record {
    handle = same ∙ p.handle;
    units = p.units ++ u ∷ [];
    are = ap (λ (xs : List Item). xs ++ items.Unit u ∷ []) p.are ∙ sym (map-append items.Unit p.units (u ∷ []));
    represents = subst (λ (taken : List ℕ). Represents next.reader taken (p.units ++ u ∷ [])) (taken_more start.reader.handle calls gave.added Went) gave.represents;
    whole = λ e. absurd cc;
    unread = λ e fresh. absurd (no_unit next.reader.version p.units u gave.represents.are_units fresh);
  })

  pub file_end : (next : FileItems) → next.reader.handle ≡ now.reader.handle → GaveEnd now.reader next.reader (taken_by start.reader.handle calls) p.units s t
      → Made true (start.reader.handle ∷ []) [] (λ more. AtReads (λ part. FileAsks start.reader.handle (calls ++ part) met) more × FileGave start next (calls ++ more) met true) s t
  file_end next same end =
      let h = start.reader.handle in
      let more = taken_more h calls end.added MetEnd in
      one_read true end.added MetEnd refl end.read end.at_end (record {
        handle = same ∙ p.handle;
        units = p.units;
        are = p.are;
        represents = subst (λ (taken : List ℕ). Represents next.reader taken p.units) more end.represents;
        whole = λ e. (subst (λ (taken : List ℕ). IsFile taken p.units Whole) more end.whole, read_last is_end h calls end.added MetEnd refl);
        unread = λ e. absurd cc;
      })

  begins_read : (added : List ℕ) (mark : Mark) → BeginsLog (taken_by start.reader.handle (calls ++ Take start.reader.handle added mark ∷ [])) p.units
  begins_read added mark =
      let h = start.reader.handle in subst (λ (taken : List ℕ). BeginsLog taken p.units) (taken_more h calls added mark) (begins_on (taken_by h calls) added p.units (begins_so now.reader (taken_by h calls) p.units p.represents))

  file_ends : (ending : FileEnding) → EndsSo now.reader (taken_by start.reader.handle calls) p.units ending s t
      → Made false (start.reader.handle ∷ []) [] (λ more. AtReads (λ part. FileAsks start.reader.handle (calls ++ part) met) more × FileEnds start.reader.handle (calls ++ more) met t ending) s t
  file_ends ending ends =
      let h = start.reader.handle in
      one_read false ends.added Went refl ends.read tt (record {
        units = p.units;
        are = p.are;
        begins = begins_read ends.added Went;
        ends = λ more left. subst (λ (bytes : List ℕ). IsFile bytes p.units ending) (ap (λ (x : List ℕ). x ++ more) (taken_more h calls ends.added Went)) (ends.ends more (ap (λ (k : ℕ). t.left k) p.handle ∙ left));
      })

  pub file_stopped : (next : FileItems) (fault : FileFault) → Refused fault now.reader (taken_by start.reader.handle calls) p.units s t
      → Made false (start.reader.handle ∷ []) [] (λ more. AtReads (λ part. FileAsks start.reader.handle (calls ++ part) met) more × CameTo (λ list all. FileGave start next (calls ++ more) list all) (λ stop list. FileStopped start.reader.handle stop (calls ++ more) list t) (λ list. FileBegins start.reader.handle (calls ++ more) list) (Err (file_halt fault)) met) s t
  file_stopped next (file_faults.NotALog at) r = file_ends (NotALog at) r
  file_stopped next (file_faults.Damaged at) r = file_ends (Damaged at) r
  file_stopped next file_faults.TooLarge r = file_ends TooLarge r
  file_stopped next file_faults.ReadFault r =
      let h = start.reader.handle in
      one_read false r.added FailedEach refl r.read r.rose (record {
        units = p.units;
        are = p.are;
        begins = begins_read r.added FailedEach;
        holds = subst (λ (taken : List ℕ). HoldsWhole taken p.units) (taken_more h calls r.added FailedEach) r.holds;
        failed = (r.added, one_of_right (Take h r.added FailedEach) calls (Take h r.added FailedEach ∷ []) (inl refl));
      })
  file_stopped next file_faults.NoMemory r = one_read false r.bytes Went refl r.read tt (record { units = p.units; are = p.are; begins = begins_read r.bytes Went })
  file_stopped next file_faults.FailedBefore r = absurd r

-- ---- what is at hand

module _ (start now : FileItems) (calls : List Call) (met : List Item) (s t : Seen) (p : FileGave start now calls met false) (same : t ≡ s) where
  -- nothing is read for what is at hand
  none_read : (go : Bool) {IsSo : List Call → Type 0} → IsSo [] → Made go [] [] (λ more. AtReads (λ part. FileAsks start.reader.handle (calls ++ part) met) more × IsSo more) s t
  none_read go so = record { calls = []; did = same; on = tt; fail = fails_late go [] refl; is = (tt, so) }

  begins_here : BeginsLog (taken_by start.reader.handle calls) p.units
  begins_here = begins_so now.reader (taken_by start.reader.handle calls) p.units p.represents

  pub file_unit_at_hand : (next : FileItems) (u : LogUnit) → next.reader.handle ≡ now.reader.handle → Represents next.reader (taken_by start.reader.handle calls) (p.units ++ u ∷ [])
      → Made true [] [] (λ more. AtReads (λ part. FileAsks start.reader.handle (calls ++ part) met) more × FileGave start next (calls ++ more) (met ++ items.Unit u ∷ []) false) s t
  file_unit_at_hand next u stays gave = none_read true (came_so (λ list. FileGave start next list (met ++ items.Unit u ∷ []) false) calls (record {
    handle = stays ∙ p.handle;
    units = p.units ++ u ∷ [];
    are = ap (λ (xs : List Item). xs ++ items.Unit u ∷ []) p.are ∙ sym (map-append items.Unit p.units (u ∷ []));
    represents = gave;
    whole = λ e. absurd cc;
    unread = λ e fresh. absurd (no_unit next.reader.version p.units u gave.are_units fresh);
  }))

  pub file_stopped_at_hand : (next : FileItems) (reader : ReaderState) (fault : FileFault) → SteppedAtHand (Err fault) now.reader reader (taken_by start.reader.handle calls) p.units t
      → Made false [] [] (λ more. AtReads (λ part. FileAsks start.reader.handle (calls ++ part) met) more × CameTo (λ list all. FileGave start next (calls ++ more) list all) (λ stop list. FileStopped start.reader.handle stop (calls ++ more) list t) (λ list. FileBegins start.reader.handle (calls ++ more) list) (Err (file_halt fault)) met) s t
  file_stopped_at_hand next reader (file_faults.NotALog at) r = absurd r
  file_stopped_at_hand next reader (file_faults.Damaged at) r =
      let h = start.reader.handle in
      none_read false (came_so (λ list. FileEnds h list met t (Damaged at)) calls (record {
        units = p.units;
        are = p.are;
        begins = begins_here;
        ends = λ more left. r more (ap (λ (k : ℕ). t.left k) p.handle ∙ left);
      }))
  file_stopped_at_hand next reader file_faults.TooLarge r = absurd r
  file_stopped_at_hand next reader file_faults.ReadFault r = absurd r
  file_stopped_at_hand next reader file_faults.NoMemory r =
      none_read false (came_so (λ list. FileBegins start.reader.handle list met) calls (record { units = p.units; are = p.are; begins = begins_here }))
  file_stopped_at_hand next reader file_faults.FailedBefore r = absurd r

-- ---- whether it is at hand or not

-- calls that are made so, where what comes next is at hand and where it isn't
pub asked_so : (hand go : Bool) (reads : List ℕ) (IsSo : List Call → Type 0) (s t : Seen) → (hand ≡ true → Made go [] [] IsSo s t) → (hand ≡ false → Made go reads [] IsSo s t) → Made go (asked_of hand reads) [] IsSo s t
asked_so true go reads IsSo s t here there = here refl
asked_so false go reads IsSo s t here there = there refl

-- nothing was read of a log that is new
pub file_fresh : (log : FileItems) → Represents log.reader [] [] → FileGave log log [] [] false
file_fresh log new = record {
  handle = refl;
  units = [];
  are = refl;
  represents = new;
  whole = λ e. absurd cc;
  unread = λ e fresh. let none : [] ≡ used log.reader.version [] ++ log.reader.rest = new.parts in omega (arith, ap length none, ap (λ (v : Option Version). length (used v [] ++ log.reader.rest)) fresh);
}
