-- What a log file gave stays given, and it stopped as it did, whatever is written.
use Rattle.std.proofs.Common.{◌≡◌, ℕ, Bool, List, [], ◌∷◌, ◌++◌, sym, ap, subst, ◌∙◌}
use Rattle.std.proofs.lemmas.List.{append-nil}
use Rattle.vio.specs.World.{Seen}
use Rattle.vio.specs.Calls.{Call, Take, Write, Open, Create, Refuse, Lack, FailedEach, AreOn, Did, taken_by, is_end}
use Rattle.vio.proofs.TouchLemmas.{one_of_left}
use Rattle.vio.proofs.CallLemmas.{taken_append, taken_none, read_first}
use Rattle.vsl_record.specs.Unit.{Log}
use Rattle.ring_layout.specs.declared.item.Item.{Item}
use Rattle.vsl_file.specs.File.{FileEnding, NotALog, Damaged, TooLarge, IsFile, HoldsWhole, Whole}
use Rattle.vsl_file.specs.ReaderState.{Represents}
use Rattle.run_sources.specs.declared.file_items.FileItems.{FileItems}
use Rattle.run_sources.specs.declared.file_items.FileStop.{FileStop}
use Rattle.run_sources.specs.declared.file_items.FileStop.TheVariants as stops
use Rattle.run_sources.specs.Sources.{BeginsLog, FileEnds, FileGave, FileStopped, IsReadWhole}

-- what is written takes nothing
pub taken_stays : (h : ℕ) (calls more : List Call) (writes : List ℕ) → AreOn [] writes more →
    taken_by h calls ≡ taken_by h (calls ++ more)
taken_stays h calls more writes on =
    sym (taken_append h calls more ∙ ap (λ (x : List ℕ). taken_by h calls ++ x)
    (taken_none writes h more on) ∙ append-nil
    (taken_by h calls))

-- a file that was read whole stays so where others are written
pub whole_stays : (h : ℕ) (calls more : List Call) (units : Log) (writes : List ℕ) → AreOn [] writes more →
    IsReadWhole h calls units → IsReadWhole h (calls ++ more) units
whole_stays h calls more units writes on p = (
  subst (λ (taken : List ℕ). IsFile taken units Whole) (taken_stays h calls more writes on) p.0,
  read_first is_end h calls more p.1,
)

-- what a log gave stays given where others are written
pub file_stays : (start now : FileItems) (calls more : List Call) (met : List Item) (all : Bool) (writes : List ℕ) →
    FileGave start now calls met all → AreOn [] writes more → FileGave start now (calls ++ more) met all
file_stays start now calls more met all writes p on =
    let h = start.reader.handle in record {
      handle = p.handle;
      units = p.units;
      are = p.are;
      represents = subst (λ (taken : List ℕ). Represents now.reader taken p.units)
          (taken_stays h calls more writes on) p.represents;
      whole = λ e. whole_stays h calls more p.units writes on (p.whole e);
      unread = p.unread;
    }

-- what is written changes nothing of what is left to read
left_stays : (h : ℕ) (more : List Call) (writes : List ℕ) (s t : Seen) → AreOn [] writes more → Did more s t →
    t.left h ≡ s.left h
left_stays h [] writes s t on did = ap (λ (seen : Seen). seen.left h) did
left_stays h (Write k bytes mark ∷ more) writes s t on did = left_stays h more writes did.0 t on.1 did.2 ∙ did.1.0.left h
left_stays h (Take k bytes mark ∷ more) writes s t on did = absurd on.0
left_stays h (Open name k ∷ more) writes s t on did = absurd on.0
left_stays h (Create append name k empty ∷ more) writes s t on did = absurd on.0
left_stays h (Refuse kind name ∷ more) writes s t on did = absurd on.0
left_stays h (Lack ∷ more) writes s t on did = absurd on.0

-- a file that ends so still does
ends_stays : (h : ℕ) (ending : FileEnding) (calls more : List Call) (met : List Item) (writes : List ℕ) (s t : Seen) →
    FileEnds h calls met s ending → AreOn [] writes more → Did more s t → FileEnds h (calls ++ more) met t ending
ends_stays h ending calls more met writes s t p on did =
    let stays = taken_stays h calls more writes on in record {
      units = p.units;
      are = p.are;
      begins = subst (λ (taken : List ℕ). BeginsLog taken p.units) stays p.begins;
      ends = λ rest left. subst (λ (taken : List ℕ). IsFile (taken ++ rest) p.units ending) stays
          (p.ends rest (sym (left_stays h more writes s t on did) ∙ left));
    }

-- how a log stopped stays where others are written
pub file_stopped_stays : (start : FileItems) (fault : FileStop) (calls more : List Call) (met : List Item)
    (writes : List ℕ) (s t : Seen) → FileStopped start.reader.handle fault calls met s → AreOn [] writes more →
    Did more s t → FileStopped start.reader.handle fault (calls ++ more) met t
file_stopped_stays start (stops.NotALog at) calls more met writes s t p on did =
    ends_stays start.reader.handle (NotALog at) calls more met writes s t p on did
file_stopped_stays start (stops.Damaged at) calls more met writes s t p on did =
    ends_stays start.reader.handle (Damaged at) calls more met writes s t p on did
file_stopped_stays start stops.TooLarge calls more met writes s t p on did =
    ends_stays start.reader.handle TooLarge calls more met writes s t p on did
file_stopped_stays start stops.ReadFault calls more met writes s t p on did =
    let stays = taken_stays start.reader.handle calls more writes on in record {
      units = p.units;
      are = p.are;
      begins = subst (λ (taken : List ℕ). BeginsLog taken p.units) stays p.begins;
      holds = subst (λ (taken : List ℕ). HoldsWhole taken p.units) stays p.holds;
      failed = (p.failed.0, one_of_left (Take start.reader.handle p.failed.0 FailedEach) calls more p.failed.1);
    }
