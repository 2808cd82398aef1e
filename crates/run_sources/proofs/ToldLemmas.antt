-- What came of a log whose handle told what it had left.
use Rattle.std.proofs.Common.{◌≡◌, ℕ, ◌≤◌, Bool, true, false, List, [], ◌++◌, length, Option, Some, None, refl, sym, ap, subst, ◌∙◌, append_assoc}
use Rattle.std.proofs.lemmas.List.{append-nil, map-append}
use Rattle.vio.specs.World.{Seen}
use Rattle.vio.specs.Calls.{Call, Did, taken_by}
use Rattle.vio.proofs.CallLemmas.{did_apart}
use Rattle.vio.proofs.CallLaws.{did_lose, did_end}
use Rattle.vsl_words.specs.declared.version.Version.{Version}
use Rattle.vsl_record.specs.Unit.{Log}
use Rattle.ring_layout.specs.declared.item.Item.{Item}
use Rattle.ring_layout.specs.declared.item.Item.TheVariants as items
use Rattle.vsl_file.specs.File.{FileEnding, NotALog, Damaged, TooLarge, Whole, IsFile, is_whole, file_header_of, log_bytes_of, most_bytes}
use Rattle.vsl_file.specs.ReaderState.{AreUnitsOf, used}
use Rattle.vsl_file.proofs.FileLemmas.{first_units, one_content_of}
use Rattle.run_sources.specs.declared.file_items.FileStop.{FileStop}
use Rattle.run_sources.specs.declared.file_items.FileStop.TheVariants as stops
use Rattle.run_sources.specs.Sources.{FileBegins, FileCame, FileEnds, FileStopped, IsReadWhole, unit_items}
use Rattle.run_sources.specs.Told.{AreOf, TellsLog, named_ending}

-- units that begin the first bytes of a file are its first ones
begun_first : (v : Option Version) (bytes taken more rest : List ℕ) (units us : Log) (ending : FileEnding) → AreUnitsOf v units → taken ≡ used v units ++ rest → length (used v units) ≤ most_bytes → bytes ≡ taken ++ more → IsFile bytes us ending
    → (others : Log) × (us ≡ units ++ others)
begun_first None bytes taken more rest units us ending none parts most is file = (us, ap (λ (xs : Log). xs ++ us) (sym none))
begun_first (Some v) bytes taken more rest units us ending all parts most is file =
    first_units v bytes units us ending (rest ++ more) all most (is ∙ ap (λ (x : List ℕ). x ++ more) parts ∙ append_assoc (file_header_of v ++ log_bytes_of v units) rest more) file

module _ (h : ℕ) (units : Log) (ending : FileEnding) (before : Seen) (tells : TellsLog h units ending before) (calls : List Call) (now : Seen) (did : Did calls before now) where
  -- what calls took is the first of what was told, and the rest is left
  taken_first : (rest : List ℕ) × (tells.bytes ≡ taken_by h calls ++ rest) × (now.left h ≡ Some rest)
  taken_first = did_lose h calls before now tells.given did tells.bytes tells.told

  -- items that lie at the beginning of what was taken are the first
  pub begun_are : (met : List Item) → FileBegins h calls met → AreOf met false (unit_items units) (is_whole ending)
  begun_are met p =
      let first = taken_first in let b = p.begins in
      let others = begun_first b.version tells.bytes (taken_by h calls) first.0 b.rest p.units units ending b.are_units b.parts b.most first.1 tells.file in
      record {
        rest = unit_items others.0;
        parts = ap (λ (us : Log). unit_items us) others.1 ∙ map-append items.Unit p.units others.0 ∙ ap (λ (xs : List Item). xs ++ unit_items others.0) (sym p.are);
        whole = λ e. absurd cc;
      }

  -- where the file was read whole they are all, and it ends whole
  pub whole_are : (met : List Item) (us : Log) → met ≡ unit_items us → IsReadWhole h calls us → AreOf met true (unit_items units) (is_whole ending)
  whole_are met us are whole =
      let is : tells.bytes ≡ taken_by h calls = did_end h calls before now tells.bytes tells.given did whole.1 tells.told in
      let same = one_content_of tells.bytes us units Whole ending (subst (λ (bytes : List ℕ). IsFile bytes us Whole) (sym is) whole.0) tells.file in
      record {
        rest = [];
        parts = ap (λ (xs : Log). unit_items xs) (sym same.0) ∙ sym are ∙ sym (append-nil met);
        whole = λ e. (refl, ap is_whole (sym same.1));
      }

  -- items that came are the first, or all
  pub came_are : (met : List Item) (all : Bool) → FileCame h calls met all → AreOf met all (unit_items units) (is_whole ending)
  came_are met false p = begun_are met (record { units = p.units; are = p.are; begins = p.begins })
  came_are met true p = whole_are met p.units p.are (p.whole refl)

  -- items behind which the file ends so are all, and it ends so
  ends_are : (named : FileEnding) (met : List Item) → FileEnds h calls met now named → (unit_items units ≡ met) × (ending ≡ named)
  ends_are named met p =
      let first = taken_first in
      let same = one_content_of tells.bytes p.units units named ending (subst (λ (bytes : List ℕ). IsFile bytes p.units named) (sym first.1) (p.ends first.0 first.2)) tells.file in
      (ap (λ (xs : Log). unit_items xs) (sym same.0) ∙ sym p.are, sym same.1)

  -- all items, where it isn't said that they are all
  all_are : (met : List Item) → unit_items units ≡ met → AreOf met false (unit_items units) (is_whole ending)
  all_are met e = record { rest = []; parts = e ∙ sym (append-nil met); whole = λ f. absurd cc }

  -- items behind which the file stopped are the first
  pub stopped_are : (why : FileStop) (met : List Item) → FileStopped h why calls met now → AreOf met false (unit_items units) (is_whole ending)
  stopped_are (stops.NotALog at) met p = all_are met (ends_are (NotALog at) met p).0
  stopped_are (stops.Damaged at) met p = all_are met (ends_are (Damaged at) met p).0
  stopped_are stops.TooLarge met p = all_are met (ends_are TooLarge met p).0
  stopped_are stops.ReadFault met p = begun_are met (record { units = p.units; are = p.are; begins = p.begins })

  -- where the stop names an ending they are all, and that is the file's
  pub stopped_ends : (why : FileStop) (named : FileEnding) (met : List Item) → named_ending why ≡ Some named → FileStopped h why calls met now → (unit_items units ≡ met) × (ending ≡ named)
  stopped_ends (stops.NotALog at) named met is p = let so = ends_are (NotALog at) met p in (so.0, so.1 ∙ cc)
  stopped_ends (stops.Damaged at) named met is p = let so = ends_are (Damaged at) met p in (so.0, so.1 ∙ cc)
  stopped_ends stops.TooLarge named met is p = let so = ends_are TooLarge met p in (so.0, so.1 ∙ cc)
  stopped_ends stops.ReadFault named met is p = absurd cc

-- items that came by the first of some calls are the first, or all
pub first_are : (h : ℕ) (units : Log) (ending : FileEnding) (before now : Seen) (calls more : List Call) (met : List Item) (all : Bool) → TellsLog h units ending before → Did (calls ++ more) before now → FileCame h calls met all → AreOf met all (unit_items units) (is_whole ending)
first_are h units ending before now calls more met all tells did p =
    let parts = did_apart calls more before now did in came_are h units ending before tells calls parts.0 parts.1 met all p
