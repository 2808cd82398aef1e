-- A reader of a file: what each step leaves of what it represents.
use Rattle.std.proofs.Common.{◌≡◌, ℕ, ◌+◌, ◌<◌, ◌≤◌, inr, Bool, true, is_err, List, [], ◌∷◌, ◌++◌, length, Option, Some, None, false, Result, Ok, Err, sym, ap, subst, ◌∙◌, append_assoc, arith}
use Rattle.std.specs.List.{AllByRecursion}
use Rattle.std.proofs.lemmas.List.{append-nil, length-append, nil_from_length}
use Rattle.std.proofs.lemmas.Bool.{not-true}
use Rattle.std.proofs.lemmas.List.Concat.{flat_map-append, flat_map-cons}
use Rattle.vio.specs.World.{Seen, Reading, Read, ReadSome, FaultsRose, IsAtEnd}
use Rattle.vio.proofs.WholeLemmas.{Read-then, FaultsRose-later}
use Rattle.vsl_record.specs.Unit.{LogUnit, Log}
use Rattle.vsl_words.specs.declared.version.Version.{Version}
use Rattle.vsl_record.specs.Words.{IsUnitOf}
use Rattle.vsl_file.specs.declared.fault.FileFault.{FileFault}
use Rattle.vsl_file.specs.declared.fault.FileFault.TheVariants as faults
use Rattle.vsl_file.specs.declared.reader.FileStep.{FileStep}
use Rattle.vsl_file.specs.declared.reader.FileStep.TheVariants as steps
use Rattle.vsl_file.specs.File.{unit_bytes_of, log_bytes_of, file_header_of, most_bytes, FileEnding, Whole, Damaged, TooLarge, IsFile, HoldsWhole, stops_early}
use Rattle.vsl_file.specs.inside.ReaderSteps.{Filled, TookUnit, TookEnd, TookDamaged, TookTooLarge, CutShort, TookHeader, Began}
use Rattle.vsl_file.specs.ReaderState.{ReaderState, Represents, AreUnitsOf, used, GaveUnit, GaveEnd, EndsSo, StoppedSo, Stepped, SteppedAtHand, is_at_hand, holds_next}
use Rattle.vsl_file.proofs.FileLemmas.{ends_whole, ends_damaged, ends_too_large}
use Rattle.vsl_file.proofs.HeaderLemmas.{length-header}

-- the bytes of units with one more
log_more : (ver : Version) (units : Log) (u : LogUnit) → log_bytes_of ver (units ++ u ∷ []) ≡ log_bytes_of ver units ++ unit_bytes_of ver u
log_more ver units u = flat_map-append (unit_bytes_of ver) units (u ∷ []) ∙ ap (λ (x : List ℕ). log_bytes_of ver units ++ x) (flat_map-cons (unit_bytes_of ver) u [] ∙ append-nil (unit_bytes_of ver u))

-- units with one more are units
all_more : (ver : Version) (units : Log) (u : LogUnit) → AllByRecursion (IsUnitOf ver) units → IsUnitOf ver u → AllByRecursion (IsUnitOf ver) (units ++ u ∷ [])
all_more ver [] u all one = (one, tt)
all_more ver (v ∷ units) u all one = (all.0, all_more ver units u all.1 one)

-- the bytes of a file that is read so far
abbrev so_far : Version → Log → List ℕ
so_far ver units = file_header_of ver ++ log_bytes_of ver units

-- what was taken and is taken now, where the header was read
parts_on : (ver : Version) (old : ReaderState) (taken : List ℕ) (units : Log) (held : List ℕ) (s t : Seen) (f : Filled old.handle old.rest held s t) → Represents old taken units → old.version ≡ Some ver → taken ++ f.added ≡ so_far ver units ++ held
parts_on ver old taken units held s t f p begun =
    ap (λ (x : List ℕ). x ++ f.added) (p.parts ∙ ap (λ (o : Option Version). used o units ++ old.rest) begun) ∙ append_assoc (so_far ver units) old.rest f.added ∙ ap (λ (x : List ℕ). so_far ver units ++ x) (sym f.is)

place_on : (ver : Version) (old : ReaderState) (taken : List ℕ) (units : Log) → Represents old taken units → old.version ≡ Some ver → old.place ≡ length (so_far ver units)
place_on ver old taken units p begun = p.place ∙ ap (λ (o : Option Version). length (used o units)) begun

units_on : (ver : Version) (old : ReaderState) (taken : List ℕ) (units : Log) → Represents old taken units → old.version ≡ Some ver → AllByRecursion (IsUnitOf ver) units
units_on ver old taken units p begun = subst (λ (o : Option Version). AreUnitsOf o units) begun p.are_units

represents_on : (ver : Version) (new : ReaderState) (taken : List ℕ) (units : Log) → new.version ≡ Some ver → new.failed ≡ false → AllByRecursion (IsUnitOf ver) units → taken ≡ so_far ver units ++ new.rest → new.place ≡ length (so_far ver units) → length new.rest < 65536
    → new.place + length new.rest ≤ most_bytes → Represents new taken units
represents_on ver new taken units begun sound all parts place short most = record {
  sound = sound;
  are_units = subst (λ (o : Option Version). AreUnitsOf o units) (sym begun) all;
  parts = parts ∙ ap (λ (o : Option Version). used o units ++ new.rest) (sym begun);
  place = place ∙ ap (λ (o : Option Version). length (used o units)) (sym begun);
  short = short;
  most = omega (arith, most, place, ap length parts, length-append (so_far ver units) new.rest);
}

pub gave_unit : (ver : Version) (u : LogUnit) (size most : ℕ) (old new : ReaderState) (taken : List ℕ) (units : Log) (s t : Seen) → Represents old taken units → old.version ≡ Some ver → old.place + most ≡ most_bytes
    → new.version ≡ old.version → new.place ≡ old.place + size → new.failed ≡ old.failed → TookUnit ver old.handle most u size old.rest new.rest s t → GaveUnit u old new taken units s t
gave_unit ver u size most old new taken units s t p begun room same_begun place same_failed took =
    let more : so_far ver units ++ unit_bytes_of ver u ≡ so_far ver (units ++ u ∷ []) = append_assoc (file_header_of ver) (log_bytes_of ver units) (unit_bytes_of ver u) ∙ ap (λ (x : List ℕ). file_header_of ver ++ x) (sym (log_more ver units u)) in
    let parts : taken ++ took.filled.added ≡ so_far ver (units ++ u ∷ []) ++ new.rest = parts_on ver old taken units took.held s t took.filled p begun ∙ ap (λ (x : List ℕ). so_far ver units ++ x) took.parts
    ∙ sym (append_assoc (so_far ver units) (unit_bytes_of ver u) new.rest) ∙ ap (λ (x : List ℕ). x ++ new.rest) more in
    let short : length new.rest < 65536 = took.short p.short in
    let size_is : length (so_far ver (units ++ u ∷ [])) ≡ length (so_far ver units) + length (unit_bytes_of ver u) = ap length (sym more) ∙ length-append (so_far ver units) (unit_bytes_of ver u) in
    record {
      added = took.filled.added;
      read = took.filled.read;
      represents = represents_on ver new (taken ++ took.filled.added) (units ++ u ∷ []) (same_begun ∙ begun) (same_failed ∙ p.sound) (all_more ver units u (units_on ver old taken units p begun) took.is_unit) parts
          (place ∙ omega (arith, place_on ver old taken units p begun, size_is, took.size_is)) short (omega (arith, place, room, took.within));
      ahead = subst (λ (o : Option Version). length (taken ++ took.filled.added) < length (used o (units ++ u ∷ [])) + 65536) (sym (same_begun ∙ begun)) (omega (arith, ap length parts, length-append (so_far ver (units ++ u ∷ [])) new.rest, short));
    }

pub gave_end : (ver : Version) (most : ℕ) (old new : ReaderState) (taken : List ℕ) (units : Log) (s t : Seen) → Represents old taken units → old.version ≡ Some ver → old.place + most ≡ most_bytes
    → new.version ≡ old.version → new.place ≡ old.place → new.failed ≡ old.failed → TookEnd old.handle old.rest new.rest s t → GaveEnd old new taken units s t
gave_end ver most old new taken units s t p begun room same_begun place same_failed took =
    let parts = parts_on ver old taken units new.rest s t took.filled p begun in
    let place_is : new.place ≡ length (so_far ver units) = place ∙ place_on ver old taken units p begun in
    let none : length new.rest ≡ 0 = ap length took.none in
    let all : taken ++ took.filled.added ≡ so_far ver units = parts ∙ ap (λ (x : List ℕ). so_far ver units ++ x) took.none ∙ append-nil (so_far ver units) in
    record {
      added = took.filled.added;
      read = took.filled.read;
      represents = represents_on ver new (taken ++ took.filled.added) units (same_begun ∙ begun) (same_failed ∙ p.sound) (units_on ver old taken units p begun) parts place_is (omega (arith, none)) (omega (arith, none, place, room));
      at_end = took.end;
      whole = ends_whole ver (taken ++ took.filled.added) units (units_on ver old taken units p begun) all (omega (arith, ap length all, place, place_is, room));
    }

pub gave_damaged : (ver : Version) (most : ℕ) (old : ReaderState) (taken : List ℕ) (units : Log) (new : List ℕ) (s t : Seen) → Represents old taken units → old.version ≡ Some ver → old.place + most ≡ most_bytes
    → TookDamaged ver old.handle most old.rest new s t → EndsSo old taken units (Damaged old.place) s t
gave_damaged ver most old taken units new s t p begun room took = record {
  added = took.filled.added;
  read = took.filled.read;
  ends = λ more told.
      let all : taken ++ took.filled.added ++ more ≡ so_far ver units ++ (new ++ more) =
      ap (λ (x : List ℕ). x ++ more) (parts_on ver old taken units new s t took.filled p begun) ∙ append_assoc (so_far ver units) new more in
      ends_damaged ver (taken ++ took.filled.added ++ more) (new ++ more) units old.place most (units_on ver old taken units p begun) all (place_on ver old taken units p begun) room (took.rest more told);
}

pub gave_too_large : (ver : Version) (most : ℕ) (old : ReaderState) (taken : List ℕ) (units : Log) (new : List ℕ) (s t : Seen) → Represents old taken units → old.version ≡ Some ver → old.place + most ≡ most_bytes
    → TookTooLarge ver old.handle most old.rest new s t → EndsSo old taken units TooLarge s t
gave_too_large ver most old taken units new s t p begun room took = record {
  added = took.added ++ took.aside ∷ [];
  read = took.read;
  ends = λ more told.
      let parts : taken ++ took.added ≡ so_far ver units ++ new =
      ap (λ (x : List ℕ). x ++ took.added) (p.parts ∙ ap (λ (o : Option Version). used o units ++ old.rest) begun) ∙ append_assoc (so_far ver units) old.rest took.added ∙ ap (λ (x : List ℕ). so_far ver units ++ x) (sym took.is) in
      let full : length (taken ++ took.added) ≡ most_bytes = omega (arith, ap length parts, length-append (so_far ver units) new, place_on ver old taken units p begun, took.full, room) in
      let all : taken ++ (took.added ++ took.aside ∷ []) ++ more ≡ taken ++ took.added ++ (took.aside ∷ more) =
      ap (λ (x : List ℕ). x ++ more) (sym (append_assoc taken took.added (took.aside ∷ []))) ∙ append_assoc (taken ++ took.added) (took.aside ∷ []) more in
      ends_too_large ver (taken ++ (took.added ++ took.aside ∷ []) ++ more) (taken ++ took.added) new (took.aside ∷ more) units (units_on ver old taken units p begun) parts full took.stops all (omega arith);
}

pub gave_cut : (ver : Version) (old : ReaderState) (new taken : List ℕ) (units : Log) (s t : Seen) → Represents old taken units → old.version ≡ Some ver → CutShort ver old.handle old.rest new s t → StoppedSo old taken units s t
gave_cut ver old new taken units s t p begun cut = record {
  added = cut.filled.added;
  read = cut.filled.read;
  rose = cut.rose;
  holds = inr (ver, new, record { are_units = units_on ver old taken units p begun; parts = parts_on ver old taken units new s t cut.filled p begun }, cut.stops);
}

-- ---- what is at hand

-- what is held where it is at hand doesn't stop early
pub hand_holds : (ver : Version) (r : ReaderState) → r.version ≡ Some ver → is_at_hand r ≡ true → stops_early ver r.rest ≡ false
hand_holds ver r begun hand = not-true (stops_early ver r.rest) (ap (λ (o : Option Version). holds_next o r.rest) (sym begun) ∙ hand)

-- what is there is one
some_is : {x y : List ℕ} → Some x ≡ Some y → x ≡ y
some_is e = cc

-- a unit that was given and for which no bytes were taken is of those that were taken before
pub unit_at_hand : (u : LogUnit) (old new : ReaderState) (taken : List ℕ) (units : Log) (s t : Seen) → Represents old taken units → GaveUnit u old new taken units s t
    → new.place + length new.rest ≡ old.place + length old.rest → Represents new taken (units ++ u ∷ [])
unit_at_hand u old new taken units s t p gave same =
    let none : gave.added ≡ [] = nil_from_length gave.added (omega (
      arith,
      same,
      length-append taken gave.added,
      p.place,
      ap length p.parts,
      length-append (used old.version units) old.rest,
      gave.represents.place,
      ap length gave.represents.parts,
      length-append (used new.version (units ++ u ∷ [])) new.rest,
    )) in
    subst (λ (x : List ℕ). Represents new x (units ++ u ∷ [])) (ap (λ (x : List ℕ). taken ++ x) none ∙ append-nil taken) gave.represents

-- where nothing was read the file ends so with what was taken before
pub ends_at_hand : (e : FileEnding) (old : ReaderState) (taken : List ℕ) (units : Log) (s t : Seen) → t ≡ s → EndsSo old taken units e s t → (more : List ℕ) → t.left old.handle ≡ Some more → IsFile (taken ++ more) units e
ends_at_hand e old taken units s t same ends more told =
    let lost = ends.read.loses more (ap (λ (w : Seen). w.left old.handle) (sym same) ∙ told) in
    let rest : lost.0 ≡ more = some_is (sym lost.2 ∙ told) in
    let none : ends.added ≡ [] = nil_from_length ends.added (omega (arith, ap length lost.1, length-append ends.added lost.0, ap length rest)) in
    subst (λ (x : List ℕ). IsFile (x ++ more) units e) (ap (λ (x : List ℕ). taken ++ x) none ∙ append-nil taken) (ends.ends more told)

-- what a call came to, where it is kept whether it answered a fault
pub kept_at_hand : (r : Result FileStep FileFault) (old mid : ReaderState) (failed : Bool) (taken : List ℕ) (units : Log) (now : Seen) → failed ≡ is_err r → SteppedAtHand r old mid taken units now
    → SteppedAtHand r old (record mid { failed = failed }) taken units now
kept_at_hand (Ok (steps.Unit u)) old mid failed taken units now kept p = record { sound = kept; are_units = p.are_units; parts = p.parts; place = p.place; short = p.short; most = p.most }
kept_at_hand (Ok steps.End) old mid failed taken units now kept p = p
kept_at_hand (Err (faults.NotALog at)) old mid failed taken units now kept p = p
kept_at_hand (Err (faults.Damaged at)) old mid failed taken units now kept p = p
kept_at_hand (Err faults.TooLarge) old mid failed taken units now kept p = p
kept_at_hand (Err faults.ReadFault) old mid failed taken units now kept p = p
kept_at_hand (Err faults.NoMemory) old mid failed taken units now kept p = p
kept_at_hand (Err faults.FailedBefore) old mid failed taken units now kept p = p

-- ---- a call that begins with the header

pub began : (ver : Version) (most : ℕ) (old new : ReaderState) (taken : List ℕ) (units : Log) (s t : Seen) → Represents old taken units → old.version ≡ None → most ≡ most_bytes
    → new.version ≡ Some ver → new.place ≡ 8 → new.failed ≡ old.failed → TookHeader ver old.handle most old.rest new.rest s t → Began old new taken units s t
began ver most old new taken units s t p fresh room begun place same_failed took =
    let none : units ≡ [] = subst (λ (o : Option Version). AreUnitsOf o units) fresh p.are_units in
    let header : so_far ver units ≡ file_header_of ver = ap (so_far ver) none ∙ append-nil (file_header_of ver) in
    let before : taken ≡ old.rest = p.parts ∙ ap (λ (o : Option Version). used o units ++ old.rest) fresh in
    let parts : taken ++ took.filled.added ≡ so_far ver units ++ new.rest =
    ap (λ (x : List ℕ). x ++ took.filled.added) before ∙ sym took.filled.is ∙ took.parts ∙ ap (λ (x : List ℕ). x ++ new.rest) (sym header) in
    let all : AllByRecursion (IsUnitOf ver) units = subst (AllByRecursion (IsUnitOf ver)) (sym none) tt in
    record {
      added = took.filled.added;
      read = took.filled.read;
      represents = represents_on ver new (taken ++ took.filled.added) units begun (same_failed ∙ p.sound) all parts (place ∙ sym (ap length header ∙ length-header ver)) (took.short p.short) (omega (arith, place, took.within, room));
    }

-- what was taken before a read is taken before both
regroup : (P : List ℕ → Type 0) (taken a b : List ℕ) → P (taken ++ a ++ b) → P (taken ++ (a ++ b))
regroup P taken a b p = subst P (append_assoc taken a b) p

read_both : (h k : ℕ) (a b : List ℕ) (s t u : Seen) → k ≡ h → Read h a s t → Read k b t u → Read h (a ++ b) s u
read_both h k a b s t u same p q = Read-then a b p (subst (λ (i : ℕ). Read i b t u) same q)

pub some_both : (h k : ℕ) (s t u : Seen) → k ≡ h → ReadSome h s t → ReadSome k t u → ReadSome h s u
some_both h k s t u same p q = record { bytes = p.bytes ++ q.bytes; read = read_both h k p.bytes q.bytes s t u same p.read q.read }

-- what a file that is told ends with, after the header was read
ends_after : {e : FileEnding} (old mid : ReaderState) (taken : List ℕ) (units : Log) (added : List ℕ) (s t u : Seen) → Read old.handle added s t → mid.handle ≡ old.handle
    → EndsSo mid (taken ++ added) units e t u → EndsSo old taken units e s u
ends_after {e = e} old mid taken units added s t u read same p = record {
  added = added ++ p.added;
  read = read_both old.handle mid.handle added p.added s t u same read p.read;
  ends = λ more told. regroup (λ (x : List ℕ). IsFile (x ++ more) units e) taken added p.added (p.ends more (subst (λ (h : ℕ). u.left h ≡ Some more) (sym same) told));
}

-- what a call came to, after the header was read
pub stepped_after : (r : Result FileStep FileFault) (old mid new : ReaderState) (taken : List ℕ) (units : Log) (s t u : Seen) (b : Began old mid taken units s t) → mid.handle ≡ old.handle
    → Stepped r mid new (taken ++ b.added) units t u → Stepped r old new taken units s u
stepped_after (Ok (steps.Unit v)) old mid new taken units s t u b same p = record {
  added = b.added ++ p.added;
  read = read_both old.handle mid.handle b.added p.added s t u same b.read p.read;
  represents = regroup (λ (x : List ℕ). Represents new x (units ++ v ∷ [])) taken b.added p.added p.represents;
  ahead = regroup (λ (x : List ℕ). length x < length (used new.version (units ++ v ∷ [])) + 65536) taken b.added p.added p.ahead;
}
stepped_after (Ok steps.End) old mid new taken units s t u b same p = record {
  added = b.added ++ p.added;
  read = read_both old.handle mid.handle b.added p.added s t u same b.read p.read;
  represents = regroup (λ (x : List ℕ). Represents new x units) taken b.added p.added p.represents;
  at_end = subst (λ (h : ℕ). IsAtEnd h u) same p.at_end;
  whole = regroup (λ (x : List ℕ). IsFile x units Whole) taken b.added p.added p.whole;
}
stepped_after (Err (faults.NotALog at)) old mid new taken units s t u b same p = ends_after old mid taken units b.added s t u b.read same p
stepped_after (Err (faults.Damaged at)) old mid new taken units s t u b same p = ends_after old mid taken units b.added s t u b.read same p
stepped_after (Err faults.TooLarge) old mid new taken units s t u b same p = ends_after old mid taken units b.added s t u b.read same p
stepped_after (Err faults.ReadFault) old mid new taken units s t u b same p = record {
  added = b.added ++ p.added;
  read = read_both old.handle mid.handle b.added p.added s t u same b.read p.read;
  rose = FaultsRose-later Reading old.handle s t u b.read.counts b.read.names (subst (λ (h : ℕ). FaultsRose Reading h t u) same p.rose);
  holds = regroup (λ (x : List ℕ). HoldsWhole x units) taken b.added p.added p.holds;
}
stepped_after (Err faults.NoMemory) old mid new taken units s t u b same p = some_both old.handle mid.handle s t u same (record { bytes = b.added; read = b.read }) p
stepped_after (Err faults.FailedBefore) old mid new taken units s t u b same p = p
