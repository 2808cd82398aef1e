-- Reading a file in pieces: what reads add to a buffer, and what a step takes of it.
use Rattle.std.proofs.Common.{◌≡◌, ◌≢◌, ℕ, ◌+◌, ◌-◌, ◌<◌, ◌≤◌, inl, inr, true, false, eqb, List, [], ◌∷◌, ◌++◌, length, take, drop, sym, ap, ◌∙◌, append_assoc, arith}
use Rattle.std.proofs.lemmas.Bool.{both_ways, cases_lt, eqb-false}
use Rattle.std.proofs.lemmas.List.{append-nil, length-append, length-drop, nil_from_length, take_all, length-take, take-append-le, take-append-drop}
use Rattle.std.proofs.Math.Seq.{take-add}
use Rattle.bytes.proofs.Ranges.{take-append_past}
use Rattle.vio.specs.World.{Seen, Reading, Read, ReadSome, OnlyCounts, FaultsRose}
use Rattle.vio.proofs.WholeLemmas.{Read-counts, Read-none, Read-then, Read-nothing, FaultsRose-later}
use Rattle.vsl_words.specs.declared.version.Version.{Version}
use Rattle.vsl_record.specs.Unit.{LogUnit}
use Rattle.vsl_file.specs.File.{unit_bytes_of, stops_early}
use Rattle.vsl_file.specs.inside.FileReading.{IsHeadSize, IsBroken, BeginsWithUnit}
use Rattle.vsl_file.specs.inside.ReaderSteps.{Filled, HoldsSized, GoesOn, HasEnded, TookUnit, TookEnd, TookDamaged, TookTooLarge, CutShort}
use Rattle.vsl_file.proofs.UnitLemmas.{short_stops, stopped_begins_none}

-- ---- what reads add

-- a refused call after a read adds nothing
pub Read-kept : {h : ℕ} {bytes : List ℕ} {s t u : Seen} → Read h bytes s t → OnlyCounts t u → Read h bytes s u
Read-kept {h = h} {bytes = bytes} {t = t} {u = u} p q = Read-nothing bytes p (Read-counts h t u q)

pub Filled-none : (h : ℕ) (a b : List ℕ) (s : Seen) → b ≡ a → Filled h a b s s
Filled-none h a b s same = record { added = []; is = same ∙ sym (append-nil a); read = Read-none h s }

pub Filled-then : {h : ℕ} {a b c : List ℕ} {s t u : Seen} → Filled h a b s t → Filled h b c t u → Filled h a c s u
Filled-then {a = a} p q = record {
  added = p.added ++ q.added;
  is = q.is ∙ ap (λ (x : List ℕ). x ++ q.added) p.is ∙ append_assoc a p.added q.added;
  read = Read-then p.added q.added p.read q.read;
}

pub Filled-kept : {h : ℕ} {a b : List ℕ} {s t u : Seen} → Filled h a b s t → OnlyCounts t u → Filled h a b s u
Filled-kept p q = record { added = p.added; is = p.is; read = Read-kept p.read q }

pub Filled-nothing : {h : ℕ} {a b : List ℕ} {s t u : Seen} → Filled h a b s t → Read h [] t u → Filled h a b s u
Filled-nothing p q = record { added = p.added; is = p.is; read = Read-nothing p.added p.read q }

pub some_filled : {h : ℕ} {a b : List ℕ} {s t : Seen} → Filled h a b s t → ReadSome h s t
some_filled p = record { bytes = p.added; read = p.read }

pub some_after : {h : ℕ} {a b : List ℕ} {s t u : Seen} → Filled h a b s t → ReadSome h t u → ReadSome h s u
some_after p q = record { bytes = p.added ++ q.bytes; read = Read-then p.added q.bytes p.read q.read }

pub some_none : (h : ℕ) (s : Seen) → ReadSome h s s
some_none h s = record { bytes = []; read = Read-none h s }

pub ruleset reading = (some_filled, some_after, some_none)

pub rose_after : {h : ℕ} {a b : List ℕ} {s t u : Seen} → Filled h a b s t → FaultsRose Reading h t u → FaultsRose Reading h s u
rose_after {h = h} {s = s} {t = t} {u = u} p rose = FaultsRose-later Reading h s t u p.read.counts p.read.names rose

-- the first elements of the first part of a list are those of its beginning
take_written : (k m : ℕ) (xs ys : List ℕ) → k ≤ m → k ≤ length xs → take k (take m (xs ++ ys)) ≡ take k xs
take_written k m xs ys less within =
    let enough : k ≤ length (take m (xs ++ ys)) = omega (arith, length-take m (xs ++ ys), length-append xs ys) in
    sym (take-append-le k (take m (xs ++ ys)) (drop m (xs ++ ys)) enough) ∙ ap (take k) (take-append-drop m (xs ++ ys)) ∙ take-append-le k xs ys within

-- a read behind what was there adds what it gave
pub Filled-behind : (h n m : ℕ) (a b x new : List ℕ) (s t : Seen) → take (length a) b ≡ a → length a + n ≤ m → length a + n ≤ length b → new ≡ take (length a + n) (take m (b ++ x))
    → Read h (take n (drop (length a) b)) s t → Filled h a new s t
Filled-behind h n m a b x new s t kept less within is read = record {
  added = take n (drop (length a) b);
  is = is ∙ take_written (length a + n) m b x less within ∙ take-add (length a) n b ∙ ap (λ (y : List ℕ). y ++ take n (drop (length a) b)) kept;
  read = read;
}

-- a header counts as much however the bytes go on
pub sized_more : (ver : Version) (size : ℕ) (a b added : List ℕ) → b ≡ a ++ added → IsHeadSize ver size a → IsHeadSize ver size b
sized_more ver size a b added is sized =
    let on : (more : List ℕ) → b ++ more ≡ a ++ (added ++ more) = λ more. ap (λ (x : List ℕ). x ++ more) is ∙ append_assoc a added more in
    record {
      least = sized.least;
      most = sized.most;
      only = λ u more rest fits e. sized.only u (added ++ more) rest fits (sym (on more) ∙ e);
      stops = λ more. rw (on more) (sized.stops (added ++ more));
    }

-- ---- what a step took

pub took_unit : (ver : Version) (h most : ℕ) (u : LogUnit) (size : ℕ) (old held new : List ℕ) (s t : Seen)
    → Filled h old held s t → HoldsSized ver size old held → length held ≤ most → BeginsWithUnit ver held u (drop size held) → new ≡ drop size held → TookUnit ver h most u size old new s t
took_unit ver h most u size old held new s t filled holds within begins is =
    let left : length new ≡ length held - size = ap length is ∙ length-drop size held in
    record {
      held = held;
      filled = filled;
      is_unit = begins.is_unit;
      size_is = holds.sized.only u [] (drop size held) begins.is_unit (append-nil held ∙ begins.parts);
      least = holds.sized.least;
      parts = begins.parts ∙ ap (λ (x : List ℕ). unit_bytes_of ver u ++ x) (sym is);
      short = λ small. omega (arith, left, holds.short small, holds.enough);
      within = omega (arith, left, holds.enough, within);
    }

-- what is broken has a word
broken_some : (ver : Version) (bytes : List ℕ) → IsBroken ver bytes → 4 ≤ length bytes
broken_some ver bytes broken =
    elim (cases_lt (length bytes) 4) [
      | inl short ↦ absurd (both_ways (stops_early ver bytes) (ap (stops_early ver) (sym (append-nil bytes)) ∙ broken.stays []) (short_stops ver bytes short))
      | inr enough ↦ enough
    ]

some_taken : (most : ℕ) (a more : List ℕ) → 0 < length a → length a ≤ most → take most (a ++ more) ≡ a ++ take (most - length a) more
some_taken most a more some within = take-append_past a more (most - length a) most (omega arith)

not_empty : (a b : List ℕ) → 0 < length a → a ++ b ≢ []
not_empty a b some e = omega (arith, some, ap length e, length-append a b)

-- the first word, or all bytes that it counts, are no unit's
pub took_broken : (ver : Version) (h most : ℕ) (old new : List ℕ) (s t : Seen) → Filled h old new s t → length new ≤ most → IsBroken ver new → TookDamaged ver h most old new s t
took_broken ver h most old new s t filled within broken =
    let some : 0 < length new = omega (arith, broken_some ver new broken) in
    record {
      filled = filled;
      rest = λ more told. let is = some_taken most new more some within in record {
        some = rw is (not_empty new (take (most - length new) more) some);
        none = rw is (broken.never (take (most - length new) more));
        stays = λ large. ap (stops_early ver) is ∙ broken.stays (take (most - length new) more);
      };
    }

-- some bytes are not none
pub not_none : (bytes : List ℕ) → eqb (length bytes) 0 ≡ false → 0 < length bytes
not_none bytes e = omega (arith, eqb-false (length bytes) 0 e)

-- the bytes end before the end of a unit
pub took_cut : (ver : Version) (h most : ℕ) (old new : List ℕ) (s m t : Seen) → Filled h old new s m → length new ≤ most → stops_early ver new ≡ true → 0 < length new → HasEnded h m t → TookDamaged ver h most old new s t
took_cut ver h most old new s m t filled within stops some ended = record {
  filled = Filled-nothing filled ended.read;
  rest = λ more told.
      let is : new ++ more ≡ new = ap (λ (x : List ℕ). new ++ x) (ended.end more told) ∙ append-nil new in
      let all : take most (new ++ more) ≡ new = ap (take most) is ∙ take_all most new within in
      record {
        some = λ e. omega (arith, some, ap length (sym all ∙ e));
        none = rw all (stopped_begins_none ver new stops);
        stays = λ large. absurd (omega (arith, large, within, ap length is));
      };
}

-- nothing was there
pub took_end : (h : ℕ) (old new : List ℕ) (s m t : Seen) → Filled h old new s m → length new ≡ 0 → HasEnded h m t → TookEnd h old new s t
took_end h old new s m t filled none ended = record { filled = Filled-nothing filled ended.read; none = nil_from_length new none; end = ended.end }

-- the file goes on where no more may be held
pub took_too_large : (ver : Version) (h most : ℕ) (old new : List ℕ) (s m t : Seen) → Filled h old new s m → stops_early ver new ≡ true → length new ≡ most → GoesOn h m t → TookTooLarge ver h most old new s t
took_too_large ver h most old new s m t filled stops full on = record {
  added = filled.added;
  aside = on.aside;
  is = filled.is;
  read = Read-then filled.added (on.aside ∷ []) filled.read on.read;
  full = full;
  stops = stops;
}

-- a read failed while a unit was read, or where it was to be seen whether the file goes on
pub cut_short : {ver : Version} {h : ℕ} {old new : List ℕ} {s t : Seen} → Filled h old new s t → stops_early ver new ≡ true → FaultsRose Reading h s t → CutShort ver h old new s t
cut_short p stops rose = record { filled = p; stops = stops; rose = rose }
