-- What is written of units as their records come.
use Rattle.std.proofs.Common.{◌≡◌, ℕ, ◌≤◌, ◌<◌, ◌+◌, ◌/◌, Bool, false, ◌==◌, ◌||◌, List, [], ◌∷◌, ◌++◌, length, Option, None, Some, refl, sym, ap, subst, ◌∙◌, append_assoc, arith}
use Rattle.std.specs.Prelude.{if◌then◌else◌}
use Rattle.std.specs.List.{AllByRecursion, flat_map}
use Rattle.std.proofs.Math.Bool.{or-false}
use Rattle.std.proofs.lemmas.List.{append-nil, length-append}
use Rattle.std.proofs.lemmas.List.Concat.{flat_map-append}
use Rattle.std.proofs.lemmas.List.Folds.{list_any-append}
use Rattle.vsl_tags.specs.Tags.{end_tag}
use Rattle.vsl_record.specs.declared.mark.Mark.{Mark}
use Rattle.vsl_record.specs.declared.record_type.Record.{Record}
use Rattle.vsl_record.specs.Unit.{IsRecordOf, LogUnit, Log, vxid_end}
use Rattle.vsl_record.specs.Words.{IsUnit, most_words, unit_words}
use Rattle.vsl_record.proofs.Steps.{all_append}
use Rattle.vsl_file.specs.File.{log_bytes, record_bytes, unit_bytes}
use Rattle.raw_records.specs.Lines.{LoggedRecord}
use Rattle.raw_records.specs.Gathered.{gathered, gathered_from, goes_on, unit_of, with_record}
use Rattle.raw_records.proofs.GatheredLemmas.{record_size, size_more}
use Rattle.varnish_log.specs.inside.Written.{Begun, IsOf, IsWritten, Keeps, Kept, gathered_behind, words_of}
use Rattle.varnish_log.specs.inside.Writers.{GoesOnWith, IsReady}

-- one unit more, written
with_unit : (before : List ℕ) (done : Log) (u : LogUnit) → (before ++ log_bytes done) ++ unit_bytes u ≡ before ++ log_bytes (done ++ u ∷ [])
with_unit before done u =
    append_assoc before (log_bytes done) (unit_bytes u) ∙ ap (λ (x : List ℕ). before ++ (log_bytes done ++ x)) (sym (append-nil (unit_bytes u))) ∙ ap (λ (x : List ℕ). before ++ x) (sym (flat_map-append unit_bytes done (u ∷ [])))

module _ (kept : Kept) (out before : List ℕ) (ls : List LoggedRecord) where
  -- where no unit goes on, all are written
  pub all_written : IsWritten kept out before ls → kept.begun ≡ None → out ≡ before ++ log_bytes (gathered goes_on ls)
  all_written w none = of w.last w.keeps (w.goes [])
    where
      of : (last : Option LogUnit) → Keeps kept last → gathered goes_on (ls ++ []) ≡ w.done ++ gathered_behind last [] → out ≡ before ++ log_bytes (gathered goes_on ls)
      of None keeps goes = w.has ∙ ap (λ (us : Log). before ++ log_bytes us) (sym (append-nil w.done) ∙ sym goes ∙ ap (gathered goes_on) (append-nil ls))
      of (Some u) keeps goes = let is = keeps.1 in absurd cc

  -- and so they are where the one that goes on was written
  pub last_written : (o : Begun) (new : List ℕ) → IsWritten kept out before ls → kept.begun ≡ Some o
      → ((u : LogUnit) → o.words ≡ length (unit_words u) → kept.body ≡ flat_map (record_bytes u.vxid) u.records → new ≡ out ++ unit_bytes u) → new ≡ before ++ log_bytes (gathered goes_on ls)
  last_written o new w some wrote = of w.last w.keeps (w.goes [])
    where
      of : (last : Option LogUnit) → Keeps kept last → gathered goes_on (ls ++ []) ≡ w.done ++ gathered_behind last [] → new ≡ before ++ log_bytes (gathered goes_on ls)
      of None keeps goes = let is = keeps.0 in absurd cc
      of (Some u) keeps goes =
          let is = keeps.1 in
          let same : keeps.0 ≡ o = cc in
          let words : o.words ≡ length (unit_words u) = subst (λ (b : Begun). b.words ≡ length (unit_words u)) same keeps.2.words in
          wrote u words keeps.2.body ∙ ap (λ (x : List ℕ). x ++ unit_bytes u) w.has ∙ with_unit before w.done u
          ∙ ap (λ (us : Log). before ++ log_bytes us) (sym goes ∙ ap (gathered goes_on) (append-nil ls))

  -- the units of all are units, where none goes on
  pub all_units : IsWritten kept out before ls → kept.begun ≡ None → AllByRecursion IsUnit (gathered goes_on ls)
  all_units w none = of w.last w.keeps (w.goes [])
    where
      of : (last : Option LogUnit) → Keeps kept last → gathered goes_on (ls ++ []) ≡ w.done ++ gathered_behind last [] → AllByRecursion IsUnit (gathered goes_on ls)
      of None keeps goes = subst (λ (us : Log). AllByRecursion IsUnit us) (sym (append-nil w.done) ∙ sym goes ∙ ap (gathered goes_on) (append-nil ls)) w.are_units
      of (Some u) keeps goes = let is = keeps.1 in absurd cc

  -- and so they are where the one that goes on isn't too long
  pub last_units : (o : Begun) → IsWritten kept out before ls → kept.begun ≡ Some o → words_of kept ≤ most_words → AllByRecursion IsUnit (gathered goes_on ls)
  last_units o w some few = of w.last w.keeps (w.goes [])
    where
      of : (last : Option LogUnit) → Keeps kept last → gathered goes_on (ls ++ []) ≡ w.done ++ gathered_behind last [] → AllByRecursion IsUnit (gathered goes_on ls)
      of None keeps goes = let is = keeps.0 in absurd cc
      of (Some u) keeps goes =
          let short : keeps.0.words ≤ most_words = subst (λ (b : Option Begun). (elim b as (λ (o : Option Begun). ℕ) [ None ↦ 1 | Some o ↦ o.words ]) ≤ most_words) keeps.1 few in
          subst (λ (us : Log). AllByRecursion IsUnit us) (sym goes ∙ ap (gathered goes_on) (append-nil ls))
          (all_append IsUnit w.done (u ∷ []) w.are_units (record { vxid = keeps.3.vxid; some = keeps.4; records = keeps.3.records; size = omega (arith, keeps.2.words, short) }, tt))

  -- the unit that goes on is ready for a record with which it does
  pub ready_on : (o : Begun) (vxid : ℕ) (mark : Mark) → IsWritten kept out before ls → GoesOnWith kept o vxid mark → IsReady o kept.body out before ls
  ready_on o vxid mark w g = of w.last w.keeps w.goes
    where
      of : (last : Option LogUnit) → Keeps kept last → ((more : List LoggedRecord) → gathered goes_on (ls ++ more) ≡ w.done ++ gathered_behind last more) → IsReady o kept.body out before ls
      of None keeps goes = let is = keeps.0 in let other = g.is in absurd cc
      of (Some u) keeps goes =
          let is = keeps.1 in
          let other = g.is in
          let same : keeps.0 ≡ o = cc in
          record {
            done = w.done;
            are_units = w.are_units;
            unit = u;
            good = keeps.3;
            is_of = subst (λ (b : Begun). IsOf b kept.body u) same keeps.2;
            has = w.has;
            open_still = g.open_still;
            goes = λ l more vxid_is mark_is. goes (l ∷ more) ∙ ap (λ (b : Bool). w.done ++ (if b then gathered_from goes_on (with_record u l.rec) more else u ∷ gathered_from goes_on (unit_of l) more)) (g.goes u l keeps (vxid_is ∙ g.same_vxid) (mark_is ∙ g.same_mark));
          }

  -- and one that begins, where none goes on with it and all were written
  pub ready_new : (vxid : ℕ) (mark : Mark) (new : List ℕ) → vxid < vxid_end → AllByRecursion IsUnit (gathered goes_on ls) → IsWritten kept out before ls → ((u : LogUnit) (l : LoggedRecord) → Keeps kept (Some u) → l.vxid ≡ vxid → l.rec.mark ≡ mark → goes_on u l ≡ false)
      → new ≡ before ++ log_bytes (gathered goes_on ls) → IsReady (record { vxid = vxid; mark = mark; words = 1; ended = false }) [] new before ls
  ready_new vxid mark new in_range units w none all = record {
    done = gathered goes_on ls;
    are_units = units;
    good = record { vxid = in_range; records = tt };
    unit = record { vxid = vxid; mark = mark; records = [] };
    is_of = record { vxid = refl; mark = refl; words = refl; ended = refl; body = refl };
    has = all;
    open_still = refl;
    goes = λ l more vxid_is mark_is. of l more vxid_is mark_is w.last w.keeps w.goes ∙ ap (λ (u : LogUnit). gathered goes_on ls ++ gathered_from goes_on u more) (begins l vxid_is mark_is);
  }
    where
      begins : (l : LoggedRecord) → l.vxid ≡ vxid → l.rec.mark ≡ mark → unit_of l ≡ with_record (record { vxid = vxid; mark = mark; records = [] }) l.rec
      begins l vxid_is mark_is = ap (λ (v : ℕ). record { vxid = v; mark = l.rec.mark; records = l.rec ∷ [] }) vxid_is ∙ ap (λ (m : Mark). record { vxid = vxid; mark = m; records = l.rec ∷ [] }) mark_is

      of : (l : LoggedRecord) (more : List LoggedRecord) → l.vxid ≡ vxid → l.rec.mark ≡ mark → (last : Option LogUnit) → Keeps kept last → ((more : List LoggedRecord) → gathered goes_on (ls ++ more) ≡ w.done ++ gathered_behind last more)
          → gathered goes_on (ls ++ l ∷ more) ≡ gathered goes_on ls ++ gathered_from goes_on (unit_of l) more
      of l more vxid_is mark_is None keeps goes =
          goes (l ∷ more) ∙ ap (λ (us : Log). us ++ gathered_from goes_on (unit_of l) more) (sym (append-nil w.done) ∙ sym (goes []) ∙ ap (gathered goes_on) (append-nil ls))
      of l more vxid_is mark_is (Some u) keeps goes =
          goes (l ∷ more) ∙ ap (λ (b : Bool). w.done ++ (if b then gathered_from goes_on (with_record u l.rec) more else u ∷ gathered_from goes_on (unit_of l) more)) (none u l keeps vxid_is mark_is)
          ∙ sym (append_assoc w.done (u ∷ []) (gathered_from goes_on (unit_of l) more)) ∙ ap (λ (us : Log). us ++ gathered_from goes_on (unit_of l) more) (sym (goes []) ∙ ap (gathered goes_on) (append-nil ls))

-- a record was added to the unit that was ready for it
pub added : (o : Begun) (kept : Kept) (body out before : List ℕ) (ls : List LoggedRecord) (l : LoggedRecord) → IsReady o body out before ls → IsRecordOf l.rec.mark l.rec → l.vxid ≡ o.vxid → l.rec.mark ≡ o.mark
    → kept.begun ≡ Some (record { vxid = l.vxid; mark = l.rec.mark; words = o.words + 3 + (length l.rec.payload + 3) / 4; ended = l.rec.tag == end_tag }) → kept.body ≡ body ++ record_bytes l.vxid l.rec → IsWritten kept out before (ls ++ l ∷ [])
added o kept body out before ls l r rec_is vxid_is mark_is begun_is body_is =
    let vxid : l.vxid ≡ r.unit.vxid = vxid_is ∙ r.is_of.vxid in
    record {
      done = r.done;
      are_units = r.are_units;
      last = Some (with_record r.unit l.rec);
      keeps = (
        _,
        begun_is,
        record {
          vxid = vxid;
          mark = mark_is ∙ r.is_of.mark;
          words = omega (arith, r.is_of.words, size_more r.unit l.rec, record_size r.unit.vxid l.rec);
          ended = sym (list_any-append is_end r.unit.records (l.rec ∷ []) ∙ ap (λ (b : Bool). b || ((l.rec.tag == end_tag) || false)) (sym r.is_of.ended ∙ r.open_still) ∙ or-false (l.rec.tag == end_tag));
          body = body_is ∙ ap (λ (x : List ℕ). x ++ record_bytes l.vxid l.rec) r.is_of.body ∙ ap (λ (v : ℕ). flat_map (record_bytes r.unit.vxid) r.unit.records ++ record_bytes v l.rec) vxid
              ∙ ap (λ (x : List ℕ). flat_map (record_bytes r.unit.vxid) r.unit.records ++ x) (sym (append-nil (record_bytes r.unit.vxid l.rec))) ∙ sym (flat_map-append (record_bytes r.unit.vxid) r.unit.records (l.rec ∷ []));
        },
        record {
          vxid = r.good.vxid;
          records = all_append (IsRecordOf r.unit.mark) r.unit.records (l.rec ∷ []) r.good.records (subst (λ (m : Mark). IsRecordOf m l.rec) (mark_is ∙ r.is_of.mark) rec_is, tt);
        },
        omega (arith, length-append r.unit.records (l.rec ∷ [])),
      );
      has = r.has;
      goes = λ more. ap (gathered goes_on) (append_assoc ls (l ∷ []) more) ∙ r.goes l more vxid_is mark_is;
    }
  where
    is_end : Record → Bool
    is_end rec = rec.tag == end_tag
