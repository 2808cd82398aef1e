-- The seat of a writer after a put.
use Rattle.std.proofs.Common.{◌≡◌, ◌≢◌, ℕ, ◌+◌, ◌-◌, ◌≤◌, Bool, true, false, cond, not, max, List, [], ◌∷◌, ◌++◌, length, sym, refl, ap, ◌∙◌, arith, ne_eqb}
use Rattle.atomic_table.specs.Table.{Me}
use Rattle.vsl_record.specs.Unit.{LogUnit}
use Rattle.vsl_record.specs.Words.{unit_words}
use Rattle.ring_layout.specs.Places.{stays}
use Rattle.log_ring.specs.declared.rule.Progress.TheVariants.{Storing}
use Rattle.log_ring.specs.declared.rule.View.{View}
use Rattle.log_ring.specs.Writers.{count_wrapped}
use Rattle.log_ring.specs.inside.Writing.{begun, first_entries, after_acquire}
use Rattle.log_ring.specs.inside.Steps.{IsWriterSeat, first_number, with_put}

abbrev one_if : Bool → ℕ
one_if stay = cond stay 0 1

pub wrapped_push : (seg t : ℕ) (u : LogUnit) (es : List (ℕ × LogUnit)) → count_wrapped seg (es ++ (t, u) ∷ []) ≡ count_wrapped seg es + one_if (stays seg t (length (unit_words u)))
wrapped_push seg t u [] = omega arith
wrapped_push seg t u (e ∷ es) = let rest = wrapped_push seg t u es in omega arith

one_low : (b : Bool) → one_if b ≤ 1
one_low true = omega arith
one_low false = omega arith

-- no more units wrapped than were put
pub wrapped_short : (seg : ℕ) (es : List (ℕ × LogUnit)) → count_wrapped seg es ≤ length es
wrapped_short seg [] = omega arith
wrapped_short seg (e ∷ es) = let rest = wrapped_short seg es in let one = one_low (stays seg e.0 (length (unit_words e.1))) in omega arith

pub record IsPutSeat (old new : Me ℕ View) (t : ℕ) (u : LogUnit) : Type 0 where
  pub seat : IsWriterSeat new
  pub entries : first_entries new.0.writers ≡ first_entries old.0.writers ++ (t, u) ∷ []
  pub ring : new.0.ring ≡ old.0.ring

-- the seat of a writer that got the write token, stored the unit and gave the write token back
pub put_seat : (old mid new : Me ℕ View) (token t : ℕ) (u v : LogUnit) → IsWriterSeat old → mid ≡ (after_acquire unit_words v token old.0, old.1) → token ≢ 0 → new ≡ (with_put t u mid.0, mid.1) → IsPutSeat old new t u
put_seat old mid new token t u v is took got put =
    let w : View = record old.0 { progress = Storing (begun unit_words old.0.ring.seg (token - 1) v); found = max old.0.found (token - 1) } in
    let mid_is : mid ≡ (w, old.1) = took ∙ (λ i. (cond (ne_eqb token 0 got i) (record old.0 { busy = old.0.busy + 1 }) w, old.1)) in
    let new_is : new ≡ (with_put t u w, old.1) = put ∙ ap (λ (m : Me ℕ View). (with_put t u m.0, m.1)) mid_is in record {
      seat = record {
        idle = ap (λ (m : Me ℕ View). m.1) new_is ∙ is.idle;
        progress = ap (λ (m : Me ℕ View). m.0.progress) new_is;
        finished = ap (λ (m : Me ℕ View). m.0.finished) new_is ∙ is.finished;
        writer = record { number = first_number old.0.writers; entries = first_entries old.0.writers ++ (t, u) ∷ [] };
        one = ap (λ (m : Me ℕ View). m.0.writers) new_is;
        no_reader = ap (λ (m : Me ℕ View). m.0.readers) new_is ∙ is.no_reader;
      };
      entries = ap (λ (m : Me ℕ View). first_entries m.0.writers) new_is;
      ring = ap (λ (m : Me ℕ View). m.0.ring) new_is;
    }

-- the count of those that wrapped, with one unit more
pub count_put : (old new : Me ℕ View) (t : ℕ) (u : LogUnit) (wraps : ℕ) (b : Bool) → IsPutSeat old new t u → wraps ≡ count_wrapped old.0.ring.seg (first_entries old.0.writers) → b ≡ stays old.0.ring.seg t (length (unit_words u))
    → wraps + one_if b ≡ count_wrapped new.0.ring.seg (first_entries new.0.writers)
count_put old new t u wraps b put is stay =
    let push = wrapped_push old.0.ring.seg t u (first_entries old.0.writers) in
    let one : one_if b ≡ one_if (stays old.0.ring.seg t (length (unit_words u))) = ap one_if stay in
    let sum : wraps + one_if b ≡ count_wrapped old.0.ring.seg (first_entries old.0.writers ++ (t, u) ∷ []) = omega arith in
    sum ∙ (λ i. count_wrapped (sym put.ring i).seg (sym put.entries i))

pub not_true : {b : Bool} → true ≡ not b → b ≡ false
not_true {b = true} e = cc e
not_true {b = false} e = refl

pub not_false : {b : Bool} → false ≡ not b → b ≡ true
not_false {b = true} e = refl
not_false {b = false} e = cc e
