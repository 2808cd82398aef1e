-- Taking the parts of a log, one after the other.
use Rattle.std.proofs.Common.{◌≡◌, ℕ, ◌+◌, ◌≤◌, true, false, List, [], ◌∷◌, ◌++◌, length, take, min, None, Some, Ok, Err, inl, inr, refl, sym, ap, subst, ◌∙◌, append_assoc, arith}
use Rattle.std.specs.List.{AllByRecursion, filter_map}
use Rattle.std.proofs.lemmas.Bool.{cases_lt}
use Rattle.std.proofs.lemmas.List.{append-nil, length-append, take_all}
use Rattle.std.proofs.lemmas.List.Elements.{filter_map-append}
use Rattle.std.proofs.lemmas.List.Sums.{fold_push}
use Rattle.std.specs.Prelude.{if◌then◌else◌, nat_lt}
use Rattle.vsl_record.specs.declared.mark.Mark.{Mark}
use Rattle.vsl_record.specs.Payload.{most_payload}
use Rattle.vsl_record.specs.Words.{IsUnit}
use Rattle.vsl_record.proofs.Steps.{all_append}
use Rattle.vsl_file.specs.File.{log_bytes}
use Rattle.raw_records.specs.Lines.{BlankLine, CommentLine, LoggedRecord}
use Rattle.raw_records.specs.Gathered.{gathered, goes_on}
use Rattle.varnish_log.specs.declared.form.How.{How}
use Rattle.varnish_log.specs.declared.loss.Counts.{Counts}
use Rattle.varnish_log.specs.declared.loss.Loss.{Loss}
use Rattle.varnish_log.specs.declared.loss.Loss.TheVariants.{LongPayload}
use Rattle.varnish_log.specs.declared.taking.Stop.{Stop}
use Rattle.varnish_log.specs.Counting.{with_loss, with_part}
use Rattle.varnish_log.specs.Parts.{Said}
use Rattle.varnish_log.specs.Taken.{AreTaken, StopsAs, counted_one, loss_of, taken, taken_of, with_loss_of}
use Rattle.varnish_log.specs.inside.Written.{IsWritten, Kept, nothing, words_of}
use Rattle.varnish_log.specs.inside.Views.{IsNextPart, SaysNothing, room_of, says_record, with_record}
use Rattle.varnish_log.specs.inside.Taking.{ArePartlyTaken}
use Rattle.varnish_log.proofs.PartLemmas.{part_room, splits_more}

-- ---- one record

-- no more than so many
pub take_at_most : (n k : ℕ) (xs : List ℕ) → k ≡ min (length xs) n → take k xs ≡ take n xs
take_at_most n k xs is = elim (cases_lt (length xs) n) [
  | inl short ↦ take_all k xs (omega (arith, is, short)) ∙ sym (take_all n xs (omega (arith, short)))
  | inr long ↦ ap (λ (m : ℕ). take m xs) (omega (arith, is, long))
]

-- nothing more came
pub nothing_more : (kept : Kept) (out before : List ℕ) (ls more : List LoggedRecord) → more ≡ [] → IsWritten kept out before ls → IsWritten kept out before (ls ++ more)
nothing_more kept out before ls more none w = subst (λ (x : List LoggedRecord). IsWritten kept out before x) (sym (ap (λ (x : List LoggedRecord). ls ++ x) none ∙ append-nil ls)) w

-- ---- several parts

pub partly_none : (how : How) (bytes old : List ℕ) (counts : Counts) → ArePartlyTaken how bytes bytes nothing old old counts counts
partly_none how bytes old counts = record {
  said = [];
  splits = refl;
  none_lost = λ strict. tt;
  written = record { done = []; last = None; are_units = tt; keeps = (refl, refl); has = sym (append-nil old); goes = λ more. refl };
  counts = refl;
  few = omega arith;
  ends = record { front = []; parts = refl };
}

pub partly_more : (how : How) (bytes rest behind old new next : List ℕ) (kept more : Kept) (before counts after : Counts) (one : Said) → ArePartlyTaken how bytes rest kept old new before counts → IsNextPart how.form rest one behind
    → (how.strict ≡ true → loss_of one ≡ None) → ((ls : List LoggedRecord) → IsWritten kept new old ls → IsWritten more next old (ls ++ filter_map taken_of (one ∷ []))) → after ≡ counted_one counts one → words_of more ≤ words_of kept + room_of one
    → ArePartlyTaken how bytes behind more old next before after
partly_more how bytes rest behind old new next kept more before counts after one p (part, is, parts) lost written counted_is few = record {
  said = p.said ++ one ∷ [];
  splits = splits_more how.form bytes p.said rest part behind one p.splits is parts;
  none_lost = λ strict. all_append (λ (s : Said). loss_of s ≡ None) p.said (one ∷ []) (p.none_lost strict) (lost strict, tt);
  written = subst (λ (ls : List LoggedRecord). IsWritten more next old ls) (sym (filter_map-append taken_of p.said (one ∷ []))) (written (taken p.said) p.written);
  counts = counted_is ∙ ap (λ (c : Counts). counted_one c one) p.counts ∙ sym (fold_push counted_one before p.said one);
  few = omega (arith, few, p.few, ap length parts, length-append part behind, part_room how.form part one is);
  ends = record { front = p.ends.front ++ part; parts = p.ends.parts ∙ ap (λ (x : List ℕ). p.ends.front ++ x) parts ∙ sym (append_assoc p.ends.front part behind) };
}

-- one that says nothing, or is left out
pub partly_other : (how : How) (bytes rest behind old new : List ℕ) (kept : Kept) (before counts after : Counts) (one : Said) → ArePartlyTaken how bytes rest kept old new before counts → IsNextPart how.form rest one behind
    → (how.strict ≡ true → loss_of one ≡ None) → filter_map taken_of (one ∷ []) ≡ [] → room_of one ≡ 0 → after ≡ counted_one counts one → ArePartlyTaken how bytes behind kept old new before after
partly_other how bytes rest behind old new kept before counts after one p next lost none room counted_is =
    partly_more how bytes rest behind old new new kept kept before counts after one p next lost (λ ls w. nothing_more kept new old ls _ none w) counted_is (omega (arith, room))

pub partly_nothing : (how : How) (bytes rest behind old new : List ℕ) (kept : Kept) (before counts : Counts) (one : Said) → ArePartlyTaken how bytes rest kept old new before counts → IsNextPart how.form rest one behind → SaysNothing one
    → ArePartlyTaken how bytes behind kept old new before (with_part counts)
partly_nothing how bytes rest behind old new kept before counts one p next (inl blank) = partly_other how bytes rest behind old new kept before counts (with_part counts) (Ok BlankLine) p (rw (← blank) next) (λ _. refl) refl refl refl
partly_nothing how bytes rest behind old new kept before counts one p next (inr comment) = partly_other how bytes rest behind old new kept before counts (with_part counts) (Ok CommentLine) p (rw (← comment) next) (λ _. refl) refl refl refl

pub partly_left : (how : How) (bytes rest behind old new : List ℕ) (kept : Kept) (before counts : Counts) (loss : Loss) → ArePartlyTaken how bytes rest kept old new before counts → IsNextPart how.form rest (Err loss) behind → how.strict ≡ false
    → ArePartlyTaken how bytes behind kept old new before (with_loss loss (with_part counts))
partly_left how bytes rest behind old new kept before counts loss p next lenient = partly_other how bytes rest behind old new kept before counts (with_loss loss (with_part counts)) (Err loss) p next (λ strict. absurd (true_false (sym strict ∙ lenient))) refl refl refl
  where
    true_false : true ≡ false → ⊥
    true_false e = cc

-- what is counted of a record
pub record_counted : (counts : Counts) (vxid tag : ℕ) (mark : Mark) (payload : List ℕ) → with_record (length payload) counts ≡ counted_one counts (says_record vxid tag mark payload)
record_counted counts vxid tag mark payload = elim (nat_lt most_payload (length payload)) as (λ t. (if t then with_loss LongPayload (with_part counts) else with_part counts) ≡ with_loss_of (if t then Some LongPayload else None) (with_part counts)) [ true ↦ refl | false ↦ refl ]

pub partly_all : (how : How) (stop : Stop) (bytes rest old new next : List ℕ) (kept : Kept) (before after : Counts) → ArePartlyTaken how bytes rest kept old new before after → StopsAs how stop rest
    → ((ls : List LoggedRecord) → IsWritten kept new old ls → next ≡ old ++ log_bytes (gathered goes_on ls))
    → ((ls : List LoggedRecord) → IsWritten kept new old ls → AllByRecursion IsUnit (gathered goes_on ls)) → AreTaken how stop bytes rest old next before after
partly_all how stop bytes rest old new next kept before after p stops closed units = record {
  said = p.said;
  splits = p.splits;
  none_lost = p.none_lost;
  stops = stops;
  added = closed (taken p.said) p.written;
  are_units = units (taken p.said) p.written;
  counts = p.counts;
}
