-- Parts that came in pieces are parts of all that came.
use Rattle.std.proofs.Common.{◌≡◌, ℕ, Bool, true, List, [], ◌∷◌, ◌++◌, None, refl, sym, ap, subst, ◌∙◌, inl, inr, arith}
use Rattle.std.specs.List.{AllByRecursion, flat_map}
use Rattle.std.proofs.lemmas.Bool.{cases_Bool}
use Rattle.std.proofs.lemmas.List.{append_assoc, append-nil, map-append}
use Rattle.std.proofs.lemmas.List.Concat.{flat_map-append}
use Rattle.std.proofs.lemmas.List.Elements.{filter_map-append}
use Rattle.std.proofs.lemmas.List.Sums.{fold-append}
use Rattle.vsl_record.specs.declared.record_type.Record.{Record}
use Rattle.vsl_record.specs.Unit.{LogUnit, Log}
use Rattle.vsl_record.specs.Words.{IsUnit}
use Rattle.vsl_file.specs.File.{log_bytes, unit_bytes}
use Rattle.raw_records.specs.Lines.{LoggedRecord}
use Rattle.raw_records.specs.Gathered.{gathered, gathered_from, goes_on, logged, unit_of, with_record}
use Rattle.varnish_log.specs.declared.form.How.{How}
use Rattle.varnish_log.specs.declared.form.LogForm.{LogForm}
use Rattle.varnish_log.specs.declared.loss.Counts.{Counts}
use Rattle.varnish_log.specs.Copied.{ArePieces, IsPiece, Piece}
use Rattle.varnish_log.specs.Parts.{Said, Splits}
use Rattle.varnish_log.specs.Taken.{AreTaken, counted, counted_one, loss_of, taken, taken_of}

-- ---- units of records

-- whether a batch goes on with a record of its VXID
goes_same : (u : LogUnit) (l : LoggedRecord) → goes_on u l ≡ true → u.vxid ≡ l.vxid
goes_same u l on = grind arith

-- a unit with a record more
logged_more : (u : LogUnit) (l : LoggedRecord) → u.vxid ≡ l.vxid → logged (with_record u l.rec) ≡ logged u ++ l ∷ []
logged_more u l same = map-append (λ (rec : Record). record { vxid = u.vxid; rec = rec }) u.records (l.rec ∷ []) ∙ ap (λ (v : ℕ). logged u ++ (record { vxid = v; rec = l.rec }) ∷ []) same

-- units have the records of which they were made, in order
from_in_order : (ls : List LoggedRecord) (begun : LogUnit) → flat_map logged (gathered_from goes_on begun ls) ≡ logged begun ++ ls
from_in_order [] begun = refl
from_in_order (l ∷ ls) begun = elim (cases_Bool (goes_on begun l)) [
  | inl on ↦ rw on (from_in_order ls (with_record begun l.rec) ∙ ap (λ (xs : List LoggedRecord). xs ++ ls) (logged_more begun l (goes_same begun l on)) ∙ append_assoc (logged begun) (l ∷ []) ls)
  | inr off ↦ rw off (ap (λ (xs : List LoggedRecord). logged begun ++ xs) (from_in_order ls (unit_of l)))
]

in_order : (ls : List LoggedRecord) → flat_map logged (gathered goes_on ls) ≡ ls
in_order [] = refl
in_order (l ∷ ls) = from_in_order ls (unit_of l)

-- ---- parts

-- behind parts and their rest come more bytes, of which there are more parts
splits_then : (form : LogForm) (a b : List ℕ) (said more : List Said) (r rest : List ℕ) → Splits form a said r → Splits form (r ++ b) more rest → Splits form (a ++ b) (said ++ more) rest
splits_then form a b [] more r rest same next = subst (λ (x : List ℕ). Splits form (x ++ b) more rest) (sym same) next
splits_then form a b (s ∷ said) more r rest (part, next, is, are, behind) then =
    (part, next ++ b, is, ap (λ (x : List ℕ). x ++ b) are ∙ append_assoc part next b, splits_then form next b said more r rest behind then)

-- or none
pub splits_on : (form : LogForm) (a b : List ℕ) (said : List Said) (r : List ℕ) → Splits form a said r → Splits form (a ++ b) said (r ++ b)
splits_on form a b [] r same = ap (λ (x : List ℕ). x ++ b) same
splits_on form a b (s ∷ said) r (part, next, is, are, behind) = (part, next ++ b, is, ap (λ (x : List ℕ). x ++ b) are ∙ append_assoc part next b, splits_on form next b said r behind)

all_append : {X : Type 0} (P : X → Type 0) (xs ys : List X) → AllByRecursion P xs → AllByRecursion P ys → AllByRecursion P (xs ++ ys)
all_append P [] ys p q = q
all_append P (x ∷ xs) ys p q = (p.0, all_append P xs ys p.1 q)

-- ---- what came in pieces

-- behind what was held these bytes came, and of both these parts were taken, of which this text was written, and this is the rest
pub record AreParsed (how : How) (held came text rest : List ℕ) (before after : Counts) : Type 0 where
  pub said : List Said
  pub splits : Splits how.form (held ++ came) said rest
  pub none_lost : how.strict ≡ true → AllByRecursion (λ s. loss_of s ≡ None) said
  pub counts : after ≡ counted before said
  pub units : Log
  pub correct : AllByRecursion IsUnit units
  pub records : flat_map logged units ≡ taken said
  pub text_is : text ≡ log_bytes units

pub parsed_piece : (how : How) (stop : _) (p : Piece) (held rest : List ℕ) (before after : Counts) → IsPiece how stop p held rest before after → AreParsed how held p.came p.text rest before after
parsed_piece how stop p held rest before after is = record {
  said = is.said;
  splits = is.splits;
  none_lost = is.none_lost;
  counts = is.counts;
  units = gathered goes_on (taken is.said);
  correct = is.are_units;
  records = in_order (taken is.said);
  text_is = is.added;
}

pub parsed_then : (how : How) (held a b t u mid rest : List ℕ) (before between after : Counts) → AreParsed how held a t mid before between → AreParsed how mid b u rest between after → AreParsed how held (a ++ b) (t ++ u) rest before after
parsed_then how held a b t u mid rest before between after p q = record {
  said = p.said ++ q.said;
  splits = subst (λ (x : List ℕ). Splits how.form x (p.said ++ q.said) rest) (append_assoc held a b) (splits_then how.form (held ++ a) b p.said q.said mid rest p.splits q.splits);
  none_lost = λ strict. all_append (λ s. loss_of s ≡ None) p.said q.said (p.none_lost strict) (q.none_lost strict);
  counts = q.counts ∙ ap (λ (c : Counts). counted c q.said) p.counts ∙ sym (fold-append counted_one before p.said q.said);
  units = p.units ++ q.units;
  correct = all_append IsUnit p.units q.units p.correct q.correct;
  records = flat_map-append logged p.units q.units ∙ ap (λ (x : List LoggedRecord). x ++ flat_map logged q.units) p.records ∙ ap (λ (x : List LoggedRecord). taken p.said ++ x) q.records ∙ sym (filter_map-append taken_of p.said q.said);
  text_is = ap (λ (x : List ℕ). x ++ u) p.text_is ∙ ap (λ (x : List ℕ). log_bytes p.units ++ x) q.text_is ∙ sym (flat_map-append unit_bytes p.units q.units);
}

parsed_none : (how : How) (held rest : List ℕ) (before after : Counts) → rest ≡ held → after ≡ before → AreParsed how held [] [] rest before after
parsed_none how held rest before after same counts = record {
  said = [];
  splits = append-nil held ∙ sym same;
  none_lost = λ strict. tt;
  counts = counts;
  units = [];
  correct = tt;
  records = refl;
  text_is = refl;
}

-- the bytes of pieces, and their texts
abbrev pub all_came : List Piece → List ℕ
all_came pieces = flat_map (λ p. p.came) pieces

abbrev pub all_text : List Piece → List ℕ
all_text pieces = flat_map (λ p. p.text) pieces

pub parsed_pieces : (how : How) (pieces : List Piece) (held rest : List ℕ) (before after : Counts) → ArePieces how held before pieces rest after → AreParsed how held (all_came pieces) (all_text pieces) rest before after
parsed_pieces how [] held rest before after (same, counts) = parsed_none how held rest before after same counts
parsed_pieces how (p ∷ ps) held rest before after (some, next, counts, is, more) =
    parsed_then how held p.came (all_came ps) p.text (all_text ps) next rest before counts after (parsed_piece how _ p held next before counts is) (parsed_pieces how ps next rest counts after more)
