-- Reading a listing line by line.
use Rattle.std.proofs.Common.{◌≡◌, ◌⊎◌, ℕ, ◌+◌, ◌<◌, ◌≤◌, List, [], ◌∷◌, ◌++◌, length, Option, None, Some, inl, inr, refl, sym, ap, subst, ◌∙◌, arith}
use Rattle.std.specs.List.{All, AllByRecursion, AllZip, fold}
use Rattle.std.specs.Str.Lines.{lines}
use Rattle.std.proofs.lemmas.Bool.{cases_Bool}
use Rattle.std.proofs.lemmas.List.{append-nil, append_assoc, length_push, nil_from_length}
use Rattle.std.proofs.lemmas.List.Elements.{All-from_recursion}
use Rattle.std.proofs.lemmas.List.Sums.{fold_push}
use Rattle.vsl_record.specs.Unit.{LogUnit, Log}
use Rattle.raw_records.specs.Lines.{LoggedRecord, Line, BlankLine, CommentLine, RecordLine, IsLine, HasLines, IsFirstBad}
use Rattle.raw_records.specs.Gathered.{goes_on, shortened}
use Rattle.traffic_feed.specs.Batches.{IsWithin, has_room, listing_units, listing_cuts}
use Rattle.traffic_feed.specs.Listing.{IsListing}
use Rattle.traffic_feed.specs.inside.Gathering.{Gathered, ended, nothing, taken_by, stepped, gathered_lines}
use Rattle.traffic_feed.specs.inside.Partly.{IsPartlyRead}
use Rattle.traffic_feed.proofs.BatchLemmas.{gathered_units, gathered_cuts}
use Rattle.traffic_feed.proofs.BoundLemmas.{IsBounded, IsBounded-listing}
use Rattle.raw_records.proofs.LineLemmas.{all_or_bad, one_list, no_bad}

-- ---- a step

cuts_taken : (o : Option LogUnit) (g : Gathered) (l : LoggedRecord) → (taken_by o g l).cuts ≤ g.cuts + 1
cuts_taken None g l = omega arith
cuts_taken (Some u) g l = elim (cases_Bool (goes_on u l)) [
  | inl on ↦ elim (cases_Bool (has_room g.seg u l)) [ inl fits ↦ rw (on, fits) (omega arith) | inr full ↦ rw (on, full) (omega arith) ]
  | inr off ↦ rw off (omega arith)
]

cuts_stepped : (g : Gathered) (l : Line) → (stepped g l).cuts ≤ g.cuts + 1
cuts_stepped g BlankLine = omega arith
cuts_stepped g CommentLine = omega arith
cuts_stepped g (RecordLine l) = cuts_taken g.begun g (shortened g.most l)

seg_taken : (o : Option LogUnit) (g : Gathered) (l : LoggedRecord) → (taken_by o g l).seg ≡ g.seg
seg_taken None g l = refl
seg_taken (Some u) g l = elim (cases_Bool (goes_on u l)) [
  | inl on ↦ elim (cases_Bool (has_room g.seg u l)) [ inl fits ↦ rw (on, fits) refl | inr full ↦ rw (on, full) refl ]
  | inr off ↦ rw off refl
]

pub seg_folded : (ls : List Line) (g : Gathered) → (fold stepped g ls).seg ≡ g.seg
seg_folded [] g = refl
seg_folded (BlankLine ∷ ls) g = seg_folded ls (ended g)
seg_folded (CommentLine ∷ ls) g = seg_folded ls g
seg_folded (RecordLine l ∷ ls) g = seg_folded ls (taken_by g.begun g (shortened g.most l)) ∙ seg_taken g.begun g (shortened g.most l)

zip_push : (texts : List (List ℕ)) (ls : List Line) (text : List ℕ) (l : Line) → AllZip IsLine texts ls → IsLine text l → AllZip IsLine (texts ++ text ∷ []) (ls ++ l ∷ [])
zip_push [] [] text l are is = (is, tt)
zip_push [] (m ∷ ls) text l are is = absurd are
zip_push (t ∷ texts) [] text l are is = absurd are
zip_push (t ∷ texts) (m ∷ ls) text l are is = (are.0, zip_push texts ls text l are.1 is)

-- no line was read
pub IsPartlyRead-none : (bytes : List ℕ) (reclen seg : ℕ) (g : Gathered) → g ≡ nothing reclen seg → IsPartlyRead bytes bytes reclen seg 0 g
IsPartlyRead-none bytes reclen seg g is = record {
  texts = [];
  meant = [];
  parts = refl;
  are_lines = tt;
  place = refl;
  state = is;
  short = omega arith;
  few_cuts = omega (arith, ap (λ (g : Gathered). g.cuts) is);
}

-- a line more was read
pub IsPartlyRead-more : (bytes rest text behind : List ℕ) (reclen seg line : ℕ) (g new : Gathered) (l : Line) → IsPartlyRead bytes rest reclen seg line g → lines rest ≡ text ∷ lines behind → length behind < length rest → IsLine text l → new ≡ stepped g l
    → IsPartlyRead bytes behind reclen seg (line + 1) new
IsPartlyRead-more bytes rest text behind reclen seg line g new l read first shorter is step = record {
  texts = read.texts ++ text ∷ [];
  meant = read.meant ++ l ∷ [];
  parts = read.parts ∙ ap (λ more. read.texts ++ more) first ∙ sym (append_assoc read.texts (text ∷ []) (lines behind));
  are_lines = zip_push read.texts read.meant text l read.are_lines is;
  place = omega (arith, read.place, length_push read.texts text);
  state = step ∙ ap (λ g. stepped g l) read.state ∙ sym (fold_push stepped (nothing reclen seg) read.meant l);
  short = omega (arith, read.short);
  few_cuts = omega (arith, read.few_cuts, ap (λ (g : Gathered). g.cuts) step, cuts_stepped g l);
}

-- the next line is bad
pub IsFirstBad-next : (bytes rest text behind : List ℕ) (reclen seg line : ℕ) (g : Gathered) → IsPartlyRead bytes rest reclen seg line g → lines rest ≡ text ∷ lines behind → ((l : Line) → ¬ (IsLine text l)) → IsFirstBad bytes (line + 1)
IsFirstBad-next bytes rest text behind reclen seg line g read first bad = record {
  before = read.texts;
  bad = text;
  behind = lines behind;
  meant = read.meant;
  parts = read.parts ∙ ap (λ more. read.texts ++ more) first;
  place = omega (arith, read.place);
  are_lines = read.are_lines;
  is_bad = bad;
}

-- ---- the end

all_read : (bytes rest : List ℕ) (reclen seg line : ℕ) (g : Gathered) (read : IsPartlyRead bytes rest reclen seg line g) → length rest ≡ 0 → HasLines bytes read.meant
all_read bytes rest reclen seg line g read none =
    let all : lines bytes ≡ read.texts = read.parts ∙ ap (λ more. read.texts ++ lines more) (nil_from_length rest none) ∙ append-nil read.texts in
    subst (λ texts. AllZip IsLine texts read.meant) (sym all) read.are_lines

-- all lines were read
pub record IsRead (bytes : List ℕ) (reclen seg : ℕ) (units : Log) (cuts : ℕ) : Type 0 where
  pub listing : IsListing bytes reclen seg units cuts
  pub bounded : IsBounded units cuts (length bytes)

pub IsRead-from : (bytes rest : List ℕ) (reclen seg line : ℕ) (g : Gathered) (units : Log) (cuts : ℕ) → IsPartlyRead bytes rest reclen seg line g → length rest ≡ 0 → units ≡ (ended g).units → cuts ≡ g.cuts → IsRead bytes reclen seg units cuts
IsRead-from bytes rest reclen seg line g units cuts read none units_are cuts_are =
    let has = all_read bytes rest reclen seg line g read none in
    let units_is : units ≡ (ended (gathered_lines reclen seg read.meant)).units = units_are ∙ ap (λ g. (ended g).units) read.state in
    let cuts_is : cuts ≡ (gathered_lines reclen seg read.meant).cuts = cuts_are ∙ ap (λ (g : Gathered). g.cuts) read.state in
    record {
      listing = record { meant = read.meant; has_lines = has; units_are = units_is ∙ gathered_units reclen seg read.meant; cuts_are = cuts_is ∙ gathered_cuts reclen seg read.meant };
      bounded = rw (units_is, cuts_is) (IsBounded-listing bytes reclen seg read.meant has);
    }

pub within_segment : (bytes rest : List ℕ) (reclen seg line : ℕ) (g : Gathered) (units : Log) → IsPartlyRead bytes rest reclen seg line g → AllByRecursion (IsWithin g.seg) units → All (IsWithin seg) units
within_segment bytes rest reclen seg line g units read all =
    let same : g.seg ≡ seg = ap (λ (g : Gathered). g.seg) read.state ∙ seg_folded read.meant (nothing reclen seg) in
    All-from_recursion (IsWithin seg) units (subst (λ n. AllByRecursion (IsWithin n) units) same all)

-- ---- laws

-- a listing has one list of units and one number of cuts
pub one_listing : (bytes : List ℕ) (reclen seg : ℕ) (us vs : Log) (m n : ℕ) → IsListing bytes reclen seg us m → IsListing bytes reclen seg vs n → (us ≡ vs) × (m ≡ n)
one_listing bytes reclen seg us vs m n a b =
    let same = one_list (lines bytes) a.meant b.meant a.has_lines b.has_lines in
    (a.units_are ∙ ap (λ ls. listing_units reclen seg ls) same ∙ sym b.units_are, a.cuts_are ∙ ap (λ ls. listing_cuts reclen seg ls) same ∙ sym b.cuts_are)

-- and no bad line
pub no_bad_line : (bytes : List ℕ) (reclen seg : ℕ) (units : Log) (cuts line : ℕ) → IsListing bytes reclen seg units cuts → IsFirstBad bytes line → ⊥
no_bad_line bytes reclen seg units cuts line listing bad = no_bad bytes listing.meant line listing.has_lines bad

-- bytes are a listing or have a first bad line
pub every_listing : (bytes : List ℕ) (reclen seg : ℕ) → ((units : Log) × (cuts : ℕ) × IsListing bytes reclen seg units cuts) ⊎ ((line : ℕ) × IsFirstBad bytes line)
every_listing bytes reclen seg = elim (all_or_bad (lines bytes)) [
  | inl all ↦ inl (listing_units reclen seg all.meant, listing_cuts reclen seg all.meant, record { meant = all.meant; has_lines = all.are; units_are = refl; cuts_are = refl })
  | inr bad ↦ inr (length bad.before + 1, record { before = bad.before; bad = bad.bad; behind = bad.behind; meant = bad.meant; parts = bad.parts; place = refl; are_lines = bad.are_lines; is_bad = bad.is_bad })
]
