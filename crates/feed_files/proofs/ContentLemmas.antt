-- The contents of feeds are listings, or one has the first fault.
use Rattle.std.proofs.Common.{◌≡◌, ◌⊎◌, ℕ, ◌+◌, ◌≤◌, List, [], ◌∷◌, ◌++◌, length, length-append, Some, refl, sym, ap, subst, ◌∙◌, append_assoc, inl, inr, arith}
use Rattle.std.proofs.lemmas.List.{append-nil}
use Rattle.std.proofs.lemmas.Slice.Zip.{all_zipped_more}
use mathlib.Core.Logic.{dite}
use native.Mathlib.Decide.{dec_le}
use Rattle.vio.specs.World.{Seen}
use Rattle.vio.specs.Calls.{Call, Did}
use Rattle.vio.specs.Steps.{Passed}
use Rattle.vio.proofs.CallLemmas.{did_apart}
use Rattle.vio.proofs.CallLaws.{did_keep}
use Rattle.vio.proofs.ReadLemmas.{read_opens, told_large, told_read, unopened_counts, unread_counts}
use Rattle.vsl_record.specs.Unit.{Log}
use Rattle.traffic_feed.specs.declared.listing.Listing.{Listing}
use Rattle.raw_records.specs.Lines.{IsFirstBad}
use Rattle.traffic_feed.specs.Listing.{IsListing}
use Rattle.feed_files.specs.declared.fault.FeedFault.{FeedFault}
use Rattle.feed_files.specs.declared.fault.FeedFault.TheVariants.{NoOpen, ReadFault, TooLarge, BadListing}
use Rattle.feed_files.specs.Feeds.{Feed, IsFeed, AreListings, FeedsHold, HasBytesFault, HasContentFault, CallFailed, FeedPasses, FeedStops, AreFeedsRead, StoppedByFeed, feeds_from, most_feed_bytes}

-- the laws of listings
abbrev pub EveryListing : Type 0
EveryListing = (bytes : List ℕ) (reclen seg : ℕ) → ((units : Log) × (cuts : ℕ) × IsListing bytes reclen seg units cuts) ⊎ ((line : ℕ) × IsFirstBad bytes line)

abbrev pub OneListing : Type 0
OneListing = (bytes : List ℕ) (reclen seg : ℕ) (us vs : Log) (m n : ℕ) → IsListing bytes reclen seg us m → IsListing bytes reclen seg vs n → (us ≡ vs) × (m ≡ n)

abbrev pub NoneBad : Type 0
NoneBad = (bytes : List ℕ) (reclen seg : ℕ) (units : Log) (cuts line : ℕ) → IsListing bytes reclen seg units cuts → IsFirstBad bytes line → ⊥

-- a feed

-- the bytes of a feed are one listing
one_feed : OneListing → (reclen seg : ℕ) (bytes : List ℕ) (a b : Listing) → IsFeed reclen seg bytes a → IsFeed reclen seg bytes b → a ≡ b
one_feed one reclen seg bytes a b p q =
    let same = one bytes reclen seg a.units b.units a.cuts b.cuts p.is q.is in λ i. record { units = same.0 i; cuts = same.1 i }

-- the bytes of a feed are a listing, or have a fault
within_or_bad : (reclen seg n : ℕ) (name bytes : List ℕ) → length bytes ≤ most_feed_bytes → ((units : Log) × (cuts : ℕ) × IsListing bytes reclen seg units cuts) ⊎ ((line : ℕ) × IsFirstBad bytes line)
    → ((listing : Listing) × IsFeed reclen seg bytes listing) ⊎ ((fault : FeedFault) × HasBytesFault n name bytes fault)
within_or_bad reclen seg n name bytes within (inl is) = inl (record { units = is.0; cuts = is.1 }, record { within = within; is = is.2 })
within_or_bad reclen seg n name bytes within (inr bad) = inr (BadListing n bad.0, (refl, within, bad.1))

feed_or_fault : EveryListing → (reclen seg n : ℕ) (name bytes : List ℕ) → ((listing : Listing) × IsFeed reclen seg bytes listing) ⊎ ((fault : FeedFault) × HasBytesFault n name bytes fault)
feed_or_fault every reclen seg n name bytes =
    dite (dec_le (length bytes) most_feed_bytes) (λ within. within_or_bad reclen seg n name bytes within (every bytes reclen seg)) (λ more. inr (TooLarge name most_feed_bytes, (refl, refl, omega (arith, more))))

-- the bytes of a feed that are a listing have no fault
feed_no_fault : NoneBad → (reclen seg n : ℕ) (name bytes : List ℕ) (listing : Listing) (fault : FeedFault) → IsFeed reclen seg bytes listing → HasBytesFault n name bytes fault → ⊥
feed_no_fault none reclen seg n name bytes listing (NoOpen called) p q = absurd q
feed_no_fault none reclen seg n name bytes listing (ReadFault called) p q = absurd q
feed_no_fault none reclen seg n name bytes listing (TooLarge called limit) p q = let within = p.within in let more = q.2 in omega (arith, within, more)
feed_no_fault none reclen seg n name bytes listing (BadListing feed line) p q = none bytes reclen seg listing.units listing.cuts line p.is q.2

-- several feeds

-- contents are one list of listings at most
pub one_listings : OneListing → (reclen seg : ℕ) (contents : List (List ℕ)) (a b : List Listing) → AreListings reclen seg contents a → AreListings reclen seg contents b → a ≡ b
one_listings one reclen seg [] [] [] p q = refl
one_listings one reclen seg [] [] (m ∷ b) p q = absurd q
one_listings one reclen seg [] (l ∷ a) b p q = absurd p
one_listings one reclen seg (bytes ∷ contents) [] b p q = absurd p
one_listings one reclen seg (bytes ∷ contents) (l ∷ a) [] p q = absurd q
one_listings one reclen seg (bytes ∷ contents) (l ∷ a) (m ∷ b) p q = let first = one_feed one reclen seg bytes l m p.0 q.0 in let rest = one_listings one reclen seg contents a b p.1 q.1 in cc

-- contents of which one has a fault are no listings
none_faulty : NoneBad → (reclen seg n : ℕ) (name : List ℕ) (earlier : List (List ℕ)) (bytes : List ℕ) (later : List (List ℕ)) (listings : List Listing) (fault : FeedFault) → AreListings reclen seg (earlier ++ bytes ∷ later) listings
    → HasBytesFault n name bytes fault → ⊥
none_faulty none reclen seg n name [] bytes later [] fault p q = absurd p
none_faulty none reclen seg n name [] bytes later (l ∷ ls) fault p q = feed_no_fault none reclen seg n name bytes l fault p.0 q
none_faulty none reclen seg n name (first ∷ earlier) bytes later [] fault p q = absurd p
none_faulty none reclen seg n name (first ∷ earlier) bytes later (l ∷ ls) fault p q = none_faulty none reclen seg n name earlier bytes later ls fault p.1 q

pub listings_no_fault : NoneBad → (reclen seg : ℕ) (names contents : List (List ℕ)) (listings : List Listing) (fault : FeedFault) → AreListings reclen seg contents listings → HasContentFault reclen seg names contents fault → ⊥
listings_no_fault none reclen seg names contents listings fault p q =
    none_faulty none reclen seg (length q.earlier) q.name q.earlier q.bytes q.later listings fault (subst (λ (xs : List (List ℕ)). AreListings reclen seg xs listings) q.contents_are p) q.stops

-- of the contents of feeds the first n are listings; behind them come the rest
record ListedUntil (reclen seg n : ℕ) (names contents rest_names rest : List (List ℕ)) : Type 0 where
  before : List (List ℕ)
  names_are : names ≡ before ++ rest_names
  names_long : length before ≡ n
  earlier : List (List ℕ)
  contents_are : contents ≡ earlier ++ rest
  long : length earlier ≡ n
  listings : List Listing
  are : AreListings reclen seg earlier listings

listed_none : (reclen seg : ℕ) (names contents : List (List ℕ)) → ListedUntil reclen seg 0 names contents names contents
listed_none reclen seg names contents = record { before = []; names_are = refl; names_long = refl; earlier = []; contents_are = refl; long = refl; listings = []; are = tt }

listed_more : (reclen seg n : ℕ) (names contents : List (List ℕ)) (name : List ℕ) (rest_names : List (List ℕ)) (bytes : List ℕ) (rest : List (List ℕ)) (listing : Listing) → ListedUntil reclen seg n names contents (name ∷ rest_names) (bytes ∷ rest)
    → IsFeed reclen seg bytes listing → ListedUntil reclen seg (n + 1) names contents rest_names rest
listed_more reclen seg n names contents name rest_names bytes rest listing p is = record {
  before = p.before ++ name ∷ [];
  names_are = p.names_are ∙ sym (append_assoc p.before (name ∷ []) rest_names);
  names_long = omega (arith, p.names_long, length-append p.before (name ∷ []));
  earlier = p.earlier ++ bytes ∷ [];
  contents_are = p.contents_are ∙ sym (append_assoc p.earlier (bytes ∷ []) rest);
  long = omega (arith, p.long, length-append p.earlier (bytes ∷ []));
  listings = p.listings ++ listing ∷ [];
  are = all_zipped_more (IsFeed reclen seg) p.earlier p.listings bytes listing p.are is;
}

listed_fault : (reclen seg n : ℕ) (names contents : List (List ℕ)) (name : List ℕ) (rest_names : List (List ℕ)) (bytes : List ℕ) (rest : List (List ℕ)) (fault : FeedFault) → ListedUntil reclen seg n names contents (name ∷ rest_names) (bytes ∷ rest)
    → HasBytesFault n name bytes fault → HasContentFault reclen seg names contents fault
listed_fault reclen seg n names contents name rest_names bytes rest fault p has = record {
  earlier_names = p.before;
  name = name;
  later_names = rest_names;
  names_are = p.names_are;
  earlier = p.earlier;
  bytes = bytes;
  later = rest;
  contents_are = p.contents_are;
  place = p.long ∙ sym p.names_long;
  listings = p.listings;
  are_listings = p.are;
  stops = subst (λ (k : ℕ). HasBytesFault k name bytes fault) (sym p.long) has;
}

-- contents are listings, or one has the first fault
listed_or_fault : EveryListing → (reclen seg n : ℕ) (names contents rest_names rest : List (List ℕ)) → length rest ≡ length rest_names → ListedUntil reclen seg n names contents rest_names rest
    → ((listings : List Listing) × AreListings reclen seg contents listings) ⊎ ((fault : FeedFault) × HasContentFault reclen seg names contents fault)
listed_or_fault every reclen seg n names contents [] [] e p = inl (p.listings, subst (λ (xs : List (List ℕ)). AreListings reclen seg xs p.listings) (sym (append-nil p.earlier) ∙ sym p.contents_are) p.are)
listed_or_fault every reclen seg n names contents [] (bytes ∷ rest) e p = let no : ⊥ = omega (arith, e) in absurd no
listed_or_fault every reclen seg n names contents (name ∷ rest_names) [] e p = let no : ⊥ = omega (arith, e) in absurd no
listed_or_fault every reclen seg n names contents (name ∷ rest_names) (bytes ∷ rest) e p = elim (feed_or_fault every reclen seg n name bytes) [
  | inl is ↦ listed_or_fault every reclen seg (n + 1) names contents rest_names rest (omega (arith, e)) (listed_more reclen seg n names contents name rest_names bytes rest is.0 p is.1)
  | inr has ↦ inr (has.0, listed_fault reclen seg n names contents name rest_names bytes rest has.0 p has.1)
]

pub listings_or_fault : EveryListing → (reclen seg : ℕ) (names contents : List (List ℕ)) → length contents ≡ length names
    → ((listings : List Listing) × AreListings reclen seg contents listings) ⊎ ((fault : FeedFault) × HasContentFault reclen seg names contents fault)
listings_or_fault every reclen seg names contents e = listed_or_fault every reclen seg 0 names contents names contents e (listed_none reclen seg names contents)

-- ---- what the world tells

-- what was told of files before calls is told behind them
abbrev pub Keeps : Seen → Seen → Type 0
Keeps s t = (name bytes : List ℕ) → s.held name ≡ Some bytes → t.held name ≡ Some bytes

-- a feed that was read is a listing, where it was told what its file holds
told_feed : (reclen seg : ℕ) (feed : Feed) (bytes : List ℕ) (listing : Listing) (calls : List Call) (s t : Seen) → s.held feed.name ≡ Some bytes → Did calls s t → FeedPasses reclen seg feed listing calls → IsFeed reclen seg bytes listing
told_feed reclen seg feed bytes listing calls s t told did p =
    subst (λ (xs : List ℕ). IsFeed reclen seg xs listing) (told_read most_feed_bytes feed.name p.bytes bytes calls s t p.read did told) (record { within = p.read.2; is = p.is })

keeps_more : (reclen seg : ℕ) (feed : Feed) (listing : Listing) (calls : List Call) (r s t : Seen) → Keeps r s → Did calls s t → FeedPasses reclen seg feed listing calls → Keeps r t
keeps_more reclen seg feed listing calls r s t keeps did p = λ name bytes told. did_keep (feed.name ∷ []) calls s t name bytes (read_opens most_feed_bytes feed.name p.bytes calls p.read) did (keeps name bytes told)

-- feeds that were read are listings
told_from : (reclen seg n : ℕ) (names contents : List (List ℕ)) (listings : List Listing) (calls : List Call) (r s t : Seen) → FeedsHold r names contents → Keeps r s → Did calls s t → Passed (FeedPasses reclen seg) FeedStops (feeds_from n names) listings calls
    → AreListings reclen seg contents listings
told_from reclen seg n [] [] [] calls r s t told keeps did p = tt
told_from reclen seg n [] [] (l ∷ listings) calls r s t told keeps did p = absurd p
told_from reclen seg n [] (bytes ∷ contents) listings calls r s t told keeps did p = absurd told
told_from reclen seg n (name ∷ names) [] listings calls r s t told keeps did p = absurd told
told_from reclen seg n (name ∷ names) (bytes ∷ contents) [] calls r s t told keeps did p = absurd p
told_from reclen seg n (name ∷ names) (bytes ∷ contents) (l ∷ listings) calls r s t told keeps did p =
    let feed : Feed = record { number = n; name = name } in let parts = did_apart p.0 p.1 s t (subst (λ (c : List Call). Did c s t) p.2 did) in (
      told_feed reclen seg feed bytes l p.0 s parts.0 (keeps name bytes told.0) parts.1 p.3,
      told_from reclen seg (n + 1) names contents listings p.1 r parts.0 t told.1 (keeps_more reclen seg feed l p.0 r s parts.0 keeps parts.1 p.3) parts.2 p.4,
    )

pub told_listings : (reclen seg : ℕ) (names contents : List (List ℕ)) (listings : List Listing) (calls : List Call) (s t : Seen) → FeedsHold s names contents → Did calls s t → AreFeedsRead reclen seg names listings calls → AreListings reclen seg contents listings
told_listings reclen seg names contents listings calls s t told did p = told_from reclen seg 0 names contents listings calls s s t told (λ name bytes held. held) did p

-- where a feed that stopped the reading has a fault of its bytes, it is the first fault
fault_from : (reclen seg n : ℕ) (names contents rest_names rest : List (List ℕ)) (earlier : List Feed) (step : Feed) (later : List Feed) (listings : List Listing) (first last : List Call) (fault : FeedFault) (r s t : Seen)
    → feeds_from n rest_names ≡ earlier ++ step ∷ later → ((feed : Feed) (bytes : List ℕ) (s : Seen) → s.held feed.name ≡ Some bytes → Did last s t → FeedStops feed fault last → HasBytesFault feed.number feed.name bytes fault)
    → ListedUntil reclen seg n names contents rest_names rest → FeedsHold r rest_names rest → Keeps r s → Did (first ++ last) s t → Passed (FeedPasses reclen seg) FeedStops earlier listings first → FeedStops step fault last
    → HasContentFault reclen seg names contents fault
fault_from reclen seg n names contents [] rest [] step later listings first last fault r s t are has listed told keeps did p stops = absurd cc
fault_from reclen seg n names contents [] rest (x ∷ earlier) step later listings first last fault r s t are has listed told keeps did p stops = absurd cc
fault_from reclen seg n names contents (name ∷ names') [] earlier step later listings first last fault r s t are has listed told keeps did p stops = absurd told
fault_from reclen seg n names contents (name ∷ names') (bytes ∷ rest) [] step later (l ∷ listings) first last fault r s t are has listed told keeps did p stops = absurd p
fault_from reclen seg n names contents (name ∷ names') (bytes ∷ rest) (x ∷ earlier) step later [] first last fault r s t are has listed told keeps did p stops = absurd p
fault_from reclen seg n names contents (name ∷ names') (bytes ∷ rest) [] step later [] first last fault r s t are has listed told keeps did p stops =
    let feed : Feed = record { number = n; name = name } in let same : step ≡ feed = cc in
    listed_fault reclen seg n names contents name names' bytes rest fault listed
    (has feed bytes s (keeps name bytes told.0) (subst (λ (c : List Call). Did (c ++ last) s t) p did) (subst (λ (f : Feed). FeedStops f fault last) same stops))
fault_from reclen seg n names contents (name ∷ names') (bytes ∷ rest) (x ∷ earlier) step later (l ∷ listings) first last fault r s t are has listed told keeps did p stops =
    let feed : Feed = record { number = n; name = name } in let same : x ≡ feed = cc in let more : feeds_from (n + 1) names' ≡ earlier ++ step ∷ later = cc in
    let passes = subst (λ (f : Feed). FeedPasses reclen seg f l p.0) same p.3 in
    let parts = did_apart p.0 (p.1 ++ last) s t (subst (λ (c : List Call). Did c s t) (ap (λ (c : List Call). c ++ last) p.2 ∙ append_assoc p.0 p.1 last) did) in
    fault_from reclen seg (n + 1) names contents names' rest earlier step later listings p.1 last fault r parts.0 t more has
    (listed_more reclen seg n names contents name names' bytes rest l listed (told_feed reclen seg feed bytes l p.0 s parts.0 (keeps name bytes told.0) parts.1 passes)) told.1
    (keeps_more reclen seg feed l p.0 r s parts.0 keeps parts.1 passes) parts.2 p.4 stops

first_fault : (reclen seg : ℕ) (names contents : List (List ℕ)) (fault : FeedFault) (calls : List Call) (s t : Seen) → FeedsHold s names contents → Did calls s t → (p : StoppedByFeed reclen seg names fault calls)
    → ((feed : Feed) (bytes : List ℕ) (s : Seen) → s.held feed.name ≡ Some bytes → Did p.last s t → FeedStops feed fault p.last → HasBytesFault feed.number feed.name bytes fault) → HasContentFault reclen seg names contents fault
first_fault reclen seg names contents fault calls s t told did p has = fault_from reclen seg 0 names contents names contents p.earlier p.step p.later p.found p.first p.last fault s s t p.parts has (listed_none reclen seg names contents) told
    (λ name bytes held. held) (subst (λ (c : List Call). Did c s t) p.are did) p.passed p.stops

-- the fault of a feed that stopped the reading is a call that failed, or the first fault of the contents
pub told_stopped : (reclen seg : ℕ) (names contents : List (List ℕ)) (fault : FeedFault) (calls : List Call) (s t : Seen) → FeedsHold s names contents → Did calls s t → StoppedByFeed reclen seg names fault calls
    → CallFailed fault s t ⊎ HasContentFault reclen seg names contents fault
told_stopped reclen seg names contents (NoOpen name) calls s t told did p =
    inl (subst (λ (n : List ℕ). CallFailed (NoOpen n) s t) (sym p.stops.0) (unopened_counts most_feed_bytes p.step.name p.first p.last s t p.stops.1 (subst (λ (c : List Call). Did c s t) p.are did)))
told_stopped reclen seg names contents (ReadFault name) calls s t told did p =
    inl (subst (λ (n : List ℕ). CallFailed (ReadFault n) s t) (sym p.stops.0) (unread_counts most_feed_bytes p.step.name p.first p.last s t p.stops.1 (subst (λ (c : List Call). Did c s t) p.are did)))
told_stopped reclen seg names contents (TooLarge name limit) calls s t told did p =
    inr (first_fault reclen seg names contents (TooLarge name limit) calls s t told did p (λ feed bytes r held done stops. (stops.0, stops.1, told_large most_feed_bytes feed.name bytes p.last r t stops.2 done held)))
told_stopped reclen seg names contents (BadListing number line) calls s t told did p = inr (first_fault reclen seg names contents (BadListing number line) calls s t told did p (λ feed bytes r held done stops.
    let same = told_read most_feed_bytes feed.name stops.1 bytes p.last r t stops.2 done held in
    (stops.0, subst (λ (xs : List ℕ). length xs ≤ most_feed_bytes) same stops.2.2, subst (λ (xs : List ℕ). IsFirstBad xs line) same stops.3)))
