-- Reading feeds, one behind the other, and what their calls come to.
use Rattle.std.specs.List.{flat_map}
use Rattle.std.proofs.Common.{◌≡◌, ℕ, zero, suc, ◌+◌, ◌<◌, ◌≤◌, List, [], ◌∷◌, ◌++◌, length, get_or, Ok, Err, refl, ap, subst, arith}
use Rattle.log_model.specs.declared.fault.Halt.{Halt}
use Rattle.log_model.specs.declared.fault.Halt.TheVariants as halts
use Rattle.vio.specs.declared.fault.NamedFault.{NamedFault}
use Rattle.vio.specs.declared.fault.NamedFault.TheVariants as named
use Rattle.vio.specs.World.{Seen}
use Rattle.vio.specs.Calls.{Call, Called, OnlyOpen}
use Rattle.vio.specs.Steps.{Stopped, PassedSo, Halted}
use Rattle.vio.specs.Named.{IsReadBy, IsRefusedBy}
use Rattle.vio.proofs.CallLemmas.{none_failed_late}
use Rattle.vio.proofs.ReadLemmas.{read_opens, refused_opens, read_none_failed, refused_last_failed}
use Rattle.vio.proofs.StepLemmas as steps
use Rattle.vio.proofs.StepLemmas.{PassedUntil, stopped_one, passed_opens, stopped_opens}
use Rattle.traffic_feed.specs.declared.listing.Listing.{Listing}
use Rattle.raw_records.specs.Lines.{IsFirstBad}
use Rattle.feed_files.specs.declared.fault.FeedFault.{FeedFault}
use Rattle.feed_files.specs.declared.fault.FeedFault.TheVariants.{NoOpen, ReadFault, TooLarge, BadListing}
use Rattle.feed_files.specs.Feeds.{Feed, FeedPasses, FeedStops, feeds_from, most_feed_bytes}
use Rattle.feed_files.specs.inside.Answers.{TookFeed, file_fault}

-- ---- what feeds open

abbrev name_of : Feed → List (List ℕ)
name_of feed = feed.name ∷ []

names_of : (n : ℕ) (names : List (List ℕ)) → flat_map name_of (feeds_from n names) ≡ names
names_of n [] = refl
names_of n (name ∷ names) = ap (λ (rest : List (List ℕ)). name ∷ rest) (names_of (n + 1) names)

passes_open : (reclen seg : ℕ) (feed : Feed) (listing : Listing) (calls : List Call) → FeedPasses reclen seg feed listing calls → OnlyOpen (name_of feed) calls
passes_open reclen seg feed listing calls p = read_opens most_feed_bytes feed.name p.bytes calls p.read

stops_open : (feed : Feed) (fault : FeedFault) (calls : List Call) → FeedStops feed fault calls → OnlyOpen (name_of feed) calls
stops_open feed (NoOpen name) calls p = refused_opens most_feed_bytes feed.name named.NoOpen calls p.1
stops_open feed (ReadFault name) calls p = refused_opens most_feed_bytes feed.name named.Failed calls p.1
stops_open feed (TooLarge name limit) calls p = refused_opens most_feed_bytes feed.name named.TooLarge calls p.2
stops_open feed (BadListing number line) calls p = read_opens most_feed_bytes feed.name p.1 calls p.2

-- ---- what reading one feed comes to

stopped_feed : (reclen seg n : ℕ) (name : List ℕ) (fault : FeedFault) (calls : List Call) → FeedStops (record { number = n; name = name }) fault calls → Stopped (FeedPasses reclen seg) FeedStops (feeds_from n (name ∷ [])) fault calls
stopped_feed reclen seg n name fault calls stops = stopped_one (FeedPasses reclen seg) FeedStops (record { number = n; name = name }) fault calls stops

pub took_bad : {reclen seg n feed line : ℕ} {name bytes : List ℕ} {s t : Seen} → feed ≡ n → IsFirstBad bytes line → Called (IsReadBy most_feed_bytes name bytes) s t → Called (TookFeed reclen seg n name (Err (halts.Fault (BadListing feed line)))) s t
took_bad {reclen = reclen} {seg = seg} {n = n} {feed = feed} {line = line} {name = name} {bytes = bytes} same bad p = record {
  calls = p.calls;
  did = p.did;
  is = (stopped_feed reclen seg n name (BadListing feed line) p.calls (same, bytes, p.is, bad), none_failed_late p.calls (read_none_failed most_feed_bytes name bytes p.calls p.is));
}

refused_stops : (n : ℕ) (name : List ℕ) (fault : NamedFault) (calls : List Call) → IsRefusedBy most_feed_bytes name fault calls → FeedStops (record { number = n; name = name }) (file_fault name fault) calls
refused_stops n name named.NoOpen calls p = (refl, p)
refused_stops n name named.Failed calls p = (refl, p)
refused_stops n name named.TooLarge calls p = (refl, refl, p)

pub took_refused : (reclen seg n : ℕ) (name : List ℕ) (fault : NamedFault) (s t : Seen) → Called (IsRefusedBy most_feed_bytes name fault) s t → Called (TookFeed reclen seg n name (Err (halts.Fault (file_fault name fault)))) s t
took_refused reclen seg n name fault s t p = record {
  calls = p.calls;
  did = p.did;
  is = (stopped_feed reclen seg n name (file_fault name fault) p.calls (refused_stops n name fault p.calls p.is), refused_last_failed most_feed_bytes name fault p.calls p.is);
}

-- ---- while feeds are read

-- the first n feeds were read, and none of the calls failed
abbrev pub ReadUntil : ℕ → ℕ → List (List ℕ) → ℕ → List Listing → Seen → Seen → Type 0
ReadUntil reclen seg names n listings before now = PassedUntil (FeedPasses reclen seg) FeedStops (feeds_from 0 names) n listings before now

-- the feed at a place
feeds_long : (m : ℕ) (names : List (List ℕ)) → length (feeds_from m names) ≡ length names
feeds_long m [] = refl
feeds_long m (name ∷ names) = omega (arith, feeds_long (m + 1) names)

feed_at : (m k n : ℕ) (names : List (List ℕ)) (name : List ℕ) (other : Feed) → n < length names → name ≡ get_or names n name → k ≡ m + n → record { number = k; name = name } ≡ get_or (feeds_from m names) n other
feed_at m k n [] name other within is e = let no : ⊥ = omega (arith, within) in absurd no
feed_at m k zero (x ∷ names) name other within is e = let same : k ≡ m = omega (arith, e) in λ i. record { number = same i; name = is i }
feed_at m k (suc n) (x ∷ names) name other within is e = feed_at (m + 1) k n names name other (omega (arith, within)) is (omega (arith, e))

pub until_more : (reclen seg n : ℕ) (names : List (List ℕ)) (listings : List Listing) (name : List ℕ) (listing : Listing) (r s t : Seen) → n < length names → name ≡ get_or names n name → ReadUntil reclen seg names n listings r s
    → Called (TookFeed reclen seg n name (Ok listing)) s t → ReadUntil reclen seg names (n + 1) (listings ++ listing ∷ []) r t
until_more reclen seg n names listings name listing r s t within is p took =
    steps.until_more (FeedPasses reclen seg) FeedStops (feeds_from 0 names) n listings (record { number = n; name = name }) listing r s t (omega (arith, within, feeds_long 0 names)) (feed_at 0 n n names name _ within is (omega arith)) p took

pub until_halted : (reclen seg n : ℕ) (names : List (List ℕ)) (listings : List Listing) (name : List ℕ) (halt : Halt FeedFault) (r s t : Seen) → n < length names → name ≡ get_or names n name → ReadUntil reclen seg names n listings r s
    → Called (TookFeed reclen seg n name (Err halt)) s t → Called (Halted (FeedPasses reclen seg) FeedStops names (feeds_from 0 names) halt) r t
until_halted reclen seg n names listings name halt r s t within is p took =
    subst (λ (opened : List (List ℕ)). Called (Halted (FeedPasses reclen seg) FeedStops opened (feeds_from 0 names) halt) r t) (names_of 0 names)
    (steps.until_halted (FeedPasses reclen seg) FeedStops name_of (passes_open reclen seg) stops_open (feeds_from 0 names) n listings (record { number = n; name = name }) halt r s t (omega (arith, within, feeds_long 0 names))
    (feed_at 0 n n names name _ within is (omega arith)) p took)

pub until_lacked : (reclen seg n : ℕ) (names : List (List ℕ)) (listings : List Listing) (r s : Seen) → ReadUntil reclen seg names n listings r s → Called (OnlyOpen names) r s
until_lacked reclen seg n names listings r s p = subst (λ (opened : List (List ℕ)). Called (OnlyOpen opened) r s) (names_of 0 names)
    (steps.until_lacked (FeedPasses reclen seg) FeedStops name_of (passes_open reclen seg) stops_open (feeds_from 0 names) n listings r s p)

pub until_all : (reclen seg n : ℕ) (names : List (List ℕ)) (listings : List Listing) (r s : Seen) → length names ≤ n → ReadUntil reclen seg names n listings r s → Called (PassedSo (FeedPasses reclen seg) FeedStops (λ found. found ≡ listings) (feeds_from 0 names)) r s
until_all reclen seg n names listings r s end p = steps.until_all (FeedPasses reclen seg) FeedStops (feeds_from 0 names) n listings r s (omega (arith, end, feeds_long 0 names)) p
