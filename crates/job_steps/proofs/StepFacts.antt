-- What steps touch: they open and create the files that they name, each once at most, and write nothing.
use Rattle.std.proofs.Common.{◌≡◌, ◌⊎◌, ℕ, ◌+◌, ◌≤◌, Bool, true, false, if◌then◌else◌, List, [], ◌∷◌, ◌++◌, length, length-append, refl, ap, subst, ◌∙◌, inl, inr, arith, codes}
use Rattle.std.specs.Bool.{MatchBool}
use Rattle.std.specs.Str.{bytes_eq}
use Rattle.std.proofs.lemmas.List.{append-nil}
use Rattle.std.proofs.lemmas.Grind.{flat_map-append}
use Rattle.vio.specs.declared.world.TheConstants.{INPUT, OUTPUT}
use Rattle.vio.specs.declared.fault.NamedFault.{NamedFault}
use Rattle.vio.specs.declared.fault.NamedFault.TheVariants as named
use Rattle.vio.specs.World.{CallKind, Opening, Creating}
use Rattle.vio.specs.Calls.{Call, Open, Create, Lack, Refuse, AreWithin, OnlyOpen, count_given, written_by}
use Rattle.vio.specs.Named.{IsReadBy, IsRefusedBy, IsLackedBy}
use Rattle.vio.specs.Steps.{Passed, Stopped}
use Rattle.vio.proofs.CallLemmas.{within_append, given_append, written_append, opens_written}
use Rattle.vio.proofs.ReadLemmas.{read_opens, refused_opens, lacked_opens}
use Rattle.vsl_file.specs.File.{file_header}
use Rattle.feed_files.specs.declared.fault.FeedFault.{FeedFault}
use Rattle.feed_files.specs.declared.fault.FeedFault.TheVariants as feeds
use Rattle.feed_files.specs.Feeds.{Feed, FeedStops, most_feed_bytes}
use Rattle.job_steps.specs.declared.fault.ToolFault.{ToolFault}
use Rattle.job_steps.specs.declared.fault.ToolFault.TheVariants.{NoOpen}
use Rattle.job_steps.specs.Appends.{IsStartBy, LookStops}
use Rattle.job_steps.specs.Steps.{Step, RefuseWords, TakeRules, TakeQuery, TakeFormat, OpenLog, ReadFeed, MakeSink, AppendLog, Found, Passes, Stops, most_query_bytes, file_named, opens, creates, opens_of, creates_of}
use Rattle.job_steps.specs.Took.{LacksLook}

-- calls open and create files of these names alone, give no more handles than there are names, and write nothing
pub record StaysWithin (opened created : List (List ℕ)) (calls : List Call) : Type 0 where
  pub within : AreWithin [] [] opened created calls
  pub few : count_given calls ≤ length opened + length created
  pub writes : (h : ℕ) → written_by h calls ≡ []

pub within_none : (opened created : List (List ℕ)) (calls : List Call) → calls ≡ [] → StaysWithin opened created calls
within_none opened created calls e = rw e (record { within = tt; few = omega arith; writes = λ h. refl })

-- calls, and others behind them
pub within_both : (o o' c c' : List (List ℕ)) (xs ys : List Call) → StaysWithin o c xs → StaysWithin o' c' ys → StaysWithin (o ++ o') (c ++ c') (xs ++ ys)
within_both o o' c c' xs ys p q = record {
  within = within_append [] [] o o' c c' xs ys p.within q.within;
  few = omega (arith, p.few, q.few, given_append xs ys, length-append o o', length-append c c');
  writes = λ h. written_append h xs ys ∙ ap (λ (bytes : List ℕ). bytes ++ written_by h ys) (p.writes h) ∙ q.writes h;
}

-- calls stay within more names
pub within_wider : (o o' c c' : List (List ℕ)) (calls : List Call) → StaysWithin o c calls → StaysWithin (o ++ o') (c ++ c') calls
within_wider o o' c c' calls p = subst (λ (xs : List Call). StaysWithin (o ++ o') (c ++ c') xs) (append-nil calls) (within_both o o' c c' calls [] p (within_none o' c' [] refl))

-- ---- one step

-- files are opened and read alone
pub within_opens : (names : List (List ℕ)) (calls : List Call) → OnlyOpen names calls → StaysWithin names [] calls
within_opens names calls p = record { within = p.0; few = omega (arith, p.1); writes = λ h. opens_written names h calls p }

-- a call that failed gives none
refuse_within : (opened created : List (List ℕ)) (kind : CallKind) (name : List ℕ) (calls : List Call) → calls ≡ Refuse kind name ∷ [] → StaysWithin opened created calls
refuse_within opened created kind name calls e = rw e (record { within = (tt, tt); few = omega arith; writes = λ h. refl })

-- the text of a query was read; its file wasn't; there was no memory to read it
pub text_opens : (b : Bool) (name word text : List ℕ) (calls : List Call) → MatchBool b (IsReadBy most_query_bytes name text calls) ((text ≡ word) × (calls ≡ [])) → OnlyOpen (if b then name ∷ [] else []) calls
text_opens true name word text calls p = read_opens most_query_bytes name text calls p
text_opens false name word text calls p = rw p.1 (tt, omega arith)

file_opens : (b : Bool) (name : List ℕ) (calls : List Call) → b ≡ true → OnlyOpen (name ∷ []) calls → OnlyOpen (if b then name ∷ [] else []) calls
file_opens true name calls file p = p
file_opens false name calls file p = absurd cc

pub file_refused : (b : Bool) (name : List ℕ) (why : NamedFault) (calls : List Call) → b ≡ true → IsRefusedBy most_query_bytes name why calls → OnlyOpen (if b then name ∷ [] else []) calls
file_refused b name why calls file p = file_opens b name calls file (refused_opens most_query_bytes name why calls p)

pub file_lacked : (b : Bool) (name : List ℕ) (calls : List Call) → b ≡ true → IsLackedBy name calls → OnlyOpen (if b then name ∷ [] else []) calls
file_lacked b name calls file p = file_opens b name calls file (lacked_opens name calls p)

opened_within : (b : Bool) (name : List ℕ) (h : ℕ) (calls : List Call) → MatchBool b ((h ≡ INPUT) × (calls ≡ [])) (calls ≡ Open name h ∷ []) → StaysWithin (if b then [] else name ∷ []) [] calls
opened_within true name h calls p = within_none [] [] calls p.1
opened_within false name h calls p = rw p (record { within = (inl refl, tt); few = omega arith; writes = λ i. refl })

made_within : (b append : Bool) (name : List ℕ) (h : ℕ) (empty : Bool) (calls : List Call) → MatchBool b ((h ≡ OUTPUT) × (empty ≡ true) × (calls ≡ [])) (calls ≡ Create append name h empty ∷ []) → StaysWithin [] (if b then [] else name ∷ []) calls
made_within true append name h empty calls p = within_none [] [] calls p.2
made_within false append name h empty calls p = rw p (record { within = (inl refl, tt); few = omega arith; writes = λ i. refl })

-- what is appended to was created, and opened where it has bytes
appended_within : (b empty : Bool) (name : List ℕ) (h : ℕ) (calls made looked : List Call) → calls ≡ made ++ looked → MatchBool b ((h ≡ OUTPUT) × (empty ≡ true) × (made ≡ [])) (made ≡ Create true name h empty ∷ [])
    → MatchBool empty (looked ≡ []) (IsStartBy name file_header looked) → StaysWithin (if b then [] else name ∷ []) (if b then [] else name ∷ []) calls
appended_within true true name h calls made looked are is_made none = within_none [] [] calls (are ∙ (λ i. is_made.2 i ++ none i))
appended_within true false name h calls made looked are is_made start = let no : false ≡ true = is_made.1 in absurd cc
appended_within false true name h calls made looked are is_made none = rw (are, is_made, none) (record { within = (inl refl, tt); few = omega arith; writes = λ i. refl })
appended_within false false name h calls made looked are is_made start = rw (are, is_made, start.2) (record { within = (inl refl, (inl refl, (inl refl, tt))); few = omega arith; writes = λ i. refl })

-- so it was where it was refused
looked_within : (name : List ℕ) (h : ℕ) (fault : ToolFault) (calls looked : List Call) → calls ≡ Create true name h false ∷ looked → LookStops name fault looked → StaysWithin (name ∷ []) (name ∷ []) calls
looked_within name h fault calls looked are (inl p) = rw (are, p.0) (record { within = (inl refl, (tt, tt)); few = omega arith; writes = λ i. refl })
looked_within name h fault calls looked are (inr (inl p)) = rw (are, p.2) (record { within = (inl refl, (inl refl, (inl refl, tt))); few = omega arith; writes = λ i. refl })
looked_within name h fault calls looked are (inr (inr p)) = rw (are, p.1.2) (record { within = (inl refl, (inl refl, (inl refl, tt))); few = omega arith; writes = λ i. refl })

append_within : (b : Bool) (name : List ℕ) (fault : ToolFault) (calls : List Call) → b ≡ false → ((calls ≡ Refuse Creating name ∷ []) × (fault ≡ NoOpen name)) ⊎ ((h : ℕ) × (looked : List Call) × (calls ≡ Create true name h false ∷ looked) × LookStops name fault looked)
    → StaysWithin (if b then [] else name ∷ []) (if b then [] else name ∷ []) calls
append_within true name fault calls file p = absurd cc
append_within false name fault calls file (inl p) = refuse_within (name ∷ []) (name ∷ []) Creating name calls p.0
append_within false name fault calls file (inr p) = looked_within name p.0 fault calls p.1 p.2 p.3

-- a step that passed stays within its names
pub passes_within : (step : Step) (found : Found) (calls : List Call) → Passes step found calls → StaysWithin (opens step) (creates step) calls
passes_within (RefuseWords why) found calls p = absurd p
passes_within (TakeRules caseless texts) found calls p = within_none [] [] calls p.1
passes_within (TakeQuery caseless n query) found calls p = within_opens (opens (TakeQuery caseless n query)) calls (text_opens query.file query.text query.text p.0 calls p.2)
passes_within (TakeFormat tool text) found calls p = within_none [] [] calls p.1
passes_within (OpenLog name) found calls p = opened_within (bytes_eq name (codes "-")) name p.0 calls p.2
passes_within (ReadFeed reclen seg feed) found calls p = within_opens (feed.name ∷ []) calls (read_opens most_feed_bytes feed.name p.2.bytes calls p.2.read)
passes_within (MakeSink append name) found calls p = made_within (bytes_eq name (codes "-")) append name p.0 p.1 calls p.3
passes_within (AppendLog name) found calls p = let q = p.3 in appended_within (bytes_eq name (codes "-")) p.1 name p.0 calls q.0 q.1 q.2 q.3 q.4

feed_opens : (feed : Feed) (why : FeedFault) (calls : List Call) → FeedStops feed why calls → OnlyOpen (feed.name ∷ []) calls
feed_opens feed (feeds.NoOpen name) calls p = refused_opens most_feed_bytes feed.name named.NoOpen calls p.1
feed_opens feed (feeds.ReadFault name) calls p = refused_opens most_feed_bytes feed.name named.Failed calls p.1
feed_opens feed (feeds.TooLarge name limit) calls p = refused_opens most_feed_bytes feed.name named.TooLarge calls p.2
feed_opens feed (feeds.BadListing number line) calls p = read_opens most_feed_bytes feed.name p.1 calls p.2

-- a step that stopped stays within its names
pub stops_within : (step : Step) (fault : ToolFault) (calls : List Call) → Stops step fault calls → StaysWithin (opens step) (creates step) calls
stops_within (RefuseWords why) fault calls p = within_none [] [] calls p.0
stops_within (TakeRules caseless texts) fault calls p = within_none [] [] calls p.0
stops_within (TakeQuery caseless n query) fault calls (inl p) = within_opens (opens (TakeQuery caseless n query)) calls (file_refused query.file query.text p.1.0 calls p.0 p.1.1)
stops_within (TakeQuery caseless n query) fault calls (inr p) = within_opens (opens (TakeQuery caseless n query)) calls (text_opens query.file query.text query.text p.0 calls p.2)
stops_within (TakeFormat tool text) fault calls p = within_none [] [] calls p.0
stops_within (OpenLog name) fault calls p = refuse_within (file_named name) [] Opening name calls p.1
stops_within (ReadFeed reclen seg feed) fault calls p = within_opens (feed.name ∷ []) calls (feed_opens feed p.0 calls p.1)
stops_within (MakeSink append name) fault calls p = refuse_within [] (file_named name) Creating name calls p.1
stops_within (AppendLog name) fault calls p = append_within (bytes_eq name (codes "-")) name fault calls p.0 p.1

-- ---- several steps

-- steps that passed stay within their names
pub passed_within : (steps : List Step) (found : List Found) (calls : List Call) → Passed Passes Stops steps found calls → StaysWithin (opens_of steps) (creates_of steps) calls
passed_within [] [] calls p = within_none [] [] calls p
passed_within [] (u ∷ us) calls p = absurd p
passed_within (step ∷ steps) [] calls p = absurd p
passed_within (step ∷ steps) (u ∷ us) calls p = rw p.2
    (within_both (opens step) (opens_of steps) (creates step) (creates_of steps) p.0 p.1 (passes_within step u p.0 p.3) (passed_within steps us p.1 p.4))

-- steps of which one stopped stay within their names
pub stopped_within : (steps : List Step) (fault : ToolFault) (calls : List Call) → Stopped Passes Stops steps fault calls → StaysWithin (opens_of steps) (creates_of steps) calls
stopped_within steps fault calls p =
    let last = within_wider (opens p.step) (opens_of p.later) (creates p.step) (creates_of p.later) p.last (stops_within p.step fault p.last p.stops) in
    rw (p.are, p.parts, flat_map-append opens p.earlier (p.step ∷ p.later), flat_map-append creates p.earlier (p.step ∷ p.later))
    (within_both (opens_of p.earlier) (opens p.step ++ opens_of p.later) (creates_of p.earlier) (creates p.step ++ creates_of p.later) p.first p.last (passed_within p.earlier p.found p.first p.passed) last)

-- what is appended to was created, and there was no memory to look at it
lacked_within : (b : Bool) (name : List ℕ) (h : ℕ) → b ≡ false → StaysWithin (if b then [] else name ∷ []) (if b then [] else name ∷ []) (Create true name h false ∷ Lack ∷ [])
lacked_within true name h file = absurd cc
lacked_within false name h file = record { within = (inl refl, (tt, tt)); few = omega arith; writes = λ i. refl }

pub look_within : (steps : List Step) (calls : List Call) → LacksLook steps calls → StaysWithin (opens_of steps) (creates_of steps) calls
look_within steps calls p =
    let step = AppendLog p.name in
    let own : List Call = Create true p.name p.handle false ∷ Lack ∷ [] in
    let last = within_wider (opens step) (opens_of p.later) (creates step) (creates_of p.later) own (lacked_within (bytes_eq p.name (codes "-")) p.name p.handle p.file) in
    rw (p.are, p.parts, flat_map-append opens p.earlier (step ∷ p.later), flat_map-append creates p.earlier (step ∷ p.later))
    (within_both (opens_of p.earlier) (opens step ++ opens_of p.later) (creates_of p.earlier) (creates step ++ creates_of p.later) p.first own (passed_within p.earlier p.found p.first p.passed) last)
