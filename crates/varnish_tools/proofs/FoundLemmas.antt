-- What steps found: the handle of a log and of what is written is that of a file that they opened or created, or a standard stream.
use Rattle.std.specs.Bool.{MatchBool}
use Rattle.std.specs.List.{flat_map}
use Rattle.std.specs.Str.{bytes_eq}
use Rattle.std.proofs.Common.{◌≡◌, ◌⊎◌, ℕ, Bool, true, false, if◌then◌else◌, List, [], ◌∷◌, ◌++◌, map, refl, sym, ap, subst, ◌∙◌, inl, inr, codes}
use Rattle.std.proofs.lemmas.List.{append-nil, map-append}
use Rattle.std.proofs.lemmas.Grind.{flat_map-append}
use Rattle.vio.specs.declared.world.TheConstants.{INPUT, OUTPUT}
use Rattle.vio.specs.Touches.{IsOneOf}
use Rattle.vio.specs.Calls.{Call, Open, Create, opened_in, created_in}
use Rattle.vio.specs.Steps.{Passed}
use Rattle.vio.specs.Streams.{IsMadeBy}
use Rattle.vio.proofs.CallLemmas.{handles_opened, handles_created}
use Rattle.vio.proofs.TouchLemmas.{one_of_left, one_of_right, one_of_either}
use Rattle.traffic_feed.specs.declared.listing.Listing.{Listing}
use Rattle.job_steps.specs.Steps.{Step, RefuseWords, TakeRules, TakeQuery, TakeFormat, OpenLog, ReadFeed, MakeSink, AppendLog, Found, FoundNone, FoundText, FoundLog, FoundListing, FoundSink, Passes, Stops, text_in, listing_in, log_in, sink_in, texts_of, listings_of, logs_of, sinks_of, reads, writes, reads_of, stream_named, writes_of}

-- one of the first of two lists, or of the second, is one of both
pub one_of_both : (h : ℕ) (xs ys : List ℕ) → IsOneOf h xs ⊎ IsOneOf h ys → IsOneOf h (xs ++ ys)
one_of_both h xs ys (inl first) = one_of_left h xs ys first
one_of_both h xs ys (inr last) = one_of_right h xs ys last

-- a handle that each step which finds it gave, or has as a standard stream, is one that steps gave, or a stream of theirs
module _ (gave : Call → List ℕ) (streams : Step → List ℕ) (pick : Found → List ℕ)
    (one : (step : Step) (u : Found) (calls : List Call) (h : ℕ) → Passes step u calls → IsOneOf h (pick u) → IsOneOf h (flat_map gave calls) ⊎ IsOneOf h (streams step)) where
  found_handle : (steps : List Step) (found : List Found) (calls : List Call) (h : ℕ) → Passed Passes Stops steps found calls → IsOneOf h (flat_map pick found) → IsOneOf h (flat_map gave calls) ⊎ IsOneOf h (flat_map streams steps)
  found_handle [] [] calls h p is = absurd is
  found_handle [] (u ∷ us) calls h p is = absurd p
  found_handle (step ∷ steps) [] calls h p is = absurd p
  found_handle (step ∷ steps) (u ∷ us) calls h p is = rw (p.2, flat_map-append gave p.0 p.1) (elim (one_of_either h (pick u) (flat_map pick us) is) [
    | inl first ↦ elim (one step u p.0 h p.3 first) [
      | inl new ↦ inl (one_of_left h (flat_map gave p.0) (flat_map gave p.1) new)
      | inr stream ↦ inr (one_of_left h (streams step) (flat_map streams steps) stream)
    ]
    | inr later ↦ elim (found_handle steps us p.1 h p.4 later) [
      | inl new ↦ inl (one_of_right h (flat_map gave p.0) (flat_map gave p.1) new)
      | inr stream ↦ inr (one_of_right h (streams step) (flat_map streams steps) stream)
    ]
  ])

-- the handle of what is written, where it was found
abbrev pub handle_in : Found → List ℕ
handle_in u = map (λ (sink : ℕ × Bool). sink.0) (sink_in u)

-- where a step found a handle: of a log, and of what is written
record FindsHandle (step : Step) (u : Found) (calls : List Call) (h : ℕ) : Type 0 where
  log : IsOneOf h (log_in u) → IsOneOf h (handles_opened calls) ⊎ IsOneOf h (reads step)
  sink : IsOneOf h (handle_in u) → IsOneOf h (handles_created calls) ⊎ IsOneOf h (writes step)

opened_log : (b : Bool) (name : List ℕ) (k h : ℕ) (calls : List Call) → MatchBool b ((k ≡ INPUT) × (calls ≡ [])) (calls ≡ Open name k ∷ []) → IsOneOf h (k ∷ []) → IsOneOf h (handles_opened calls) ⊎ IsOneOf h (if b then INPUT ∷ [] else [])
opened_log true name k h calls p is = inr (subst (λ (i : ℕ). IsOneOf h (i ∷ [])) p.0 is)
opened_log false name k h calls p is = inl (rw p is)

made_sink : (b append : Bool) (name : List ℕ) (k h : ℕ) (empty : Bool) (calls : List Call) → MatchBool b ((k ≡ OUTPUT) × (empty ≡ true) × (calls ≡ [])) (calls ≡ Create append name k empty ∷ []) → IsOneOf h (k ∷ [])
    → IsOneOf h (handles_created calls) ⊎ IsOneOf h (if b then OUTPUT ∷ [] else [])
made_sink true append name k h empty calls p is = inr (subst (λ (i : ℕ). IsOneOf h (i ∷ [])) p.0 is)
made_sink false append name k h empty calls p is = inl (rw p is)

appended_sink : (name : List ℕ) (k h : ℕ) (empty : Bool) (calls made looked : List Call) → calls ≡ made ++ looked → IsMadeBy true name k empty made → IsOneOf h (k ∷ []) → IsOneOf h (handles_created calls) ⊎ IsOneOf h (stream_named OUTPUT name)
appended_sink name k h empty calls made looked are is_made is = elim (made_sink (bytes_eq name (codes "-")) true name k h empty made is_made is) [
  | inl new ↦ inl (subst (λ (cs : List Call). IsOneOf h (handles_created cs)) (sym are) (subst (λ (hs : List ℕ). IsOneOf h hs) (sym (flat_map-append created_in made looked)) (one_of_left h (handles_created made) (handles_created looked) new)))
  | inr stream ↦ inr stream
]

finds_handle : (step : Step) (u : Found) (calls : List Call) (h : ℕ) → Passes step u calls → FindsHandle step u calls h
finds_handle (RefuseWords why) u calls h p = absurd p
finds_handle (TakeRules caseless texts) u calls h p = rw p.0 (record { log = λ is. absurd is; sink = λ is. absurd is })
finds_handle (TakeQuery caseless n query) u calls h p = rw p.1 (record { log = λ is. absurd is; sink = λ is. absurd is })
finds_handle (TakeFormat tool text) u calls h p = rw p.0 (record { log = λ is. absurd is; sink = λ is. absurd is })
finds_handle (OpenLog name) u calls h p = rw p.1 (record { log = λ is. opened_log (bytes_eq name (codes "-")) name p.0 h calls p.2 is; sink = λ is. absurd is })
finds_handle (ReadFeed reclen seg feed) u calls h p = rw p.1 (record { log = λ is. absurd is; sink = λ is. absurd is })
finds_handle (MakeSink append name) u calls h p = rw p.2 (record { log = λ is. absurd is; sink = λ is. made_sink (bytes_eq name (codes "-")) append name p.0 h p.1 calls p.3 is })
finds_handle (AppendLog name) u calls h p = let q = p.3 in rw p.2 (record { log = λ is. absurd is; sink = λ is. appended_sink name p.0 h p.1 calls q.0 q.1 q.2 q.3 is })

-- the handle of a log that was found is that of a file that the steps opened, or standard input
pub found_log : (steps : List Step) (found : List Found) (calls : List Call) (h : ℕ) → Passed Passes Stops steps found calls → IsOneOf h (logs_of found) → IsOneOf h (handles_opened calls) ⊎ IsOneOf h (reads_of steps)
found_log = found_handle opened_in reads log_in (λ step u calls h p. (finds_handle step u calls h p).log)

-- the handle of what is written is that of a file that the steps created, or standard output
pub found_sink : (steps : List Step) (found : List Found) (calls : List Call) (h : ℕ) → Passed Passes Stops steps found calls → IsOneOf h (flat_map handle_in found) → IsOneOf h (handles_created calls) ⊎ IsOneOf h (writes_of steps)
found_sink = found_handle created_in writes handle_in (λ step u calls h p. (finds_handle step u calls h p).sink)

-- the handles of what is written are those of the sinks that were found
pub sink_is : (found : List Found) (h : ℕ) (empty : Bool) → sinks_of found ≡ (h, empty) ∷ [] → flat_map handle_in found ≡ h ∷ []
sink_is found h empty is = sym (handles_are found) ∙ ap (λ (sinks : List (ℕ × Bool)). map (λ (sink : ℕ × Bool). sink.0) sinks) is
  where
    handles_are : (found : List Found) → map (λ (sink : ℕ × Bool). sink.0) (sinks_of found) ≡ flat_map handle_in found
    handles_are [] = refl
    handles_are (u ∷ found) = map-append (λ (sink : ℕ × Bool). sink.0) (sink_in u) (sinks_of found) ∙ ap (λ (hs : List ℕ). handle_in u ++ hs) (handles_are found)

-- ---- what the steps of a job that prints groups found

module _ {A : Type 0} where
  flat_none : {B : Type 0} (f : Found → List A) (g : B → Found) (xs : List B) → ((x : B) → f (g x) ≡ []) → flat_map f (map g xs) ≡ []
  flat_none f g [] none = refl
  flat_none f g (x ∷ xs) none = ap (λ (first : List A). first ++ flat_map f (map g xs)) (none x) ∙ flat_none f g xs none

  flat_same : (f : Found → List A) (g : A → Found) (xs : List A) → ((x : A) → f (g x) ≡ x ∷ []) → flat_map f (map g xs) ≡ xs
  flat_same f g [] same = refl
  flat_same f g (x ∷ xs) same = ap (λ (first : List A). first ++ flat_map f (map g xs)) (same x) ∙ ap (λ (rest : List A). x ∷ rest) (flat_same f g xs same)

  -- by parts: texts, inputs, and what is written, behind what the words found
  parts_of : (pick : Found → List A) (texts : List (List ℕ)) (inputs : List Found) (sink : Found) → pick FoundNone ≡ []
      → flat_map pick (FoundNone ∷ (map FoundText texts ++ (FoundNone ∷ []) ++ inputs ++ sink ∷ [])) ≡ flat_map pick (map FoundText texts) ++ flat_map pick inputs ++ pick sink
  parts_of pick texts inputs sink none = rw (
    flat_map-append pick (map FoundText texts ++ (FoundNone ∷ []) ++ inputs) (sink ∷ []),
    flat_map-append pick (map FoundText texts ++ (FoundNone ∷ [])) inputs,
    flat_map-append pick (map FoundText texts) (FoundNone ∷ []),
    none,
    append-nil (pick sink),
    append-nil (flat_map pick (map FoundText texts)),
  ) refl

-- what was found, with the words before it
abbrev pub found_behind : List Found → List Found
found_behind found = FoundNone ∷ found

-- the texts of queries, the handles of logs, the listings of feeds, and what is written
pub record FoundSo (found : List Found) (texts : List (List ℕ)) (logs : List ℕ) (listings : List Listing) (sink : ℕ) (empty : Bool) : Type 0 where
  pub texts_are : texts_of found ≡ texts
  pub logs_are : logs_of found ≡ logs
  pub listings_are : listings_of found ≡ listings
  pub sinks_are : sinks_of found ≡ (sink, empty) ∷ []

pub found_so : (texts : List (List ℕ)) (inputs found : List Found) (sink : ℕ) (empty : Bool) (logs : List ℕ) (listings : List Listing) → found ≡ found_behind (map FoundText texts ++ (FoundNone ∷ []) ++ inputs ++ FoundSink sink empty ∷ [])
    → flat_map text_in inputs ≡ [] → flat_map log_in inputs ≡ logs → flat_map listing_in inputs ≡ listings → flat_map sink_in inputs ≡ [] → FoundSo found texts logs listings sink empty
found_so texts inputs found sink empty logs listings are no_texts are_logs are_listings no_sinks = rw are (record {
  texts_are = parts_of text_in texts inputs (FoundSink sink empty) refl ∙ rw (no_texts, flat_same text_in FoundText texts (λ x. refl), append-nil texts, append-nil texts) refl;
  logs_are = parts_of log_in texts inputs (FoundSink sink empty) refl ∙ rw (are_logs, flat_none log_in FoundText texts (λ x. refl), append-nil logs) refl;
  listings_are = parts_of listing_in texts inputs (FoundSink sink empty) refl ∙ rw (are_listings, flat_none listing_in FoundText texts (λ x. refl), append-nil listings) refl;
  sinks_are = parts_of sink_in texts inputs (FoundSink sink empty) refl ∙ rw (no_sinks, flat_none sink_in FoundText texts (λ x. refl)) refl;
})

-- of a log, and of feeds
pub found_file : (texts : List (List ℕ)) (inputs found : List Found) (log sink : ℕ) (empty : Bool) → found ≡ found_behind (map FoundText texts ++ (FoundNone ∷ []) ++ inputs ++ FoundSink sink empty ∷ []) → inputs ≡ FoundLog log ∷ []
    → FoundSo found texts (log ∷ []) [] sink empty
found_file texts inputs found log sink empty are is = found_so texts inputs found sink empty (log ∷ []) [] are (ap (λ (us : List Found). flat_map text_in us) is) (ap (λ (us : List Found). flat_map log_in us) is) (ap (λ (us : List Found). flat_map listing_in us) is)
    (ap (λ (us : List Found). flat_map sink_in us) is)

pub found_feeds : (texts : List (List ℕ)) (inputs found : List Found) (listings : List Listing) (sink : ℕ) (empty : Bool) → found ≡ found_behind (map FoundText texts ++ (FoundNone ∷ []) ++ inputs ++ FoundSink sink empty ∷ []) → inputs ≡ map FoundListing listings
    → FoundSo found texts [] listings sink empty
found_feeds texts inputs found listings sink empty are is = found_so texts inputs found sink empty [] listings are (ap (λ (us : List Found). flat_map text_in us) is ∙ flat_none text_in FoundListing listings (λ x. refl))
    (ap (λ (us : List Found). flat_map log_in us) is ∙ flat_none log_in FoundListing listings (λ x. refl)) (ap (λ (us : List Found). flat_map listing_in us) is ∙ flat_same listing_in FoundListing listings (λ x. refl))
    (ap (λ (us : List Found). flat_map sink_in us) is ∙ flat_none sink_in FoundListing listings (λ x. refl))

-- of counters, whose steps find no log
pub record CountingSo (found : List Found) (listings : List Listing) (sink : ℕ) (empty : Bool) : Type 0 where
  pub logs_are : logs_of found ≡ []
  pub listings_are : listings_of found ≡ listings
  pub sinks_are : sinks_of found ≡ (sink, empty) ∷ []

pub found_counting : (listings : List Listing) (found : List Found) (sink : ℕ) (empty : Bool) → found ≡ found_behind (map FoundListing listings ++ FoundSink sink empty ∷ []) → CountingSo found listings sink empty
found_counting listings found sink empty are = rw are (record {
  logs_are = rw (flat_map-append log_in (map FoundListing listings) (FoundSink sink empty ∷ []), flat_none log_in FoundListing listings (λ x. refl)) refl;
  listings_are = rw (flat_map-append listing_in (map FoundListing listings) (FoundSink sink empty ∷ []), flat_same listing_in FoundListing listings (λ x. refl), append-nil listings) refl;
  sinks_are = rw (flat_map-append sink_in (map FoundListing listings) (FoundSink sink empty ∷ []), flat_none sink_in FoundListing listings (λ x. refl)) refl;
})
