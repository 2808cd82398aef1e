-- Where no count of faults rose no call of the work failed.
use Rattle.std.specs.List.{flat_map}
use Rattle.std.specs.Str.{bytes_eq}
use Rattle.std.proofs.Common.{◌≡◌, ◌⊎◌, ℕ, Bool, true, false, if◌then◌else◌, List, [], ◌∷◌, ◌++◌, not, ◌&&◌, refl, ◌∙◌, inl, inr, arith, codes}
use Rattle.std.proofs.lemmas.Bool.{cases_Bool}
use Rattle.log_model.specs.Faults.{HasNewFault}
use Rattle.vio.specs.declared.world.TheConstants.{ERRORS, INPUT, OUTPUT}
use Rattle.vio.specs.World.{Seen, CallKind, HasStreams, NoCountFalls, Reading, Writing}
use Rattle.vio.specs.Touches.{IsOneOf}
use Rattle.vio.specs.Calls.{AreWithin, Call, Create, Did, Does, Failed, FailedEach, IsWithin, Open, Refuse, Take, Write, created_in, has_failed, none_failed, opened_in}
use Rattle.vio.proofs.CallLemmas.{did_counts}
use Rattle.vio.proofs.TouchLemmas.{one_of_either, only_one, touch_own}
use Rattle.tool_words.specs.Command.{command_of}
use Rattle.job_steps.specs.Steps.{Step, OpenLog, MakeSink, AppendLog, creates_of, opens_of, reads, reads_of, writes, writes_of}
use Rattle.varnish_tools.specs.declared.outcome.Outcome.{Outcome}
use Rattle.varnish_tools.specs.Theorem.{IsFaithful, asked_of}
use Rattle.varnish_tools.proofs.TouchLemmas.{works_touch}

-- ---- calls

-- a count of faults rose
abbrev Rises : Seen → Seen → Type 0
Rises before now = (kind : CallKind) × (name : List ℕ) × HasNewFault (before.faults kind name) (now.faults kind name)

-- no count falls before it, nor behind it
pub rose_within : (kind : CallKind) (name : List ℕ) (r s t u : Seen) → NoCountFalls r s → HasNewFault (s.faults kind name) (t.faults kind name) → NoCountFalls t u → HasNewFault (r.faults kind name) (u.faults kind name)
rose_within kind name r s t u early rose late = omega (arith, early.each kind name, rose, late.each kind name)

-- these handles are given, and each has a name in calls of a kind
abbrev AreNamed : CallKind → List ℕ → Seen → Type 0
AreNamed kind handles now = (h : ℕ) → IsOneOf h handles → (name : List ℕ) × (now.given h ≡ true) × (now.names kind h name ≡ true)

named_still : (kind : CallKind) (handles : List ℕ) (call : Call) (s t : Seen) → Does call s t → AreNamed kind handles s → AreNamed kind handles t
named_still kind handles call s t does named h is = let p = named h is in let q = touch_own call s t does in (p.0, q.given h p.1, q.names kind h p.0 p.1 ∙ p.2)

-- with those that a call opened, and created
named_opened : (handles : List ℕ) (call : Call) (s t : Seen) → Does call s t → AreNamed Reading handles s → AreNamed Reading (opened_in call ++ handles) t
named_opened handles (Open name k) s t does named h (inl e) = rw e (name, does.given, does.is_named)
named_opened handles (Open name k) s t does named h (inr is) = named_still Reading handles (Open name k) s t does named h is
named_opened handles call s t does named h is = named_still Reading handles call s t does named h is

named_created : (handles : List ℕ) (call : Call) (s t : Seen) → Does call s t → AreNamed Writing handles s → AreNamed Writing (created_in call ++ handles) t
named_created handles (Create append name k empty) s t does named h (inl e) = rw e (name, does.given, does.is_named)
named_created handles (Create append name k empty) s t does named h (inr is) = named_still Writing handles (Create append name k empty) s t does named h is
named_created handles call s t does named h is = named_still Writing handles call s t does named h is

-- where a call failed, of a handle that has a name, a count rose
call_rises : (reads writes : List ℕ) (opened created : List (List ℕ)) (call : Call) (s t : Seen) → has_failed call ≡ true → IsWithin reads writes opened created call → Does call s t → AreNamed Reading reads s → AreNamed Writing writes s → Rises s t
call_rises r w o c (Take h bytes (Failed name)) s t failed is does read written = (Reading, name, does.1)
call_rises r w o c (Take h bytes FailedEach) s t failed is does read written = let p = read h is in (Reading, p.0, (does.1).each p.0 p.2)
call_rises r w o c (Write h bytes (Failed name)) s t failed is does read written = (Writing, name, does.1)
call_rises r w o c (Write h bytes FailedEach) s t failed is does read written = let p = written h is in (Writing, p.0, (does.1).each p.0 p.2)
call_rises r w o c (Refuse kind name) s t failed is does read written = (kind, name, does.1)
call_rises r w o c call s t failed is does read written = absurd cc

-- none of the calls failed, or a count rose
calls_rise : (reads writes : List ℕ) (opened created : List (List ℕ)) (calls : List Call) (s t : Seen) → AreWithin reads writes opened created calls → Did calls s t → AreNamed Reading reads s → AreNamed Writing writes s
    → (none_failed calls ≡ true) ⊎ Rises s t
calls_rise r w o c [] s t is did read written = inl refl
calls_rise r w o c (call ∷ calls) s t is did read written = elim (cases_Bool (has_failed call)) [
  | inl failed ↦ let rose = call_rises r w o c call s did.0 failed is.0 did.1 read written in inr (rose.0, rose.1, rose_within rose.0 rose.1 s s did.0 t (did_counts [] s s refl) rose.2 (did_counts calls did.0 t did.2))
  | inr went ↦ elim (calls_rise (opened_in call ++ r) (created_in call ++ w) o c calls did.0 t is.1 did.2 (named_opened r call s did.0 did.1 read) (named_created w call s did.0 did.1 written)) [
    | inl none ↦ inl (λ i. not (went i) && none i)
    | inr rose ↦ inr (rose.0, rose.1, rose_within rose.0 rose.1 s did.0 t t (touch_own call s did.0 did.1).counts rose.2 (did_counts [] t t refl))
  ]
]

-- ---- the work

-- a stream that steps name is the one that each of them names
module _ (streams : Step → List ℕ) (k : ℕ) (one : (step : Step) (h : ℕ) → IsOneOf h (streams step) → h ≡ k) where
  each_stream : (steps : List Step) (h : ℕ) → IsOneOf h (flat_map streams steps) → h ≡ k
  each_stream [] h is = absurd is
  each_stream (step ∷ steps) h is = elim (one_of_either h (streams step) (flat_map streams steps) is) [ inl first ↦ one step h first | inr later ↦ each_stream steps h later ]

stream_is : (b : Bool) (k h : ℕ) → IsOneOf h (if b then k ∷ [] else []) → h ≡ k
stream_is true k h is = only_one h k is
stream_is false k h is = absurd is

reads_input : (step : Step) (h : ℕ) → IsOneOf h (reads step) → h ≡ INPUT
reads_input (OpenLog name) h is = stream_is (bytes_eq name (codes "-")) INPUT h is
reads_input step h is = absurd is

writes_output : (step : Step) (h : ℕ) → IsOneOf h (writes step) → h ≡ OUTPUT
writes_output (MakeSink append name) h is = stream_is (bytes_eq name (codes "-")) OUTPUT h is
writes_output (AppendLog name) h is = stream_is (bytes_eq name (codes "-")) OUTPUT h is
writes_output step h is = absurd is

-- the streams that steps name, and standard error, have names
reads_named : (steps : List Step) (s : Seen) → HasStreams s → AreNamed Reading (reads_of steps) s
reads_named steps s streams h is = rw (each_stream reads INPUT reads_input steps h is) (codes "-", streams.input_given, streams.input)

writes_named : (steps : List Step) (s : Seen) → HasStreams s → AreNamed Writing (ERRORS ∷ writes_of steps) s
writes_named steps s streams h (inl e) = rw e (codes "stderr", streams.error_given, streams.error)
writes_named steps s streams h (inr is) = rw (each_stream writes OUTPUT writes_output steps h is) (codes "-", streams.output_given, streams.output)

-- where no count rose, no call of the work failed
pub quiet_work : (words : List (List ℕ)) (outcome : Outcome) (before now : Seen) → HasStreams before → (p : IsFaithful words outcome before now)
    → ((kind : CallKind) (name : List ℕ) → HasNewFault (before.faults kind name) (now.faults kind name) → ⊥) → none_failed p.works.work ≡ true
quiet_work words outcome before now streams p quiet =
    let q = p.works in
    let steps = asked_of (command_of words) in
    let touches = works_touch (command_of words) q.at outcome.fault outcome.run q.work q.works in
    elim (calls_rise (reads_of steps) (ERRORS ∷ writes_of steps) (opens_of steps) (creates_of steps) q.work before q.at touches.0 q.did (reads_named steps before streams) (writes_named steps before streams)) [
      | inl none ↦ none
      | inr rose ↦ absurd (quiet rose.0 rose.1 (rose_within rose.0 rose.1 before before q.at now (did_counts [] before before refl) rose.2 (did_counts q.said q.at now q.told)))
    ]
