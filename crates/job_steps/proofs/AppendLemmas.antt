-- A log file that is appended to: it is created, and looked at where it has bytes.
use Rattle.std.proofs.Common.{◌≡◌, ℕ, ◌+◌, ◌<◌, ◌≤◌, Bool, true, false, List, [], ◌∷◌, ◌++◌, length, take, take-add, drop, Ok, Err, refl, sym, ap, subst, ◌∙◌, inl, inr, arith, codes}
use Rattle.std.specs.Bool.{MatchBool}
use Rattle.std.specs.Str.{bytes_eq}
use Rattle.std.proofs.lemmas.List.{length-take-le}
use Rattle.std.proofs.lemmas.Slice.Eq.{bytes_eq-Decides}
use Rattle.log_model.specs.Faults.{HasNewFault}
use Rattle.log_model.specs.declared.fault.Halt.{Halt}
use Rattle.log_model.specs.declared.fault.Halt.TheVariants.{Fault, NoMemory}
use Rattle.log_model.specs.declared.text.Text.{Text}
use Rattle.vio.specs.declared.fault.WorldFault.TheVariants as world
use Rattle.vio.specs.declared.world.Created.{Created}
use Rattle.vio.specs.declared.world.TheConstants.{OUTPUT}
use Rattle.vio.specs.World.{Seen, Opening, Opened, Reading, Read, OnlyCounts, FaultsRose, IsAtEnd}
use Rattle.vio.specs.Calls.{Went, MetEnd, Mark, Call, Called, Create, Did, Open, Take, last_failed, none_failed}
use Rattle.vio.specs.Calls as calling
use Rattle.vio.specs.Streams.{CreatesStream, IsMadeBy}
use Rattle.vio.proofs.CallLemmas.{did_take, did_then}
use Rattle.vio.proofs.ReadLemmas.{called_refused}
use Rattle.vio.proofs.StepLemmas.{stopped_one}
use Rattle.vio.proofs.WholeLemmas.{FaultsRose-later, Read-counts, Read-nothing, Read-then}
use Rattle.vsl_file.specs.File.{file_header}
use Rattle.job_steps.specs.declared.fault.ToolFault.{ToolFault}
use Rattle.job_steps.specs.declared.fault.ToolFault.TheVariants.{NoOpen, OldLog, ReadFault}
use Rattle.job_steps.specs.Appends.{IsStart, IsStartBy, LookStops}
use Rattle.job_steps.specs.Steps.{AppendLog, Found, FoundSink, Passes, Stops}
use Rattle.job_steps.specs.Took.{EndedBy, TookAll}
use Rattle.job_steps.specs.inside.Tasks.{HasRead, IsStartOf, Looked, ReadFew}
use Rattle.job_steps.proofs.ObjectLemmas.{took_one}
use Rattle.job_steps.proofs.TookLemmas.{called_so}

-- ---- its first bytes

module _ (handle size : ℕ) (start : List ℕ) (s t u : Seen) (has : HasRead handle size start s t) where
  -- more bytes were read behind them
  pub more_read : (n : ℕ) (new : List ℕ) → take size new ≡ take size start → length new ≡ length start → size + n ≤ length start → Read handle (take n (drop size new)) t u → HasRead handle (size + n) new s u
  more_read n new kept long fits read = record {
    read = subst (λ (x : List ℕ). Read handle x s u) (sym (take-add size n new ∙ ap (λ (x : List ℕ). x ++ take n (drop size new)) kept)) (Read-then (take size start) (take n (drop size new)) has.read read);
    within = omega (arith, fits, has.eight);
    eight = long ∙ has.eight;
  }

  -- the end came before the eighth
  pub few_read : (new : List ℕ) → take size new ≡ take size start → size < 8 → Read handle [] t u → IsAtEnd handle u → Called (IsStartOf handle (take size new)) s u
  few_read new kept few read end =
      let long : length (take size start) ≡ size = length-take-le size start (omega (arith, has.within, has.eight)) in
      subst (λ (x : List ℕ). Called (IsStartOf handle x) s u) (sym kept) (record {
        calls = Take handle (take size start) MetEnd ∷ [];
        did = did_take handle (take size start) MetEnd s u (Read-nothing (take size start) has.read read) end;
        is = (MetEnd, refl, omega (arith, long, few));
      })

  -- a read failed
  pub none_read : size < 8 → OnlyCounts t u → FaultsRose Reading handle t u → ReadFew handle s u × FaultsRose Reading handle s u
  none_read few only rose =
      let long : length (take size start) ≡ size = length-take-le size start (omega (arith, has.within, has.eight)) in (
        record { bytes = take size start; read = Read-nothing (take size start) has.read (Read-counts handle t u only); few = omega (arith, long, few) },
        FaultsRose-later Reading handle s t u has.read.counts has.read.names rose,
      )

-- eight were read
pub all_read : (handle size : ℕ) (start : List ℕ) (s t : Seen) → HasRead handle size start s t → 8 ≤ size → Called (IsStartOf handle (take size start)) s t
all_read handle size start s t has many = record {
  calls = Take handle (take size start) Went ∷ [];
  did = did_take handle (take size start) Went s t has.read tt;
  is = (Went, refl, length-take-le size start (omega (arith, has.within, has.eight)) ∙ omega (arith, has.within, many));
}

-- ---- how it begins

-- it was opened, and this was read
start_by : (name start : List ℕ) (h : ℕ) (s t u : Seen) → Opened name h s t → (p : Called (IsStartOf h start) t u) → Did (Open name h ∷ p.calls) s u
start_by name start h s t u opened p = (t, opened, p.did)

-- with the header
pub looked_good : {A : Type 0} (name start header : List ℕ) (h : ℕ) (done : A) (s t u : Seen) → Opened name h s t → Called (IsStartOf h start) t u → header ≡ file_header → bytes_eq start header ≡ true → Called (Looked name (Ok done)) s u
looked_good name start header h done s t u opened p is same =
    let begins : start ≡ file_header = (bytes_eq-Decides start header).0 same ∙ is in
    record {
      calls = Open name h ∷ p.calls;
      did = start_by name start h s t u opened p;
      is = subst (λ (x : List ℕ). IsStartBy name x (Open name h ∷ p.calls)) begins (h, p.is.0, ap (λ (cs : List Call). Open name h ∷ cs) p.is.1, p.is.2);
    }

-- with something else
pub looked_old : (A : Type 0) (name start header : List ℕ) (copy : Text) (h : ℕ) (s t u : Seen) → copy ≡ name → Opened name h s t → Called (IsStartOf h start) t u → header ≡ file_header → bytes_eq start header ≡ false → Called (Looked {A = A} name (Err (Fault (OldLog copy)))) s u
looked_old A name start header copy h s t u is_name opened p is other =
    record {
      calls = Open name h ∷ p.calls;
      did = start_by name start h s t u opened p;
      is = inr (inr (start, (h, p.is.0, ap (λ (cs : List Call). Open name h ∷ cs) p.is.1, p.is.2), (λ same. let no : true ≡ false = sym ((bytes_eq-Decides start header).1 (same ∙ sym is)) ∙ other in cc), ap OldLog is_name));
    }

-- it can't be opened, or read
pub looked_shut : (A : Type 0) (name : List ℕ) (copy : Text) (s t : Seen) → copy ≡ name → OnlyCounts s t → HasNewFault (s.faults Opening name) (t.faults Opening name) → Called (Looked {A = A} name (Err (Fault (NoOpen copy)))) s t
looked_shut A name copy s t is_name only rose = called_so (λ calls are. inl (are, ap NoOpen is_name)) (called_refused only rose)

pub looked_unread : (A : Type 0) (name : List ℕ) (copy : Text) (h : ℕ) (s t u : Seen) → copy ≡ name → Opened name h s t → ReadFew h t u → FaultsRose Reading h t u → Called (Looked {A = A} name (Err (Fault (ReadFault copy)))) s u
looked_unread A name copy h s t u is_name opened some rose = record {
  calls = Open name h ∷ Take h some.bytes (calling.Failed name) ∷ [];
  did = (t, opened, (u, (some.read, rose.each name opened.is_named), refl));
  is = inr (inl (h, some.bytes, refl, ap ReadFault is_name, some.few));
}

-- ---- created and looked at

-- a file that was made with bytes is no stream
made_file : (b append : Bool) (name : List ℕ) (h : ℕ) (empty : Bool) (calls : List Call) → empty ≡ false → MatchBool b ((h ≡ OUTPUT) × (empty ≡ true) × (calls ≡ [])) (calls ≡ Create append name h empty ∷ []) → (b ≡ false) × (calls ≡ Create append name h false ∷ [])
made_file true append name h empty calls full made = let no : true ≡ false = sym made.1 ∙ full in absurd cc
made_file false append name h empty calls full made = (refl, made ∙ ap (λ (e : Bool). Create append name h e ∷ []) full)

pub is_full : (name : List ℕ) (sink : Created) (calls : List Call) → sink.empty ≡ false → IsMadeBy true name sink.handle sink.empty calls → (bytes_eq name (codes "-") ≡ false) × (calls ≡ Create true name sink.handle false ∷ [])
is_full name sink calls full made = made_file (bytes_eq name (codes "-")) true name sink.handle sink.empty calls full made

-- no call failed by which first bytes were read
start_none : (name start : List ℕ) (h : ℕ) (mark : Mark) (calls : List Call) → calls ≡ Open name h ∷ Take h start mark ∷ [] → IsStart start mark → none_failed calls ≡ true
start_none name start h Went calls are is = ap none_failed are
start_none name start h MetEnd calls are is = ap none_failed are
start_none name start h (calling.Failed file) calls are is = absurd is
start_none name start h calling.FailedEach calls are is = absurd is

match_not : (b : Bool) (P Q : Type 0) → b ≡ false → Q → MatchBool b P Q
match_not true P Q e q = absurd cc
match_not false P Q e q = q

abbrev pub IsSink : Created → List Found → Type 0
IsSink sink found = found ≡ FoundSink sink.handle sink.empty ∷ []

-- one that has bytes passes where it begins with the header
pub append_good : {A : Type 0} (name : List ℕ) (sink : Created) (done : A) (s t u : Seen) → sink.empty ≡ false → Called (CreatesStream true name (Ok sink)) s t → Called (Looked name (Ok done)) t u → Called (TookAll IsSink (AppendLog name ∷ []) (Ok sink)) s u
append_good name sink done s t u full p q =
    let made = is_full name sink p.calls full p.is in
    record {
      calls = p.calls ++ q.calls;
      did = did_then p.calls q.calls s t u p.did q.did;
      is = took_one IsSink [] (AppendLog name) (FoundSink sink.handle sink.empty) sink (p.calls ++ q.calls)
          (sink.handle, sink.empty, refl, (p.calls, q.calls, refl, p.is, match_not sink.empty _ _ full q.is)) refl
          (ap (λ (cs : List Call). none_failed (cs ++ q.calls)) made.1 ∙ start_none name file_header q.is.0 q.is.1 q.calls q.is.2 q.is.3);
    }

-- what was looked at failed in its last call, if in any
look_last : (name : List ℕ) (h : ℕ) (fault : ToolFault) (looked : List Call) → LookStops name fault looked → last_failed (Create true name h false ∷ looked) ≡ true
look_last name h fault looked (inl p) = ap (λ (cs : List Call). last_failed (Create true name h false ∷ cs)) p.0
look_last name h fault looked (inr (inl p)) = ap (λ (cs : List Call). last_failed (Create true name h false ∷ cs)) p.2
look_last name h fault looked (inr (inr p)) = ap (λ (cs : List Call). last_failed (Create true name h false ∷ cs)) p.1.2

-- one that has bytes is refused by what was seen of it, or there was no memory to look at it
pub append_ended : (A : Type 0) (name : List ℕ) (sink : Created) (halt : Halt ToolFault) (s t u : Seen) → sink.empty ≡ false → Called (CreatesStream true name (Ok sink)) s t → Called (Looked {A = A} name (Err halt)) t u → Called (EndedBy (AppendLog name ∷ []) halt) s u
append_ended A name sink (Fault fault) s t u full p q =
    let made = is_full name sink p.calls full p.is in
    let are : p.calls ++ q.calls ≡ Create true name sink.handle false ∷ q.calls = ap (λ (cs : List Call). cs ++ q.calls) made.1 in
    record {
      calls = p.calls ++ q.calls;
      did = did_then p.calls q.calls s t u p.did q.did;
      is = (stopped_one Passes Stops (AppendLog name) fault (p.calls ++ q.calls) (made.0, inr (sink.handle, q.calls, are, q.is)), ap last_failed are ∙ look_last name sink.handle fault q.calls q.is);
    }
append_ended A name sink NoMemory s t u full p q =
    let made = is_full name sink p.calls full p.is in
    record {
      calls = p.calls ++ q.calls;
      did = did_then p.calls q.calls s t u p.did q.did;
      is = inr (record { earlier = []; name = name; later = []; parts = refl; file = made.0; found = []; first = []; passed = refl; fail = refl; handle = sink.handle; are = λ i. made.1 i ++ q.is i });
    }

-- it isn't created
pub append_shut : (name : List ℕ) (copy : Text) (s t : Seen) → copy ≡ name → Called (CreatesStream true name (Err world.Failed)) s t → Called (EndedBy (AppendLog name ∷ []) (Fault (NoOpen copy))) s t
append_shut name copy s t same p = record {
  calls = p.calls;
  did = p.did;
  is = (stopped_one Passes Stops (AppendLog name) (NoOpen copy) p.calls (p.is.0, inl (p.is.1, ap NoOpen same)), ap last_failed p.is.1);
}
