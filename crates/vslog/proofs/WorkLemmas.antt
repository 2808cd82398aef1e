-- The steps of the work, and what was said behind it.
use Rattle.std.proofs.Common.{◌≡◌, ℕ, Bool, true, false, List, [], ◌∷◌, ◌++◌, Result, Ok, Err, inl, inr, refl, sym, ap, subst, ◌∙◌}
use Rattle.std.specs.Prelude.{if◌then◌else◌, ◌&&◌, nat_lt}
use Rattle.std.proofs.lemmas.List.{append-nil}
use Rattle.log_model.specs.Prefix.{IsProperPrefix}
use Rattle.vio.specs.declared.fault.WorldFault.TheVariants.{Failed, NoMemory}
use Rattle.vio.specs.declared.world.Created.{Created}
use Rattle.vio.specs.World.{Seen, Writing, Wrote, FaultsRose}
use Rattle.vio.specs.Writes.{WroteOn}
use Rattle.vio.specs.Calls.{Call, Called, Did, Write, Went, FailedEach}
use Rattle.vio.specs.Streams.{CreatesStream, IsMadeBy, IsOpenedBy}
use Rattle.vio.proofs.CallLemmas.{did_then, did_write}
use Rattle.vsl_file.specs.File.{file_header}
use Rattle.one_command.specs.Promise.{Says, SaysPart}
use Rattle.varnish_log.specs.declared.copying.Copied.{Copied}
use Rattle.varnish_log.specs.Copied.{CopiedThen, IsLog, IsStarved}
use Rattle.vslog.specs.declared.ended.RunFault.TheVariants.{NoOutput, NoHeader, CutShort}
use Rattle.vslog.specs.declared.ended.Ended.{Ended}
use Rattle.vslog.specs.declared.ended.Ended.TheVariants.{Refused, Stopped, Done}
use Rattle.vslog.specs.declared.words.UsageFault.{UsageFault}
use Rattle.vslog.specs.Messages.{text_due, usage_message}
use Rattle.vslog.specs.declared.work.Ends.{Ends}
use Rattle.vslog.specs.Words.{Job}
use Rattle.vslog.specs.Theorem.{Begun, Copies, HeaderStops, Lacks, LacksWork, Runs, StopsWith, Works, WorksOff, header_calls, settled}
use Rattle.vslog.specs.inside.Work.{IsBegun}

-- ---- beginning

module _ (job : Job) (input : ℕ) (s t : Seen) (open_calls : Called (IsOpenedBy job.input input) s t) where
  -- it can't be created, or there was no memory for that
  pub no_output : (u : Seen) → Called (CreatesStream job.append job.output (Err Failed)) t u → Called (StopsWith job NoOutput) s u
  no_output u p = record { calls = open_calls.calls ++ p.calls; did = did_then open_calls.calls p.calls s t u open_calls.did p.did; is = (input, open_calls.calls, open_calls.is, p.is.0, ap (λ (x : List Call). open_calls.calls ++ x) p.is.1) }

  pub lacks_output : (u : Seen) → Called (CreatesStream job.append job.output (Err NoMemory)) t u → Called (LacksWork job) s u
  lacks_output u p = record { calls = open_calls.calls ++ p.calls; did = did_then open_calls.calls p.calls s t u open_calls.did p.did; is = inr (inr (inl (input, open_calls.calls, open_calls.is, ap (λ (x : List Call). open_calls.calls ++ x) p.is))) }

  module _ (made : Created) (u : Seen) (make_calls : Called (IsMadeBy job.append job.output made.handle made.empty) t u) where
    abbrev both : List Call
    both = open_calls.calls ++ make_calls.calls

    did_both : Did both s u
    did_both = did_then open_calls.calls make_calls.calls s t u open_calls.did make_calls.did

    -- what was made is empty or not, and then these calls were made
    begun_so : (ends : Ends) (v : Seen) → ends ≡ record { input = input; output = made.handle } → Called (λ calls. calls ≡ header_calls made.handle made.empty) u v → Called (IsBegun job ends) s v
    begun_so ends v is p = record {
      calls = both ++ p.calls;
      did = did_then both p.calls s u v did_both p.did;
      is = record {
        input = input;
        output = made.handle;
        empty = made.empty;
        opened = open_calls.calls;
        made = make_calls.calls;
        rest = [];
        are = ap (λ (x : List Call). both ++ x) p.is ∙ sym (append-nil (both ++ header_calls made.handle made.empty));
        opens = open_calls.is;
        makes = make_calls.is;
        is = (sym (ap (λ (x : Ends). x.input) is), sym (ap (λ (x : Ends). x.output) is), refl);
      };
    }

    -- nothing more is written, since it isn't empty
    pub begun_full : (ends : Ends) → ends ≡ record { input = input; output = made.handle } → made.empty ≡ false → Called (IsBegun job ends) s u
    begun_full ends is full = begun_so ends u is (record { calls = []; did = refl; is = rw full refl })

    -- the header is written
    pub begun_empty : (ends : Ends) (text : List ℕ) (v : Seen) → ends ≡ record { input = input; output = made.handle } → made.empty ≡ true → text ≡ file_header → Wrote made.handle text u v → Called (IsBegun job ends) s v
    begun_empty ends text v is none header wrote = begun_so ends v is (record { calls = Write made.handle text Went ∷ []; did = did_write made.handle text Went u v wrote tt; is = rw (none, header) refl })

    -- not all of it
    header_stops : (IsLast : ℕ → List ℕ → List Call) (text part : List ℕ) → made.empty ≡ true → text ≡ file_header → IsProperPrefix part text → HeaderStops job IsLast (open_calls.calls ++ make_calls.calls ++ IsLast made.handle part)
    header_stops IsLast text part none header proper = record {
      input = input;
      output = made.handle;
      opened = open_calls.calls;
      made = make_calls.calls;
      part = part;
      are = refl;
      opens = open_calls.is;
      makes = subst (λ (b : Bool). IsMadeBy job.append job.output made.handle b make_calls.calls) none make_calls.is;
      proper = rw (← header) proper;
    }

    pub no_header : (text : List ℕ) (v : Seen) → made.empty ≡ true → text ≡ file_header → WroteOn made.handle [] (λ part. IsProperPrefix part text) u v → FaultsRose Writing made.handle u v → Called (StopsWith job NoHeader) s v
    no_header text v none header w rose = record {
      calls = both ++ Write made.handle w.added FailedEach ∷ [];
      did = did_then both (Write made.handle w.added FailedEach ∷ []) s u v did_both (did_write made.handle w.added FailedEach u v w.wrote rose);
      is = header_stops (λ output part. Write output part FailedEach ∷ []) text w.added none header w.is;
    }

    pub lacks_header : (text : List ℕ) (v : Seen) → made.empty ≡ true → text ≡ file_header → WroteOn made.handle [] (λ part. IsProperPrefix part text) u v → Called (LacksWork job) s v
    lacks_header text v none header w = record {
      calls = both ++ Write made.handle w.added Went ∷ [];
      did = did_then both (Write made.handle w.added Went ∷ []) s u v did_both (did_write made.handle w.added Went u v w.wrote tt);
      is = inr (inr (inr (inl (header_stops (λ output part. Write output part Went ∷ []) text w.added none header w.is))));
    }

-- ---- behind the beginning

-- and then these calls were made
pub begun_then : (job : Job) (ends : Ends) (IsRest : ℕ → ℕ → List Call → Type 0) (s t u : Seen) → Called (IsBegun job ends) s t → Called (IsRest ends.input ends.output) t u → Called (Begun job IsRest) s u
begun_then job ends IsRest s t u p q =
    let b = p.is in
    record {
      calls = p.calls ++ q.calls;
      did = did_then p.calls q.calls s t u p.did q.did;
      is = record {
        input = b.input;
        output = b.output;
        empty = b.empty;
        opened = b.opened;
        made = b.made;
        rest = q.calls;
        are = ap (λ (x : List Call). x ++ q.calls) (b.are ∙ ap (λ (x : List Call). b.opened ++ b.made ++ header_calls b.output b.empty ++ x) b.is.2 ∙ append-nil (b.opened ++ b.made ++ header_calls b.output b.empty));
        opens = b.opens;
        makes = b.makes;
        is = rw (b.is.0, b.is.1) q.is;
      };
    }

-- ---- behind the work

-- a message was said behind it
pub works_off : (job : Job) (ended : Ended) (IsSaid : List Call → Type 0) (s t u : Seen) → Called (Works job ended) s t → Called IsSaid t u → Called (WorksOff job ended IsSaid) s u
works_off job ended IsSaid s t u p q =
    record { calls = p.calls ++ q.calls; did = did_then p.calls q.calls s t u p.did q.did; is = record { work = p.calls; said = q.calls; are = refl; works = p.is; says = q.is } }

-- there was no memory to copy the log
pub lacks_copying : (job : Job) (s t : Seen) → Called (Begun job (λ input output rest. IsLog job.asked input (λ how first. CopiedThen how input output first (IsStarved how input output)) rest)) s t → Called (LacksWork job) s t
lacks_copying job s t p = record { calls = p.calls; did = p.did; is = inr (inr (inr (inr p.is))) }

-- a log that was copied, by whether an end that cuts a part stops that
pub settled_works : (job : Job) (copied : Copied) (s t : Seen) → Called (Copies job copied) s t → Called (Works job (settled job.asked.strict copied)) s t
settled_works job copied s t p =
    elim (job.asked.strict && nat_lt 0 copied.left) as (λ b. (job.asked.strict && nat_lt 0 copied.left) ≡ b → Called (Works job (if b then Stopped (CutShort copied.left) else Done copied)) s t) [
      | true ↦ λ e. record { calls = p.calls; did = p.did; is = (copied, p.is, rw e refl) }
      | false ↦ λ e. record { calls = p.calls; did = p.did; is = (p.is, rw e refl) }
    ] refl

-- ---- what was said of it

-- the words were refused
pub refused_says : (words : List (List ℕ)) (fault : UsageFault) (text : List ℕ) (s t : Seen) → text ≡ usage_message words fault → Called (Says text) s t → Called (Runs words (Err fault) (Refused fault)) s t
refused_says words fault text s t is p = record { calls = p.calls; did = p.did; is = (refl, subst (λ (x : List ℕ). Says x p.calls) is p.is) }

pub refused_lacks : (words : List (List ℕ)) (fault : UsageFault) (text : List ℕ) (s t : Seen) → text ≡ usage_message words fault → Called (SaysPart text) s t → Called (Lacks words (Err fault)) s t
refused_lacks words fault text s t is p = record { calls = p.calls; did = p.did; is = subst (λ (x : List ℕ). SaysPart x p.calls) is p.is }

pub none_said : (text : List ℕ) (s : Seen) → Called (SaysPart text) s s
none_said text s = record { calls = []; did = refl; is = inl refl }

-- a job was worked off, and then its message said, or for want of memory a part of it
pub ran : (words : List (List ℕ)) (job : Job) (stated : Result Job UsageFault) (ended : Ended) (text : List ℕ) (s t u : Seen) → stated ≡ Ok job → Called (Works job ended) s t → text ≡ text_due job ended → Called (Says text) t u → Called (Runs words stated ended) s u
ran words job stated ended text s t u is p due said = rw is (works_off job ended (Says (text_due job ended)) s t u p (rw (← due) said))

pub lacked : (words : List (List ℕ)) (job : Job) (stated : Result Job UsageFault) (ended : Ended) (text : List ℕ) (s t u : Seen) → stated ≡ Ok job → Called (Works job ended) s t → text ≡ text_due job ended → Called (SaysPart text) t u → Called (Lacks words stated) s u
lacked words job stated ended text s t u is p due said =
    let q = works_off job ended (SaysPart (text_due job ended)) s t u p (rw (← due) said) in
    rw is (record { calls = q.calls; did = q.did; is = inr (ended, q.is) })

-- there was no memory for the work
pub lacked_work : (words : List (List ℕ)) (job : Job) (stated : Result Job UsageFault) (s t : Seen) → stated ≡ Ok job → Called (LacksWork job) s t → Called (Lacks words stated) s t
lacked_work words job stated s t is p = rw is (record { calls = p.calls; did = p.did; is = inl p.is })
