-- What a run comes to, call by call.
use Rattle.std.proofs.Common.{◌≡◌, ◌⊎◌, ℕ, ◌≤◌, Bool, true, false, List, [], ◌∷◌, ◌++◌, length, arith, refl, sym, subst, inl, inr, rules, Result, Ok, Err, IfOk, OnErr}
use Rattle.std.proofs.lemmas.List.{append-nil}
use Rattle.vio.specs.World.{Seen}
use Rattle.vio.specs.Calls.{Call, Take, Write, Did, AreOn, fails}
use Rattle.vio.proofs.CallLemmas.{did_then, on_append, on_writes, on_reads}
use Rattle.ring_layout.specs.declared.item.Item.{Item}
use Rattle.one_run.specs.declared.met.Met.{Met}
use Rattle.log_model.specs.declared.fault.NoMemory.{NoMemory}
use Rattle.one_run.specs.declared.pass.RunEnd.{RunEnd}
use Rattle.one_run.specs.declared.pass.RunEnd.TheVariants as ends
use Rattle.one_run.specs.Counts.{IsMet}
use Rattle.vio.proofs.AloneLemmas.{but_then, but_late, but_reads}
use Rattle.one_run.specs.Run.{AtReads, EndsBy, IsCaughtUp, LastCame, Made, MadeBut, Ran, RanShort, Started, asked_of}
use Rattle.one_run.specs.inside.Turns.{Goes, IsCaught, StopTo}

-- what is said of each answer
pub each_ok : {A E : Type 0} {P Q : A → Type 0} (r : Result A E) → ((x : A) → P x → Q x) → IfOk r P → IfOk r Q
each_ok (Ok x) so p = so x p
each_ok (Err e) so p = Prim.search rules

pub each_err : {A E P Q : Type 0} (r : Result A E) → (P → Q) → OnErr r P → OnErr r Q
each_err (Ok x) so p = Prim.search rules
each_err (Err e) so p = so p

-- what was made is so
pub made_so : {alone : List ℕ} {IsSo IsToo : List Call → Type 0} {go : Bool} {reads writes : List ℕ} {s t : Seen} → (made : MadeBut alone go reads writes IsSo s t) → IsToo made.calls → MadeBut alone go reads writes IsToo s t
made_so made so = record { calls = made.calls; did = made.did; on = made.on; fail = made.fail; is = so }

-- calls of which none failed, and then calls that read, or write
pub made_read : {alone : List ℕ} {IsSo IsToo IsMore : List Call → Type 0} {go : Bool} {reads writes : List ℕ} {s t u : Seen} → (first : MadeBut alone true reads writes IsSo s t) → (more : Made go reads [] IsMore t u) → IsToo (first.calls ++ more.calls) → MadeBut alone go reads writes IsToo s u
made_read {alone = alone} {go = go} {reads = reads} {writes = writes} {s = s} {t = t} {u = u} first more so = record {
  calls = first.calls ++ more.calls;
  did = did_then first.calls more.calls s t u first.did more.did;
  on = on_append reads writes first.calls more.calls first.on (on_reads reads writes more.calls more.on);
  fail = but_then alone go first.calls more.calls first.fail (but_reads alone reads go more.calls more.on more.fail);
  is = so;
}

pub made_wrote : {alone : List ℕ} {IsSo IsToo IsMore : List Call → Type 0} {go : Bool} {reads writes : List ℕ} {s t u : Seen} → (first : MadeBut alone true reads writes IsSo s t) → (more : MadeBut alone go [] writes IsMore t u) → IsToo (first.calls ++ more.calls) → MadeBut alone go reads writes IsToo s u
made_wrote {alone = alone} {go = go} {reads = reads} {writes = writes} {s = s} {t = t} {u = u} first more so = record {
  calls = first.calls ++ more.calls;
  did = did_then first.calls more.calls s t u first.did more.did;
  on = on_append reads writes first.calls more.calls first.on (on_writes reads writes more.calls more.on);
  fail = but_then alone go first.calls more.calls first.fail more.fail;
  is = so;
}

-- ---- whenever a read is made

reads_append : (IsSo : List Call → Type 0) (xs ys : List Call) → AtReads IsSo xs → AtReads (λ before. IsSo (xs ++ before)) ys → AtReads IsSo (xs ++ ys)
reads_append IsSo [] ys p q = q
reads_append IsSo (Take h bytes mark ∷ xs) ys p q = (p.0, reads_append (λ before. IsSo (Take h bytes mark ∷ before)) xs ys p.1 q)
reads_append IsSo (call ∷ xs) ys p q = reads_append (λ before. IsSo (call ∷ before)) xs ys p q

-- calls that write alone make no read
pub none_read : (IsSo : List Call → Type 0) (writes : List ℕ) (ys : List Call) → AreOn [] writes ys → AtReads IsSo ys
none_read IsSo writes [] on = tt
none_read IsSo writes (Take h bytes mark ∷ ys) on = absurd on.0
none_read IsSo writes (call ∷ ys) on = none_read (λ before. IsSo (call ∷ before)) writes ys on.1

-- what is so whenever a read is made is whatever follows of it
pub reads_so : (IsSo IsToo : List Call → Type 0) (xs : List Call) → ((before : List Call) → IsSo before → IsToo before) → AtReads IsSo xs → AtReads IsToo xs
reads_so IsSo IsToo [] so p = tt
reads_so IsSo IsToo (Take h bytes mark ∷ xs) so p = (so [] p.0, reads_so (λ before. IsSo (Take h bytes mark ∷ before)) (λ before. IsToo (Take h bytes mark ∷ before)) xs (λ before q. so (Take h bytes mark ∷ before) q) p.1)
reads_so IsSo IsToo (call ∷ xs) so p = reads_so (λ before. IsSo (call ∷ before)) (λ before. IsToo (call ∷ before)) xs (λ before q. so (call ∷ before) q) p

-- the handles that may be read for what comes next are those of the source
asked_on : (hand : Bool) (reads : List ℕ) (xs : List Call) → AreOn (asked_of hand reads) [] xs → AreOn reads [] xs
asked_on true reads xs on = on_writes reads [] xs on
asked_on false reads xs on = on

wrote_prompt : (ready : List Call → Type 0) (writes : List ℕ) (xs more : List Call) → AtReads ready xs → AreOn [] writes more → AtReads ready (xs ++ more)
wrote_prompt ready writes xs more p on = reads_append ready xs more p (none_read (λ before. ready (xs ++ before)) writes more on)

-- a run that began
pub start_so : {alone : List ℕ} (gave : List Call → List Item → Bool → Type 0) (printed : List Call → List Item → Type 0) (reads : List ℕ) {writes : List ℕ} {s t : Seen} → (made : MadeBut alone true [] writes (λ calls. printed calls []) s t) → gave made.calls [] false → MadeBut alone true reads writes (Started gave printed) s t
start_so gave printed reads {writes = writes} made came = record { calls = made.calls; did = made.did; on = on_writes reads writes made.calls made.on; fail = made.fail; is = record { came = came; prints = made.is; quiet = none_read (λ before. ⊥) writes made.calls made.on } }

-- goes on
pub begun_so : {alone : List ℕ} {gave : List Call → List Item → Bool → Type 0} (ready : List Call → Type 0) {printed took : List Call → List Item → Type 0} {reads writes : List ℕ} {s t : Seen} (met : Met) → IsMet met [] → ((calls : List Call) → printed calls [] → took calls []) → MadeBut alone true reads writes (Started gave printed) s t → MadeBut alone true reads writes (Goes gave ready took met []) s t
begun_so ready met count takes made = made_so made (record { came = made.is.came; takes = takes made.calls made.is.prints; count = count; prompt = reads_so (λ before. ⊥) ready made.calls (λ before none. absurd none) made.is.quiet })

-- a run that goes on, in which nothing but writes was done
module _ {alone : List ℕ} {gave : List Call → List Item → Bool → Type 0} {ready : List Call → Type 0} {took : List Call → List Item → Type 0} {reads writes : List ℕ} {s t : Seen} (met : Met) (done : List Item) (first : MadeBut alone true reads writes (Goes gave ready took met done) s t) (stays : (calls more : List Call) → gave calls done false → AreOn [] writes more → gave (calls ++ more) done false) where
  -- it goes on, and what it took is so now
  pub wrote_goes : {u : Seen} (now : List Call → List Item → Type 0) → (more : MadeBut alone true [] writes (λ more. now (first.calls ++ more) done) t u) → MadeBut alone true reads writes (Goes gave ready now met done) s u
  wrote_goes now more = made_wrote first more (record { came = stays first.calls more.calls first.is.came more.on; takes = more.is; count = first.is.count; prompt = wrote_prompt ready writes first.calls more.calls first.is.prompt more.on })

  -- what is so with it
  pub wrote_with : {u : Seen} {go : Bool} (Now : List Call → Type 0) → (more : MadeBut alone go [] writes (λ more. Now (first.calls ++ more)) t u) → MadeBut alone go reads writes (λ calls. gave calls done false × Now calls) s u
  wrote_with Now more = made_wrote first more (stays first.calls more.calls first.is.came more.on, more.is)

-- whenever a read is made nothing but reads was made before
reads_on : (IsSo : List Call → Type 0) (reads : List ℕ) (ys : List Call) → AreOn reads [] ys → AtReads IsSo ys → AtReads (λ before. IsSo before × AreOn reads [] before) ys
reads_on IsSo reads [] on p = tt
reads_on IsSo reads (Take h bytes mark ∷ ys) on p = (
  (p.0, tt),
  reads_so (λ before. IsSo (Take h bytes mark ∷ before) × AreOn reads [] before) (λ before. IsSo (Take h bytes mark ∷ before) × AreOn reads [] (Take h bytes mark ∷ before)) ys (λ before q. (q.0, (on.0, q.1)))
      (reads_on (λ before. IsSo (Take h bytes mark ∷ before)) reads ys on.1 p.1),
)
reads_on IsSo reads (call ∷ ys) on p = absurd on.0

-- a run whose source was asked
module _ {alone : List ℕ} {gave : List Call → List Item → Bool → Type 0} (hand : Bool) (reads : List ℕ) (asks printed took prints : List Call → List Item → Type 0) {writes : List ℕ} {s t : Seen} (met : Met) (done : List Item)
    (first : MadeBut alone true reads writes (Goes gave (IsCaughtUp asks printed) (IsCaught hand took prints) met done) s t)
    (printed_so : (calls : List Call) → prints calls done → printed calls done)
    (took_stays : (calls more : List Call) → took calls done → AreOn reads [] more → took (calls ++ more) done) (prints_stays : (calls more : List Call) → prints calls done → AreOn reads [] more → prints (calls ++ more) done) where
  still : (b : Bool) (calls more : List Call) → IsCaught b took prints calls done → AreOn reads [] more → IsCaught b took prints (calls ++ more) done
  still true calls more p on = took_stays calls more p on
  still false calls more p on = prints_stays calls more p on

  prompt_by : (b : Bool) (calls more : List Call) → IsCaught b took prints calls done → AtReads (IsCaughtUp asks printed) calls → AreOn (asked_of b reads) [] more → AtReads (λ part. asks (calls ++ part) done) more → AtReads (IsCaughtUp asks printed) (calls ++ more)
  prompt_by true calls more p prompt on asked_so = wrote_prompt (IsCaughtUp asks printed) [] calls more prompt on
  prompt_by false calls more p prompt on asked_so = reads_append (IsCaughtUp asks printed) calls more prompt
      (reads_so (λ part. asks (calls ++ part) done × AreOn reads [] part) (λ part. IsCaughtUp asks printed (calls ++ part)) more
      (λ part q. record { met = done; asked = q.0; prints = printed_so (calls ++ part) (prints_stays calls part p q.1) }) (reads_on (λ part. asks (calls ++ part) done) reads more on asked_so))

  pub asked : {go : Bool} {u : Seen} {Now : List Call → Type 0} → Made go (asked_of hand reads) [] (λ more. AtReads (λ part. asks (first.calls ++ part) done) more × Now (first.calls ++ more)) t u
      → MadeBut alone go reads writes (λ calls. Now calls × IsCaught hand took prints calls done × AtReads (IsCaughtUp asks printed) calls) s u
  asked {go = go} {u = u} {Now = Now} read =
      let on = asked_on hand reads read.calls read.on in
      let more : Made go reads [] (λ more. Now (first.calls ++ more)) t u = record { calls = read.calls; did = read.did; on = on; fail = read.fail; is = read.is.1 } in
      made_read first more (read.is.1, still hand first.calls read.calls first.is.takes on, prompt_by hand first.calls read.calls first.is.takes first.is.prompt read.on read.is.0)

-- the output answered behind that, and what came stays
pub answered : {alone : List ℕ} {Came Caught : List Call → Type 0} {ready : List Call → Type 0} {go : Bool} {reads writes : List ℕ} {s t u : Seen} (Now : List Call → Type 0) → (first : MadeBut alone true reads writes (λ calls. Came calls × Caught calls × AtReads ready calls) s t)
    → ((calls more : List Call) → Came calls → AreOn [] writes more → Came (calls ++ more)) → (wrote : MadeBut alone go [] writes (λ more. Now (first.calls ++ more)) t u) → MadeBut alone go reads writes (λ calls. Came calls × Now calls × AtReads ready calls) s u
answered {ready = ready} {writes = writes} Now first stays wrote = made_wrote first wrote (stays first.calls wrote.calls first.is.0 wrote.on, wrote.is, wrote_prompt ready writes first.calls wrote.calls first.is.2 wrote.on)

module _ {alone : List ℕ} {E F : Type 0} (gave : List Call → List Item → Bool → Type 0) (stopped : F → List Call → List Item → Type 0) (ready : List Call → Type 0) (printed : List Call → List Item → Type 0) (ended : E → List Call → List Item → List Item → Bool → Type 0) {reads writes : List ℕ} {s t : Seen} where
  -- the output ended, when the last had come
  pub output_ended : {IsSo : List Call → Type 0} {u : Seen} (met : Met) (ending : E) (done last : List Item) (all : Bool) → length last ≤ 1 → IsMet met (done ++ last) → (first : MadeBut alone true reads writes IsSo s t) → gave first.calls (done ++ last) all → AtReads ready first.calls
      → MadeBut alone false [] writes (λ more. ended ending (first.calls ++ more) done last all) t u → MadeBut alone false reads writes (Ran gave stopped ready printed ended writes (ends.ByOutput ending) met) s u
  output_ended met ending done last all one count first came prompt wrote =
      made_wrote first wrote (record { done = done; last = last; all = all; one = one; count = count; ends = (first.calls, wrote.calls, refl, wrote.on, came, wrote.is); prompt = wrote_prompt ready writes first.calls wrote.calls prompt wrote.on })

  -- and behind what was printed before
  pub behind_ended : {IsSo : List Call → Type 0} {u : Seen} (met : Met) (ending : E) (done : List Item) (all : Bool) → IsMet met done → (first : MadeBut alone true reads writes IsSo s t) → gave first.calls done all → AtReads ready first.calls
      → MadeBut alone false [] writes (λ more. ended ending (first.calls ++ more) done [] all) t u → MadeBut alone false reads writes (Ran gave stopped ready printed ended writes (ends.ByOutput ending) met) s u
  behind_ended met ending done all count first came prompt wrote =
      let none : done ++ [] ≡ done = append-nil done in
      output_ended met ending done [] all (omega arith) (subst (λ (list : List Item). IsMet met list) (sym none) count) first (subst (λ (list : List Item). gave first.calls list all) (sym none) came) prompt wrote

  -- the source stopped
  pub source_stopped : (met : Met) (fault : F) (done : List Item) → IsMet met done → MadeBut alone false reads writes (λ calls. stopped fault calls done × printed calls done × AtReads ready calls) s t → MadeBut alone false reads writes (Ran gave stopped ready printed ended writes (ends.BySource fault) met) s t
  source_stopped met fault done count made =
      made_so made (record { done = done; last = []; all = false; one = omega arith; count = subst (λ (list : List Item). IsMet met list) (sym (append-nil done)) count; ends = (refl, made.is.0, made.is.1); prompt = made.is.2 })

  -- it stopped with what was at hand
  pub stop_ended : {IsSo : List Call → Type 0} {u : Seen} (end : RunEnd E F) (met : Met) (fault : F) (starved : List Call → List Item → Bool → Type 0) (done : List Item) → IsMet met done → (first : MadeBut alone true reads writes IsSo s t) → gave first.calls done false → ((more : List Call) → AreOn [] writes more → Did more t u → stopped fault (first.calls ++ more) done) → AtReads ready first.calls
      → MadeBut alone false [] writes (λ more. StopTo {M = NoMemory} fault (λ now. printed (first.calls ++ more) now) (λ ending now last all. ended ending (first.calls ++ more) now last all) (λ now all. starved (first.calls ++ more) now all) (Ok end) done) t u → MadeBut alone false reads writes (Ran gave stopped ready printed ended writes end met) s u
  stop_ended (ends.ByOutput ending) met fault starved done count first came stops prompt wrote = behind_ended met ending done false count first came prompt wrote
  stop_ended (ends.BySource why) met fault starved done count first came stops prompt wrote = made_wrote first wrote (record {
    done = done;
    last = [];
    all = false;
    one = omega arith;
    count = subst (λ (list : List Item). IsMet met list) (sym (append-nil done)) count;
    ends = (refl, subst (λ (f : F). stopped f (first.calls ++ wrote.calls) done) (sym wrote.is.0) (stops wrote.calls wrote.on wrote.did), wrote.is.1);
    prompt = wrote_prompt ready writes first.calls wrote.calls prompt wrote.on;
  })

pub short_so : {alone : List ℕ} {gave : List Call → List Item → Bool → Type 0} {lacking took : List Call → List Item → Type 0} {starved : List Call → List Item → Bool → Type 0} {IsSo : List Call → Type 0} {reads writes : List ℕ} {s t : Seen} (list : List Item) (all : Bool)
    → (made : MadeBut alone false reads writes IsSo s t) → (gave made.calls list all × starved made.calls list all) ⊎ ((gave made.calls list all ⊎ lacking made.calls list) × took made.calls list) → MadeBut alone false reads writes (RanShort gave lacking took starved) s t
short_so list all made so = made_so made (record { met = list; all = all; ends = so })

-- where none of the calls failed, and where nothing came yet
pub short_late : {alone : List ℕ} {gave : List Call → List Item → Bool → Type 0} {lacking took : List Call → List Item → Type 0} {starved : List Call → List Item → Bool → Type 0} {IsSo : List Call → Type 0} {reads writes : List ℕ} {s t : Seen} (list : List Item)
    → (made : MadeBut alone true reads writes IsSo s t) → gave made.calls list false → took made.calls list → MadeBut alone false reads writes (RanShort gave lacking took starved) s t
short_late {alone = alone} list made came takes = record { calls = made.calls; did = made.did; on = made.on; fail = but_late alone false made.calls made.fail; is = record { met = list; all = false; ends = inr (inl came, takes) } }

pub short_began : {alone : List ℕ} {gave : List Call → List Item → Bool → Type 0} {lacking took : List Call → List Item → Type 0} {starved : List Call → List Item → Bool → Type 0} (reads : List ℕ) {writes : List ℕ} {s t : Seen}
    → (made : MadeBut alone false [] writes (λ calls. starved calls [] false) s t) → gave made.calls [] false → MadeBut alone false reads writes (RanShort gave lacking took starved) s t
short_began reads {writes = writes} made came = record { calls = made.calls; did = made.did; on = on_writes reads writes made.calls made.on; fail = made.fail; is = record { met = []; all = false; ends = inl (came, made.is) } }

-- the output ended before all items
pub output_began : {alone : List ℕ} {E F : Type 0} (gave : List Call → List Item → Bool → Type 0) (stopped : F → List Call → List Item → Type 0) (ready : List Call → Type 0) (printed : List Call → List Item → Type 0) (ended : E → List Call → List Item → List Item → Bool → Type 0) (reads : List ℕ) {writes : List ℕ} {s t : Seen}
    (met : Met) (ending : E) → IsMet met [] → gave [] [] false → MadeBut alone false [] writes (λ calls. ended ending calls [] [] false) s t → MadeBut alone false reads writes (Ran gave stopped ready printed ended writes (ends.ByOutput ending) met) s t
output_began gave stopped ready printed ended reads {writes = writes} met ending count fresh made = record {
  calls = made.calls;
  did = made.did;
  on = on_writes reads writes made.calls made.on;
  fail = made.fail;
  is = record { done = []; last = []; all = false; one = omega arith; count = count; ends = ([], made.calls, refl, made.on, fresh, made.is); prompt = none_read ready writes made.calls made.on };
}

-- what was caught up was taken, and printed where an item has a message
module _ (took printed : List Call → List Item → Type 0) (calls : List Call) (done : List Item) where
  pub caught_takes : (hand : Bool) → (printed calls done → took calls done) → IsCaught hand took printed calls done → took calls done
  caught_takes true takes p = p
  caught_takes false takes p = takes p

  pub caught_prints : (hand quiet : Bool) → (hand ≡ true → quiet ≡ true) → IsCaught hand took printed calls done → quiet ≡ false → printed calls done
  caught_prints true quiet so p e = absurd cc (so refl, e)
  caught_prints false quiet so p e = p

-- a source that is as it was gave the same
pub goes_at : {S : Type 0} {alone : List ℕ} {ready : List Call → Type 0} {took : List Call → List Item → Type 0} {met : Met} {done : List Item} {reads writes : List ℕ} {s t : Seen} {old : S} (gave : S → List Call → List Item → Bool → Type 0) (now : S) → now ≡ old
    → MadeBut alone true reads writes (Goes (gave old) ready took met done) s t → MadeBut alone true reads writes (Goes (gave now) ready took met done) s t
goes_at {alone = alone} {ready = ready} {took = took} {met = met} {done = done} {reads = reads} {writes = writes} {s = s} {t = t} gave now same made =
    subst (λ (x : _). MadeBut alone true reads writes (Goes (gave x) ready took met done) s t) (sym same) made

-- calls that read no handle and write none are none
none_of : (xs : List Call) → AreOn [] [] xs → xs ≡ []
none_of [] on = refl
none_of (Take h bytes mark ∷ xs) on = absurd on.0
none_of (Write h bytes mark ∷ xs) on = absurd on.0
none_of (call ∷ xs) on = absurd on.0

-- where what comes next is at hand nothing is read for it, so nothing fails, and what came before stays
pub hand_read : {alone : List ℕ} {gave : List Call → List Item → Bool → Type 0} {ready : List Call → Type 0} {took : List Call → List Item → Type 0} {go : Bool} {reads writes : List ℕ} {s t u : Seen} (Asks Now : List Call → Type 0) (met : Met) (done : List Item) (first : MadeBut alone true reads writes (Goes gave ready took met done) s t)
    → ((calls more : List Call) → gave calls done false → AreOn [] [] more → gave (calls ++ more) done false) → (read : Made go [] [] (λ more. AtReads (λ part. Asks (first.calls ++ part)) more × Now (first.calls ++ more)) t u)
    → Made true [] [] (λ more. AtReads (λ part. Asks (first.calls ++ part)) more × (Now (first.calls ++ more) × gave (first.calls ++ more) done false)) t u
hand_read Asks Now met done first stays read = record {
  calls = read.calls;
  did = read.did;
  on = read.on;
  fail = subst (λ (xs : List Call). fails true xs ≡ true) (sym (none_of read.calls read.on)) refl;
  is = (read.is.0, (read.is.1, stays first.calls read.calls first.is.came read.on));
}

-- where none failed, none failed but perhaps the last
pub made_late : {alone : List ℕ} {IsSo IsToo : List Call → Type 0} {reads writes : List ℕ} {s t : Seen} → (made : MadeBut alone true reads writes IsSo s t) → IsToo made.calls → MadeBut alone false reads writes IsToo s t
made_late {alone = alone} made so = record { calls = made.calls; did = made.did; on = made.on; fail = but_late alone false made.calls made.fail; is = so }

-- what came of a source that never has what comes next at hand came until it was as it is
pub last_final : {S : Type 0} (gave : S → List Call → List Item → Bool → Type 0) (final : S) (calls : List Call) (met : List Item) (all : Bool) → LastCame gave (λ s. false) final calls met all → gave final calls met all
last_final gave final calls met all p = by_end p.2 where
  by_end : (p.0 ≡ final) ⊎ (false ≡ true) → gave final calls met all
  by_end (inl same) = subst (λ (s : _). gave s calls met all) same p.1
  by_end (inr hand) = absurd cc

-- a run is so by whatever follows of what it is by
module _ {F E : Type 0} {gave gave_too : List Call → List Item → Bool → Type 0} {stopped stopped_too : F → List Call → List Item → Type 0} (ready ready_too : List Call → Type 0) {printed printed_too : List Call → List Item → Type 0} {ended ended_too : E → List Call → List Item → List Item → Bool → Type 0} (writes : List ℕ)
    (gives : (calls : List Call) (met : List Item) (all : Bool) → gave calls met all → gave_too calls met all) (stops : (fault : F) (calls : List Call) (met : List Item) → stopped fault calls met → stopped_too fault calls met) (prints : (calls : List Call) (met : List Item) → printed calls met → printed_too calls met)
    (ending_is : (ending : E) (calls : List Call) (done last : List Item) (all : Bool) → ended ending calls done last all → ended_too ending calls done last all) where
  ends_too : (end : RunEnd E F) (calls : List Call) (done last : List Item) (all : Bool) → EndsBy gave stopped ready printed ended writes end calls done last all → EndsBy gave_too stopped_too ready_too printed_too ended_too writes end calls done last all
  ends_too (ends.ByOutput ending) calls done last all p = (p.0, p.1, p.2, p.3, gives p.0 (done ++ last) all p.4, ending_is ending calls done last all p.5)
  ends_too (ends.BySource fault) calls done last all p = (p.0, stops fault calls done p.1, prints calls done p.2)

  pub ran_too : (end : RunEnd E F) (met : Met) (calls : List Call) → (AtReads ready calls → AtReads ready_too calls) → Ran gave stopped ready printed ended writes end met calls → Ran gave_too stopped_too ready_too printed_too ended_too writes end met calls
  ran_too end met calls readies r = record { done = r.done; last = r.last; all = r.all; one = r.one; count = r.count; ends = ends_too end calls r.done r.last r.all r.ends; prompt = readies r.prompt }

-- and one that had no memory
pub short_too : {gave gave_too : List Call → List Item → Bool → Type 0} {lacking took : List Call → List Item → Type 0} {starved : List Call → List Item → Bool → Type 0} (gives : (calls : List Call) (met : List Item) (all : Bool) → gave calls met all → gave_too calls met all) (calls : List Call) → RanShort gave lacking took starved calls → RanShort gave_too lacking took starved calls
short_too {gave = gave} {gave_too = gave_too} {lacking = lacking} {took = took} {starved = starved} gives calls r = record { met = r.met; all = r.all; ends = by r.ends } where
  by : (gave calls r.met r.all × starved calls r.met r.all) ⊎ ((gave calls r.met r.all ⊎ lacking calls r.met) × took calls r.met)
      → (gave_too calls r.met r.all × starved calls r.met r.all) ⊎ ((gave_too calls r.met r.all ⊎ lacking calls r.met) × took calls r.met)
  by (inl p) = inl (gives calls r.met r.all p.0, p.1)
  by (inr (inl p, q)) = inr (inl (gives calls r.met r.all p), q)
  by (inr (inr p, q)) = inr (inr p, q)
