-- Steps of a job, some behind others.
use Rattle.std.proofs.Common.{◌≡◌, ℕ, true, false, List, [], ◌∷◌, ◌++◌, length, Result, Ok, Err, refl, sym, ap, subst, ◌∙◌, append_assoc, inl, inr, arith}
use Rattle.std.specs.Result.{IsErrAnd}
use Rattle.std.proofs.lemmas.Grind.{flat_map-append}
use Rattle.log_model.specs.declared.fault.Halt.{Halt}
use Rattle.log_model.specs.declared.fault.Halt.TheVariants.{Fault, NoMemory}
use Rattle.vio.specs.World.{Seen}
use Rattle.vio.specs.Calls.{Call, Called, Create, Lack, AreWithin, OnlyOpen, none_failed}
use Rattle.vio.specs.Steps.{Passed, PassedSo, Halted}
use Rattle.vio.proofs.CallLemmas.{did_then, none_failed_then, opens_more, opens_then}
use Rattle.vio.proofs.StepLemmas.{passed_then, halted_before, halted_behind}
use Rattle.job_steps.specs.declared.fault.ToolFault.{ToolFault}
use Rattle.job_steps.specs.Steps.{Step, AppendLog, Found, Passes, Stops, opens, opens_of, creates_of}
use Rattle.job_steps.specs.Took.{EndedBy}
use Rattle.job_steps.proofs.StepFacts.{passed_within}

-- calls that are so are so in another way
pub called_so : {IsSo IsToo : List Call → Type 0} {s t : Seen} → ((calls : List Call) → IsSo calls → IsToo calls) → Called IsSo s t → Called IsToo s t
called_so also p = record { calls = p.calls; did = p.did; is = also p.calls p.is }

-- what a `?` answers
pub err_from : {A E : Type 0} (result : Result A E) (e : E) → IsErrAnd result (λ x. x ≡ e) → result ≡ Err e
err_from (Ok x) e p = absurd p
err_from (Err x) e p = ap Err p

-- ---- the first steps end a job

-- steps that passed and create nothing touch the files alone that they open
pub opens_alone : (xs : List Step) (us : List Found) (a : List Call) → creates_of xs ≡ [] → Passed Passes Stops xs us a → OnlyOpen (opens_of xs) a
opens_alone xs us a none p = let w = passed_within xs us a p in
    (subst (λ (created : List (List ℕ)). AreWithin [] [] (opens_of xs) created a) none w.within, omega (arith, w.few, ap length none))

halted_in : (xs ys zs all : List Step) (opened : List (List ℕ)) (us : List Found) (a b : List Call) (halt : Halt ToolFault) → all ≡ xs ++ ys ++ zs → creates_of xs ≡ [] → opens_of ys ≡ opened → Passed Passes Stops xs us a → none_failed a ≡ true
    → Halted Passes Stops opened ys halt b → Halted Passes Stops (opens_of all) all halt (a ++ b)
halted_in xs ys zs all opened us a b halt e none names p fail halted =
    let last : Halted Passes Stops (opens_of ys) ys halt b = rw names halted in
    let behind = halted_behind Passes Stops (opens_of xs) (opens_of ys) xs ys us a b halt p fail (opens_alone xs us a none p) last in
    let before = halted_before Passes Stops (opens_of xs ++ opens_of ys) (opens_of zs) (xs ++ ys) zs halt (a ++ b) behind in
    rw (e, flat_map-append opens (xs ++ ys) zs, flat_map-append opens xs ys) before

-- steps passed, those behind them stopped or had no memory, and others were to come
pub then_halted : (IsFirst : List Found → Type 0) (xs ys zs all : List Step) (opened : List (List ℕ)) (halt : Halt ToolFault) (r s t : Seen) → all ≡ xs ++ ys ++ zs → creates_of xs ≡ [] → opens_of ys ≡ opened
    → Called (PassedSo Passes Stops IsFirst xs) r s → Called (Halted Passes Stops opened ys halt) s t → Called (Halted Passes Stops (opens_of all) all halt) r t
then_halted IsFirst xs ys zs all opened halt r s t e none names p q = record {
  calls = p.calls ++ q.calls;
  did = did_then p.calls q.calls r s t p.did q.did;
  is = halted_in xs ys zs all opened p.is.found p.calls q.calls halt e none names p.is.passed p.is.fail q.is;
}

-- steps passed, and there was no memory
pub then_short : (IsFirst : List Found → Type 0) (xs zs all : List Step) (r s : Seen) → all ≡ xs ++ zs → creates_of xs ≡ [] → Called (PassedSo Passes Stops IsFirst xs) r s → Called (OnlyOpen (opens_of all)) r s
then_short IsFirst xs zs all r s e none p = called_so (λ calls so. subst (λ (opened : List (List ℕ)). OnlyOpen opened calls) (sym (flat_map-append opens xs zs) ∙ ap opens_of (sym e))
    (opens_more (opens_of xs) (opens_of zs) calls (opens_alone xs so.found calls none so.passed))) p

-- ---- log files that are appended to among them

-- steps that didn't pass, where none was looked at
pub ended_by : (steps : List Step) (halt : Halt ToolFault) (calls : List Call) → Halted Passes Stops (opens_of steps) steps halt calls → EndedBy steps halt calls
ended_by steps (Fault fault) calls p = p
ended_by steps NoMemory calls p = inl p

-- steps passed that create nothing, and those behind them didn't
ended_behind : (xs ys : List Step) (halt : Halt ToolFault) (us : List Found) (a b : List Call) → creates_of xs ≡ [] → Passed Passes Stops xs us a → none_failed a ≡ true → EndedBy ys halt b → EndedBy (xs ++ ys) halt (a ++ b)
ended_behind xs ys (Fault fault) us a b none p fail ended = halted_behind Passes Stops (opens_of xs) (opens_of ys) xs ys us a b (Fault fault) p fail (opens_alone xs us a none p) ended
ended_behind xs ys NoMemory us a b none p fail (inl only) =
    inl (subst (λ (opened : List (List ℕ)). OnlyOpen opened (a ++ b)) (sym (flat_map-append opens xs ys)) (opens_then (opens_of xs) (opens_of ys) a b (opens_alone xs us a none p) only))
ended_behind xs ys NoMemory us a b none p fail (inr look) = inr (record {
  earlier = xs ++ look.earlier;
  name = look.name;
  later = look.later;
  parts = ap (λ (steps : List Step). xs ++ steps) look.parts ∙ sym (append_assoc xs look.earlier (AppendLog look.name ∷ look.later));
  file = look.file;
  found = us ++ look.found;
  first = a ++ look.first;
  passed = passed_then Passes Stops xs look.earlier us look.found a look.first p look.passed;
  fail = none_failed_then a look.first fail look.fail;
  handle = look.handle;
  are = ap (λ (calls : List Call). a ++ calls) look.are ∙ sym (append_assoc a look.first (Create true look.name look.handle false ∷ Lack ∷ []));
})

pub then_ended : (IsFirst : List Found → Type 0) (xs ys : List Step) (halt : Halt ToolFault) (r s t : Seen) → creates_of xs ≡ [] → Called (PassedSo Passes Stops IsFirst xs) r s → Called (EndedBy ys halt) s t → Called (EndedBy (xs ++ ys) halt) r t
then_ended IsFirst xs ys halt r s t none p q = record {
  calls = p.calls ++ q.calls;
  did = did_then p.calls q.calls r s t p.did q.did;
  is = ended_behind xs ys halt p.is.found p.calls q.calls none p.is.passed p.is.fail q.is;
}

-- ---- steps pass

-- what was found by two parts
pub record Both (IsFirst IsLast : List Found → Type 0) (us : List Found) : Type 0 where
  pub first : List Found
  pub last : List Found
  pub are : us ≡ first ++ last
  pub first_so : IsFirst first
  pub last_so : IsLast last

-- no step passed yet
pub none_passed : (s : Seen) → Called (PassedSo Passes Stops (λ us. us ≡ []) []) s s
none_passed s = record { calls = []; did = refl; is = record { found = []; is = refl; passed = refl; fail = refl } }

-- steps passed, and then others
pub then_passed : (IsFirst IsLast : List Found → Type 0) (xs ys : List Step) (r s t : Seen) → Called (PassedSo Passes Stops IsFirst xs) r s → Called (PassedSo Passes Stops IsLast ys) s t → Called (PassedSo Passes Stops (Both IsFirst IsLast) (xs ++ ys)) r t
then_passed IsFirst IsLast xs ys r s t p q = record {
  calls = p.calls ++ q.calls;
  did = did_then p.calls q.calls r s t p.did q.did;
  is = record {
    found = p.is.found ++ q.is.found;
    is = record { first = p.is.found; last = q.is.found; are = refl; first_so = p.is.is; last_so = q.is.is };
    passed = passed_then Passes Stops xs ys p.is.found q.is.found p.calls q.calls p.is.passed q.is.passed;
    fail = none_failed_then p.calls q.calls p.is.fail q.is.fail;
  };
}

-- what was found is so in another way
pub passed_so : {IsSo IsToo : List Found → Type 0} {xs : List Step} {s t : Seen} → ((us : List Found) → IsSo us → IsToo us) → Called (PassedSo Passes Stops IsSo xs) s t → Called (PassedSo Passes Stops IsToo xs) s t
passed_so also p = called_so (λ calls so. record { found = so.found; is = also so.found so.is; passed = so.passed; fail = so.fail }) p
