-- Work in steps, put together.
use Rattle.std.specs.List.{flat_map}
use Rattle.std.proofs.Common.{◌≡◌, ℕ, ◌+◌, ◌<◌, ◌≤◌, true, List, [], ◌∷◌, ◌++◌, length, take, drop, get_or, map, refl, sym, ap, subst, ◌∙◌, append_assoc, arith}
use Rattle.std.proofs.lemmas.List.{append-nil, map-append, take_all, take_more, take-append-drop, drop_more}
use Rattle.std.proofs.lemmas.Grind.{flat_map-append}
use Rattle.log_model.specs.declared.fault.Halt.{Halt}
use Rattle.log_model.specs.declared.fault.Halt.TheVariants.{Fault, NoMemory}
use Rattle.vio.specs.World.{Seen}
use Rattle.vio.specs.Calls.{Call, Called, OnlyOpen, none_failed}
use Rattle.vio.specs.Steps.{Passed, Stopped, PassedSo, Halted}
use Rattle.vio.proofs.CallLemmas.{did_then, none_failed_then, last_failed_then, opens_then, opens_more}

module _ {S X F : Type 0} (Passes : S → X → List Call → Type 0) (Stops : S → F → List Call → Type 0) where
  -- steps that passed, and then others
  pub passed_then : (xs ys : List S) (us vs : List X) (a b : List Call) → Passed Passes Stops xs us a → Passed Passes Stops ys vs b → Passed Passes Stops (xs ++ ys) (us ++ vs) (a ++ b)
  passed_then [] ys [] vs a b p q = subst (λ (calls : List Call). Passed Passes Stops ys vs (calls ++ b)) (sym p) q
  passed_then (x ∷ xs) ys (u ∷ us) vs a b p q = (p.0, p.1 ++ b, ap (λ (calls : List Call). calls ++ b) p.2 ∙ append_assoc p.0 p.1 b, p.3, passed_then xs ys us vs p.1 b p.4 q)
  passed_then [] ys (u ∷ us) vs a b p q = absurd p
  passed_then (x ∷ xs) ys [] vs a b p q = absurd p

  -- one step that passed
  pub passed_one : (x : S) (u : X) (a : List Call) → Passes x u a → Passed Passes Stops (x ∷ []) (u ∷ []) a
  passed_one x u a p = (a, [], sym (append-nil a), p, refl)

  -- steps that passed, and then one of others that stopped
  pub stopped_behind : (xs ys : List S) (fault : F) (us : List X) (a b : List Call) → Passed Passes Stops xs us a → Stopped Passes Stops ys fault b → Stopped Passes Stops (xs ++ ys) fault (a ++ b)
  stopped_behind xs ys fault us a b p q = record {
    earlier = xs ++ q.earlier;
    step = q.step;
    later = q.later;
    parts = ap (λ (steps : List S). xs ++ steps) q.parts ∙ sym (append_assoc xs q.earlier (q.step ∷ q.later));
    found = us ++ q.found;
    first = a ++ q.first;
    last = q.last;
    are = ap (λ (calls : List Call). a ++ calls) q.are ∙ sym (append_assoc a q.first q.last);
    passed = passed_then xs q.earlier us q.found a q.first p q.passed;
    stops = q.stops;
  }

  -- one of the first stopped, whatever was to come
  pub stopped_before : (xs ys : List S) (fault : F) (a : List Call) → Stopped Passes Stops xs fault a → Stopped Passes Stops (xs ++ ys) fault a
  stopped_before xs ys fault a p = record {
    earlier = p.earlier;
    step = p.step;
    later = p.later ++ ys;
    parts = ap (λ (steps : List S). steps ++ ys) p.parts ∙ append_assoc p.earlier (p.step ∷ p.later) ys;
    found = p.found;
    first = p.first;
    last = p.last;
    are = p.are;
    passed = p.passed;
    stops = p.stops;
  }

  -- steps that passed, and others behind them that didn't all
  pub halted_behind : (names opened : List (List ℕ)) (xs ys : List S) (us : List X) (a b : List Call) (halt : Halt F) → Passed Passes Stops xs us a → none_failed a ≡ true → OnlyOpen names a → Halted Passes Stops opened ys halt b
      → Halted Passes Stops (names ++ opened) (xs ++ ys) halt (a ++ b)
  halted_behind names opened xs ys us a b (Fault fault) p fail opens halted = (stopped_behind xs ys fault us a b p halted.0, last_failed_then a b fail halted.1)
  halted_behind names opened xs ys us a b NoMemory p fail opens halted = opens_then names opened a b opens halted

  -- some of the first didn't pass, whatever was to come
  pub halted_before : (names opened : List (List ℕ)) (xs ys : List S) (halt : Halt F) (a : List Call) → Halted Passes Stops names xs halt a → Halted Passes Stops (names ++ opened) (xs ++ ys) halt a
  halted_before names opened xs ys (Fault fault) a halted = (stopped_before xs ys fault a halted.0, halted.1)
  halted_before names opened xs ys NoMemory a halted = opens_more names opened a halted

  -- the only step stopped
  pub stopped_one : (x : S) (fault : F) (a : List Call) → Stops x fault a → Stopped Passes Stops (x ∷ []) fault a
  stopped_one x fault a p = record { earlier = []; step = x; later = []; parts = refl; found = []; first = []; last = a; are = refl; passed = refl; stops = p }

-- while steps are taken, one after the other
module _ {S X F : Type 0} (Passes : S → X → List Call → Type 0) (Stops : S → F → List Call → Type 0) where
  -- the first n passed, these they found, and none of the calls failed
  abbrev pub PassedUntil : List S → ℕ → List X → Seen → Seen → Type 0
  PassedUntil xs n us before now = Called (PassedSo Passes Stops (λ found. found ≡ us) (take n xs)) before now

  -- one step more passed
  pub until_more : (xs : List S) (n : ℕ) (us : List X) (x : S) (u : X) (r s t : Seen) → n < length xs → x ≡ get_or xs n x → PassedUntil xs n us r s → Called (PassedSo Passes Stops (λ found. found ≡ u ∷ []) (x ∷ [])) s t
      → PassedUntil xs (n + 1) (us ++ u ∷ []) r t
  until_more xs n us x u r s t within is p more =
      let are : take n xs ++ x ∷ [] ≡ take (n + 1) xs = ap (λ (y : S). take n xs ++ y ∷ []) is ∙ sym (take_more xs n x within) in
      record {
        calls = p.calls ++ more.calls;
        did = did_then p.calls more.calls r s t p.did more.did;
        is = record {
          found = p.is.found ++ more.is.found;
          is = ap (λ (vs : List X). vs ++ more.is.found) p.is.is ∙ ap (λ (vs : List X). us ++ vs) more.is.is;
          passed = subst (λ (steps : List S). Passed Passes Stops steps (p.is.found ++ more.is.found) (p.calls ++ more.calls)) are (passed_then Passes Stops (take n xs) (x ∷ []) p.is.found more.is.found p.calls more.calls p.is.passed more.is.passed);
          fail = none_failed_then p.calls more.calls p.is.fail more.is.fail;
        };
      }

  -- all passed
  pub until_all : (xs : List S) (n : ℕ) (us : List X) (r s : Seen) → length xs ≤ n → PassedUntil xs n us r s → Called (PassedSo Passes Stops (λ found. found ≡ us) xs) r s
  until_all xs n us r s end p = subst (λ (steps : List S). Called (PassedSo Passes Stops (λ found. found ≡ us) steps) r s) (take_all n xs end) p

-- steps that only open files of their names and read them, whether they pass or stop
module _ {S X F : Type 0} (Passes : S → X → List Call → Type 0) (Stops : S → F → List Call → Type 0) (names : S → List (List ℕ)) (passes : (x : S) (u : X) (calls : List Call) → Passes x u calls → OnlyOpen (names x) calls)
    (stops : (x : S) (fault : F) (calls : List Call) → Stops x fault calls → OnlyOpen (names x) calls) where
  pub passed_opens : (xs : List S) (us : List X) (calls : List Call) → Passed Passes Stops xs us calls → OnlyOpen (flat_map names xs) calls
  passed_opens [] [] calls p = subst (λ (c : List Call). OnlyOpen [] c) (sym p) (tt, omega arith)
  passed_opens (x ∷ xs) (u ∷ us) calls p = subst (λ (c : List Call). OnlyOpen (names x ++ flat_map names xs) c) (sym p.2) (opens_then (names x) (flat_map names xs) p.0 p.1 (passes x u p.0 p.3) (passed_opens xs us p.1 p.4))
  passed_opens [] (u ∷ us) calls p = absurd p
  passed_opens (x ∷ xs) [] calls p = absurd p

  pub stopped_opens : (xs : List S) (fault : F) (calls : List Call) → Stopped Passes Stops xs fault calls → OnlyOpen (flat_map names xs) calls
  stopped_opens xs fault calls p =
      let opens = opens_then (flat_map names p.earlier) (names p.step ++ flat_map names p.later) p.first p.last (passed_opens p.earlier p.found p.first p.passed) (opens_more (names p.step) (flat_map names p.later) p.last (stops p.step fault p.last p.stops)) in
      let are : flat_map names p.earlier ++ (names p.step ++ flat_map names p.later) ≡ flat_map names xs = sym (ap (λ (steps : List S). flat_map names steps) p.parts ∙ flat_map-append names p.earlier (p.step ∷ p.later)) in
      subst (λ (c : List Call). OnlyOpen (flat_map names xs) c) (sym p.are) (subst (λ (n : List (List ℕ)). OnlyOpen n (p.first ++ p.last)) are opens)

  -- a step behind the first didn't pass
  pub until_halted : (xs : List S) (n : ℕ) (us : List X) (x : S) (halt : Halt F) (r s t : Seen) → n < length xs → x ≡ get_or xs n x → PassedUntil Passes Stops xs n us r s → Called (Halted Passes Stops (names x) (x ∷ []) halt) s t
      → Called (Halted Passes Stops (flat_map names xs) xs halt) r t
  until_halted xs n us x halt r s t within is p halted =
      let first = take n xs in let rest = drop (n + 1) xs in
      let are : first ++ x ∷ rest ≡ xs = ap (λ (y : S). first ++ y ∷ rest) is ∙ ap (λ (ys : List S). first ++ ys) (sym (drop_more xs n x within)) ∙ take-append-drop n xs in
      let all = halted_behind Passes Stops (flat_map names first) (names x ++ flat_map names rest) first (x ∷ rest) p.is.found p.calls halted.calls halt p.is.passed p.is.fail (passed_opens first p.is.found p.calls p.is.passed)
      (halted_before Passes Stops (names x) (flat_map names rest) (x ∷ []) rest halt halted.calls halted.is) in
      record {
        calls = p.calls ++ halted.calls;
        did = did_then p.calls halted.calls r s t p.did halted.did;
        is = subst (λ (steps : List S). Halted Passes Stops (flat_map names steps) steps halt (p.calls ++ halted.calls)) are
            (subst (λ (opened : List (List ℕ)). Halted Passes Stops opened (first ++ x ∷ rest) halt (p.calls ++ halted.calls)) (sym (flat_map-append names first (x ∷ rest))) all);
      }

  -- there was no memory behind the first
  pub until_lacked : (xs : List S) (n : ℕ) (us : List X) (r s : Seen) → PassedUntil Passes Stops xs n us r s → Called (OnlyOpen (flat_map names xs)) r s
  until_lacked xs n us r s p =
      let opens = opens_more (flat_map names (take n xs)) (flat_map names (drop n xs)) p.calls (passed_opens (take n xs) p.is.found p.calls p.is.passed) in
      let are = sym (flat_map-append names (take n xs) (drop n xs)) ∙ ap (λ (steps : List S). flat_map names steps) (take-append-drop n xs) in
      record { calls = p.calls; did = p.did; is = subst (λ (opened : List (List ℕ)). OnlyOpen opened p.calls) are opens }

-- steps of one kind as steps of another, with what they find
module _ {S X F T Y G : Type 0} (Passes : S → X → List Call → Type 0) (Stops : S → F → List Call → Type 0) (Passes' : T → Y → List Call → Type 0) (Stops' : T → G → List Call → Type 0) (turned : S → T) (shown : X → Y) (answered : F → G)
    (passes : (x : S) (u : X) (calls : List Call) → Passes x u calls → Passes' (turned x) (shown u) calls) (stops : (x : S) (f : F) (calls : List Call) → Stops x f calls → Stops' (turned x) (answered f) calls) where
  pub passed_as : (xs : List S) (us : List X) (calls : List Call) → Passed Passes Stops xs us calls → Passed Passes' Stops' (map turned xs) (map shown us) calls
  passed_as [] [] calls p = p
  passed_as (x ∷ xs) (u ∷ us) calls p = (p.0, p.1, p.2, passes x u p.0 p.3, passed_as xs us p.1 p.4)
  passed_as [] (u ∷ us) calls p = absurd p
  passed_as (x ∷ xs) [] calls p = absurd p

  pub stopped_as : (xs : List S) (fault : F) (calls : List Call) → Stopped Passes Stops xs fault calls → Stopped Passes' Stops' (map turned xs) (answered fault) calls
  stopped_as xs fault calls p = record {
    earlier = map turned p.earlier;
    step = turned p.step;
    later = map turned p.later;
    parts = ap (λ (steps : List S). map turned steps) p.parts ∙ map-append turned p.earlier (p.step ∷ p.later);
    found = map shown p.found;
    first = p.first;
    last = p.last;
    are = p.are;
    passed = passed_as p.earlier p.found p.first p.passed;
    stops = stops p.step fault p.last p.stops;
  }
