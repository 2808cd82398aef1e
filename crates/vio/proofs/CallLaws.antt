-- What calls come to in the world: what was told of handles and files before them tells it of after them.
use Rattle.std.proofs.Common.{◌≡◌, ℕ, ◌<◌, Bool, true, false, List, [], ◌∷◌, ◌++◌, Some, refl, sym, ap, subst, ◌∙◌, inl, inr, eqb, arith, ◌&&◌, ◌||◌}
use Rattle.std.proofs.lemmas.Bool.{cases_Bool, cases_eq, eqb-true, eqb-false}
use Rattle.std.proofs.lemmas.List.{append-nil}
use Rattle.log_model.specs.Faults.{HasNewFault}
use Rattle.vio.specs.World.{Seen, CallKind, Reading, Writing, Gains, Loses, Wrote, Read, NoCountFalls, IsAtEnd}
use Rattle.vio.specs.declared.world.TheConstants.{ERRORS}
use Rattle.vio.specs.Touches.{IsOneOf, IsNewHandle}
use Rattle.vio.proofs.WholeLemmas.{Gains-then, Loses-then}
use Rattle.vio.proofs.TouchLemmas.{did_touch, one_of_left, one_of_right, touch_own}
use Rattle.vio.proofs.CallLemmas.{did_counts}
use Rattle.vio.specs.Calls.{Mark, Call, Take, Write, Open, Create, Refuse, Lack, Marks, Does, Did, AreOn, AreWithin, IsWithin, OnlyOpen, opened_in, created_in, handles_given, written_by, taken_by, of_handle, has_read, is_end, IsFailed}

-- ---- what is written

gains_none : (s t : Seen) (h : ℕ) → t.written h ≡ s.written h → Gains (s.written h) (t.written h) []
gains_none s t h same = λ a told. same ∙ told ∙ ap Some (sym (append-nil a))

wrote_by : (b : Bool) (k h : ℕ) (bytes : List ℕ) (s t : Seen) → eqb k h ≡ b → Wrote k bytes s t → Gains (s.written h) (t.written h) (of_handle b bytes)
wrote_by true k h bytes s t e w = subst (λ (i : ℕ). Gains (s.written i) (t.written i) bytes) (eqb-true k h e) w.gains
wrote_by false k h bytes s t e w = gains_none s t h (w.other_written h (λ same. eqb-false k h e (sym same)))

-- a handle gained what calls wrote to it
pub did_gain : (h : ℕ) (calls : List Call) (s t : Seen) → Did calls s t → Gains (s.written h) (t.written h) (written_by h calls)
did_gain h [] s t did = gains_none s t h (ap (λ (x : Seen). x.written h) did)
did_gain h (Take k bytes mark ∷ calls) s t did = Gains-then _ _ _ [] _ (gains_none s did.0 h ((did.1.0).written h)) (did_gain h calls did.0 t did.2)
did_gain h (Write k bytes mark ∷ calls) s t did = Gains-then _ _ _ (of_handle (eqb k h) bytes) _ (wrote_by (eqb k h) k h bytes s did.0 refl did.1.0) (did_gain h calls did.0 t did.2)
did_gain h (Open name k ∷ calls) s t did = Gains-then _ _ _ [] _ (gains_none s did.0 h ((did.1).written h)) (did_gain h calls did.0 t did.2)
did_gain h (Create append name k empty ∷ calls) s t did = Gains-then _ _ _ [] _ (gains_none s did.0 h ((did.1).written h)) (did_gain h calls did.0 t did.2)
did_gain h (Refuse kind name ∷ calls) s t did = Gains-then _ _ _ [] _ (gains_none s did.0 h ((did.1.0).written h)) (did_gain h calls did.0 t did.2)
did_gain h (Lack ∷ calls) s t did = Gains-then _ _ _ [] _ (gains_none s did.0 h ((did.1).written h)) (did_gain h calls did.0 t did.2)

-- ---- what is given stays given

pub did_given : (h : ℕ) (calls : List Call) (s t : Seen) → Did calls s t → s.given h ≡ true → t.given h ≡ true
did_given h [] s t did given = ap (λ (x : Seen). x.given h) did ∙ given
did_given h (call ∷ calls) s t did given = did_given h calls did.0 t did.2 ((touch_own call s did.0 did.1).given h given)

-- and keeps its names
did_name : (calls : List Call) (s t : Seen) (kind : CallKind) (h : ℕ) (name : List ℕ) → s.given h ≡ true → Did calls s t → t.names kind h name ≡ s.names kind h name
did_name [] s t kind h name given did = ap (λ (x : Seen). x.names kind h name) did
did_name (call ∷ calls) s t kind h name given did = let q = touch_own call s did.0 did.1 in did_name calls did.0 t kind h name (q.given h given) did.2 ∙ q.names kind h name given

-- ---- what is taken

loses_none : (s t : Seen) (h : ℕ) → t.left h ≡ s.left h → Loses (s.left h) (t.left h) []
loses_none s t h same = λ a told. (a, refl, same ∙ told)

took_by : (b : Bool) (k h : ℕ) (bytes : List ℕ) (s t : Seen) → eqb k h ≡ b → Read k bytes s t → Loses (s.left h) (t.left h) (of_handle b bytes)
took_by true k h bytes s t e r = subst (λ (i : ℕ). Loses (s.left i) (t.left i) bytes) (eqb-true k h e) r.loses
took_by false k h bytes s t e r = loses_none s t h (r.other_left h (λ same. eqb-false k h e (sym same)))

-- a handle that was given lost what calls took from it
pub did_lose : (h : ℕ) (calls : List Call) (s t : Seen) → s.given h ≡ true → Did calls s t → Loses (s.left h) (t.left h) (taken_by h calls)
did_lose h [] s t given did = loses_none s t h (ap (λ (x : Seen). x.left h) did)
did_lose h (Take k bytes mark ∷ calls) s t given did = Loses-then _ _ _ (of_handle (eqb k h) bytes) _ (took_by (eqb k h) k h bytes s did.0 refl did.1.0) (did_lose h calls did.0 t ((did.1.0).given h ∙ given) did.2)
did_lose h (call ∷ calls) s t given did =
    let q = touch_own call s did.0 did.1 in Loses-then _ _ _ [] _ (loses_none s did.0 h (q.left h given (λ is. is))) (did_lose h calls did.0 t (q.given h given) did.2)

-- ---- what is touched

-- the files hold what they held, where calls only open and read
pub did_keep : (names : List (List ℕ)) (calls : List Call) (s t : Seen) (name bytes : List ℕ) → OnlyOpen names calls → Did calls s t → s.held name ≡ Some bytes → t.held name ≡ Some bytes
did_keep names calls s t name bytes only did told = (did_touch [] [] names [] calls s t only.0 did).held name bytes told (λ one. one) (λ h one. absurd one)

-- ---- what is given

-- a handle that is now given, but wasn't before, is the new one
new_handle : (s t : Seen) (h i : ℕ) → ((j : ℕ) → ¬ (j ≡ h) → t.given j ≡ s.given j) → s.given i ≡ false → t.given i ≡ true → i ≡ h
new_handle s t h i others none given = elim (cases_eq i h) [
  | inl e ↦ e
  | inr other ↦ let same = others i other in absurd cc
]

new_by_call : (call : Call) (s t : Seen) (h : ℕ) → Does call s t → s.given h ≡ false → t.given h ≡ true → IsOneOf h (opened_in call ++ created_in call)
new_by_call (Open name k) s t h p none new = inl (new_handle s t k h p.other_given none new)
new_by_call (Create append name k empty) s t h p none new = inl (new_handle s t k h p.other_given none new)
new_by_call (Take k bytes mark) s t h p none new = let same = (p.0).given h in absurd cc
new_by_call (Write k bytes mark) s t h p none new = let same = (p.0).given h in absurd cc
new_by_call (Refuse kind name) s t h p none new = let same = (p.0).given h in absurd cc
new_by_call Lack s t h p none new = let same = p.given h in absurd cc

-- a handle that calls made new is one that they opened or created
pub did_give : (calls : List Call) (s t : Seen) (h : ℕ) → Did calls s t → s.given h ≡ false → t.given h ≡ true → IsOneOf h (handles_given calls)
did_give [] s t h did none new = let same = ap (λ (x : Seen). x.given h) did in absurd cc
did_give (call ∷ calls) s t h did none new = elim (cases_Bool (did.0.given h)) [
  | inl e ↦ one_of_left h (opened_in call ++ created_in call) (handles_given calls) (new_by_call call s did.0 h did.1 none e)
  | inr e ↦ one_of_right h (opened_in call ++ created_in call) (handles_given calls) (did_give calls did.0 t h did.2 e new)
]

module _ (reads writes : List ℕ) (opened created : List (List ℕ)) where
  named_by_call : (call : Call) (s t : Seen) (h : ℕ) → IsWithin reads writes opened created call → Does call s t → s.given h ≡ false → t.given h ≡ true → IsNewHandle opened created h t
  named_by_call (Open name k) s t h is p none new = inl (name, is, rw (new_handle s t k h p.other_given none new) p.is_named)
  named_by_call (Create append name k empty) s t h is p none new = inr (name, is, rw (new_handle s t k h p.other_given none new) p.is_named)
  named_by_call call s t h is p none new = absurd (new_by_call call s t h p none new)

named_still : (opened created : List (List ℕ)) (h : ℕ) (calls : List Call) (s t : Seen) → s.given h ≡ true → Did calls s t → IsNewHandle opened created h s → IsNewHandle opened created h t
named_still opened created h calls s t given did (inl new) = inl (new.0, new.1, did_name calls s t Reading h new.0 given did ∙ new.2)
named_still opened created h calls s t given did (inr new) = inr (new.0, new.1, did_name calls s t Writing h new.0 given did ∙ new.2)

-- and it has the name under which they opened or created it
pub did_give_named : (reads writes : List ℕ) (opened created : List (List ℕ)) (calls : List Call) (s t : Seen) (h : ℕ) → AreWithin reads writes opened created calls → Did calls s t → s.given h ≡ false → t.given h ≡ true → IsNewHandle opened created h t
did_give_named r w o c [] s t h are did none new = let same = ap (λ (x : Seen). x.given h) did in absurd cc
did_give_named r w o c (call ∷ calls) s t h are did none new = elim (cases_Bool (did.0.given h)) [
  | inl e ↦ named_still o c h calls did.0 t e did.2 (named_by_call r w o c call s did.0 h are.0 did.1 none e)
  | inr e ↦ did_give_named (opened_in call ++ r) (created_in call ++ w) o c calls did.0 t h are.1 did.2 e new
]

-- ---- what failed

fault_first : (kind : CallKind) (name : List ℕ) (s t u : Seen) → HasNewFault (s.faults kind name) (t.faults kind name) → NoCountFalls t u → HasNewFault (s.faults kind name) (u.faults kind name)
fault_first kind name s t u rose counts = omega (arith, counts.each kind name, rose)

fault_later : (kind : CallKind) (name : List ℕ) (s t u : Seen) → NoCountFalls s t → HasNewFault (t.faults kind name) (u.faults kind name) → HasNewFault (s.faults kind name) (u.faults kind name)
fault_later kind name s t u counts rose = omega (arith, counts.each kind name, rose)

one_failed : (kind : CallKind) (name : List ℕ) (call : Call) (s t : Seen) → IsFailed kind name call → Does call s t → HasNewFault (s.faults kind name) (t.faults kind name)
one_failed kind name (Take h bytes mark) s t p does = subst (λ (k : CallKind). HasNewFault (s.faults k name) (t.faults k name)) (sym p.0) (subst (λ (m : Mark). Marks Reading h m s t) p.1 does.1)
one_failed kind name (Write h bytes mark) s t p does = subst (λ (k : CallKind). HasNewFault (s.faults k name) (t.faults k name)) (sym p.0) (subst (λ (m : Mark). Marks Writing h m s t) p.1 does.1)
one_failed kind name (Refuse why file) s t p does = subst (λ (k : CallKind). HasNewFault (s.faults k name) (t.faults k name)) (sym p.0) (subst (λ (n : List ℕ). HasNewFault (s.faults why n) (t.faults why n)) (sym p.1) does.1)
one_failed kind name call s t p does = absurd p

-- where one of the calls failed under a name, the count of these faults rose
pub did_fail : (kind : CallKind) (name : List ℕ) (call : Call) (calls : List Call) (s t : Seen) → IsOneOf call calls → IsFailed kind name call → Did calls s t → HasNewFault (s.faults kind name) (t.faults kind name)
did_fail kind name call [] s t is failed did = absurd is
did_fail kind name call (c ∷ calls) s t (inl e) failed did =
    fault_first kind name s did.0 t (one_failed kind name c s did.0 (subst (λ (x : Call). IsFailed kind name x) e failed) did.1) (did_counts calls did.0 t did.2)
did_fail kind name call (c ∷ calls) s t (inr is) failed did =
    fault_later kind name s did.0 t (touch_own c s did.0 did.1).counts (did_fail kind name call calls did.0 t is failed did.2)

each_failed : (h : ℕ) (part name : List ℕ) (s t : Seen) → s.names Reading h name ≡ true → Does (Take h part Mark.FailedEach) s t → HasNewFault (s.faults Reading name) (t.faults Reading name)
each_failed h part name s t named does = (does.1).each name named

-- where a read of a handle failed that was given before, the count of failed reads rose for each name that it had
pub did_fail_each : (h : ℕ) (part name : List ℕ) (calls : List Call) (s t : Seen) → s.given h ≡ true → s.names Reading h name ≡ true → IsOneOf (Take h part Mark.FailedEach) calls → Did calls s t → HasNewFault (s.faults Reading name) (t.faults Reading name)
did_fail_each h part name [] s t given named is did = absurd is
did_fail_each h part name (c ∷ calls) s t given named (inl e) did =
    fault_first Reading name s did.0 t (each_failed h part name s did.0 named (subst (λ (x : Call). Does x s did.0) (sym e) did.1)) (did_counts calls did.0 t did.2)
did_fail_each h part name (c ∷ calls) s t given named (inr is) did =
    let q = touch_own c s did.0 did.1 in
    fault_later Reading name s did.0 t q.counts (did_fail_each h part name calls did.0 t (q.given h given) (q.names Reading h name given ∙ named) is did.2)

-- ---- what a file holds

held_by : (b : Bool) (i k : ℕ) (n bytes : List ℕ) (s t : Seen) → eqb i k ≡ b → IsOneOf i (ERRORS ∷ k ∷ []) → 2 < k → s.names Writing k n ≡ true → s.names Writing ERRORS n ≡ false → Wrote i bytes s t → Gains (s.held n) (t.held n) (of_handle b bytes)
held_by true i k n bytes s t e is beyond named apart w =
    let same = eqb-true i k e in w.file n (subst (λ (h : ℕ). 2 < h) (sym same) beyond) (ap (λ (h : ℕ). s.names Writing h n) same ∙ named)
held_by false i k n bytes s t e (inl error) beyond named apart w = λ a told. w.other_held n a (ap (λ (h : ℕ). s.names Writing h n) error ∙ apart) told ∙ ap Some (sym (append-nil a))
held_by false i k n bytes s t e (inr (inl same)) beyond named apart w = absurd (eqb-false i k e same)
held_by false i k n bytes s t e (inr (inr none)) beyond named apart w = absurd none

-- a file that a handle writes gained what a run wrote to it, where no message goes to that file
pub did_hold : (reads : List ℕ) (k : ℕ) (n : List ℕ) (calls : List Call) (s t : Seen) → AreOn reads (ERRORS ∷ k ∷ []) calls → 2 < k → s.names Writing k n ≡ true → s.names Writing ERRORS n ≡ false → Did calls s t → Gains (s.held n) (t.held n) (written_by k calls)
did_hold reads k n [] s t on beyond named apart did = λ a told. ap (λ (x : Seen). x.held n) did ∙ told ∙ ap Some (sym (append-nil a))
did_hold reads k n (Take i bytes mark ∷ calls) s t on beyond named apart did =
    let same = (did.1.0).names Writing in Gains-then _ _ _ [] _ (λ a told. (did.1.0).held n ∙ told ∙ ap Some (sym (append-nil a))) (did_hold reads k n calls did.0 t on.1 beyond (same k n ∙ named) (same ERRORS n ∙ apart) did.2)
did_hold reads k n (Write i bytes mark ∷ calls) s t on beyond named apart did =
    let same = (did.1.0).names Writing in Gains-then _ _ _ (of_handle (eqb i k) bytes) _ (held_by (eqb i k) i k n bytes s did.0 refl on.0 beyond named apart did.1.0) (did_hold reads k n calls did.0 t on.1 beyond (same k n ∙ named) (same ERRORS n ∙ apart) did.2)
did_hold reads k n (call ∷ calls) s t on beyond named apart did = absurd on.0

-- ---- what was left, where a read met the end

end_marked : (k : ℕ) (mark : Mark) (s t : Seen) → is_end mark ≡ true → Marks Reading k mark s t → IsAtEnd k t
end_marked k Mark.MetEnd s t e m = m
end_marked k mark s t e m = absurd cc

first_nil : (xs ys : List ℕ) → [] ≡ xs ++ ys → [] ≡ xs
first_nil [] ys e = refl
first_nil (x ∷ xs) ys e = absurd cc

take_end : (b c : Bool) (h k : ℕ) (bytes : List ℕ) (mark : Mark) (calls : List Call) (s n t : Seen) (a : List ℕ) → eqb k h ≡ b → is_end mark ≡ c → s.given h ≡ true → Read k bytes s n → Marks Reading k mark s n → Did calls n t
    → ((x : List ℕ) → has_read is_end h calls ≡ true → n.left h ≡ Some x → x ≡ taken_by h calls) → ((b && c) || has_read is_end h calls) ≡ true → s.left h ≡ Some a → a ≡ of_handle b bytes ++ taken_by h calls
take_end true true h k bytes mark calls s n t a e f given read marks did next is told =
    let lost = took_by true k h bytes s n e read a told in
    let none : lost.0 ≡ [] = subst (λ (i : ℕ). IsAtEnd i n) (eqb-true k h e) (end_marked k mark s n f marks) lost.0 lost.2 in
    let more = did_lose h calls n t (read.given h ∙ given) did lost.0 lost.2 in
    lost.1 ∙ ap (λ (x : List ℕ). bytes ++ x) (none ∙ first_nil (taken_by h calls) more.0 (sym none ∙ more.1))
take_end true false h k bytes mark calls s n t a e f given read marks did next is told = let lost = took_by true k h bytes s n e read a told in lost.1 ∙ ap (λ (x : List ℕ). bytes ++ x) (next lost.0 is lost.2)
take_end false c h k bytes mark calls s n t a e f given read marks did next is told = next a is (read.other_left h (λ same. eqb-false k h e (sym same)) ∙ told)

-- what a handle was told to have left is what was taken, where one of the reads met the end
pub did_end : (h : ℕ) (calls : List Call) (s t : Seen) (a : List ℕ) → s.given h ≡ true → Did calls s t → has_read is_end h calls ≡ true → s.left h ≡ Some a → a ≡ taken_by h calls
did_end h [] s t a given did is told = absurd cc
did_end h (Take k bytes mark ∷ calls) s t a given did is told =
    take_end (eqb k h) (is_end mark) h k bytes mark calls s did.0 t a refl refl given did.1.0 did.1.1 did.2 (λ x more left. did_end h calls did.0 t x ((did.1.0).given h ∙ given) did.2 more left) is told
did_end h (call ∷ calls) s t a given did is told = let q = touch_own call s did.0 did.1 in did_end h calls did.0 t a (q.given h given) did.2 is (q.left h given (λ o. o) ∙ told)
