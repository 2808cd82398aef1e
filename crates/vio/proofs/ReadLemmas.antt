-- The calls by which a file is read by its name, and what they come to.
use Rattle.std.proofs.Common.{◌≡◌, ℕ, ◌<◌, ◌≤◌, true, List, [], ◌∷◌, ◌++◌, length, length-append, Some, refl, sym, ap, subst, ◌∙◌, inl, inr, arith}
use Rattle.std.proofs.lemmas.List.{append-nil}
use Rattle.log_model.specs.Faults.{HasNewFault}
use Rattle.vio.specs.declared.fault.NamedFault.{NamedFault}
use Rattle.vio.specs.declared.fault.NamedFault.TheVariants.{NoOpen, Failed, TooLarge}
use Rattle.vio.specs.World.{Seen, Opening, Reading, Opened, Read, ReadSome, ReadPast, OnlyCounts, FaultsRose, IsAtEnd}
use Rattle.vio.specs.Touches.{IsOneOf}
use Rattle.vio.specs.Calls.{Went, MetEnd, Call, Called, Did, OnlyOpen, none_failed, last_failed, Open, Take, Refuse, Lack}
use Rattle.vio.specs.Calls as calling
use Rattle.vio.specs.Named.{IsReadBy, IsRefusedBy, IsLackedBy}
use Rattle.vio.proofs.TouchLemmas.{one_of_right}
use Rattle.vio.proofs.CallLaws.{did_fail}

pub called_read : {limit h : ℕ} {name bytes : List ℕ} {s t u : Seen} → Opened name h s t → Read h bytes t u → IsAtEnd h u → length bytes ≤ limit → Called (IsReadBy limit name bytes) s u
called_read {h = h} {name = name} {bytes = bytes} {t = t} {u = u} opened read end within = record { calls = Open name h ∷ Take h bytes MetEnd ∷ []; did = (t, opened, (u, (read, end), refl)); is = (h, refl, within) }

pub called_refused : {name : List ℕ} {s t : Seen} → OnlyCounts s t → HasNewFault (s.faults Opening name) (t.faults Opening name) → Called (λ calls. calls ≡ Refuse Opening name ∷ []) s t
called_refused {name = name} {t = t} only rose = record { calls = Refuse Opening name ∷ []; did = (t, (only, rose), refl); is = refl }

pub called_failed : {h : ℕ} {name : List ℕ} {s t u : Seen} → Opened name h s t → ReadSome h t u → FaultsRose Reading h t u → Called (λ calls. (i : ℕ) × (bytes : List ℕ) × (calls ≡ Open name i ∷ Take i bytes (calling.Failed name) ∷ [])) s u
called_failed {h = h} {name = name} {t = t} {u = u} opened some rose = record { calls = Open name h ∷ Take h some.bytes (calling.Failed name) ∷ []; did = (t, opened, (u, (some.read, rose.each name opened.is_named), refl)); is = (h, some.bytes, refl) }

pub called_long : {limit h : ℕ} {name : List ℕ} {s t u : Seen} → Opened name h s t → ReadPast limit h t u → Called (IsRefusedBy limit name TooLarge) s u
called_long {h = h} {name = name} {t = t} {u = u} opened past = record { calls = Open name h ∷ Take h past.bytes Went ∷ []; did = (t, opened, (u, (past.read, tt), refl)); is = (h, past.bytes, refl, past.more) }

pub called_lacked : {name : List ℕ} {s t : Seen} → OnlyCounts s t → Called (IsLackedBy name) s t
called_lacked {t = t} only = record { calls = Lack ∷ []; did = (t, only, refl); is = inl refl }

pub called_short : {h : ℕ} {name : List ℕ} {s t u : Seen} → Opened name h s t → ReadSome h t u → Called (IsLackedBy name) s u
called_short {h = h} {name = name} {t = t} {u = u} opened some = record { calls = Open name h ∷ Take h some.bytes Went ∷ []; did = (t, opened, (u, (some.read, tt), refl)); is = inr (h, some.bytes, refl) }

-- ---- what they open

pub read_opens : (limit : ℕ) (name bytes : List ℕ) (calls : List Call) → IsReadBy limit name bytes calls → OnlyOpen (name ∷ []) calls
read_opens limit name bytes calls p = subst (λ (c : List Call). OnlyOpen (name ∷ []) c) (sym p.1) ((inl refl, (inl refl, tt)), omega arith)

pub refused_opens : (limit : ℕ) (name : List ℕ) (fault : NamedFault) (calls : List Call) → IsRefusedBy limit name fault calls → OnlyOpen (name ∷ []) calls
refused_opens limit name NoOpen calls p = subst (λ (c : List Call). OnlyOpen (name ∷ []) c) (sym p) ((tt, tt), omega arith)
refused_opens limit name Failed calls p = subst (λ (c : List Call). OnlyOpen (name ∷ []) c) (sym p.2) ((inl refl, (inl refl, tt)), omega arith)
refused_opens limit name TooLarge calls p = subst (λ (c : List Call). OnlyOpen (name ∷ []) c) (sym p.2) ((inl refl, (inl refl, tt)), omega arith)

pub lacked_opens : (name : List ℕ) (calls : List Call) → IsLackedBy name calls → OnlyOpen (name ∷ []) calls
lacked_opens name calls (inl p) = subst (λ (c : List Call). OnlyOpen (name ∷ []) c) (sym p) ((tt, tt), omega arith)
lacked_opens name calls (inr p) = subst (λ (c : List Call). OnlyOpen (name ∷ []) c) (sym p.2) ((inl refl, (inl refl, tt)), omega arith)

-- ---- which of them failed

pub read_none_failed : (limit : ℕ) (name bytes : List ℕ) (calls : List Call) → IsReadBy limit name bytes calls → none_failed calls ≡ true
read_none_failed limit name bytes calls p = ap none_failed p.1

pub refused_last_failed : (limit : ℕ) (name : List ℕ) (fault : NamedFault) (calls : List Call) → IsRefusedBy limit name fault calls → last_failed calls ≡ true
refused_last_failed limit name NoOpen calls p = ap last_failed p
refused_last_failed limit name Failed calls p = ap last_failed p.2
refused_last_failed limit name TooLarge calls p = ap last_failed p.2

-- the count of a call that failed rose, whatever was called before
pub unopened_counts : (limit : ℕ) (name : List ℕ) (first last : List Call) (s t : Seen) → IsRefusedBy limit name NoOpen last → Did (first ++ last) s t → HasNewFault (s.faults Opening name) (t.faults Opening name)
unopened_counts limit name first last s t p did =
    did_fail Opening name (Refuse Opening name) (first ++ last) s t (one_of_right _ first last (subst (λ (c : List Call). IsOneOf (Refuse Opening name) c) (sym p) (inl refl))) (refl, refl) did

pub unread_counts : (limit : ℕ) (name : List ℕ) (first last : List Call) (s t : Seen) → IsRefusedBy limit name Failed last → Did (first ++ last) s t → HasNewFault (s.faults Reading name) (t.faults Reading name)
unread_counts limit name first last s t p did =
    did_fail Reading name (Take p.0 p.1 (calling.Failed name)) (first ++ last) s t (one_of_right _ first last (subst (λ (c : List Call). IsOneOf (Take p.0 p.1 (calling.Failed name)) c) (sym p.2) (inr (inl refl)))) (refl, refl) did

-- ---- what they read, where the world tells what the file holds

pub told_read : (limit : ℕ) (name bytes held : List ℕ) (calls : List Call) (s t : Seen) → IsReadBy limit name bytes calls → Did calls s t → s.held name ≡ Some held → bytes ≡ held
told_read limit name bytes held calls s t p did told =
    let made = subst (λ (c : List Call). Did c s t) p.1 did in let opened = made.1 in let read = made.2.1 in
    let lost = read.0.loses held (opened.left ∙ told) in
    sym (lost.1 ∙ ap (λ (rest : List ℕ). bytes ++ rest) (read.1 lost.0 lost.2) ∙ append-nil bytes)

pub told_large : (limit : ℕ) (name held : List ℕ) (calls : List Call) (s t : Seen) → IsRefusedBy limit name TooLarge calls → Did calls s t → s.held name ≡ Some held → limit < length held
told_large limit name held calls s t p did told =
    let made = subst (λ (c : List Call). Did c s t) p.2 did in let opened = made.1 in let read = made.2.1 in
    let lost = read.0.loses held (opened.left ∙ told) in
    omega (arith, p.3, ap (λ (xs : List ℕ). length xs) lost.1, length-append p.1 lost.0)
