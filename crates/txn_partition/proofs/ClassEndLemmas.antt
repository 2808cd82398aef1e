-- What leaves at an End of a regular log: the class whose last End it is.
use Rattle.std.proofs.Common.{◌≡◌, ⊎_elim, ℕ, Bool, true, false, not, eqb, cond, ◌||◌, ◌&&◌, Option, Some, List, [], ◌∷◌, ◌++◌, length, map, refl, ap, sym, ◌∙◌}
use Rattle.std.specs.List.{list_all, filter}
use Rattle.std.proofs.Math.Bool.{or-true, or-false}
use Rattle.std.proofs.lemmas.Bool.{eqb-true, eqb-false, eq-eqb, ne_eqb, both_ways, or_left, or_right, or_cases, and_parts, and_from, and_cases, and_right, false_from_ne_true}
use Rattle.std.proofs.lemmas.List.Folds.{list_any-append}
use Rattle.vsl_tags.specs.Tags.{end_tag}
use Rattle.txn_rows.specs.declared.group.Grouping.{Grouping}
use Rattle.txn_rows.specs.declared.group.Group.{Group}
use Rattle.txn_rows.specs.Transaction.{Transaction, newest, with_newest, ended}
use Rattle.txn_rows.specs.Links.{tree_of, others, group_of}
use Rattle.txn_rows.specs.Grouping.{State, Leaving, nothing_left, left_by, ended_one, after_end, with_all_told}
use Rattle.txn_partition.specs.LogFacts.{Entry, has_end, links_of, is_in, named, log_time}
use Rattle.txn_partition.specs.Partition.{class_root, class_group, ends_later}
use Rattle.txn_partition.specs.inside.Parted.{transaction_at, open_names, state_at, class_ends}
use Rattle.txn_rows.proofs.LineLemmas.{by_cases}
use Rattle.txn_partition.proofs.NamedLemmas.{in_filter, filter_same, filter_both}
use Rattle.txn_partition.proofs.MappedLemmas.{newest_mapped, map_same, changed_at, changed_mapped, names_under, root_mapped, tree_mapped, others_mapped}
use Rattle.txn_partition.proofs.RegularLemmas.{end_to_come, ended_no_more}
use Rattle.txn_partition.proofs.ClassLemmas.{part_named, ends_class, end_in_class, in_open, open_in}
use Rattle.txn_partition.proofs.ToldLemmas.{mapped}
use Rattle.txn_partition.proofs.LinkMadeLemmas.{names_apart}
use Rattle.txn_partition.proofs.AllToldLemmas.{AtRecord, whole_behind, own_among, timed_at, all_told}
use Rattle.txn_partition.proofs.ClassGroupLemmas.{AtPart, top_at, Beside, TreeEnded, top_class, beside_class, all_beside, linked_pending, group_pending}

-- where all pass, one of them does; where not all do, one doesn't
all_pass : (p : Transaction → Bool) (T : ℕ → Transaction) (xs : List ℕ) → list_all p (map T xs) ≡ true → (x : ℕ) → is_in x xs ≡ true → p (T x) ≡ true
all_pass p T [] e x here = absurd (cc)
all_pass p T (y ∷ xs) e x here =
    let parts = and_parts (p (T y)) (list_all p (map T xs)) e in
    ⊎_elim (λ (same : eqb y x ≡ true). ap (λ (z : ℕ). p (T z)) (sym (eqb-true y x same)) ∙ parts.0) (λ (later : is_in x xs ≡ true). all_pass p T xs parts.1 x later) (or_cases (eqb y x) (is_in x xs) here)

record Fails (p : Transaction → Bool) (T : ℕ → Transaction) (xs : List ℕ) : Type 0 where
  vxid : ℕ
  here : is_in vxid xs ≡ true
  fails : p (T vxid) ≡ false

one_fails : (p : Transaction → Bool) (T : ℕ → Transaction) (xs : List ℕ) → list_all p (map T xs) ≡ false → Fails p T xs
one_fails p T [] e = absurd (cc)
one_fails p T (y ∷ xs) e = ⊎_elim
    (λ (first : p (T y) ≡ false). record { vxid = y; here = or_left (eqb y y) (is_in y xs) (eq-eqb y y refl); fails = first })
    (λ (later : list_all p (map T xs) ≡ false).
    let f = one_fails p T xs later in
    record { vxid = f.vxid; here = or_right (eqb y f.vxid) (is_in f.vxid xs) f.here; fails = f.fails })
    (and_cases (p (T y)) (list_all p (map T xs)) e)

-- the VXIDs of a tree
beside_from : (grouping : Grouping) (all before to_come : List Entry) (v x : ℕ) → is_in x (names_under (links_of grouping before) (open_names grouping all before to_come) (top_at grouping all before to_come v)) ≡ true → Beside grouping all before to_come v x
beside_from grouping all before to_come v x here =
    let names : List ℕ = open_names grouping all before to_come in
    let parts = and_parts (is_in x names) (eqb (top_at grouping all before to_come x) (top_at grouping all before to_come v)) (sym (in_filter x (λ y. eqb (top_at grouping all before to_come y) (top_at grouping all before to_come v)) names) ∙ here) in
    record { here = parts.0; top_is = eqb-true (top_at grouping all before to_come x) (top_at grouping all before to_come v) parts.1 }

beside_in : (grouping : Grouping) (all before to_come : List Entry) (v x : ℕ) → Beside grouping all before to_come v x → is_in x (names_under (links_of grouping before) (open_names grouping all before to_come) (top_at grouping all before to_come v)) ≡ true
beside_in grouping all before to_come v x b =
    let names : List ℕ = open_names grouping all before to_come in
    in_filter x (λ y. eqb (top_at grouping all before to_come y) (top_at grouping all before to_come v)) names
    ∙ and_from (is_in x names) (eqb (top_at grouping all before to_come x) (top_at grouping all before to_come v)) b.here (eq-eqb (top_at grouping all before to_come x) (top_at grouping all before to_come v) b.top_is)

-- the class of a tree that has ended has no End to come
tree_closed : (grouping : Grouping) (all before rest to_come : List Entry) (v : ℕ) → AtPart grouping all before rest to_come v → TreeEnded grouping all before to_come v → class_ends (class_root grouping all) (class_root grouping all v) rest ≡ false
tree_closed grouping all before rest to_come v a each = false_from_ne_true (class_ends (class_root grouping all) (class_root grouping all v) rest) (λ e.
    let i = end_in_class (class_root grouping all) (class_root grouping all v) rest e in
    let b = all_beside grouping all before rest to_come v a each i.vxid i.inside in
    let here = part_named grouping all before rest a.whole i.vxid (in_open grouping all before to_come i.vxid b.here).0 in
    both_ways (has_end i.vxid rest) (ended_no_more grouping all a.regular before rest a.whole i.vxid here (each i.vxid b)) i.ends)

-- and that of a tree that has not ended has one
tree_open : (grouping : Grouping) (all before rest to_come : List Entry) (v : ℕ) → AtPart grouping all before rest to_come v → (x : ℕ) → Beside grouping all before to_come v x → has_end x before ≡ false → class_ends (class_root grouping all) (class_root grouping all v) rest ≡ true
tree_open grouping all before rest to_come v a x b running =
    let here = part_named grouping all before rest a.whole x (in_open grouping all before to_come x b.here).0 in
    ap (λ (r : ℕ). class_ends (class_root grouping all) r rest) (sym (beside_class grouping all before rest to_come v a x b))
    ∙ ends_class (class_root grouping all) x rest (end_to_come grouping all a.regular before rest a.whole x here running)

not_false : (b : Bool) → (true && not b) ≡ false → b ≡ true
not_false true e = refl
not_false false e = absurd (cc)

-- where the record at hand is no last End what is open stays so
still_open : (grouping : Grouping) (all before : List Entry) (e : Entry) (rest : List Entry) → (eqb e.rec.tag end_tag && not (class_ends (class_root grouping all) (class_root grouping all e.vxid) rest)) ≡ false → open_names grouping all before (e ∷ rest) ≡ open_names grouping all before rest
still_open grouping all before e rest not_last =
    let root : ℕ → ℕ = class_root grouping all in
    filter_same (ends_later grouping all (e ∷ rest)) (ends_later grouping all rest) (named grouping before) (λ x here.
    by_cases (ends_later grouping all (e ∷ rest) x ≡ ends_later grouping all rest x) (eqb (root e.vxid) (root x))
    (λ same. by_cases (ends_later grouping all (e ∷ rest) x ≡ ends_later grouping all rest x) (eqb e.rec.tag end_tag)
    (λ last. let open_here : class_ends root (root e.vxid) rest ≡ true = not_false (class_ends root (root e.vxid) rest) (rw last at not_last) in
    let at_x : ends_later grouping all rest x ≡ true = ap (λ (r : ℕ). class_ends root r rest) (sym (eqb-true (root e.vxid) (root x) same)) ∙ open_here in
    rw at_x (or-true (eqb (root e.vxid) (root x) && eqb e.rec.tag end_tag)))
    (λ other. rw (same, other) refl))
    (λ other. rw other refl))

-- where it is, what stays is what is in other trees
others_open : (grouping : Grouping) (all before : List Entry) (e : Entry) (rest : List Entry) → e.rec.tag ≡ end_tag → AtPart grouping all before rest (e ∷ rest) e.vxid → TreeEnded grouping all before (e ∷ rest) e.vxid →
    filter (λ x. not (eqb (top_at grouping all before (e ∷ rest) x) (top_at grouping all before (e ∷ rest) e.vxid))) (open_names grouping all before (e ∷ rest)) ≡ open_names grouping all before rest
others_open grouping all before e rest end a each =
    let root : ℕ → ℕ = class_root grouping all in
    let top : ℕ → ℕ = top_at grouping all before (e ∷ rest) in
    let v : ℕ = e.vxid in
    let p : ℕ → Bool = ends_later grouping all (e ∷ rest) in
    let t : ℕ → Bool = λ x. not (eqb (top x) (top v)) in
    filter_both t p (named grouping before) ∙ filter_same (λ x. p x && t x) (ends_later grouping all rest) (named grouping before) (λ x here.
    by_cases ((p x && t x) ≡ ends_later grouping all rest x) (eqb (root v) (root x))
    (λ same. let is : root v ≡ root x = eqb-true (root v) (root x) same in
    let beside = all_beside grouping all before rest (e ∷ rest) v a each x (sym is) in
    let gone : ends_later grouping all rest x ≡ false = ap (λ (r : ℕ). class_ends root r rest) (sym is) ∙ tree_closed grouping all before rest (e ∷ rest) v a each in
    let no : t x ≡ false = ap not (eq-eqb (top x) (top v) beside.top_is) in
    and_right (p x) (t x) no ∙ sym gone)
    (λ other. let stays : p x ≡ ends_later grouping all rest x = rw other refl in
    rw stays (by_cases ((ends_later grouping all rest x && t x) ≡ ends_later grouping all rest x) (ends_later grouping all rest x)
    (λ open_x. let apart : t x ≡ true = ap not (ne_eqb (top x) (top v) (λ s.
    eqb-false (root v) (root x) other (sym (beside_class grouping all before rest (e ∷ rest) v a x (record { here = open_in grouping all before (e ∷ rest) x here (stays ∙ open_x); top_is = s }))))) in rw (open_x, apart) refl)
    (λ closed. rw closed refl))))

-- a part with its End: what leaves
end_left : (grouping : Grouping) (all before : List Entry) (e : Entry) (rest : List Entry) → e.rec.tag ≡ end_tag → AtPart grouping all before rest (e ∷ rest) e.vxid →
    left_by (Some (transaction_at grouping all before e.vxid)) (mapped (transaction_at grouping all before) (open_names grouping all before (e ∷ rest)) (named grouping before) (log_time before))
    ≡ record { state = state_at grouping all before rest; groups = cond (class_ends (class_root grouping all) (class_root grouping all e.vxid) rest) [] (class_group grouping all (class_root grouping all e.vxid) ∷ []) }
end_left grouping all before e rest end a =
    let v : ℕ = e.vxid in
    let root : ℕ → ℕ = class_root grouping all in
    let T : ℕ → Transaction = transaction_at grouping all before in
    let names : List ℕ = open_names grouping all before (e ∷ rest) in
    let pending : List Transaction = map T names in
    let r : ℕ = top_at grouping all before (e ∷ rest) v in
    let tree : List ℕ = names_under (links_of grouping before) names r in
    let state : State = mapped T names (named grouping before) (log_time before) in
    let linked = linked_pending grouping all before rest (e ∷ rest) v a in
    let at_top = (top_class grouping all before rest (e ∷ rest) v a v a.here).0 in
    let closed : Bool = class_ends root (root v) rest in
    let Now : Leaving = record { state = state_at grouping all before rest; groups = cond closed [] (class_group grouping all (root v) ∷ []) } in
    let leaves : Transaction → Leaving = λ t. cond (list_all (λ (u : Transaction). u.ended) (tree_of pending t)) (record { state = record state { pending = others pending t }; groups = group_of pending t ∷ [] }) (nothing_left state) in
    ap leaves (root_mapped T (links_of grouping before) names linked v a.here)
    ∙ ap (λ (ts : List Transaction). cond (list_all (λ (u : Transaction). u.ended) ts) (record { state = record state { pending = others pending (T r) }; groups = group_of pending (T r) ∷ [] }) (nothing_left state)) (tree_mapped T (links_of grouping before) names linked r at_top)
    ∙ by_cases (cond (list_all (λ (u : Transaction). u.ended) (map T tree)) (record { state = record state { pending = others pending (T r) }; groups = group_of pending (T r) ∷ [] }) (nothing_left state) ≡ Now) (list_all (λ (u : Transaction). u.ended) (map T tree))
    (λ e_all.
    let each : TreeEnded grouping all before (e ∷ rest) v = λ x b. all_pass (λ (u : Transaction). u.ended) T tree e_all x (beside_in grouping all before (e ∷ rest) v x b) in
    let gone : closed ≡ false = tree_closed grouping all before rest (e ∷ rest) v a each in
    let stays : others pending (T r) ≡ map T (open_names grouping all before rest) = others_mapped T (links_of grouping before) names linked r at_top ∙ ap (map T) (others_open grouping all before e rest end a each) in
    rw e_all (ap (λ (ts : List Transaction). record { state = record state { pending = ts }; groups = group_of pending (T r) ∷ [] }) stays
    ∙ ap (λ (g : Group). record { state = state_at grouping all before rest; groups = g ∷ [] }) (group_pending grouping all before rest (e ∷ rest) v a each)
    ∙ ap (λ (b : Bool). record { state = state_at grouping all before rest; groups = cond b [] (class_group grouping all (root v) ∷ []) }) (sym gone)))
    (λ e_some.
    let f = one_fails (λ (u : Transaction). u.ended) T tree e_some in
    let to_come : closed ≡ true = tree_open grouping all before rest (e ∷ rest) v a f.vxid (beside_from grouping all before (e ∷ rest) v f.vxid f.here) f.fails in
    let same : open_names grouping all before (e ∷ rest) ≡ open_names grouping all before rest = still_open grouping all before e rest (rw to_come (by_cases ((eqb e.rec.tag end_tag && false) ≡ false) (eqb e.rec.tag end_tag) (λ b. rw b refl) (λ b. rw b refl))) in
    rw e_some (ap (λ (xs : List ℕ). nothing_left (mapped T xs (named grouping before) (log_time before))) same
    ∙ ap (λ (b : Bool). record { state = state_at grouping all before rest; groups = cond b [] (class_group grouping all (root v) ∷ []) }) (sym to_come)))

-- whether a VXID has an End, with one more record
end_more : (x : ℕ) (before : List Entry) (e : Entry) → has_end x (before ++ e ∷ []) ≡ (has_end x before || (eqb e.vxid x && eqb e.rec.tag end_tag))
end_more x before e =
    list_any-append (λ (d : Entry). eqb d.vxid x && eqb d.rec.tag end_tag) before (e ∷ []) ∙ ap (λ (b : Bool). has_end x before || b) (or-false (eqb e.vxid x && eqb e.rec.tag end_tag))

end_other : (x : ℕ) (before : List Entry) (e : Entry) → (eqb e.vxid x && eqb e.rec.tag end_tag) ≡ false → has_end x (before ++ e ∷ []) ≡ has_end x before
end_other x before e none = end_more x before e ∙ ap (λ (b : Bool). has_end x before || b) none ∙ or-false (has_end x before)

-- what a record reports: the class whose last End it is
abbrev pub reported_by : Grouping → List Entry → Entry → List Entry → List Group
reported_by grouping all e rest =
    cond (eqb e.rec.tag end_tag && not (class_ends (class_root grouping all) (class_root grouping all e.vxid) rest)) (class_group grouping all (class_root grouping all e.vxid) ∷ []) []

turned : (b : Bool) (gs : List Group) → cond b [] gs ≡ cond (true && not b) gs []
turned true gs = refl
turned false gs = refl

-- what leaves at an End or stays at another record
pub after_told : (grouping : Grouping) (all before : List Entry) (e : Entry) (rest : List Entry) → AtRecord grouping all before e rest →
    after_end e.vxid e.rec (with_all_told grouping e.vxid e.rec (state_at grouping all before (e ∷ rest))) ≡ record { state = state_at grouping all (before ++ e ∷ []) rest; groups = reported_by grouping all e rest }
after_told grouping all before e rest a =
    let v : ℕ = e.vxid in
    let now : List Entry = before ++ e ∷ [] in
    let T : ℕ → Transaction = transaction_at grouping all now in
    let timed : ℕ → Transaction = timed_at grouping all before e in
    let names : List ℕ = open_names grouping all now (e ∷ rest) in
    let s : State = mapped timed names (named grouping now) (log_time now) in
    let closed : Bool = class_ends (class_root grouping all) (class_root grouping all v) rest in
    let Now : Leaving = record { state = state_at grouping all now rest; groups = reported_by grouping all e rest } in
    ap (after_end v e.rec) (all_told grouping all before e rest a)
    ∙ by_cases (after_end v e.rec s ≡ Now) (eqb e.rec.tag end_tag)
    (λ is_end.
    let pending : with_newest v ended (map timed names) ≡ map T names = changed_mapped timed (λ x. refl) v ended names (names_apart grouping all now (e ∷ rest))
    ∙ map_same (changed_at v ended timed) T names (λ x here. by_cases (changed_at v ended timed x ≡ T x) (eqb x v)
    (λ same. let has : has_end x now ≡ true = end_more x before e ∙ or_right (has_end x before) (eqb v x && eqb e.rec.tag end_tag) (and_from (eqb v x) (eqb e.rec.tag end_tag) (eq-eqb v x (sym (eqb-true x v same))) is_end) in
    ap (λ (b : Bool). cond b (ended (timed x)) (timed x)) same ∙ ap (λ (b : Bool). record (timed x) { ended = b }) (sym has))
    (λ other. let has : has_end x now ≡ has_end x before = end_other x before e (ap (λ (b : Bool). b && eqb e.rec.tag end_tag) (ne_eqb v x (λ q. eqb-false x v other (sym q)))) in
    ap (λ (b : Bool). cond b (ended (timed x)) (timed x)) other ∙ ap (λ (b : Bool). record (timed x) { ended = b }) (sym has))) in
    let part : AtPart grouping all now rest (e ∷ rest) v = record { regular = a.regular; whole = whole_behind grouping all before e rest a; here = own_among grouping all before e rest a } in
    ap (λ (b : Bool). cond b (ended_one v s) (nothing_left s)) is_end
    ∙ ap (λ (ts : List Transaction). left_by (newest v ts) (record s { pending = ts })) pending
    ∙ ap (λ (o : Option Transaction). left_by o (mapped T names (named grouping now) (log_time now))) (newest_mapped T (λ x. refl) v names part.here)
    ∙ end_left grouping all now e rest (eqb-true e.rec.tag end_tag is_end) part
    ∙ ap (λ (gs : List Group). record { state = state_at grouping all now rest; groups = gs }) (turned closed (class_group grouping all (class_root grouping all v) ∷ []) ∙ ap (λ (b : Bool). cond (b && not closed) (class_group grouping all (class_root grouping all v) ∷ []) []) (sym is_end)))
    (λ not_end.
    let none : (eqb e.rec.tag end_tag && not closed) ≡ false = ap (λ (b : Bool). b && not closed) not_end in
    ap (λ (b : Bool). cond b (ended_one v s) (nothing_left s)) not_end
    ∙ ap (λ (ts : List Transaction). nothing_left (record { pending = ts; begun = length (named grouping now); time = log_time now }))
    (map_same timed T names (λ x here. ap (λ (b : Bool). record (timed x) { ended = b }) (sym (end_other x before e (and_right (eqb v x) (eqb e.rec.tag end_tag) not_end)))))
    ∙ ap (λ (xs : List ℕ). nothing_left (mapped T xs (named grouping now) (log_time now))) (still_open grouping all now e rest none)
    ∙ ap (λ (b : Bool). record { state = state_at grouping all now rest; groups = cond b (class_group grouping all (class_root grouping all v) ∷ []) [] }) (sym none))
