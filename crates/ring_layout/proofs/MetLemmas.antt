-- What a history comes to that has one item more, or one unit.
use Rattle.std.proofs.Common.{◌≡◌, ℕ, ◌<◌, List, [], ◌∷◌, ◌++◌, length, map, reverse, refl, ap, sym, ◌∙◌, append_assoc, arith}
use Rattle.std.proofs.lemmas.List.{append-nil, map-append, reverse-append, length-reverse}
use Rattle.vsl_record.specs.Unit.{LogUnit}
use Rattle.ring_layout.specs.declared.history.Run.{Run}
use Rattle.ring_layout.specs.declared.history.HistoryItem.{HistoryItem}
use Rattle.ring_layout.specs.declared.history.HistoryItem.TheVariants.{UnitRun, Overrun}
use Rattle.ring_layout.specs.declared.item.Item.{Item}
use Rattle.ring_layout.specs.declared.item.Item.TheVariants as items
use Rattle.ring_layout.specs.History.{HasRun, with_unit}
use Rattle.ring_layout.specs.Items.{later_items, items_of}

later_append : (xs ys : List (HistoryItem LogUnit)) → later_items (xs ++ ys) ≡ later_items xs ++ later_items ys
later_append [] ys = refl
later_append (UnitRun r ∷ xs) ys =
    ap (λ (l : List Item). items.Missed r.missed ∷ (map items.Unit r.units ++ l)) (later_append xs ys) ∙ ap (λ (l : List Item). items.Missed r.missed ∷ l) (sym (append_assoc (map items.Unit r.units) (later_items xs) (later_items ys)))
later_append (Overrun at seen ∷ xs) ys = ap (λ (l : List Item). items.Overrun at seen ∷ l) (later_append xs ys)

-- what comes behind a history's first item is added
items_append : (x : HistoryItem LogUnit) (xs ys : List (HistoryItem LogUnit)) → items_of ((x ∷ xs) ++ ys) ≡ items_of (x ∷ xs) ++ later_items ys
items_append (UnitRun r) xs ys = ap (λ (l : List Item). map items.Unit r.units ++ l) (later_append xs ys) ∙ sym (append_assoc (map items.Unit r.units) (later_items xs) (later_items ys))
items_append (Overrun at seen) xs ys = ap (λ (l : List Item). items.Overrun at seen ∷ l) (later_append xs ys)

items_behind : (xs : List (HistoryItem LogUnit)) (y : HistoryItem LogUnit) → 0 < length xs → items_of (xs ++ y ∷ []) ≡ items_of xs ++ later_items (y ∷ [])
items_behind [] y some_item = absurd (omega arith)
items_behind (x ∷ xs) y some_item = items_append x xs (y ∷ [])

-- a newest item that isn't the first
newest_met : (x : HistoryItem LogUnit) (older : List (HistoryItem LogUnit)) → 0 < length older → items_of (reverse (x ∷ older)) ≡ items_of (reverse older) ++ later_items (x ∷ [])
newest_met x older some_item = ap items_of (reverse-append (x ∷ []) older) ∙ items_behind (reverse older) x (omega (arith, length-reverse older))

-- an overrun is met last
pub overrun_met : (at seen : ℕ) (older : List (HistoryItem LogUnit)) → items_of (reverse (Overrun at seen ∷ older)) ≡ items_of (reverse older) ++ items.Overrun at seen ∷ []
overrun_met at seen [] = refl
overrun_met at seen (x ∷ older) = newest_met (Overrun at seen) (x ∷ older) (omega arith)

-- where a run goes on behind others, what it missed is
pub run_met : (segment first missed : ℕ) (older : List (HistoryItem LogUnit)) → 0 < length older
    → items_of (reverse (UnitRun (record { segment = segment; first = first; missed = missed; units = [] }) ∷ older)) ≡ items_of (reverse older) ++ items.Missed missed ∷ []
run_met segment first missed older some_item = newest_met (UnitRun (record { segment = segment; first = first; missed = missed; units = [] })) older some_item

run_units : (r : Run LogUnit) (u : LogUnit) → map items.Unit (r.units ++ u ∷ []) ++ [] ≡ (map items.Unit r.units ++ []) ++ items.Unit u ∷ []
run_units r u = append-nil (map items.Unit (r.units ++ u ∷ [])) ∙ (map-append items.Unit r.units (u ∷ []) ∙ ap (λ (l : List Item). l ++ items.Unit u ∷ []) (sym (append-nil (map items.Unit r.units))))

-- a unit that is taken is met last
pub unit_met : (u : LogUnit) (history : List (HistoryItem LogUnit)) → HasRun history → items_of (reverse (with_unit u history)) ≡ items_of (reverse history) ++ items.Unit u ∷ []
unit_met u [] h = absurd h
unit_met u (Overrun at seen ∷ older) h = absurd h
unit_met u (UnitRun r ∷ []) h = run_units r u
unit_met u (UnitRun r ∷ x ∷ older) h =
    let before : List Item = items_of (reverse (x ∷ older)) in
    newest_met (UnitRun (record r { units = r.units ++ u ∷ [] })) (x ∷ older) (omega arith) ∙ (ap (λ (l : List Item). before ++ items.Missed r.missed ∷ l) (run_units r u)
    ∙ (sym (append_assoc before (items.Missed r.missed ∷ (map items.Unit r.units ++ [])) (items.Unit u ∷ [])) ∙ ap (λ (l : List Item). l ++ items.Unit u ∷ []) (sym (newest_met (UnitRun r) (x ∷ older) (omega arith)))))
