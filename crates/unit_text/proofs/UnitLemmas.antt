-- The bytes of the items of units, one behind the other.
use Rattle.std.proofs.Common.{◌≡◌, ℕ, Bool, List, [], ◌∷◌, ◌++◌, refl, sym, ap, ◌∙◌, append_assoc}
use Rattle.std.proofs.lemmas.List.{append-nil, flat_map_more}
use Rattle.vsl_record.specs.Unit.{Log}
use Rattle.vsl_file.specs.File.{file_header, log_bytes, unit_bytes}
use Rattle.ring_layout.specs.declared.item.Item.{Item}
use Rattle.run_sources.specs.Sources.{unit_items}
use Rattle.fan_output.specs.Ends.{Grows, whole}
use Rattle.unit_text.specs.Laws as laws
use Rattle.unit_text.specs.Units.{converted, item_bytes, units_bytes, units_due}

bytes_of_units : (units : Log) → units_bytes (unit_items units) ≡ log_bytes units
bytes_of_units [] = refl
bytes_of_units (u ∷ units) = ap (λ (x : List ℕ). unit_bytes u ++ x) (bytes_of_units units)

-- what is due of a log is a log file of it
pub due_of_log : (name : List ℕ) (units : Log) (all : Bool) → whole (units_due name) (unit_items units) all ≡ converted units
due_of_log name units all = ap (λ (x : List ℕ). file_header ++ x) (bytes_of_units units)

-- it goes on where more items come
pub units_grow : (name : List ℕ) → Grows (units_due name)
units_grow name met more all = laws.units_grow met more

-- the bytes of an item more, or of an item that has none
pub one_more : (taken bytes added now : List ℕ) (met : List Item) (item : Item) → now ≡ bytes ++ added → added ≡ item_bytes item → taken ++ bytes ≡ units_bytes met → taken ++ now ≡ units_bytes (met ++ item ∷ [])
one_more taken bytes added now met item is same held =
    ap (λ (x : List ℕ). taken ++ x) is ∙ sym (append_assoc taken bytes added) ∙ (λ i. held i ++ same i) ∙ flat_map_more item_bytes [] met item

-- all that there was was taken
pub all_taken : (taken bytes now : List ℕ) (met : List Item) → now ≡ [] → taken ++ bytes ≡ units_bytes met → (taken ++ bytes) ++ now ≡ units_bytes met
all_taken taken bytes now met none held = ap (λ (x : List ℕ). (taken ++ bytes) ++ x) none ∙ append-nil (taken ++ bytes) ∙ held
