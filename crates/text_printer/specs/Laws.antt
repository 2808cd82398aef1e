-- The text of items goes on in that of more items (this project's choice).
use Rattle.std.proofs.Common.{◌≡◌, ℕ, Bool, false, List, [], ◌∷◌, ◌++◌, Option, refl, sym, ap, subst}
use Rattle.log_model.specs.Prefix.{IsPrefix}
use Rattle.txn_rows.specs.declared.group.Group.{Group}
use Rattle.txn_rows.specs.Grouping.{Taken, TakenUnit, Missed}
use Rattle.ring_layout.specs.declared.item.Item.{Item}
use Rattle.ring_layout.specs.declared.item.Item.TheVariants as items
use Rattle.text_printer.specs.declared.printer.Printer.{Printer}
use Rattle.text_printer.specs.Printer.{HoldsAt, due, plan_of, printer_state, text_at}
use Rattle.text_printer.specs.Taken.{taken_of}

-- items more are grouped behind the others
pub taken_append : (xs ys : List Item) → taken_of (xs ++ ys) ≡ taken_of xs ++ taken_of ys
taken_append [] ys = refl
taken_append (items.Unit u ∷ xs) ys = ap (λ (list : List Taken). TakenUnit u ∷ list) (taken_append xs ys)
taken_append (items.Overrun at seen ∷ xs) ys = ap (λ (list : List Taken). Missed ∷ list) (taken_append xs ys)
taken_append (items.Missed units ∷ xs) ys = taken_append xs ys

module _ {C : Type 0} (keep : C → Option ℕ) (output : C → List Group → Bool → List ℕ) (represents : C → List Group → Bool → List ℕ → Type 0) where
  -- the text of items goes on in that of items and more items, ended or not
  pub text_grows : (p : Printer C) (place : ℕ) (met : List Item) (all : Bool) (taken : List ℕ) →
      HoldsAt keep output represents p place met all taken → (list more : List Item) (ended : Bool) →
      IsPrefix (text_at keep output p place list false) (text_at keep output p place (list ++ more) ended)
  text_grows p place met all taken held list more ended =
      subst (λ (x : List Taken). IsPrefix (text_at keep output p place list false) (due (plan_of keep output (printer_state p)) x ended))
      (sym (taken_append list more)) (held.1.grows (taken_of list) (taken_of more) ended)
