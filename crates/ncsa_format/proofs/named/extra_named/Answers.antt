use Rattle.std.proofs.Common.{◌≡◌, ◌∙◌, ap, Bool, false, subst, Option}
use Rattle.std.specs.Prelude.{if◌then◌else◌, IfOk}
use Rattle.std.specs.Str.{bytes_eq}
use Rattle.ncsa_format.specs.Reading.{record_named}
use Rattle.ncsa_format.specs.declared.formatter.Formatter.{Formatter}
use Rattle.ncsa_format.proofs.named.extra_named.Goals as goal

-- none of five
none_chosen : {A : Type 0} (a b c d e : Bool) (u v w x y o : A) → false ≡ a → false ≡ b → false ≡ c → false ≡ d → false ≡ e
    → o ≡ (if a then u else (if b then v else (if c then w else (if d then x else (if e then y else o)))))
none_chosen a b c d e u v w x y o is_a is_b is_c is_d is_e = rw (← is_a, ← is_b, ← is_c, ← is_d, ← is_e)

pub returns : goal.returns
returns c =
    let is = bytes_eq c.args.name.now in
    subst (λ (f : Option Formatter). IfOk c.record_named.result (λ r. r ≡ f))
    (none_chosen _ _ _ _ _ _ _ _ _ _ (record_named c.args.name.now) (c.if-eq.ensures ∙ ap is c.as_slice.ensures) (c.if-eq-2.ensures ∙ ap is c.as_slice-2.ensures)
    (c.if-eq-3.ensures ∙ ap is c.as_slice-3.ensures) (c.if-eq-4.ensures ∙ ap is c.as_slice-4.ensures) (c.if-eq-5.ensures ∙ ap is c.as_slice-5.ensures))
    c.record_named.ensures
