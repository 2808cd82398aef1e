-- What the units of a transaction come to, one after another.
use Rattle.std.proofs.Common.{◌≡◌, ℕ, ◌+◌, ◌<◌, cond, List, [], ◌∷◌, ◌++◌, length, take, get_or, Result, Ok, Err, OnOk, sym, ap, subst, ◌∙◌, append_assoc}
use Rattle.std.specs.List.{filter}
use Rattle.std.proofs.lemmas.List.Concat.{flat_map-append}
use Rattle.std.proofs.lemmas.List.Elements.{filter_more}
use Rattle.vsl_record.specs.declared.record_type.Record.{Record}
use Rattle.vsl_record.specs.Unit.{LogUnit, Log}
use Rattle.vsl_file.specs.File.{alone_bytes, alone_unit, unit_bytes, log_bytes}
use Rattle.vsl_select.specs.Showing.{Showing}
use Rattle.vsl_select.specs.Shown.{is_shown_alone}

-- what follows from what holds where there is an answer
pub on_ok : {T E P Q : Type 0} (r : Result T E) → (P → Q) → OnOk r P → OnOk r Q
on_ok (Ok x) f p = f p
on_ok (Err e) f p = tt

-- one unit more was added
pub one_more : (out new whole : List ℕ) (u : LogUnit) (us vs : Log) → out ++ log_bytes us ≡ whole → us ≡ u ∷ vs → new ≡ out ++ unit_bytes u → new ++ log_bytes vs ≡ whole
one_more out new whole u us vs before e added = ap (λ (x : List ℕ). x ++ log_bytes vs) added ∙ append_assoc out (unit_bytes u) (log_bytes vs) ∙ ap (λ (w : Log). out ++ log_bytes w) (sym e) ∙ before

-- one record more was added by itself, where it is so shown
pub alone_more : (showing now_showing : Showing) (vxid : ℕ) (records : List Record) (i : ℕ) (rec : Record) (old mid new : List ℕ) → now_showing ≡ showing → i < length records → rec ≡ get_or records i rec
    → mid ≡ old ++ alone_bytes vxid (filter (is_shown_alone showing) (take i records)) → new ≡ mid ++ alone_bytes vxid (filter (is_shown_alone now_showing) (rec ∷ []))
    → new ≡ old ++ alone_bytes vxid (filter (is_shown_alone showing) (take (i + 1) records))
alone_more showing now_showing vxid records i rec old mid new same inside is so_far added =
    let before : List Record = filter (is_shown_alone showing) (take i records) in
    let one : List Record = filter (is_shown_alone showing) (rec ∷ []) in
    let more : filter (is_shown_alone showing) (take (i + 1) records) ≡ before ++ one =
    filter_more (is_shown_alone showing) records i rec inside ∙ ap (λ (r : Record). before ++ cond (is_shown_alone showing r) (r ∷ []) []) (sym is) in
    let whole : alone_bytes vxid (filter (is_shown_alone showing) (take (i + 1) records)) ≡ alone_bytes vxid before ++ alone_bytes vxid one =
    ap (alone_bytes vxid) more ∙ flat_map-append (λ (r : Record). unit_bytes (alone_unit vxid r)) before one in
    subst (λ (s : Showing). new ≡ mid ++ alone_bytes vxid (filter (is_shown_alone s) (rec ∷ []))) same added
    ∙ ap (λ (x : List ℕ). x ++ alone_bytes vxid one) so_far ∙ append_assoc old (alone_bytes vxid before) (alone_bytes vxid one) ∙ ap (λ (x : List ℕ). old ++ x) (sym whole)
