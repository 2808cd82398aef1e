-- Groups of which the definitions of laws do not hold, and a log of which they do.
use Rattle.std.proofs.Common.{◌≡◌, ⊎_elim, ℕ, List, [], ◌∷◌, refl, sym, subst, arith}
use Rattle.std.specs.Prelude.{◌≢◌}
use Rattle.std.proofs.lemmas.List.Elements.{All-nil, All-cons, All-contains}
use Rattle.vsl_tags.specs.Tags.{begin_tag, link_tag}
use Rattle.vsl_record.specs.declared.mark.Mark.TheVariants.{Client, Backend}
use Rattle.vsl_record.specs.declared.record_type.Record.{Record}
use Rattle.txn_rows.specs.declared.group.Grouping.{Grouping}
use Rattle.txn_rows.specs.declared.group.Grouping.TheVariants.{Request}
use Rattle.txn_rows.specs.declared.group.Kind.TheVariants as kinds
use Rattle.txn_rows.specs.declared.group.Reason.TheVariants.{Rxreq, Other}
use Rattle.txn_rows.specs.declared.group.Member.{Member}
use Rattle.txn_rows.specs.declared.group.Group.{Group}
use Rattle.txn_rows.specs.Grouping.{TakenUnit, Missed}
use Rattle.txn_partition.specs.ChildNames.{ClaimsVxid, NamesParent, NamesChild, WasNamed, ChildrenWereNamed}
use Rattle.txn_partition.specs.OfUnits.{TakesUnit, TakeUnits, IsOfUnits, IsGroupOfUnits}

abbrev end : Record
end = record { tag = 44; mark = Client; payload = [] }

abbrev request : Member
request = record { vxid = 2; kind = kinds.Request; reason = Rxreq; level = 1; parent = 0; records = end ∷ [] }

abbrev fetch_with : List Record → Member
fetch_with records = record { vxid = 3; kind = kinds.BeReq; reason = Other; level = 2; parent = 2; records = records }

abbrev group_with : List Record → Group
group_with records = record { members = request ∷ fetch_with records ∷ [] }

-- an End claims nothing
ends_claim_none : (grouping : Grouping) (tag vxid : ℕ) → 44 ≢ tag → ClaimsVxid grouping tag vxid (end ∷ []) → ⊥
ends_claim_none grouping tag vxid other c =
    All-contains (λ (r : Record). r.tag ≢ tag) (end ∷ []) c.rec (All-cons (λ (r : Record). r.tag ≢ tag) end [] other (All-nil (λ (r : Record). r.tag ≢ tag))) c.among c.tagged

-- a fetch that no record joins to its request
unnamed : ChildrenWereNamed Request (group_with (end ∷ [])) → ⊥
unnamed named =
    let w : WasNamed Request (request ∷ []) (fetch_with (end ∷ [])) = named (request ∷ []) (fetch_with (end ∷ [])) [] refl (λ e. cc) in
    let parent : request ≡ w.parent = All-contains (λ (m : Member). request ≡ m) (request ∷ []) w.parent (All-cons (λ (m : Member). request ≡ m) request [] refl (All-nil (λ (m : Member). request ≡ m))) w.ahead in
    ⊎_elim
    (λ (c : NamesParent Request w.parent.vxid (end ∷ [])). ends_claim_none Request begin_tag w.parent.vxid (λ e. omega (arith, e)) c)
    (λ (c : NamesChild Request 3 w.parent.records). ends_claim_none Request link_tag 3 (λ e. omega (arith, e)) (subst (λ (m : Member). ClaimsVxid Request link_tag 3 m.records) (sym parent) c))
    w.named

-- a record of no tag is of no unit
no_unit : IsGroupOfUnits (group_with (record { tag = 0; mark = Backend; payload = [] } ∷ [])) → ⊥
no_unit of =
    let bad : Record = record { tag = 0; mark = Backend; payload = [] } in
    let fetch : IsOfUnits (fetch_with (bad ∷ [])) = of 1 request (omega arith) in
    let tag = (fetch.records 0 bad (omega arith)).tag.0 in
    omega (arith, tag)

-- a unit and an overrun
units_taken : TakeUnits (TakenUnit (record { vxid = 2; mark = Client; records = end ∷ [] }) ∷ Missed ∷ [])
units_taken =
    All-cons TakesUnit (TakenUnit (record { vxid = 2; mark = Client; records = end ∷ [] })) (Missed ∷ [])
    (record {
      vxid = omega arith;
      some = omega arith;
      records = (record { tag = (omega arith, omega arith); has_mark = refl; payload = record { bytes = λ i. omega arith; short = omega arith } }, tt);
      size = omega arith;
    })
    (All-cons TakesUnit Missed [] tt (All-nil TakesUnit))
