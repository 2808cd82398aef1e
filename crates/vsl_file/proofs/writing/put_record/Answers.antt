use Rattle.std.proofs.Common.{◌+◌, ◌%◌, ◌^◌, ◌++◌, ap, ◌∙◌, append_assoc, ℕ, List, arith, refl, subst}
use Rattle.vsl_tags.specs.Tags.{IsTag}
use Rattle.log_model.proofs.AddingLemmas.{puts_then}
use Rattle.vsl_file.proofs.WritingLemmas.{record_whole}
use Rattle.vsl_file.proofs.writing.put_record.Goals as goal

pub returns-clause-written : goal.returns-clause-written
returns-clause-written c =
    let old : List ℕ = c.args.out.now.items in
    puts_then _ old _ _ _ _ _
    (c.in_ok-extend_from_slice-2.ensures.items ∙ ap (λ (x : List ℕ). x ++ c.to_le_bytes-2.result) c.in_ok-extend_from_slice.ensures.items ∙ append_assoc old c.to_le_bytes.result c.to_le_bytes-2.result) c.put_payload.ensures
    (rw (c.to_le_bytes.ensures, c.to_le_bytes-2.ensures) (record_whole c.args.vxid _ _ (record { tag = c.args.tag; mark = c.args.mark; payload = c.args.payload.now }) c.are_bytes.ensures
    (omega (arith, c.from.ensures, c.number.ensures.same)) (ap (λ (bits : ℕ). (c.args.vxid + bits) % 2 ^ 64) c.bits.ensures)))

pub returns-clause-rec : goal.returns-clause-rec
returns-clause-rec c = record { tag = subst IsTag c.number.ensures.same c.number.ensures.tag; has_mark = refl; payload = record { bytes = c.are_bytes.ensures; short = c.requires } }
