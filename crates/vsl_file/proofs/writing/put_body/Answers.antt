use Rattle.std.proofs.Common.{◌≡◌, ◌∙◌, ◌++◌, List, ℕ, take, ap, sym, refl, append_assoc}
use Rattle.std.specs.List.{flat_map}
use Rattle.vsl_record.specs.declared.record_type.Record.{Record}
use Rattle.vsl_file.specs.File.{record_bytes}
use Rattle.vsl_file.proofs.WritingLemmas.{body_more}
use Rattle.vsl_file.proofs.writing.put_body.Goals as goal

pub loop-i-preserved : goal.loop-i-preserved
loop-i-preserved c =
    let f = record_bytes c.args.vxid in
    let old : List ℕ = c.args.out.now.items in
    let body : List ℕ = flat_map f (take c.loop-i.i c.args.records.now) in
    let put : Record = record { tag = c.tag.result; mark = c.mark.result; payload = c.payload.result.now } in
    let same : put ≡ c.get-rec.result = rw (c.tag.ensures, c.mark.ensures, c.payload.ensures.bytes) refl in
    c.in_ok-put_record.ensures.written.ok ∙ ap (λ (x : List ℕ). x ++ f put) c.loop-i.invariant ∙ append_assoc old body (f put) ∙ ap (λ (r : Record). old ++ (body ++ f r)) same
    ∙ ap (λ (x : List ℕ). old ++ x) (sym (body_more f c.args.records.now c.loop-i.i c.get-rec.result (rw c.len-i-end.ensures at c.loop-i-test.true) c.get-rec.ensures))
