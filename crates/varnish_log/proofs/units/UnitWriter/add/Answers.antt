use Rattle.std.proofs.Common.{◌≡◌, ◌+◌, ◌++◌, ◌/◌, length, ◌∙◌, ℕ, Bool, Some, ap, sym, arith}
use Rattle.std.proofs.lemmas.Result.{on_ok_weaker}
use Rattle.raw_records.specs.Lines.{LoggedRecord}
use Rattle.vsl_file.specs.File.{record_bytes}
use Rattle.varnish_log.specs.inside.Written.{Kept}
use Rattle.varnish_log.specs.inside.Writers.{known}
use Rattle.varnish_log.proofs.WrittenLemmas.{added}
use Rattle.varnish_log.proofs.units.UnitWriter.add.Goals as goal

pub returns-clause-written : goal.returns-clause-written
returns-clause-written c = λ before ls w.
    let l : LoggedRecord = record { vxid = c.args.vxid; rec = record { tag = c.args.tag; mark = c.args.mark; payload = c.args.payload.now } } in
    let size : c.div_ceil.result ≡ (length c.args.payload.now + 3) / 4 = omega (arith, c.div_ceil.ensures) in
    on_ok_weaker c.put_record.result (λ wrote.
    added (known c.in_ok-begun.begun) (record { begun = Some (record { vxid = c.args.vxid; mark = c.args.mark; words = c.in_ok-begun.begun.words + 3 + c.div_ceil.result; ended = c.eq-ended.result }); body = c.put_record.new.out.items }) c.unit_for.new.self.body c.unit_for.new.out.items before ls
    l (c.in_ok-begun.ensures.ready before ls w) c.put_record.ensures.rec (sym c.in_ok-begun.ensures.vxid) (sym c.in_ok-begun.ensures.mark)
    (ap (λ (n : ℕ). Some (record { vxid = c.args.vxid; mark = c.args.mark; words = c.in_ok-begun.begun.words + 3 + n; ended = c.eq-ended.result })) size
    ∙ ap (λ (b : Bool). Some (record { vxid = c.args.vxid; mark = c.args.mark; words = c.in_ok-begun.begun.words + 3 + (length c.args.payload.now + 3) / 4; ended = b })) c.eq-ended.ensures) (wrote ∙ ap (λ (k : Kept). k.body ++ record_bytes l.vxid l.rec) c.self.view_is)) c.put_record.ensures.written.ok
