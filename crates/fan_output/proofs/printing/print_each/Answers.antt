use Rattle.std.proofs.Common.{◌<◌, ◌∙◌, length, refl, arith}
use Rattle.std.proofs.lemmas.Result.{err_from_is_err_and}
use Rattle.fan_output.proofs.EachLemmas.{get_read, done_none, done_more, done_short, done_all, done_named}
use Rattle.fan_output.proofs.printing.print_each.Goals as goal

pub loop-place-init : goal.loop-place-init
loop-place-init g c = record { text = refl; filled = refl; count = refl; done = done_none _ _ _ _ (g.T.Texts.holds c.args.texts.now) c.args.live.now.items c.args.unwritten.now _ }

pub print_place-requires-clause-named : goal.print_place-requires-clause-named
print_place-requires-clause-named g c =
    done_named _ _ _ _ c.loop-place.invariant.done c.requires.named c.loop-place.place c.index.result.now (get_read c.args.sinks.now.items c.loop-place.place c.index.result.now c.index.ensures (omega (arith, c.loop-place-test.true, c.len-place-end.ensures, c.args.sinks.now.ok.0)))

pub print_place-requires-clause-apart : goal.print_place-requires-clause-apart
print_place-requires-clause-apart g c =
    c.requires.apart.errors c.loop-place.place c.index.result.now (get_read c.args.sinks.now.items c.loop-place.place c.index.result.now c.index.ensures (omega (arith, c.loop-place-test.true, c.len-place-end.ensures, c.args.sinks.now.ok.0)))

pub returns-in_err-live-clause-short : goal.returns-in_err-live-clause-short
returns-in_err-live-clause-short g c =
    let p = err_from_is_err_and c.from_residual.result c.from_residual.ensures.1 in
    let run = c.loop-place.invariant in
    let within : c.loop-place.place < length c.args.sinks.now.items = omega (arith, c.loop-place-test.true, c.len-place-end.ensures, c.args.sinks.now.ok.0) in
    let short = rw (run.text, run.filled) at c.in_err-live.ensures.short in
    rw p.1 (done_short _ _ _ _ c.requires.apart (g.T.Texts.holds c.args.texts.now) (g.T.Texts.holds c.loop-place.texts) (g.T.Texts.holds c.print_place.new.texts) c.args.live.now.items c.loop-place.live.items c.args.unwritten.now c.loop-place.unwritten c.requires.lives c.loop-place.place run.done
    c.index.result.now (get_read c.args.sinks.now.items c.loop-place.place c.index.result.now c.index.ensures within) c.in_err-live.ensures.others
    c.index-in-loop-place.result.now (get_read c.loop-place.live.items c.loop-place.place c.index-in-loop-place.result.now c.index-in-loop-place.ensures (omega (arith, within, run.done.same, c.requires.lives)))
    (λ i met every taken held. rw run.text at (g.met.T.Texts.grows c.loop-place.texts i met every taken held)) short)

pub loop-place-preserved : goal.loop-place-preserved
loop-place-preserved g c =
    let run = c.loop-place.invariant in
    let within : c.loop-place.place < length c.args.sinks.now.items = omega (arith, c.loop-place-test.true, c.len-place-end.ensures, c.args.sinks.now.ok.0) in
    let printed = rw (run.text, run.filled) at c.in_ok-live.ensures.printed in
    record {
      text = c.in_ok-live.ensures.same_text ∙ run.text;
      filled = c.in_ok-live.ensures.same_filled ∙ run.filled;
      count = c.in_ok-live.ensures.same_count ∙ run.count;
      done = done_more _ _ _ _ c.requires.apart (g.T.Texts.holds c.args.texts.now) (g.T.Texts.holds c.loop-place.texts) (g.T.Texts.holds c.print_place.new.texts) c.args.live.now.items c.loop-place.live.items c.args.unwritten.now c.loop-place.unwritten c.requires.lives c.loop-place.place run.done
          c.index.result.now (get_read c.args.sinks.now.items c.loop-place.place c.index.result.now c.index.ensures within) c.in_ok-live.ensures.others
          c.index-in-loop-place.result.now c.in_ok-live.field-0 c.print_place.new.unwritten (get_read c.loop-place.live.items c.loop-place.place c.index-in-loop-place.result.now c.index-in-loop-place.ensures (omega (arith, within, run.done.same, c.requires.lives))) printed;
    }

pub returns-clause-printed : goal.returns-clause-printed
returns-clause-printed g c =
    done_all _ _ _ _ (g.T.Texts.holds c.args.texts.now) (g.T.Texts.holds c.loop-place.texts) c.args.live.now.items c.loop-place.live.items c.args.unwritten.now c.loop-place.unwritten c.loop-place.place (omega (arith, c.loop-place-test.false, c.loop-place.auto.place-end, c.len-place-end.ensures, c.args.sinks.now.ok.0)) c.loop-place.invariant.done
