use Rattle.std.proofs.Common.{length, take, ap, sym, refl, arith}
use Rattle.std.specs.List.{flat_map}
use Rattle.std.proofs.lemmas.List.{take_all}
use Rattle.vsl_record.specs.Words.{record_words, word_bytes}
use Rattle.vsl_record.proofs.WordLemmas.{length-word_bytes}
use Rattle.vsl_record.proofs.WroteLemmas.{wrote_then, wrote_as, records_more, records_room}
use Rattle.vsl_record.proofs.writing.write_records.Goals as goal

pub write_bytes-place-requires-clause-room : goal.write_bytes-place-requires-clause-room
write_bytes-place-requires-clause-room c =
    let f = record_words c.args.vxid in
    let room = records_room f c.args.records.now c.loop-i.i c.get.result (rw c.len-i-end.ensures at c.loop-i-test.true) c.get.ensures in
    omega (arith, room, c.requires.room, c.loop-i.auto.out, c.loop-i.invariant.size, length-word_bytes (flat_map f (take c.loop-i.i c.args.records.now)))

pub loop-i-preserved : goal.loop-i-preserved
loop-i-preserved c =
    let f = record_words c.args.vxid in
    let room = records_room f c.args.records.now c.loop-i.i c.get.result (rw c.len-i-end.ensures at c.loop-i-test.true) c.get.ensures in
    let both = wrote_then c.args.at _ _ _ _ _ _ _ _ c.loop-i.invariant c.write_bytes-place.ensures.written refl
    (omega (arith, room, c.requires.room, c.loop-i.invariant.size, length-word_bytes (flat_map f (take c.loop-i.i c.args.records.now)))) in
    wrote_as _ _ _ _ _ _ _ both (omega (arith, c.write_bytes-place.ensures.size)) (sym (records_more f c.args.records.now c.loop-i.i c.get.result (rw c.len-i-end.ensures at c.loop-i-test.true) c.get.ensures))

pub returns : goal.returns
returns c =
    let f = record_words c.args.vxid in
    let whole = ap (flat_map f) (take_all c.loop-i.i c.args.records.now (rw c.len-i-end.ensures at c.loop-i-test.false)) in
    wrote_as _ _ _ _ _ _ _ c.loop-i.invariant (omega (arith, c.loop-i.invariant.size, length-word_bytes (flat_map f (take c.loop-i.i c.args.records.now)), ap length whole)) (ap word_bytes whole)
