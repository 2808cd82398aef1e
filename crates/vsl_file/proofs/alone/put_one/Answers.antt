use Rattle.std.proofs.Common.{refl, arith}
use Rattle.log_model.proofs.AddingLemmas.{puts_then}
use Rattle.vsl_record.proofs.PayloadLemmas.{length-packed}
use Rattle.vsl_file.proofs.WritingLemmas.{alone_whole}
use Rattle.vsl_file.proofs.alone.put_one.Goals as goal

pub overflow_add-words : goal.overflow_add-words
overflow_add-words c = omega (arith, c.words.ensures.words c.args.vxid, c.words.ensures.payload.short, length-packed c.args.rec.now.payload)

pub put_head-requires : goal.put_head-requires
put_head-requires c = omega (arith, c.words.ensures.words c.args.vxid, c.words.ensures.payload.short, length-packed c.args.rec.now.payload)

pub returns : goal.returns
returns c =
    puts_then _ c.args.out.now.items _ _ _ _ _ c.in_ok-put_head.ensures.ok c.put_record.ensures.written
    (alone_whole c.args.vxid c.args.rec.now.mark c.args.rec.now _ c.words.result (c.words.ensures.words c.args.vxid) (rw (c.tag.ensures, c.mark.ensures, c.payload.ensures.bytes) refl))
