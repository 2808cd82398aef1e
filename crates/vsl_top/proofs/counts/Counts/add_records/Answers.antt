use Rattle.std.proofs.Common.{map, refl}
use Rattle.vsl_top.specs.Report.{key_of}
use Rattle.std.proofs.lemmas.List.{map-append}
use Rattle.vsl_top.proofs.LoopLemmas.{one_more, all_of}
use Rattle.vsl_top.proofs.counts.Counts.add_records.Goals as goal

pub loop-i-preserved : goal.loop-i-preserved
loop-i-preserved c = one_more (map (key_of c.args.first_field)) (map-append (key_of c.args.first_field)) _ _ _ _ _ _ (rw c.len-i-end.ensures at c.loop-i-test.true) c.get-rec.ensures c.loop-i.invariant
    (λ keys so_far. rw (c.tag.ensures, c.text_of.ensures) at (c.in_ok-add.ensures.counted keys so_far))

pub returns : goal.returns
returns c = λ keys so_far. all_of (map (key_of c.args.first_field)) c.args.records.now c.args.records.now _ _ _ (rw c.len-i-end.ensures at c.loop-i-test.false) refl c.loop-i.invariant keys (c.tell.ensures keys so_far)
