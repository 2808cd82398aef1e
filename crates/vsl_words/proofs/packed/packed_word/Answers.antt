use Rattle.std.proofs.Common.{◌∙◌, arith}
use Rattle.vsl_words.proofs.PackedLemmas.{length-packed, packed_at}
use Rattle.vsl_words.proofs.packed.packed_word.Goals as goal

pub overflow_mul-place : goal.overflow_mul-place
overflow_mul-place c = omega (arith, length-packed c.args.bytes.now, c.requires)

pub split_at-requires : goal.split_at-requires
split_at-requires c = omega (arith, length-packed c.args.bytes.now, c.requires)

pub returns : goal.returns
returns c = rw c.split_at.ensures.back at c.first_packed.ensures ∙ packed_at c.args.place c.args.bytes.now
