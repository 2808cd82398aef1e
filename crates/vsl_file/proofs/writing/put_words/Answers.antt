use Rattle.std.proofs.Common.{◌≡◌, ◌+◌, ◌++◌, ◌∙◌, ap, ℕ, List, length, arith}
use Rattle.std.specs.Int.{w32, to_le_bytes}
use Rattle.std.specs.List.{flat_map}
use Rattle.log_model.proofs.AddingLemmas.{puts_then}
use Rattle.vsl_record.specs.declared.mark.Mark.TheVariants.{Plain}
use Rattle.vsl_record.specs.Words.{header_mark, record_words}
use Rattle.vsl_file.proofs.WritingLemmas.{unit_whole}
use Rattle.vsl_file.proofs.writing.put_words.Goals as goal

pub returns : goal.returns
returns c = λ mark.
    let count : c.count_words-words.result ≡ 1 + length (flat_map (record_words c.args.vxid) c.args.records.now) = omega (arith, c.count_words-words.ensures.words c.args.vxid, c.requires Plain) in
    puts_then _ c.args.out.now.items _ _ _ _ _ (c.in_ok-put_head.ensures.ok ∙ ap (λ (x : List ℕ). x ++ to_le_bytes w32 (header_mark + c.count_words-words.result)) c.reserve.ensures.items) c.put_body.ensures
    (unit_whole _ (record { vxid = c.args.vxid; mark = mark; records = c.args.records.now }) count)

pub overflow_mul-words : goal.overflow_mul-words
overflow_mul-words c = omega (arith, c.count_words-words.ensures.words c.args.vxid, c.requires Plain)

pub overflow_add-words : goal.overflow_add-words
overflow_add-words c = omega (arith, c.count_words-words.ensures.words c.args.vxid, c.requires Plain)

pub put_head-requires : goal.put_head-requires
put_head-requires c = omega (arith, c.count_words-words.ensures.words c.args.vxid, c.requires Plain)
