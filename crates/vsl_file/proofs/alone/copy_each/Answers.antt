use Rattle.std.proofs.Common.{◌≡◌, ◌+◌, ◌*◌, ◌++◌, ◌≤◌, ◌∙◌, ap, sym, List, ℕ, length, length-append, take, drop, refl, append_assoc, arith}
use Rattle.std.specs.Int.{w32, to_le_bytes}
use Rattle.std.specs.List.{flat_map}
use Rattle.std.proofs.lemmas.List.{take_at, drop_at}
use Rattle.vsl_record.specs.declared.record_type.Record.{Record}
use Rattle.vsl_record.specs.Payload.{IsPayload}
use Rattle.vsl_record.specs.Words.{header_mark, record_words}
use Rattle.vsl_record.proofs.PayloadLemmas.{length-packed}
use Rattle.vsl_file.specs.File.{record_bytes}
use Rattle.vsl_file.proofs.WritingLemmas.{alone_whole, one_alone, pieces, record_size}
use Rattle.vsl_file.proofs.alone.copy_each.Goals as goal

few_words : (vxid n : ℕ) (rec : Record) → n ≡ length (record_words vxid rec) → IsPayload rec.payload → n ≤ 1003
few_words vxid n rec words payload = omega (arith, words, payload.short, length-packed rec.payload)

pub overflow_mul-words : goal.overflow_mul-words
overflow_mul-words c = omega (arith, few_words c.args.vxid _ c.get.result (c.words-words.ensures.words c.args.vxid) c.words-words.ensures.payload)

pub put_head-requires : goal.put_head-requires
put_head-requires c = omega (arith, few_words c.args.vxid _ c.get.result (c.words-words.ensures.words c.args.vxid) c.words-words.ensures.payload)

pub split_at-requires : goal.split_at-requires
split_at-requires c =
    let vxid = c.args.vxid in
    let records = c.args.records.now in
    let rec = c.get.result in
    let others : List ℕ = flat_map (record_bytes vxid) (drop (c.loop-i.i + 1) records) in
    let whole = pieces vxid records c.loop-i.i rec c.loop-i.left.now (rw c.len-i-end.ensures at c.loop-i-test.true) c.get.ensures c.loop-i.invariant.left in
    omega (arith, ap length whole, length-append (record_bytes vxid rec) others, record_size vxid rec, c.words-words.ensures.words vxid)

pub loop-i-preserved : goal.loop-i-preserved
loop-i-preserved c =
    let vxid = c.args.vxid in
    let records = c.args.records.now in
    let i = c.loop-i.i in
    let rec = c.get.result in
    let within = rw c.len-i-end.ensures at c.loop-i-test.true in
    let words = c.words-words.ensures.words vxid in
    let others : List ℕ = flat_map (record_bytes vxid) (drop (i + 1) records) in
    let whole = pieces vxid records i rec c.loop-i.left.now within c.get.ensures c.loop-i.invariant.left in
    let size : length (record_bytes vxid rec) ≡ 4 * c.words-words.result = record_size vxid rec ∙ ap (λ (n : ℕ). 4 * n) (sym words) in
    let here = c.split_at.ensures.front ∙ ap (take (4 * c.words-words.result)) whole ∙ take_at (record_bytes vxid rec) others _ size in
    let behind = c.split_at.ensures.back ∙ ap (drop (4 * c.words-words.result)) whole ∙ drop_at (record_bytes vxid rec) others _ size in
    let head : List ℕ = to_le_bytes w32 (header_mark + (1 + c.words-words.result)) in
    let unit = ap (λ (x : List ℕ). head ++ x) here ∙ sym (alone_whole vxid rec.mark rec rec c.words-words.result words refl) in
    let added = c.in_ok-extend_from_slice.ensures.items ∙ ap (λ (x : List ℕ). x ++ c.split_at.result.0.now) c.in_ok-put_head.ensures.ok ∙ append_assoc c.loop-i.out.items head c.split_at.result.0.now ∙ ap (λ (x : List ℕ). c.loop-i.out.items ++ x) unit in
    record {
      left = behind;
      out = one_alone vxid records i rec _ _ _ within c.get.ensures c.loop-i.invariant.out added;
    }
