use Rattle.std.proofs.Common.{◌≡◌, ◌+◌, ◌%◌, ℕ, take, drop, ap, ◌∙◌, sym, arith}
use Rattle.varnish_log.specs.Entries.{filling_of, head_size}
use Rattle.varnish_log.proofs.EntryLemmas.{cut, other_id, whole}
use Rattle.varnish_log.proofs.entry.next_entry.Goals as goal

pub returns-in_default-mark_of_id : goal.returns-in_default-mark_of_id
returns-in_default-mark_of_id c = other_id c.args.form c.args.bytes.now c.in-Some.words c.in-Some.ensures.some (sym c.mark_of_id.ensures ∙ c.in_default-mark_of_id.is)

pub returns-then-bytes-head : goal.returns-then-bytes-head
returns-then-bytes-head c =
    cut c.args.form c.args.bytes.now c.in-Some.words c.in-Some.ensures.some c.in-Some-mark_of_id.mark (omega (arith, c.if-words-version.false, c.version.ensures)) (sym c.mark_of_id.ensures ∙ c.in-Some-mark_of_id.is)
    (omega (arith, c.if-bytes-head.true, c.id_size-head.ensures))

pub returns : goal.returns
returns c =
    let behind : c.split_at.result.1.now ≡ drop (head_size c.args.form) c.args.bytes.now = c.split_at.ensures.back ∙ ap (λ (k : ℕ). drop (4 + k) c.args.bytes.now) c.id_size-head.ensures in
    rw c.client.ensures.client (whole c.args.form c.args.bytes.now c.in-Some.words c.in-Some.ensures.some c.in-Some-mark_of_id.mark (omega (arith, c.if-words-version.false, c.version.ensures)) (sym c.mark_of_id.ensures ∙ c.in-Some-mark_of_id.is) _ _
    (λ i. omega (arith, c.type_inv.bytes i)) (omega (arith, c.if-bytes-head.false, c.id_size-head.ensures))
    (c.split_at-2.ensures.front ∙ ap (take (c.in-Some.words.first % 65536)) behind)
    (c.split_at-3.ensures.back ∙ ap (drop (filling_of (c.in-Some.words.first % 65536))) (c.split_at-2.ensures.back ∙ ap (drop (c.in-Some.words.first % 65536)) behind)))
