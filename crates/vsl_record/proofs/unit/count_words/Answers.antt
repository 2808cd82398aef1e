use Rattle.std.proofs.Common.{◌≡◌, ℕ, ◌+◌, ◌<◌, List, length, take, get_or, arith, subst, length-append}
use Rattle.std.specs.List.{flat_map}
use Rattle.std.proofs.lemmas.List.{take_all, take_more}
use Rattle.std.proofs.lemmas.List.Concat.{flat_map-append}
use Rattle.std.proofs.lemmas.List.Elements.{All-more}
use Rattle.vsl_tags.specs.Tags.{IsTag}
use Rattle.vsl_record.specs.declared.record_type.Record.{Record}
use Rattle.vsl_record.specs.Payload.{IsPayload}
use Rattle.vsl_record.specs.Words.{record_words}
use Rattle.vsl_record.proofs.unit.count_words.Goals as goal

-- what one more piece adds
length-one_more : {X : Type 0} (f : X → List ℕ) (xs : List X) (i : ℕ) (x : X) → i < length xs → x ≡ get_or xs i x → length (flat_map f (take (i + 1) xs)) ≡ length (flat_map f (take i xs)) + length (f x)
length-one_more f xs i x within is = rw (take_more xs i x within, ← is, flat_map-append, length-append) (simp length-append (omega arith))

pub loop-i-preserved : goal.loop-i-preserved
loop-i-preserved c =
    let all = c.args.records.now in
    let i = c.loop-i.i in
    let rec = c.get.result in
    let within : i < length all = (rw c.len-i-end.ensures at c.loop-i-test.true) in
    record {
      words = λ vxid. omega (arith, length-one_more (record_words vxid) all i rec within c.get.ensures, c.words.ensures.words vxid, c.loop-i.invariant.words vxid, c.saturating_add-words.ensures);
      tags = All-more (λ (r : Record). IsTag r.tag) all i rec within c.loop-i.invariant.tags (subst (λ (r : Record). IsTag r.tag) c.get.ensures c.words.ensures.tag);
      payloads = All-more (λ (r : Record). IsPayload r.payload) all i rec within c.loop-i.invariant.payloads (subst (λ (r : Record). IsPayload r.payload) c.get.ensures c.words.ensures.payload);
    }

pub returns-clause-tags : goal.returns-clause-tags
returns-clause-tags c = rw (take_all c.loop-i.i c.args.records.now (rw c.len-i-end.ensures at c.loop-i-test.false)) at c.loop-i.invariant.tags

pub returns-clause-payloads : goal.returns-clause-payloads
returns-clause-payloads c = rw (take_all c.loop-i.i c.args.records.now (rw c.len-i-end.ensures at c.loop-i-test.false)) at c.loop-i.invariant.payloads
