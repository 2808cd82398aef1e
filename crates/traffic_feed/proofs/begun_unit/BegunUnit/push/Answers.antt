use Rattle.std.proofs.Common.{arith, ◌∙◌, sym, subst, ap, ◌≤◌, length}
use Rattle.vsl_record.specs.Unit.{LogUnit}
use Rattle.vsl_record.specs.Words.{unit_words, most_words}
use Rattle.raw_records.specs.Gathered.{with_record}
use Rattle.raw_records.proofs.GatheredLemmas.{record_size}
use Rattle.traffic_feed.proofs.BegunUnitLemmas.{IsBegunUnit-more}
use Rattle.traffic_feed.proofs.begun_unit.BegunUnit.push.Goals as goal

pub overflow_add-self : goal.overflow_add-self
overflow_add-self c = omega (arith, c.words-words.ensures.words 0, record_size 0 c.view.result, c.words-words.ensures.payload.short, c.self.invariant.unit.size)

pub invariant_of-self-2 : goal.invariant_of-self-2
invariant_of-self-2 c =
    let u : LogUnit = record { vxid = c.self.inside.vxid; mark = c.self.inside.mark; records = c.self.inside.records.items } in
    let few = subst (λ (v : LogUnit). length (unit_words (with_record v c.args.rec)) ≤ most_words) (sym c.self.view_is) c.requires.few in
    IsBegunUnit-more u c.args.rec c.self.inside.words c.words-words.result c.self.inside.has_end c.eq-is_end.result _ c.self.invariant (rw c.view.ensures at c.words-words.ensures.tag) (rw c.view.ensures at c.words-words.ensures.payload)
    (c.requires.mark ∙ ap (λ (v : LogUnit). v.mark) (sym c.self.view_is)) few (rw c.view.ensures at (c.words-words.ensures.words c.self.inside.vxid)) c.eq-is_end.ensures c.in_ok-push.ensures.items
