use Rattle.std.proofs.Common.{◌∙◌, refl, sym}
use Rattle.vsl_top.proofs.ConsumerLemmas.{all_shown, none_from, records_taken}
use Rattle.vsl_top.proofs.consumer.TopConsumerConsumer.records.Goals as goal

pub returns-then-shows_everything-clause-takes : goal.returns-then-shows_everything-clause-takes
returns-then-shows_everything-clause-takes c = λ groups taken top. records_taken c.args.self.now _ groups c.args.unit.now.vxid c.args.unit.now.records taken top refl refl refl
    (none_from _ (sym c.is_some.ensures ∙ c.if-is_some.false))
    (λ keys so_far. all_shown c.args.self.now.viewer _ c.args.self.now.first_field _ c.args.unit.now.records keys _ c.selection.ensures c.records.ensures.records
    (c.shows_everything.ensures.alone c.if-shows_everything.true c.args.unit.now.records) (c.in_ok-add_records.ensures keys so_far))

pub returns-clause-takes : goal.returns-clause-takes
returns-clause-takes c = λ groups taken top. records_taken c.args.self.now _ groups c.args.unit.now.vxid c.args.unit.now.records taken top c.add_alone.ensures.same refl refl
    (none_from _ (sym c.is_some.ensures ∙ c.if-is_some.false))
    (λ keys so_far. rw (← c.records-2.ensures.records) (c.in_ok-add_alone.ensures.counted keys so_far))
