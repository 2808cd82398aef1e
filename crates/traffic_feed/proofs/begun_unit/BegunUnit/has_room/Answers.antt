use Rattle.std.proofs.Common.{arith, ap, ◌∙◌, length}
use Rattle.vsl_record.specs.Words.{unit_words}
use Rattle.raw_records.proofs.GatheredLemmas.{record_size}
use Rattle.traffic_feed.proofs.BegunUnitLemmas.{has_room_is}
use Rattle.traffic_feed.proofs.begun_unit.BegunUnit.has_room.Goals as goal

pub overflow_add-result : goal.overflow_add-result
overflow_add-result c = omega (arith, c.words.ensures.words 0, record_size 0 c.args.rec.now, c.words.ensures.payload.short, c.self.invariant.unit.size)

pub returns : goal.returns
returns c = λ l is. has_room_is c.args.self.now l c.self.inside.words c.words.result c.args.seg (c.self.invariant.size ∙ ap (λ u. length (unit_words u)) c.self.view_is) (rw is (c.words.ensures.words c.args.self.now.vxid))
