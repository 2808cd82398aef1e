use Rattle.std.proofs.Common.{sym, subst}
use Rattle.std.specs.Prelude.{IsTrue}
use Rattle.std.proofs.lemmas.Option.{same_Some}
use Rattle.vsl_record.specs.Unit.{LogUnit}
use Rattle.traffic_feed.specs.Batches.{IsWithin}
use Rattle.traffic_feed.specs.inside.Gathering.{Gathered, begun_has_room}
use Rattle.traffic_feed.proofs.GatheringLemmas.{IsWithin-pushed}
use Rattle.traffic_feed.proofs.gathering.Gathering.push.Goals as goal

pub invariant_of-self : goal.invariant_of-self
invariant_of-self c =
    let asked = subst (λ (g : Gathered). IsTrue (begun_has_room g.seg g.begun (record { vxid = 0; rec = c.args.rec }))) (sym c.self.view_is) c.requires.room in
    let room = rw c.in-Some.is at asked in
    let within = IsWithin-pushed c.push.result c.self.inside.seg c.in-Some.begun c.push.new.self c.args.rec (c.self.invariant.begun c.in-Some.begun c.in-Some.is) room c.push.ensures.pushed c.push.ensures.unit c.push.ensures.err in
    record {
      segment = c.self.invariant.segment;
      few = c.self.invariant.few;
      fits = c.self.invariant.fits;
      units = c.self.invariant.units;
      begun = λ u is. subst (λ (u : LogUnit). IsWithin c.self.inside.seg u) (same_Some _ _ is) within;
    }
