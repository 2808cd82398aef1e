use Rattle.std.proofs.Common.{arith, ap, ◌∙◌, subst, ◌≡◌}
use Rattle.std.proofs.lemmas.Option.{same_Some}
use Rattle.vsl_record.specs.Unit.{LogUnit}
use Rattle.traffic_feed.specs.Batches.{IsWithin}
use Rattle.traffic_feed.specs.inside.Gathering.{Gathered}
use Rattle.traffic_feed.proofs.BegunUnitLemmas.{one_fits}
use Rattle.traffic_feed.proofs.gathering.Gathering.begin.Goals as goal

pub invariant_of-self : goal.invariant_of-self
invariant_of-self c =
    let most : c.self.inside.most ≡ c.args.self.now.most = ap (λ (g : Gathered). g.most) (c.self.view_is ∙ c.in_ok-end.ensures) in
    record {
      segment = c.self.invariant.segment;
      few = c.self.invariant.few;
      fits = c.self.invariant.fits;
      units = c.self.invariant.units;
      begun = λ u is. subst (λ (u : LogUnit). IsWithin c.self.inside.seg u) (same_Some _ _ is) (record {
        unit = c.in_ok-new.ensures.unit;
        fits = rw c.in_ok-new.ensures.made (one_fits c.args.vxid c.args.rec c.self.inside.most c.self.inside.seg c.self.invariant.segment c.self.invariant.fits (omega (arith, c.requires.few)));
      });
    }
