use Rattle.std.proofs.Common.{◌≡◌, ◌<◌, ◌||◌, ◌∙◌, length, ap, arith}
use Rattle.vsl_tags.specs.Tags.{IsTag, tag_name}
use Rattle.vsl_tags.specs.TagSet.{has_tag, matches_any}
use Rattle.vsl_tags.specs.Glob.{matches}
use Rattle.vsl_tags.proofs.TagSetLemmas.{all_names, more_names, one_more}
use Rattle.vsl_tags.proofs.tag_set.TagSet.add_matching.Goals as goal

pub loop-number-preserved : goal.loop-number-preserved
loop-number-preserved c =
    let tag : IsTag c.loop-number.number = omega arith in
    let fits : c.matches-fits.result ≡ matches c.args.element.now (tag_name c.loop-number.number) =
    rw (c.as_bytes.ensures.value, c.as_bytes-in-loop-number.ensures.value, c.name_of-name.ensures.name, c.of.ensures) at c.matches-fits.ensures in
    let within : c.loop-number.number < length c.loop-number.self.members = omega arith in
    record {
      any = rw (more_names (matches c.args.element.now) c.loop-number.number tag, fits) (ap (λ b. b || matches c.args.element.now (tag_name c.loop-number.number)) c.loop-number.invariant.any);
      tags = rw (c.from.ensures, fits) (one_more c.loop-number.self.members (λ n. matches c.args.element.now (tag_name n)) (has_tag c.args.self.now) c.loop-number.number within c.loop-number.invariant.tags);
    }

pub returns-clause-any : goal.returns-clause-any
unfolding matches_any
returns-clause-any c = c.loop-number.invariant.any ∙ all_names (matches c.args.element.now) c.loop-number.number c.loop-number-test.false
