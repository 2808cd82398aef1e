use Rattle.std.proofs.Common.{◌∙◌, subst}
use Rattle.vsl_tags.specs.Tags.{IsTag}
use Rattle.raw_records.proofs.NameLemmas.{called_so}
use Rattle.raw_records.proofs.tag_cache.TagCache.tag_called.Goals as goal

pub returns-then-eq_ignore_ascii_case : goal.returns-then-eq_ignore_ascii_case
returns-then-eq_ignore_ascii_case c =
    let is = subst IsTag c.number-number.ensures.same c.number-number.ensures.tag in
    called_so _ c.args.name.now c.as_bytes.result.now is (c.as_bytes.ensures.value ∙ c.name_of.ensures.name) (c.eq_ignore_ascii_case.ensures.test.0 c.if-eq_ignore_ascii_case.true)
