use Rattle.std.proofs.Common.{◌≡◌, ap, ◌∙◌}
use Rattle.vsl_tags.specs.TagSet.{matches_any}
use Rattle.query_parser.proofs.CriterionNames.{name_in_names, names_utf8, tag_is}
use Rattle.query_parser.proofs.criterion.is_tag.Goals as goal

pub unreachable-requires : goal.unreachable-requires
unreachable-requires c = c.in_default.ensures.cases.0 (names_utf8 c.args.name.now (name_in_names c.args.name.now c.requires.named))

pub returns : goal.returns
returns c =
    let same : c.in-Ok.name.now ≡ c.args.name.now = c.in-Ok.ensures.cases.0 in
    c.is_ok.ensures.value
    ∙ tag_is c.in-Ok.name.now c.from_list.result (rw same c.requires.some) (rw same c.requires.named) c.from_list.ensures.accepted c.from_list.ensures.refused
    ∙ ap matches_any same
