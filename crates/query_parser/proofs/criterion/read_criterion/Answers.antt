use Rattle.std.proofs.Common.{ap, ◌∙◌}
use Rattle.std.specs.List.{list_all}
use Rattle.vsl_tags.specs.TagSet.{first_fault}
use Rattle.query_parser.specs.declared.criterion.Kind.TheVariants.{Names}
use Rattle.query_parser.specs.inside.Pieces.{is_of, first_level, prefix_at}
use Rattle.query_parser.proofs.CriterionPieces.{cut_of, are_cut}
use Rattle.query_parser.proofs.criterion.read_criterion.Goals as goal

pub read_tags-requires-clause-named : goal.read_tags-requires-clause-named
read_tags-requires-clause-named c =
    let h = cut_of c.args.text.now c.requires.whole (c.requires.fine 0) in
    let k = are_cut h.parts c.args.text.now c.split_field-field.result.0.now c.split_level-level.result.1.now c.split_at.result.0.now c.split_at.result.1.now c.count_leading.result h.cut c.split_field-field.ensures.front c.split_level-level.ensures.rest c.count_leading.ensures.count c.split_at.ensures.front c.split_at.ensures.back in
    ap (list_all (is_of Names)) k.names_are ∙ h.cut.all

pub read_tags-requires-clause-fine : goal.read_tags-requires-clause-fine
read_tags-requires-clause-fine c =
    let h = cut_of c.args.text.now c.requires.whole (c.requires.fine 0) in
    let k = are_cut h.parts c.args.text.now c.split_field-field.result.0.now c.split_level-level.result.1.now c.split_at.result.0.now c.split_at.result.1.now c.count_leading.result h.cut c.split_field-field.ensures.front c.split_level-level.ensures.rest c.count_leading.ensures.count c.split_at.ensures.front c.split_at.ensures.back in
    ap first_fault k.names_are ∙ h.cut.fine

pub returns : goal.returns
returns c =
    let h = cut_of c.args.text.now c.requires.whole (c.requires.fine 0) in
    let k = are_cut h.parts c.args.text.now c.split_field-field.result.0.now c.split_level-level.result.1.now c.split_at.result.0.now c.split_at.result.1.now c.count_leading.result h.cut c.split_field-field.ensures.front c.split_level-level.ensures.rest c.count_leading.ensures.count c.split_at.ensures.front c.split_at.ensures.back in (
      h.parts,
      h.good,
      h.same,
      record {
        level = c.split_level-level.ensures.level ∙ ap first_level k.front_is ∙ h.cut.level;
        tags = rw k.names_are at c.read_tags.ensures;
        prefix = c.in_ok-read_prefix.ensures ∙ ap prefix_at k.prefix_is ∙ h.cut.meant;
        field = c.split_field-field.ensures.field ∙ h.cut.field;
      },
    )
