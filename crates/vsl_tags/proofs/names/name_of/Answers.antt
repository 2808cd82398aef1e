use Rattle.std.proofs.Common.{◌∙◌, ap}
use Rattle.std.specs.Str.{trim_end}
use Rattle.vsl_tags.proofs.NameLemmas.{name_in_columns, name_length}
use Rattle.vsl_tags.proofs.names.name_of.Goals as goal

pub returns : goal.returns
returns c =
    let name = c.trim_end.ensures.trim ∙ ap trim_end c.columns_of.ensures.columns ∙ name_in_columns c.args.tag in
    let length_is = name_length c.args.tag c.columns_of.ensures.tag in
    record { name = name; nonempty = rw name length_is.0; longest = rw name length_is.1 }
