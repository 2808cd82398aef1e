use Rattle.vsl_tags.proofs.NameLemmas.{name_finds_tag, names_are_different}
use Rattle.vsl_tags.proofs.laws.names_differ.Goals as goal

pub returns : goal.returns
returns c = record { found = name_finds_tag; differ = names_are_different }
