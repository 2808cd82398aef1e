use Rattle.vsl_tags.proofs.GlobLemmas.{fits_means, means_fits}
use Rattle.vsl_tags.proofs.laws.stars_stand_for_any_bytes.Goals as goal

pub returns : goal.returns
returns c = λ any_before any_after text name. (fits_means any_before any_after text name, means_fits any_before any_after text name)
