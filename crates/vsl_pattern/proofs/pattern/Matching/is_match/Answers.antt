use Rattle.std.proofs.Common.{◌∙◌}
use Rattle.vsl_pattern.proofs.PatternLemmas.{is_match_of_pattern}
use Rattle.vsl_pattern.proofs.pattern.Matching.is_match.Goals as goal

pub returns-clause-found : goal.returns-clause-found
returns-clause-found c =
    c.is_match.ensures.found ∙ is_match_of_pattern _ _ _ _ (λ k. (c.type_inv.bytes k).fits) c.args.self.now.pattern.now.read c.args.self.now.compiled
