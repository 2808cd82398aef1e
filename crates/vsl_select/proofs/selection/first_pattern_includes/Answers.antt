use Rattle.std.proofs.Common.{rules, ◌≡◌}
use Rattle.std.specs.List.{find}
use Rattle.std.specs.Option.{option_map}
use Rattle.std.proofs.lemmas.Iterator.{YieldsList-from_slice}
use Rattle.std.proofs.lemmas.Iterator.Search.{find_from_yields_List}
use borrow.Author.Tests.{tests}
use Rattle.vsl_select.proofs.RuleLemmas.{first_includes}
use Rattle.vsl_select.proofs.selection.first_pattern_includes.Goals as goal
use Rattle.vsl_select.proofs.selection.first_pattern_includes.Goals.{After-find}

found : (c : After-find) → option_map (λ r. r.now) c.find.result ≡ find (λ r. r.text.regex) c.args.rules.now
found c = find_from_yields_List (λ r. r.text.regex) _ _ _ c.find.ensures.ran (YieldsList-from_slice c.args.rules.now (search rules)) (λ x b q k. search (rules, tests))

pub returns-in-Some : goal.returns-in-Some
returns-in-Some c = first_includes (λ r. r.regex) c.args.rules.now _ _ (found (goal.at.returns-in-Some c).After-find) c.in-Some.is

pub returns-in-None : goal.returns-in-None
returns-in-None c = first_includes (λ r. r.regex) c.args.rules.now _ _ (found (goal.at.returns-in-None c).After-find) c.in-None.is
