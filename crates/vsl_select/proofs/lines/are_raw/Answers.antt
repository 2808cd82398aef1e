use Rattle.std.proofs.Common.{rules, ◌==◌, ◌||◌, not, ◌∙◌}
use Rattle.std.proofs.lemmas.Iterator.{YieldsList-from_slice}
use Rattle.std.proofs.lemmas.Iterator.Search.{all_from_yields_List}
use borrow.Author.Tests.{tests}
use Rattle.vsl_select.specs.Shown.{is_shown_member}
use Rattle.vsl_select.proofs.LineLemmas.{raw_shown}
use Rattle.vsl_select.proofs.lines.are_raw.Goals as goal

pub returns : goal.returns
returns c =
    all_from_yields_List (λ m. (m.level == 0) || not (is_shown_member c.args.selection.now.sides m)) _ _ _ c.all.ensures.ran (YieldsList-from_slice c.args.members.now (search rules)) (λ x b q k. search (rules, tests))
    ∙ raw_shown c.args.selection.now c.args.members.now
