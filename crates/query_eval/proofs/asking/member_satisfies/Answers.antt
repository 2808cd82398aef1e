use Rattle.std.proofs.Common.{◌≡◌, ◌&&◌, Bool, false, sym, ap, ◌∙◌}
use Rattle.std.specs.List.{list_any}
use Rattle.query_eval.specs.Meaning.{record_marks, meets_level}
use Rattle.query_eval.proofs.MarkLemmas.{by_mark}
use Rattle.query_eval.proofs.asking.member_satisfies.Goals as goal

-- no record of a member of another level is selected
pub returns-then-not-meets_level-clause-answer : goal.returns-then-not-meets_level-clause-answer
returns-then-not-meets_level-clause-answer c =
    let t = c.args.test.now in
    let m = c.args.member.now in
    let unmet : meets_level t.criterion.level m.level ≡ false = sym c.meets_level.ensures ∙ c.if-not-meets_level.true in
    sym (by_mark t m.level m.records ∙ ap (λ (met : Bool). met && list_any (record_marks t) m.records) unmet)
