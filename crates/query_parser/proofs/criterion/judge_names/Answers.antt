use Rattle.std.proofs.Common.{◌≡◌, take, None, sym, ap, ◌∙◌, arith}
use Rattle.vsl_tags.specs.TagSet.{matches_any}
use Rattle.query_grammar.specs.Bytes.{is_name_byte}
use Rattle.query_grammar.specs.Judging.{name_fault}
use Rattle.query_parser.specs.Answers.{IsAnswer}
use Rattle.query_parser.proofs.CriterionFaults.{leading_all, name_answer, last_name, more_names, err_answer}
use Rattle.query_parser.proofs.criterion.judge_names.Goals as goal

pub judge_name-requires : goal.judge_name-requires
judge_name-requires c = rw (c.split_at.ensures.front, c.count_leading-count.ensures.count) (leading_all is_name_byte c.loop-more.rest.now)

pub returns-in_err-judge_name-clause-refused : goal.returns-in_err-judge_name-clause-refused
returns-in_err-judge_name-clause-refused c =
    let f = c.in_err-judge_name.field-0.0 in
    let found : IsAnswer f (name_fault matches_any c.loop-more.at (take c.count_leading-count.result c.loop-more.rest.now)) = rw (← c.split_at.ensures.front) c.in_err-judge_name.ensures.refused in
    err_answer c.from_residual.result f _ c.from_residual.ensures.1 (rw (← c.loop-more.invariant.all) (name_answer matches_any c.loop-more.at c.count_leading-count.result c.loop-more.rest.now f c.count_leading-count.ensures.count found))

pub returns-in_default-clause-ok : goal.returns-in_default-clause-ok
returns-in_default-clause-ok c =
    let fine : name_fault matches_any c.loop-more.at (take c.count_leading-count.result c.loop-more.rest.now) ≡ None = ap (name_fault matches_any c.loop-more.at) (sym c.split_at.ensures.front) ∙ c.in_ok-judge_name.ensures.ok in
    sym c.loop-more.invariant.all ∙ last_name matches_any c.loop-more.at c.count_leading-count.result c.loop-more.rest.now c.split_at.result.1.now c.count_leading-count.ensures.count fine c.split_at.ensures.back c.in_default.ensures.none

pub loop-more-preserved : goal.loop-more-preserved
loop-more-preserved c =
    let fine : name_fault matches_any c.loop-more.at (take c.count_leading-count.result c.loop-more.rest.now) ≡ None = ap (name_fault matches_any c.loop-more.at) (sym c.split_at.ensures.front) ∙ c.in_ok-judge_name.ensures.ok in
    record {
      all = more_names matches_any c.loop-more.at c.count_leading-count.result c.loop-more.rest.now c.split_at.result.1.now c.in-Some.more.now c.count_leading-count.ensures.count fine c.split_at.ensures.back c.in-Some.ensures.some ∙ c.loop-more.invariant.all;
      within = grind (arith, c.in-Some.ensures.some, c.split_at.ensures.back_len, c.loop-more.invariant.within);
    }
