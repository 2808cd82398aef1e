use Rattle.std.proofs.Common.{ℕ, ◌<◌, length, subst, ◌∙◌, arith}
use Rattle.std.proofs.lemmas.List.{length-set}
use Rattle.vsl_select.specs.inside.Rows.{IsRowOf}
use Rattle.vsl_select.proofs.RuleLemmas.{texts_of}
use Rattle.vsl_select.proofs.RowLemmas.{row_more}
use Rattle.vsl_select.proofs.tag_rows.rows_of.Goals as goal

pub loop-number-preserved : goal.loop-number-preserved
loop-number-preserved c =
    let within : c.loop-number.number < length c.loop-number.rows = omega (arith, c.loop-number.invariant.places) in record {
      places = length-set c.loop-number.rows _ _ ∙ c.loop-number.invariant.places;
      rows = λ caseless all.
          rw c.from.ensures (row_more (texts_of c.args.rules.now) c.loop-number.rows c.loop-number.number c.row_of.result within (c.loop-number.invariant.rows caseless all)
          (subst (λ (n : ℕ). IsRowOf (texts_of c.args.rules.now) n c.row_of.result) c.in-Some.ensures.number (c.row_of.ensures caseless all)));
    }

pub returns : goal.returns
returns c = λ caseless all tag is_tag. c.loop-number.invariant.rows caseless all tag is_tag (omega (arith, is_tag.1, c.loop-number-test.false))
