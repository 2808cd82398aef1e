use Rattle.std.proofs.Common.{refl, ◌∙◌}
use Rattle.std.proofs.lemmas.Result.{err_from_is_err_and}
use Rattle.query_parser.proofs.TreesMeant.{text_means, text_refused, bytes_refused}
use Rattle.query_parser.proofs.parser.parse_query.Goals as goal

pub returns-in-Err-clause-refused : goal.returns-in-Err-clause-refused
returns-in-Err-clause-refused c = bytes_refused c.args.caseless c.args.text.now c.valid_up_to.result c.in-Err.ensures.cases.0 (c.valid_up_to.ensures ∙ c.in-Err.ensures.valid_len)

pub returns-in_err-read_text-clause-refused : goal.returns-in_err-read_text-clause-refused
returns-in_err-read_text-clause-refused c =
    let p = err_from_is_err_and c.from_residual.result c.from_residual.ensures.1 in
    rw (p.1, p.2) (text_refused c.args.caseless c.args.text.now c.in_err-read_text.field-0.0 c.in_default.ensures.cases.1 c.in_err-read_text.ensures)

pub returns-clause-parsed : goal.returns-clause-parsed
returns-clause-parsed c =
    let t = text_means c.args.caseless c.args.text.now c.in_ok-read_text.field-0.items c.in_default.ensures.cases.1 c.in_ok-read_text.ensures in
    (t.query, t.means, record { asks = refl; steps = t.whole })
