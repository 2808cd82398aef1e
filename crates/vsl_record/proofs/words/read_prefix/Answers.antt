use Rattle.std.proofs.Common.{◌≡◌, ℕ, ◌%◌, List, length, get_or, None, inr, rules}
use Rattle.std.proofs.lemmas.Result.{err_from_is_err_and}
use Rattle.vsl_record.specs.WordFaults.{header_fault}
use Rattle.vsl_record.proofs.UnitReadingLemmas.{bad_before}
use Rattle.vsl_record.proofs.words.read_prefix.Goals as goal

pub returns-in_err-unit-clause-refused : goal.returns-in_err-unit-clause-refused
returns-in_err-unit-clause-refused c =
    let p = err_from_is_err_and c.from_residual-in_err-unit.result c.from_residual-in_err-unit.ensures.1 in
    let words : List ℕ = c.args.words.now in
    let head : get_or words 0 0 ≡ c.unwrap_or-head.result = search rules in
    let good : header_fault c.args.version (get_or words 0 0) (length words) ≡ None = rw (← head) at c.in_ok-size.ensures.good in
    let size : c.in_ok-size.size ≡ get_or words 0 0 % 16777216 = rw head c.in_ok-size.ensures.size.0 in
    rw (p.1, p.2) (λ other. inr (good, bad_before c.args.version words c.in_ok-size.size c.in_err-unit.field-0.0 size c.in_ok-size.ensures.size.1 (rw (c.deref.ensures.value, c.in_ok-bytes.ensures.words, c.split_at.ensures.front) at (c.in_err-unit.ensures.refused other))))
