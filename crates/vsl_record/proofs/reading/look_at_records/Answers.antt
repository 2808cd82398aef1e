use Rattle.std.proofs.Common.{◌∙◌, rules, arith}
use Rattle.std.proofs.lemmas.Result.{err_from_is_err_and}
use Rattle.vsl_record.proofs.WordLemmas.{length-words_in}
use Rattle.vsl_record.proofs.LookLemmas.{look_start, look_more, look_stop}
use Rattle.vsl_record.proofs.reading.look_at_records.Goals as goal

pub loop-head-init : goal.loop-head-init
loop-head-init c = look_start c.args.version c.args.id c.args.size _ _ _ c.requires.size c.requires.some c.split_at.ensures.back (c.reserve.ensures.items ∙ c.clear.ensures.items)

pub entry_of-requires-clause-few : goal.entry_of-requires-clause-few
entry_of-requires-clause-few c = omega (arith, c.requires.size, c.requires.few, length-words_in c.args.block.now)

pub returns-in_err-rec-clause-refused : goal.returns-in_err-rec-clause-refused
returns-in_err-rec-clause-refused c =
    let p = err_from_is_err_and c.from_residual-in_err-rec.result c.from_residual-in_err-rec.ensures.1 in
    rw (p.1, p.2) (λ other. look_stop _ _ _ _ _ _ _ c.loop-head.invariant c.requires.size c.in-Some.ensures.long (c.in_err-rec.ensures.refused other))

pub loop-head-preserved : goal.loop-head-preserved
loop-head-preserved c = look_more _ _ _ _ _ _ _ _ c.entry_of.result c.in_ok-rec.rec c.loop-head.invariant c.in_ok-rec.ensures.read c.in_ok-rec.ensures.placed c.entry_of.ensures.record c.entry_of.ensures.entry (search rules)
