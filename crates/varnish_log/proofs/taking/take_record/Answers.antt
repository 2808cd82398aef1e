use Rattle.std.proofs.Common.{◌∷◌, [], ◌∙◌, ◌++◌, List, ℕ, subst, arith}
use Rattle.std.proofs.lemmas.Result.{on_ok_weaker}
use Rattle.vsl_record.specs.Payload.{most_payload}
use Rattle.varnish_log.specs.inside.Written.{IsWritten}
use Rattle.varnish_log.proofs.TakingLemmas.{take_at_most}
use Rattle.varnish_log.proofs.taking.take_record.Goals as goal

pub returns-clause-written : goal.returns-clause-written
returns-clause-written c = λ before ls w.
    let payload = c.split_at.ensures.front ∙ take_at_most most_payload _ c.args.payload.now c.min.ensures in
    on_ok_weaker c.add.result (λ written.
    subst (λ (x : List ℕ). IsWritten c.add.new.self c.add.new.out.items before (ls ++ record { vxid = c.args.vxid; rec = record { tag = c.args.tag; mark = c.args.mark; payload = x } } ∷ [])) payload written) (c.add.ensures.written before ls w)

pub returns-clause-words : goal.returns-clause-words
returns-clause-words c = on_ok_weaker c.add.result (λ few. omega (arith, few, c.split_at.ensures.front_len, c.min.ensures)) c.add.ensures.words
