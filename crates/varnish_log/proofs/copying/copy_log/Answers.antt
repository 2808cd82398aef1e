use Rattle.std.proofs.Common.{◌∙◌, sym}
use Rattle.varnish_log.proofs.FirstLemmas.{log_then}
use Rattle.varnish_log.proofs.copying.copy_log.Goals as goal

pub returns-in-Ok-copy_parts-clause-copied : goal.returns-in-Ok-copy_parts-clause-copied
returns-in-Ok-copy_parts-clause-copied g c =
    log_then c.args.asked c.args.input c.split_at.result.0.now c.kept_of.result.now c.in-Ok-form_of.form _ _ _ _ (rw c.split_at.ensures.front c.in-Ok.ensures.first) (sym c.form_of.ensures ∙ c.in-Ok-form_of.is) c.kept_of.ensures.kept c.in-Ok-copy_parts.ensures.copied

pub returns-in-Err-Fault-clause-fault : goal.returns-in-Err-Fault-clause-fault
returns-in-Err-Fault-clause-fault g c =
    log_then c.args.asked c.args.input c.split_at.result.0.now c.kept_of.result.now c.in-Ok-form_of.form _ _ _ _ (rw c.split_at.ensures.front c.in-Ok.ensures.first) (sym c.form_of.ensures ∙ c.in-Ok-form_of.is) c.kept_of.ensures.kept (rw c.in-Err-Fault.field-0-is at c.in-Err-Fault.ensures.fault)

pub returns-in-Err-NoMemory-clause-short : goal.returns-in-Err-NoMemory-clause-short
returns-in-Err-NoMemory-clause-short g c =
    log_then c.args.asked c.args.input c.split_at.result.0.now c.kept_of.result.now c.in-Ok-form_of.form _ _ _ _ (rw c.split_at.ensures.front c.in-Ok.ensures.first) (sym c.form_of.ensures ∙ c.in-Ok-form_of.is) c.kept_of.ensures.kept (rw c.in-Err-NoMemory.field-0-is at c.in-Err-NoMemory.ensures.short)
