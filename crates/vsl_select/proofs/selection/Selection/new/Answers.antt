use Rattle.vsl_select.proofs.selection.Selection.new.Goals as goal

pub invariant_of-result-2 : goal.invariant_of-result-2
invariant_of-result-2 c = λ tag is_tag. rw c.deref.ensures.value at (c.rows_of-rows.ensures c.args.caseless (rw c.deref.ensures.value c.in_ok-rules.ensures.read) tag is_tag)
