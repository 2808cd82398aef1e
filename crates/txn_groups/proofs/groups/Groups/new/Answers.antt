use Rattle.txn_groups.proofs.GroupsLemmas.{new_is_sound}
use Rattle.txn_groups.proofs.groups.Groups.new.Goals as goal

pub invariant_of-result : goal.invariant_of-result
invariant_of-result c = record { sound = λ kept. ∣ new_is_sound c.args.queries.now c.args.options.limit c.in_ok-new.field-0 c.in_ok-new.ensures ∣₁ }
