-- What items after items come to.
use Rattle.std.proofs.Common.{◌≡◌, [], ◌∷◌, ◌++◌, refl, sym, ap, ◌∙◌, append_assoc, List}
use Rattle.txn_rows.specs.declared.group.GroupOptions.{GroupOptions}
use Rattle.txn_rows.specs.declared.group.Group.{Group}
use Rattle.txn_rows.specs.Grouping.{Taken, State, taken_step, taken_steps}

-- the state and the groups after items and more items
pub steps_append : (options : GroupOptions) (xs ys : List Taken) (s : State)
    → ((taken_steps options (xs ++ ys) s).state ≡ (taken_steps options ys (taken_steps options xs s).state).state)
    × ((taken_steps options (xs ++ ys) s).groups ≡ (taken_steps options xs s).groups ++ (taken_steps options ys (taken_steps options xs s).state).groups)
steps_append options [] ys s = (refl, refl)
steps_append options (item ∷ xs) ys s =
    let first = taken_step options item s in
    let others = steps_append options xs ys first.state in
    (others.0, ap (λ (gs : List Group). first.groups ++ gs) others.1 ∙ sym (append_assoc first.groups (taken_steps options xs first.state).groups (taken_steps options ys (taken_steps options xs first.state).state).groups))
