-- Records by themselves are groups by themselves.
use Rattle.std.proofs.Common.{◌≡◌, ℕ, List, [], ◌∷◌, map, refl, ap, ◌∙◌}
use Rattle.vsl_record.specs.declared.record_type.Record.{Record}
use Rattle.txn_rows.specs.declared.group.Group.{Group}
use Rattle.txn_rows.specs.declared.group.Grouping.TheVariants.{Raw}
use Rattle.txn_rows.specs.declared.group.GroupOptions.{GroupOptions}
use Rattle.txn_rows.specs.Grouping.{State, Leaving, then_left, raw_group, step, steps, reported}

raw_step : (options : GroupOptions) → options.grouping ≡ Raw → (vxid : ℕ) (rec : Record) (s : State) → step options vxid rec s ≡ record { state = s; groups = raw_group vxid rec ∷ [] }
raw_step options raw vxid rec s = rw raw refl

-- records by themselves leave nothing pending, and are reported as groups by themselves
pub raw_groups_left : (options : GroupOptions) → options.grouping ≡ Raw → (vxid : ℕ) (records : List Record) (s : State)
    → ((steps options vxid records s).state ≡ s) × (reported Raw (steps options vxid records s).groups ≡ map (raw_group vxid) records)
raw_groups_left options raw vxid [] s = (refl, refl)
raw_groups_left options raw vxid (rec ∷ records) s =
    let first = ap (λ (l : Leaving). then_left l (steps options vxid records)) (raw_step options raw vxid rec s) in
    let others = raw_groups_left options raw vxid records s in
    (ap (λ (l : Leaving). l.state) first ∙ others.0, ap (λ (l : Leaving). reported Raw l.groups) first ∙ ap (λ (gs : List Group). raw_group vxid rec ∷ gs) others.1)
