-- Groups of records by themselves, and groups that are kept (varnishlog(1), "-g raw" and "-k").
use Rattle.std.specs.Prelude.{ℕ, Bool, false, nat_le, List, map, length, take, Option, Some, None}
use Rattle.vsl_record.specs.Unit.{LogUnit}
use Rattle.txn_rows.specs.declared.group.Group.{Group}
use Rattle.txn_rows.specs.Grouping.{raw_group}

-- the records of a unit, each as a group by itself
abbrev pub raw_groups : LogUnit → List Group
raw_groups u = map (raw_group u.vxid) u.records

-- the first of some groups, at most as many as are kept; all where no number is given. They count whether or not
-- anything of them is shown: so one log with one query gives the same groups, whatever is hidden (this project's
-- choice)
abbrev pub kept : Option ℕ → List Group → List Group
kept None groups = groups
kept (Some most) groups = take most groups

-- whether some groups are as many as are kept
abbrev pub is_filled : Option ℕ → List Group → Bool
is_filled None groups = false
is_filled (Some most) groups = nat_le most (length groups)
