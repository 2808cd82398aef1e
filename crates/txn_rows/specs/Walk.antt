-- A group as a walk of its tree: each transaction stands behind its parent, before all that are less deep.
use Rattle.std.specs.Prelude.{◌≡◌, ◌+◌, ◌≤◌, List, [], ◌∷◌, ◌++◌, ⊤}
use Rattle.std.specs.List.{All}
use Rattle.txn_rows.specs.declared.group.Member.{Member}

-- a member stands behind its parent and one level below it, and all between them are at least as deep as the member
pub record FollowsParent (before : List Member) (m : Member) : Type 0 where
  pub ahead : List Member
  pub parent : Member
  pub between : List Member
  pub whole : before ≡ ahead ++ parent ∷ between
  pub named : m.parent ≡ parent.vxid
  pub below : m.level ≡ parent.level + 1
  pub deep : All (λ u. m.level ≤ u.level) between

-- each member follows its parent, where some stand before all of them
abbrev pub FollowParents : List Member → List Member → Type 0
FollowParents before [] = ⊤
FollowParents before (m ∷ members) = FollowsParent before m × FollowParents (before ++ m ∷ []) members

-- the first member is at the top, and each other follows its parent
abbrev pub IsWalk : List Member → Type 0
IsWalk [] = ⊥
IsWalk (root ∷ members) = (root.level ≡ 1) × (root.parent ≡ 0) × FollowParents (root ∷ []) members
