-- Which records name the children of a group (vsl(7), "Begin" and "Link"; which claims give a parent is this project's
-- choice).
use Rattle.std.specs.Prelude.{◌≡◌, ◌≢◌, ℕ, ◌+◌, ◌⊎◌, true, List, [], ◌∷◌, ◌++◌, Some}
use Rattle.std.specs.List.{Contains}
use Rattle.vsl_tags.specs.Tags.{begin_tag, link_tag}
use Rattle.vsl_record.specs.declared.record_type.Record.{Record}
use Rattle.txn_rows.specs.declared.group.Grouping.{Grouping}
use Rattle.txn_rows.specs.declared.group.Member.{Member}
use Rattle.txn_rows.specs.declared.group.Group.{Group}
use Rattle.txn_rows.specs.declared.claim.Claim.{Claim}
use Rattle.txn_rows.specs.Claim.{claim_of}
use Rattle.txn_rows.specs.Grouping.{gives_parent}

-- one of the records has this tag, and its claim names this VXID and gives a parent under this grouping
pub record ClaimsVxid (grouping : Grouping) (tag vxid : ℕ) (records : List Record) : Type 0 where
  pub rec : Record
  pub among : Contains records rec
  pub tagged : rec.tag ≡ tag
  pub claim : Claim
  pub read : claim_of rec.payload ≡ Some claim
  pub gives : gives_parent grouping claim ≡ true
  pub names : claim.vxid ≡ vxid

-- a Begin among a transaction's records names this VXID as its parent
abbrev pub NamesParent : Grouping → ℕ → List Record → Type 0
NamesParent grouping parent records = ClaimsVxid grouping begin_tag parent records

-- a Link among a transaction's records names this VXID as its child
abbrev pub NamesChild : Grouping → ℕ → List Record → Type 0
NamesChild grouping child records = ClaimsVxid grouping link_tag child records

-- a member's parent stands before it and one level above, and a Begin of the member names the parent, or a Link of the
-- parent names the member
pub record WasNamed (grouping : Grouping) (before : List Member) (m : Member) : Type 0 where
  pub parent : Member
  pub ahead : Contains before parent
  pub told : m.parent ≡ parent.vxid
  pub above : m.level ≡ parent.level + 1
  pub named : NamesParent grouping parent.vxid m.records ⊎ NamesChild grouping m.vxid parent.records

-- each member of a group but the first was named
abbrev pub ChildrenWereNamed : Grouping → Group → Type 0
ChildrenWereNamed grouping g = (before : List Member) (m : Member) (behind : List Member) →
    g.members ≡ before ++ m ∷ behind → before ≢ [] → WasNamed grouping before m
