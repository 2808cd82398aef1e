-- Which of a transaction's records are Ends.
use Rattle.std.specs.Prelude.{◌≡◌, ◌≢◌, Bool, true, false, List, [], ◌∷◌, ◌++◌}
use Rattle.std.specs.List.{All}
use Rattle.vsl_tags.specs.Tags.{end_tag}
use Rattle.vsl_record.specs.declared.record_type.Record.{Record}
use Rattle.txn_rows.specs.declared.group.Member.{Member}
use Rattle.txn_rows.specs.declared.group.Group.{Group}

-- none is an End
abbrev pub HasNoEnd : List Record → Type 0
HasNoEnd records = All (λ (rec : Record). rec.tag ≢ end_tag) records

-- the last is an End, and no other
pub record IsEnded (records : List Record) : Type 0 where
  pub front : List Record
  pub last : Record
  pub whole : records ≡ front ++ last ∷ []
  pub end : last.tag ≡ end_tag
  pub before : HasNoEnd front

-- the last is an End, where the transaction has ended, and no other is
abbrev pub TellsEnd : Bool → List Record → Type 0
TellsEnd true records = IsEnded records
TellsEnd false records = HasNoEnd records

-- each member of a group has ended
abbrev pub HasEnded : Group → Type 0
HasEnded g = All (λ (m : Member). IsEnded m.records) g.members
