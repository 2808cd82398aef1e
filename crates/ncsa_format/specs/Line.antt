-- The lines of an access log (varnishncsa(1)). Escapes, whose transactions are logged without -b, -c and -E, and that a restarted one has no line are this project's choice.
use Rattle.std.specs.Prelude.{ℕ, ◌==◌, ◌&&◌, ◌||◌, not, nat_lt, if◌then◌else◌, Bool, true, false, List, [], ◌∷◌, ◌++◌, Option, Some, None, codes}
use Rattle.std.specs.List.{flat_map, filter, list_any}
use Rattle.std.specs.Str.{bytes_eq}
use Rattle.log_model.specs.Escaping.{hex_escape}
use Rattle.vsl_tags.specs.declared.named.TheConstants.{VCL_RETURN}
use Rattle.vsl_record.specs.declared.mark.Mark.TheVariants.{Plain}
use Rattle.vsl_record.specs.declared.record_type.Record.{Record}
use Rattle.txn_rows.specs.declared.group.Kind.{Kind}
use Rattle.txn_rows.specs.declared.group.Kind.TheVariants as kinds
use Rattle.txn_rows.specs.declared.group.Member.{Member}
use Rattle.txn_rows.specs.declared.group.Group.{Group}
use Rattle.vsl_select.specs.Shown.{has_sides, shows_kind}
use Rattle.vsl_select.specs.declared.rule_text.Sides.{Sides}
use Rattle.ncsa_format.specs.declared.formatter.Piece.{Piece}
use Rattle.ncsa_format.specs.declared.formatter.Piece.TheVariants.{Byte, Value}
use Rattle.ncsa_format.specs.Value.{value_of}

-- a byte of a value: a quote and a backslash after a backslash, a line feed, carriage return and tab as `\n`, `\r` and `\t`, other bytes below 32 and above 126 as
-- `\x` and two digits, every other byte as it is
abbrev pub quoted_byte : ℕ → List ℕ
quoted_byte b =
    if (b == 34) || (b == 92) then 92 ∷ b ∷ [] else
    (if b == 10 then codes "\\n" else
    (if b == 13 then codes "\\r" else
    (if b == 9 then codes "\\t" else
    (if nat_lt b 32 || nat_lt 126 b then hex_escape b else b ∷ []))))

-- a value as it is printed. So a value has no line feed and ends no quotes, and can be read back
abbrev pub quoted : List ℕ → List ℕ
quoted value = flat_map quoted_byte value

-- a value where there is one, and else `-`. So a line has as many columns as its format
abbrev pub printed : Option (List ℕ) → List ℕ
printed None = codes "-"
printed (Some value) = quoted value

-- a piece of a format for a transaction. The text of a format is no value and prints as it is. A text of directives is
-- one, because what the formatter prints is one value
abbrev pub piece_text : Member → Piece → List ℕ
piece_text m (Byte b) = b ∷ []
piece_text m (Value f) = printed (value_of f m)

-- whether a record says that a request starts again. That request isn't answered: the one after it is, and has the line
abbrev pub is_restart : Record → Bool
is_restart rec = (rec.tag == VCL_RETURN) && bytes_eq rec.payload (codes "restart")

-- whether a kind is a request of a client or of a backend
abbrev pub is_request : Kind → Bool
is_request kinds.Request = true
is_request kinds.BeReq = true
is_request kind = false

-- whether a transaction has a line: it is a request that doesn't start again
abbrev pub has_line : Member → Bool
has_line m = is_request m.kind && not (list_any is_restart m.records)

-- the line of a transaction, where it has one. It is made of the transaction's own records alone, whatever the group is
abbrev pub line_of : List Piece → Member → List ℕ
line_of pieces m = if has_line m then flat_map (piece_text m) pieces ++ codes "\n" else []

-- whose transactions are logged: without -b, -c and -E those of clients, but not for ESI parts. An access log is of
-- clients
abbrev pub logged_sides : Sides → Sides
logged_sides sides = if has_sides sides then sides else record { backend = false; client = true; esi = false }

-- whether a transaction is logged: with -c a request of a client, with -E also one for an ESI part, with -b one of a
-- backend, which hides clients where it stands alone. Its kind decides, and not a mark, since a line is of a
-- transaction; of a session or an unknown one nobody knows what was asked for
abbrev pub is_logged : Sides → Member → Bool
is_logged sides m = shows_kind (logged_sides sides) m.kind m.reason Plain

-- the lines of a group
abbrev pub group_lines : List Piece → Sides → Group → List ℕ
group_lines pieces sides group = flat_map (line_of pieces) (filter (is_logged sides) group.members)

-- the access log of groups. By transaction a line comes when its transaction ends, so a fetch before its request
abbrev pub access_text : List Piece → Sides → List Group → List ℕ
access_text pieces sides groups = flat_map (group_lines pieces sides) groups
