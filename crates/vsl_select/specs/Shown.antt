-- What is shown (varnishlog(1), "-b", "-c", "-E", "-i", "-x", "-I", "-X" and "-C"; which rule decides, and what is hidden where none does, are
-- this project's choice).
use Rattle.std.specs.Prelude.{ℕ, ◌+◌, ◌==◌, ◌&&◌, ◌||◌, not, nat_lt, if◌then◌else◌, Bool, true, false, List, [], ◌∷◌, length, take, drop, map, reverse, Option, Some, None, unwrap_or}
use Rattle.std.specs.List.{filter, find, list_all, position_or_len}
use Rattle.std.specs.Option.{option_map, option_or}
use Rattle.std.specs.Char.{is_ascii_alphanumeric}
use Rattle.vsl_tags.specs.TagSet.{first_fault, is_selected}
use Rattle.vsl_decimal.specs.Prefix.{colon}
use Rattle.vsl_pattern.specs.Patterns.{is_good_pattern, is_match}
use Rattle.vsl_record.specs.declared.mark.Mark.{Mark}
use Rattle.vsl_record.specs.declared.mark.Mark.TheVariants as marks
use Rattle.vsl_record.specs.declared.record_type.Record.{Record}
use Rattle.txn_rows.specs.declared.group.Kind.{Kind}
use Rattle.txn_rows.specs.declared.group.Kind.TheVariants as kinds
use Rattle.txn_rows.specs.declared.group.Reason.{Reason}
use Rattle.txn_rows.specs.declared.group.Reason.TheVariants as reasons
use Rattle.txn_rows.specs.declared.group.Member.{Member}
use Rattle.txn_rows.specs.declared.group.Group.{Group}
use Rattle.txn_rows.specs.Transaction.{first_mark}
use Rattle.vsl_select.specs.Showing.{Showing}
use Rattle.vsl_select.specs.declared.rule_text.RuleText.{RuleText}
use Rattle.vsl_select.specs.declared.rule_text.Sides.{Sides}
use Rattle.vsl_select.specs.declared.rule_text.SelectFault.{SelectFault}
use Rattle.vsl_select.specs.declared.rule_text.SelectFault.TheVariants.{BadTags, BadPattern}

-- ---- rules

-- a byte of a taglist: a letter, a digit, `_`, `*` or `,`
abbrev pub is_list_byte : ℕ → Bool
is_list_byte b = is_ascii_alphanumeric b || (b == 95) || (b == 42) || (b == 44)

-- a taglist, where there is one, and a pattern, where there is one
pub record Parts : Type 0 where
  pub tags : Option (List ℕ)
  pub pattern : Option (List ℕ)

-- a list, where it has an element
abbrev pub unless_empty : List ℕ → Option (List ℕ)
unless_empty [] = None
unless_empty (x ∷ xs) = Some (x ∷ xs)

-- the parts of what -I and -X are given: what stands before the first colon is a taglist, or none where it is empty, if it has only bytes of taglists; else all
-- is the pattern. So a pattern with a colon often needs no taglist, as `^Host: a`; one that begins as a taglist would,
-- as `Host: a`, gets a colon in front, which is dropped
abbrev pub split_parts : List ℕ → Parts
split_parts text =
    let at = position_or_len (λ b. b == colon) text in
    if nat_lt at (length text) && list_all is_list_byte (take at text)
    then record { tags = unless_empty (take at text); pattern = Some (drop (at + 1) text) }
    else record { tags = None; pattern = Some text }

-- the parts of a rule: -i and -x are given a taglist
abbrev pub parts_of : RuleText → Parts
parts_of rule = if rule.regex then split_parts rule.text else record { tags = Some rule.text; pattern = None }

-- what is wrong with the taglist of the rule of a word
abbrev pub tags_fault : ℕ → Option (List ℕ) → Option SelectFault
tags_fault word None = None
tags_fault word (Some tags) = option_map (λ fault. BadTags word) (first_fault tags)

-- what is wrong with its pattern
abbrev pub pattern_fault : Bool → ℕ → Option (List ℕ) → Option SelectFault
pattern_fault caseless word None = None
pattern_fault caseless word (Some pattern) = if is_good_pattern caseless pattern then None else Some (BadPattern word)

-- what is wrong with a rule: its taglist is refused, or else its pattern is no good one
abbrev pub rule_fault : Bool → RuleText → Option SelectFault
rule_fault caseless rule = option_or (tags_fault rule.word (parts_of rule).tags)
    (pattern_fault caseless rule.word (parts_of rule).pattern)

-- the first that is wrong with rules
abbrev pub rules_fault : Bool → List RuleText → Option SelectFault
rules_fault caseless [] = None
rules_fault caseless (rule ∷ rules) = option_or (rule_fault caseless rule) (rules_fault caseless rules)

-- a rule names a tag; where it has no taglist, each
abbrev pub names_tag : RuleText → ℕ → Bool
names_tag rule tag = elim (parts_of rule).tags [ None ↦ true | Some tags ↦ is_selected tags tag ]

-- a rule matches a record: it names the record's tag, and its pattern, where it has one, matches in the payload
abbrev pub is_matched : Bool → Record → RuleText → Bool
is_matched caseless rec rule =
    names_tag rule rec.tag && elim
    (parts_of rule).pattern [ None ↦ true | Some pattern ↦ is_match caseless pattern rec.payload ]

-- ---- records

-- whether the first rule that is so includes; nothing where none is so
abbrev pub first_says : (RuleText → Bool) → List RuleText → Option Bool
first_says is_so rules = option_map (λ rule. rule.include) (find is_so rules)

-- a record for which no rule decides is hidden where the first of -i and -x is -i, or the first of -I and -X is -I. So
-- `-i` alone shows its tags and no others, and `-x` alone all others; with `-i ReqURL -I Timestamp:^Resp` the two add
-- up
abbrev pub shows_others : List RuleText → Bool
shows_others rules = not (unwrap_or (first_says (λ rule. not rule.regex) rules) false || unwrap_or
    (first_says (λ rule. rule.regex) rules) false)

-- whether a record is shown: the first -I or -X that matches it decides, else the last -i or -x that names its tag. So
-- a pattern makes an exception from taglists, wherever it stands, and a later taglist corrects an earlier one, as
-- `-x '*' -i 'Req*'`
abbrev pub is_shown_record : Showing → Record → Bool
is_shown_record showing rec =
    unwrap_or
    (option_or (first_says (λ rule. rule.regex && is_matched showing.caseless rec rule) showing.rules)
    (first_says (λ rule. not rule.regex && names_tag rule rec.tag) (reverse showing.rules)))
    (shows_others showing.rules)

-- ---- transactions

-- whether some transactions are hidden
abbrev pub has_sides : Sides → Bool
has_sides sides = sides.backend || sides.client || sides.esi

-- whether what is a client's is shown; -E implies -c. A page is seen with its parts
abbrev pub shows_client : Sides → Bool
shows_client sides = sides.client || sides.esi

-- whether a reason is that of a request for a part of another
abbrev pub is_esi : Reason → Bool
is_esi reasons.Esi = true
is_esi reason = false

-- whether a record by itself of this mark is shown. No record tells its transaction's reason, so -E is no more than -c
-- here
abbrev pub shows_mark : Sides → Mark → Bool
shows_mark sides marks.Client = shows_client sides
shows_mark sides marks.Backend = sides.backend
shows_mark sides marks.Plain = false

-- whether a record by itself of this mark is shown; without -b, -c and -E each is
abbrev pub is_shown_mark : Sides → Mark → Bool
is_shown_mark sides mark = not (has_sides sides) || shows_mark sides mark

-- whether a record by itself is shown: records of its mark are, and the rules show it
abbrev pub is_shown_alone : Showing → Record → Bool
is_shown_alone showing rec = is_shown_mark showing.sides rec.mark && is_shown_record showing rec

-- whether a transaction of this kind and reason, or a record by itself of this mark, is shown with -b, -c or -E. The
-- options name requests: a session is none, and of an unknown transaction nobody knows whose it is
abbrev pub shows_kind : Sides → Kind → Reason → Mark → Bool
shows_kind sides kinds.Request reason mark = shows_client sides && (sides.esi || not (is_esi reason))
shows_kind sides kinds.BeReq reason mark = sides.backend
shows_kind sides kinds.Record reason mark = shows_mark sides mark
shows_kind sides kinds.Session reason mark = false
shows_kind sides kinds.Unknown reason mark = false

-- whether a transaction is shown; without -b, -c and -E each is
abbrev pub is_shown_member : Sides → Member → Bool
is_shown_member sides m = not (has_sides sides) || shows_kind sides m.kind m.reason (first_mark m.records)

-- ---- groups

-- a transaction with its shown records. Its level stays, also where its parent is hidden, so that one output of a log
-- can be compared with another
abbrev pub shown_member : Showing → Member → Member
shown_member showing m = record m { records = filter (is_shown_record showing) m.records }

-- the shown transactions, with their shown records
abbrev pub shown_members : Showing → List Member → List Member
shown_members showing members = map (shown_member showing) (filter (is_shown_member showing.sides) members)

-- what of a group is shown
abbrev pub shown : Showing → Group → Group
shown showing group = record { members = shown_members showing group.members }

-- whether nothing is hidden
abbrev pub shows_everything : Showing → Bool
shows_everything showing = not (has_sides showing.sides) && (length showing.rules == 0)
