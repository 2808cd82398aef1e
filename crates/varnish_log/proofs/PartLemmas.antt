-- The parts of a log: how long one is, which VXID it has, and what begins no part.
use Rattle.std.proofs.Common.{◌≡◌, ℕ, ◌+◌, ◌<◌, ◌≤◌, Bool, true, false, ◌==◌, List, [], ◌∷◌, ◌++◌, length, get_or, Option, None, Some, Ok, Err, refl, sym, ap, ◌∙◌, append_assoc, arith}
use Rattle.std.specs.Str.Lines.{strip_carriage_return}
use Rattle.std.specs.Prelude.{if◌then◌else◌, nat_lt}
use Rattle.std.proofs.lemmas.Bool.{le-ltb, lt-ltb}
use Rattle.std.proofs.lemmas.Bool.Decides.{nat_tests}
use Rattle.std.proofs.lemmas.List.{length-append, length-take}
use Rattle.std.proofs.Math.Seq.{get_or-append_seam}
use Rattle.vsl_record.specs.declared.mark.Mark.{Mark}
use Rattle.vsl_record.specs.Payload.{most_payload}
use Rattle.vsl_record.specs.Unit.{vxid_end}
use Rattle.raw_records.specs.Lines.{BlankLine, CommentLine, RecordLine, HasNoFeed, IsEndedLine, line_feed}
use Rattle.raw_records.proofs.LineLemmas.{record_bytes, stripped_short}
use Rattle.varnish_log.specs.declared.form.BinaryForm.{BinaryForm}
use Rattle.varnish_log.specs.declared.form.BinaryForm.TheVariants.{Narrow, Wide}
use Rattle.varnish_log.specs.declared.form.How.{How}
use Rattle.varnish_log.specs.declared.form.LogForm.{LogForm}
use Rattle.varnish_log.specs.declared.form.LogForm.TheVariants.{Binary, Text}
use Rattle.varnish_log.specs.declared.loss.Loss.{Loss}
use Rattle.varnish_log.specs.declared.loss.Loss.TheVariants.{LongPayload}
use Rattle.varnish_log.specs.declared.taking.Stop.{Stop}
use Rattle.varnish_log.specs.declared.taking.Stop.TheVariants.{GoesOn, Damaged, Lost}
use Rattle.varnish_log.specs.Entries.{Entry, IsEntry, entry_bytes, stops_early}
use Rattle.varnish_log.specs.Forms.{layout}
use Rattle.varnish_log.specs.Parts.{BeginsNoPart, IsPart, LineSays, Said, Splits, capacity, may_go_on, said_of, said_with, text_of, without_zero}
use Rattle.varnish_log.specs.Tags.{tag_at}
use Rattle.varnish_log.specs.Taken.{StopsAs, loss_of}
use Rattle.varnish_log.specs.inside.Views.{BeginsNoEntry, IsNextPart, IsSaidInRange, room_of, says_record}
use Rattle.varnish_log.proofs.EntryLemmas.{entry_size}

-- ---- how long it is

text_short : (bytes : List ℕ) → length (without_zero bytes) ≤ length bytes
text_short bytes = grind (arith, length-take)

text_of_short : (tag : ℕ) (bytes : List ℕ) → length (text_of tag bytes) ≤ length bytes
text_of_short tag bytes = grind (arith, text_short bytes)

said_room : (e : Entry) (o : Option ℕ) → room_of (said_with e o) ≤ 8 + length e.bytes
said_room e None = omega arith
said_room e (Some tag) = omega (arith, text_of_short tag e.bytes)

entry_room : (form : BinaryForm) (e : Entry) → 8 + length e.bytes ≤ length (entry_bytes form e)
entry_room Narrow e = omega (arith, entry_size Narrow e)
entry_room Wide e = omega (arith, entry_size Wide e)

line_room : (line : List ℕ) (said : Said) → LineSays line said → room_of said ≤ 1 + length line
line_room line (Ok (RecordLine l)) is = omega (arith, record_bytes line l is)
line_room line (Ok BlankLine) is = omega arith
line_room line (Ok CommentLine) is = omega arith
line_room line (Err loss) is = omega arith

-- a part has 8 bytes or more beside the payload of its record
pub part_room : (form : LogForm) (part : List ℕ) (said : Said) → IsPart form part said → room_of said ≤ length part
part_room (Binary form) part said (e, is, bytes, says) = rw (bytes, says) (omega (arith, said_room e (tag_at form e.number), entry_room form e))
part_room Text part said (line, none, bytes, says) = omega (arith, line_room (strip_carriage_return line) said says, stripped_short line, ap length bytes, length-append line (line_feed ∷ []))

-- ---- which VXID it has

said_range : (e : Entry) (o : Option ℕ) → e.vxid < vxid_end → IsSaidInRange (said_with e o)
said_range e None below = tt
said_range e (Some tag) below = below

form_range : (form : BinaryForm) (vxid : ℕ) → vxid < (layout form).vxid_end → vxid < vxid_end
form_range Narrow vxid below = omega (arith, below)
form_range Wide vxid below = omega (arith, below)

line_range : (line : List ℕ) (said : Said) → LineSays line said → IsSaidInRange said
line_range line (Ok (RecordLine l)) is = is.1.vxid.4
line_range line (Ok BlankLine) is = tt
line_range line (Ok CommentLine) is = tt
line_range line (Err loss) is = tt

-- a record's is in range
pub part_range : (form : LogForm) (part : List ℕ) (said : Said) → IsPart form part said → IsSaidInRange said
part_range (Binary form) part said (e, is, bytes, says) = rw says (said_range e (tag_at form e.number) (form_range form e.vxid is.vxid))
part_range Text part said (line, none, bytes, says) = line_range (strip_carriage_return line) said says

-- ---- what begins no part

-- what begins no record
pub no_record : (form : BinaryForm) (bytes : List ℕ) → BeginsNoEntry form bytes → BeginsNoPart (Binary form) bytes
no_record form bytes none = λ part more said p same. none p.0 more p.1 (same ∙ ap (λ (x : List ℕ). x ++ more) p.2)

-- bytes without a line feed begin no line
pub no_line : (bytes : List ℕ) → HasNoFeed bytes → BeginsNoPart Text bytes
no_line bytes none = λ part more said p same.
    let line = p.0 in
    let whole : bytes ≡ line ++ line_feed ∷ more = same ∙ ap (λ (x : List ℕ). x ++ more) p.2 ∙ append_assoc line (line_feed ∷ []) more in
    let inside : length line < length bytes = omega (arith, ap length whole, length-append line (line_feed ∷ more)) in
    let at : get_or bytes (length line) 0 ≡ line_feed = ap (λ (x : List ℕ). get_or x (length line) 0) whole ∙ get_or-append_seam line line_feed more 0 in
    feed_none (get_or bytes (length line) 0) at (none (length line) 0 inside)
  where
    feed_none : (b : ℕ) → b ≡ line_feed → (b == line_feed) ≡ false → ⊥
    feed_none b is not = grind (arith, nat_tests)

early_small : (form : BinaryForm) (bytes : List ℕ) → stops_early form bytes ≡ true → length bytes < capacity
early_small Narrow bytes e = grind (arith, nat_tests)
early_small Wide bytes e = grind (arith, nat_tests)

small_text : (bytes : List ℕ) → nat_lt (length bytes) capacity ≡ true → length bytes < capacity
small_text bytes e = grind (arith, nat_tests)

-- what may go on as a part is less than is held at most
pub held_small : (form : LogForm) (bytes : List ℕ) → may_go_on form bytes ≡ true → length bytes < capacity
held_small (Binary form) bytes e = early_small form bytes e
held_small Text bytes e = small_text bytes e

-- ---- several parts

-- one more
pub splits_more : (form : LogForm) (bytes : List ℕ) (said : List Said) (rest part behind : List ℕ) (one : Said) → Splits form bytes said rest → IsPart form part one → rest ≡ part ++ behind → Splits form bytes (said ++ one ∷ []) behind
splits_more form bytes [] rest part behind one same is parts = (part, behind, is, same ∙ parts, refl)
splits_more form bytes (s ∷ said) rest part behind one (first, next, first_is, bytes_are, more) is parts = (first, next, first_is, bytes_are, splits_more form next said rest part behind one more is parts)

-- ---- what comes next

-- something would be left out or cut of the part that comes next, and copying is strict
pub lost_next : (how : How) (bytes rest : List ℕ) (said : Said) (loss : Loss) → how.strict ≡ true → IsNextPart how.form bytes said rest → loss_of said ≡ Some loss → StopsAs how (Lost loss) bytes
lost_next how bytes rest said loss strict (part, is, parts) lost = (strict, (part, rest, said, is, parts, lost))

-- a record with a payload that is cut, and one with a payload that isn't
pub long_lost : (vxid tag : ℕ) (mark : Mark) (payload : List ℕ) → most_payload < length payload → loss_of (says_record vxid tag mark payload) ≡ Some LongPayload
long_lost vxid tag mark payload long = rw (lt-ltb most_payload (length payload) long) refl

pub short_kept : (vxid tag : ℕ) (mark : Mark) (payload : List ℕ) → length payload ≤ most_payload → loss_of (says_record vxid tag mark payload) ≡ None
short_kept vxid tag mark payload short = rw (le-ltb most_payload (length payload) short) refl

-- a record of a binary log comes next
pub entry_next : (how : How) (form : BinaryForm) (bytes rest : List ℕ) (e : Entry) → how.form ≡ Binary form → IsEntry form e → bytes ≡ entry_bytes form e ++ rest → IsNextPart how.form bytes (said_of form e) rest
entry_next how form bytes rest e same is parts = rw same (entry_bytes form e, (e, is, refl, refl), parts)

-- a line of a text comes next
pub line_next : (how : How) (bytes line rest : List ℕ) → how.form ≡ Text → IsEndedLine bytes line rest → (said : Said) → LineSays line said → IsNextPart how.form bytes said rest
line_next how bytes line rest form (text, none, whole, is) said says = rw form (text ++ line_feed ∷ [], (text, none, refl, rw (← is) says), whole ∙ sym (append_assoc text (line_feed ∷ []) rest))

-- none does
pub no_record_next : (how : How) (form : BinaryForm) (bytes : List ℕ) (stop : Stop) (early : Bool) → how.form ≡ Binary form → BeginsNoEntry form bytes → stops_early form bytes ≡ early → stop ≡ (if early then GoesOn else Damaged) → StopsAs how stop bytes
no_record_next how form bytes stop true same none goes is = rw (is, same) (no_record form bytes none, goes)
no_record_next how form bytes stop false same none goes is = rw (is, same) (no_record form bytes none, goes)

pub no_line_next : (how : How) (bytes : List ℕ) → how.form ≡ Text → HasNoFeed bytes → length bytes < capacity → StopsAs how GoesOn bytes
no_line_next how bytes form none few = rw form (no_line bytes none, lt-ltb (length bytes) capacity few)

pub no_end_next : (how : How) (bytes : List ℕ) → how.form ≡ Text → HasNoFeed bytes → capacity ≤ length bytes → StopsAs how Damaged bytes
no_end_next how bytes form none many = rw form (no_line bytes none, le-ltb (length bytes) capacity many)
