-- Worked examples of lines, computed from the definitions.
use Rattle.std.proofs.Common.{◌≡◌, ℕ, ◌∷◌, [], List, Some, Ok, Err, replicate, map, refl, sym, ◌∙◌, arith}
use Rattle.std.specs.Prelude.{codes}
use Rattle.std.specs.List.{AllZip}
use Rattle.std.specs.Str.Lines.{lines}
use Rattle.vsl_record.specs.declared.mark.Mark.TheVariants.{Client, Plain}
use Rattle.raw_records.specs.declared.line.LineFault.{LineFault}
use Rattle.raw_records.specs.declared.line.LineFault.TheVariants.{OtherForm, OtherVxid, UnknownTag}
use Rattle.raw_records.specs.Lines.{Line, BlankLine, CommentLine, RecordLine, IsLine, IsFirstBad}
use Rattle.raw_records.specs.inside.Reading.{without_spaces, behind_spaces, digits_of, behind_digits, word_of, behind_word, tag_called, mark_of, payload_behind, marked, some_parts, parts_of, record_from, record_of, record_line, unindented, meaning}
use Rattle.raw_records.proofs.ReadingLemmas.{IsLine-from, meaning_found}

-- a carriage return before a line feed is dropped, and only there; the last line may lack its line feed
parts : lines (codes "1 CLI -\r\n\r\n#\n2 CLI - a\rb\r\r\n3 CLI - \r") ≡ codes "1 CLI -" ∷ [] ∷ codes "#" ∷ codes "2 CLI - a\rb\r" ∷ codes "3 CLI - \r" ∷ []
parts = refl

-- a line feed at the end begins no line
no_last_line : lines (codes "#\n") ≡ codes "#" ∷ []
no_last_line = refl

blank : IsLine (codes "   ") BlankLine
blank = (3, refl)

comment : IsLine (codes "# 1 CLI - x") CommentLine
comment = (codes " 1 CLI - x", refl)

-- leading zeros and small letters are read; of spaces behind the mark the first alone is passed over
odd_record : IsLine (codes "  0000000007  reqMETHOD   c  GET ") (RecordLine (record { vxid = 7; rec = record { tag = 53; mark = Client; payload = codes " GET " } }))
odd_record = (
  record {
    before_vxid = 2;
    vxid = codes "0000000007";
    before_name = 2;
    name = codes "reqMETHOD";
    before_mark = 3;
    mark = Client;
    payload = Some (codes " GET ");
  },
  record {
    vxid = search arith;
    before_name = omega arith;
    name = search arith;
    before_mark = omega arith;
    mark = refl;
    payload = refl;
  },
  refl,
)

-- what reading finds in these lines
no_records : map meaning (codes "7" ∷ codes "7 CLI" ∷ codes "7CLI c" ∷ codes "7 CLIc" ∷ codes "7 CLI cx" ∷ codes "7 CLI d" ∷ codes "x CLI c" ∷ codes " # no comment" ∷ codes "- Begin c" ∷ codes " CLI c x" ∷ codes "7  c x" ∷ []) ≡ replicate 11 (Err OtherForm)
unfolding meaning unindented record_line record_of record_from parts_of some_parts without_spaces behind_spaces digits_of behind_digits word_of behind_word tag_called mark_of payload_behind marked
no_records = refl

-- tabs in place of spaces
no_spaces : map meaning (codes "\t7 CLI c" ∷ codes "7\tCLI c" ∷ codes "7 CLI c\tx" ∷ []) ≡ replicate 3 (Err OtherForm)
unfolding meaning unindented record_line record_of record_from parts_of some_parts without_spaces behind_spaces digits_of behind_digits word_of behind_word tag_called mark_of payload_behind marked
no_spaces = refl

-- no tag's name, behind a VXID
no_tags : map meaning (codes "7 Nope c" ∷ codes "7 Backend b 22 a b" ∷ codes "7 CL c" ∷ []) ≡ replicate 3 (Err UnknownTag)
unfolding meaning unindented record_line record_of record_from parts_of some_parts without_spaces behind_spaces digits_of behind_digits word_of behind_word tag_called mark_of payload_behind marked
no_tags = refl

-- 20 digits, a VXID past the last, and both with no tag's name
no_vxids : map meaning (codes "00000000000000000007 CLI c" ∷ codes "4611686018427387904 CLI c" ∷ codes "00000000000000000007 Nope c" ∷ codes "4611686018427387904 Nope - x" ∷ []) ≡ replicate 4 (Err OtherVxid)
unfolding meaning unindented record_line record_of record_from parts_of some_parts without_spaces behind_spaces digits_of behind_digits word_of behind_word tag_called mark_of payload_behind marked
no_vxids = refl

-- lines mean what reading finds in each
pub all_meant : (texts : List (List ℕ)) (ls : List Line) → map meaning texts ≡ map Ok ls → AllZip IsLine texts ls
all_meant [] [] e = tt
all_meant [] (l ∷ ls) e = absurd cc
all_meant (text ∷ texts) [] e = absurd cc
all_meant (text ∷ texts) (l ∷ ls) e = (IsLine-from text l cc, all_meant texts ls cc)

err_ok : {fault : LineFault} {l : Line} → Err fault ≡ Ok l → ⊥
err_ok e = cc

-- where reading finds nothing there is no line
no_line : (bytes : List ℕ) (fault : LineFault) → meaning bytes ≡ Err fault → (l : Line) → ¬ (IsLine bytes l)
no_line bytes fault none l is = err_ok (sym none ∙ meaning_found bytes l is)

third_is_bad : IsFirstBad (codes "1 CLI - a\n\nx\ny\n") 3
unfolding meaning unindented record_line record_of record_from parts_of some_parts without_spaces behind_spaces digits_of behind_digits word_of behind_word tag_called mark_of payload_behind marked
third_is_bad = record {
  before = codes "1 CLI - a" ∷ [] ∷ [];
  bad = codes "x";
  behind = codes "y" ∷ [];
  meant = RecordLine (record { vxid = 1; rec = record { tag = 3; mark = Plain; payload = codes "a" } }) ∷ BlankLine ∷ [];
  parts = refl;
  place = refl;
  are_lines = all_meant (codes "1 CLI - a" ∷ [] ∷ []) (RecordLine (record { vxid = 1; rec = record { tag = 3; mark = Plain; payload = codes "a" } }) ∷ BlankLine ∷ []) refl;
  is_bad = no_line (codes "x") OtherForm refl;
}
