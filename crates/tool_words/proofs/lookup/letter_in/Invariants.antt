-- the rows so far do not have the letter for the tool
use Rattle.std.proofs.Common.{◌≡◌, drop}
use Rattle.word_forms.specs.Lookup.{first_letter}
use Rattle.tool_words.specs.Options.{letters_in}
use Rattle.tool_words.proofs.lookup.letter_in.Given as goal

abbrev pub invariant-loop-row : goal.invariant-loop-row
invariant-loop-row l = first_letter (letters_in (λ having. having.now) l.command (drop l.row-index l.rows)) l.letter ≡ first_letter (letters_in (λ having. having.now) l.command l.rows) l.letter
