use Rattle.std.proofs.Common.{refl}
use Rattle.query_grammar.proofs.Criterion.{text_taken, text_from}
use Rattle.query_grammar.proofs.Levels.{criterion_taken, criterion_from}
use Rattle.query_grammar.proofs.OneParts.{one_text, one_parts}
use Rattle.query_grammar.proofs.Meanings.{meaning_is}
use Rattle.query_grammar.proofs.laws.token_bytes.Goals as goal

pub returns-clause-criterion : goal.returns-clause-criterion
returns-clause-criterion c = criterion_taken

pub returns-clause-criterion_only : goal.returns-clause-criterion_only
returns-clause-criterion_only c = λ w e. let h = criterion_from w e in (h.parts, h.good, h.same)

pub returns-clause-operand : goal.returns-clause-operand
returns-clause-operand c = text_taken

pub returns-clause-operand_only : goal.returns-clause-operand_only
returns-clause-operand_only c = λ w e. let h = text_from w e in (h.text, h.good, h.same)

pub returns-clause-one_operand : goal.returns-clause-one_operand
returns-clause-one_operand c = one_text

pub returns-clause-one_criterion : goal.returns-clause-one_criterion
returns-clause-one_criterion c = one_parts

pub returns-clause-parts : goal.returns-clause-parts
returns-clause-parts c = λ p. refl

pub returns-clause-parts_good : goal.returns-clause-parts_good
returns-clause-parts_good c = λ p. refl

pub returns-clause-parts_any : goal.returns-clause-parts_any
returns-clause-parts_any c = λ level name names prefix field. (record { level = level; name = name; names = names; prefix = prefix; field = field }, refl, refl, refl, refl)

pub returns-clause-meaning : goal.returns-clause-meaning
returns-clause-meaning c = meaning_is
