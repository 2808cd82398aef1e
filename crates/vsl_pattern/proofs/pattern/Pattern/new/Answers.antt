use Rattle.vsl_pattern.proofs.PatternLemmas.{good_of_read, not_good_of_refused, not_good_of_bytes}
use Rattle.vsl_pattern.proofs.pattern.Pattern.new.Goals as goal

pub returns-in_default-clause-refused : goal.returns-in_default-clause-refused
returns-in_default-clause-refused c = not_good_of_bytes _ _ c.in_default.ensures.cases.0

pub returns-in-Ok-build_bytes-clause-good : goal.returns-in-Ok-build_bytes-clause-good
returns-in-Ok-build_bytes-clause-good c =
    let text = c.in-Ok.ensures.cases in
    let made = c.in-Ok-build_bytes.ensures in
    good_of_read _ _ c.in-Ok-build_bytes.regex text.1 (rw (c.case_insensitive-builder.ensures, c.new.ensures.source, text.0) at made.source)
    (record { options = rw (c.case_insensitive-builder.ensures, c.new.ensures.config) at made.config; read = made.read })

pub returns-in-Err-Syntax-clause-refused : goal.returns-in-Err-Syntax-clause-refused
returns-in-Err-Syntax-clause-refused c =
    let kind = rw c.in-Err-Syntax.field-0-is at c.in-Err-Syntax.ensures.kind in
    let refused = c.in-Err-Syntax.ensures.refused _ c.in-Err-Syntax.field-0-is in
    not_good_of_refused _ _ _ kind
    (rw (c.case_insensitive-builder.ensures, c.new.ensures.source, c.new.ensures.config, c.in-Ok.ensures.cases.0) at refused)
