use Rattle.std.proofs.Common.{rules, inl, inr, arith}
use Rattle.vsl_file.proofs.UnitLemmas.{sized_found, sized_refused}
use Rattle.vsl_file.proofs.steps.read_sized.Goals as goal

pub returns-in-Ok-clause-some : goal.returns-in-Ok-clause-some
returns-in-Ok-clause-some c =
    let found = c.in-Ok.ensures.found in
    sized_found c.args.version c.args.bytes.now _ c.args.size c.in-Ok.field-0-1 c.in-Ok.unit (λ i. omega (arith, c.type_inv.bytes i)) c.requires.sized c.split_at.ensures.front found.0 found.2

pub returns-in-Err-2-clause-none : goal.returns-in-Err-2-clause-none
returns-in-Err-2-clause-none c =
    sized_refused c.args.version c.args.bytes.now _ c.args.size c.requires.sized c.requires.enough c.split_at.ensures.front
    (λ u rest fits is. elim (c.in-Err-2.ensures.only u rest fits is) [
      | inl read ↦ let failed = c.in-Err-2.is in absurd cc
      | inr memory ↦ let failed = c.in-Err-2.is in let other = c.if-eq.false in let test = c.eq.ensures in absurd (search rules)
    ])
