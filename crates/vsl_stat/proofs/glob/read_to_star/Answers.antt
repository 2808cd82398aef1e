use Rattle.std.proofs.lemmas.Bool.{eq-eqb, ne_eqb}
use Rattle.vsl_stat.proofs.GlobLemmas.{met_short, met_other, met_same, met_end}
use Rattle.vsl_stat.proofs.glob.read_to_star.Goals as goal

pub returns-in_default-split_first : goal.returns-in_default-split_first
returns-in_default-split_first c =
    met_short c.args.glob.now c.args.name.now c.loop-byte.glob_rest.now c.loop-byte.name_rest.now c.in-Some.glob_after.now c.in-Some.byte.now c.loop-byte.invariant c.in-Some.ensures.cases.0 (ne_eqb c.in-Some.byte.now 42 c.if-byte-eq42.false) c.in_default-split_first.ensures.cases

pub loop-byte-preserved : goal.loop-byte-preserved
loop-byte-preserved c =
    met_same c.args.glob.now c.args.name.now c.loop-byte.glob_rest.now c.loop-byte.name_rest.now c.in-Some.glob_after.now c.in-Some-split_first.name_after.now c.in-Some.byte.now c.in-Some-split_first.other.now c.loop-byte.invariant c.in-Some.ensures.cases.0 (ne_eqb c.in-Some.byte.now 42 c.if-byte-eq42.false) c.in-Some-split_first.ensures.cases.0 (eq-eqb c.in-Some.byte.now c.in-Some-split_first.other.now c.if-byte-other.true)

pub returns-else-byte-other : goal.returns-else-byte-other
returns-else-byte-other c =
    met_other c.args.glob.now c.args.name.now c.loop-byte.glob_rest.now c.loop-byte.name_rest.now c.in-Some.glob_after.now c.in-Some-split_first.name_after.now c.in-Some.byte.now c.in-Some-split_first.other.now c.loop-byte.invariant c.in-Some.ensures.cases.0 (ne_eqb c.in-Some.byte.now 42 c.if-byte-eq42.false) c.in-Some-split_first.ensures.cases.0 (ne_eqb c.in-Some.byte.now c.in-Some-split_first.other.now c.if-byte-other.false)

pub returns : goal.returns
returns c = met_end c.args.glob.now c.args.name.now c.loop-byte.glob_rest.now c.loop-byte.name_rest.now c.loop-byte.invariant c.in_default.ensures.cases
