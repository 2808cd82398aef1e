-- the globs so far do not match
use Rattle.std.proofs.Common.{◌≡◌, drop}
use Rattle.std.specs.List.{list_any}
use Rattle.vsl_stat.specs.Glob as spec
use Rattle.vsl_stat.proofs.globs.has_match.Given as goal

abbrev pub invariant-loop-glob : goal.invariant-loop-glob
invariant-loop-glob l = list_any (λ glob. spec.glob_matches glob l.name) (drop l.glob-index l.globs) ≡ list_any (λ glob. spec.glob_matches glob l.name) l.globs
