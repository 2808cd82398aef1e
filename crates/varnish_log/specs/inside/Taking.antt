-- Parts that were taken so far.
use Rattle.std.specs.Prelude.{◌≡◌, ℕ, ◌+◌, ◌≤◌, true, None, List, ◌++◌, length}
use Rattle.std.specs.List.{AllByRecursion}
use Rattle.varnish_log.specs.declared.form.How.{How}
use Rattle.varnish_log.specs.declared.loss.Counts.{Counts}
use Rattle.varnish_log.specs.Parts.{Said, Splits}
use Rattle.varnish_log.specs.Taken.{counted, loss_of, taken}
use Rattle.varnish_log.specs.inside.Written.{IsWritten, Kept, words_of}

-- the bytes end with these
pub record EndsWith (bytes rest : List ℕ) : Type 0 where
  pub front : List ℕ
  pub parts : bytes ≡ front ++ rest

-- of bytes these parts were taken, before a rest: what the list had before it has still, with their units, of which the last goes on
pub record ArePartlyTaken (how : How) (bytes rest : List ℕ) (kept : Kept) (old new : List ℕ) (before after : Counts) : Type 0 where
  pub said : List Said
  pub splits : Splits how.form bytes said rest
  pub none_lost : how.strict ≡ true → AllByRecursion (λ s. loss_of s ≡ None) said
  pub written : IsWritten kept new old (taken said)
  pub counts : after ≡ counted before said
  pub few : words_of kept + length rest ≤ 1 + length bytes
  pub ends : EndsWith bytes rest
