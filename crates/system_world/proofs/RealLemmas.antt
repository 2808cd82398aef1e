-- What the system tells after a call that was refused.
use Rattle.std.proofs.Common.{◌≡◌, ◌≤◌, ℕ, List, length, refl, ap, nat_lt, ◌+◌, Result, Ok, Err, OnErr, rules}
use Rattle.vio.specs.World.{OnlyCounts}
use Rattle.system_world.specs.RealWorld.{seen_after}

-- where a refused call kept as many files, and no count fell, it changed counts alone
pub OnlyCounts-real : {T E F : Type 0} (r : Result T E) (opened now : List F) (before after : ℕ) → OnErr r (now ≡ opened) → before ≤ after
    → OnErr r (OnlyCounts (seen_after (length opened) before) (seen_after (length now) after))
OnlyCounts-real (Ok x) opened now before after same grew = Prim.search rules
OnlyCounts-real {F = F} (Err e) opened now before after same grew = record {
  counts = record { each = λ k name. grew };
  held = λ n. refl;
  lacks = λ n. refl;
  left = λ i. refl;
  written = λ i. refl;
  names = λ k i n. refl;
  given = λ i. ap (λ (files : List F). nat_lt i (3 + length files)) same;
}
