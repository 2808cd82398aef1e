-- The texts of a job's queries (varnishlog(1), -q and -Q).
use Rattle.std.specs.Prelude.{◌≡◌, ℕ, List, [], ◌∷◌}
use Rattle.vio.specs.World.{Seen}
use Rattle.tool_words.specs.declared.job.QueryText.{QueryText}
use Rattle.job_steps.specs.Good.{TellsText}

-- these are the texts of queries, as many: of each the one that the world tells, which is that of its word, or what its file holds; and any, where the world doesn't tell what that holds
abbrev pub AreTexts : Seen → List QueryText → List (List ℕ) → Type 0
AreTexts before [] [] = Unit {0}
AreTexts before (query ∷ queries) (text ∷ texts) = ((told : List ℕ) → TellsText before query told → text ≡ told) ×
    AreTexts before queries texts
AreTexts before [] (text ∷ texts) = ⊥
AreTexts before (query ∷ queries) [] = ⊥
