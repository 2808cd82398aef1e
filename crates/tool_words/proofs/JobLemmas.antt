-- The job as options are added to it.
use Rattle.std.proofs.Common.{◌≡◌, List, [], ◌∷◌, ◌++◌, refl}
use Rattle.tool_words.specs.declared.job.Job.{Job}
use Rattle.tool_words.specs.declared.reading.Given.{Given}
use Rattle.tool_words.specs.Fold.{with_choice, with_options}

-- more options change what those before them made
pub with_options-then : (given more : List Given) (job : Job) → with_options (given ++ more) job ≡ with_options more (with_options given job)
with_options-then [] more job = refl
with_options-then (first ∷ given) more job = with_options-then given more (with_choice first.choice first.word first.value job)
