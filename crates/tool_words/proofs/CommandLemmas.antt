-- The command of words, and the job of a tool.
use Rattle.std.proofs.Common.{◌≡◌, ℕ, Bool, true, false, List, [], ◌∷◌, Result, Ok, Err, codes, refl, sym, ap, subst, ◌∙◌}
use Rattle.std.specs.Prelude.{if◌then◌else◌}
use Rattle.std.specs.Str.{bytes_eq}
use Rattle.std.proofs.lemmas.Slice.Eq.{bytes_eq-Decides}
use Rattle.tool_words.specs.declared.command.Command.{Command}
use Rattle.tool_words.specs.declared.command.Command.TheVariants.{ForTool, ForConvert}
use Rattle.tool_words.specs.declared.command.Names.{Names}
use Rattle.tool_words.specs.declared.fault.UsageFault.{UsageFault}
use Rattle.tool_words.specs.declared.fault.UsageFault.TheVariants.{UnknownTool}
use Rattle.tool_words.specs.declared.job.Job.{Job}
use Rattle.tool_words.specs.Job.{job_of}
use Rattle.tool_words.specs.Command.{command_of, convert_command, is_other, names_of, tool_command}

-- words that ask for another command state no job of a tool: its name is no tool's
other_job : (words : List (List ℕ)) → is_other words ≡ true → job_of words ≡ Err (UnknownTool 0)
other_job [] other = absurd cc
other_job (word ∷ words) other = subst (λ (name : List ℕ). job_of (name ∷ words) ≡ Err (UnknownTool 0)) (sym ((bytes_eq-Decides word (codes "convert")).0 other)) refl

-- a job that words state is that of the command
by_first : (b : Bool) (names : Result Names UsageFault) (stated : Result Job UsageFault) (job : Job) → (b ≡ true → stated ≡ Err (UnknownTool 0)) → stated ≡ Ok job
    → (if b then convert_command names else tool_command stated) ≡ Ok (ForTool job)
by_first true names stated job none states = let no : Err (UnknownTool 0) ≡ Ok job = sym (none refl) ∙ states in absurd cc
by_first false names stated job none states = ap tool_command states

pub asks_tool : (words : List (List ℕ)) (job : Job) → job_of words ≡ Ok job → command_of words ≡ Ok (ForTool job)
asks_tool words job states = by_first (is_other words) (names_of words) (job_of words) job (other_job words) states

-- and the command of a tool is of the job that words state
of_tool : (stated : Result Job UsageFault) (job : Job) → tool_command stated ≡ Ok (ForTool job) → stated ≡ Ok job
of_tool (Ok other) job same = let one : other ≡ job = cc in ap (λ (j : Job). Ok j) one
of_tool (Err why) job same = absurd cc

of_names : (names : Result Names UsageFault) (job : Job) → convert_command names ≡ Ok (ForTool job) → ⊥
of_names (Ok names) job same = cc
of_names (Err why) job same = cc

of_first : (b : Bool) (names : Result Names UsageFault) (stated : Result Job UsageFault) (job : Job) → (if b then convert_command names else tool_command stated) ≡ Ok (ForTool job) → (b ≡ false) × (stated ≡ Ok job)
of_first true names stated job same = absurd (of_names names job same)
of_first false names stated job same = (refl, of_tool stated job same)

pub states_tool : (words : List (List ℕ)) (job : Job) → command_of words ≡ Ok (ForTool job) → job_of words ≡ Ok job
states_tool words job asks = (of_first (is_other words) (names_of words) (job_of words) job asks).1

-- words that ask for another command ask for no tool
pub asks_other : (words : List (List ℕ)) (job : Job) → is_other words ≡ true → command_of words ≡ Ok (ForTool job) → ⊥
asks_other words job other asks = let no : true ≡ false = sym other ∙ (of_first (is_other words) (names_of words) (job_of words) job asks).0 in cc

-- and words that ask for a log to be converted ask for another command
tool_names : (stated : Result Job UsageFault) (names : Names) → tool_command stated ≡ Ok (ForConvert names) → ⊥
tool_names (Ok job) names same = cc
tool_names (Err why) names same = cc

names_first : (b : Bool) (found : Result Names UsageFault) (stated : Result Job UsageFault) (names : Names) → (if b then convert_command found else tool_command stated) ≡ Ok (ForConvert names) → b ≡ true
names_first true found stated names same = refl
names_first false found stated names same = absurd (tool_names stated names same)

pub converts_other : (words : List (List ℕ)) (names : Names) → command_of words ≡ Ok (ForConvert names) → is_other words ≡ true
converts_other words names asks = names_first (is_other words) (names_of words) (job_of words) names asks
