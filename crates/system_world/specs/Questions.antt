-- What the words of a command line ask of the program itself, whichever it is (this project's choice).
use Rattle.std.specs.Prelude.{ℕ, ◌||◌, if◌then◌else◌, Bool, List, [], ◌∷◌, Option, Some, None, codes}
use Rattle.std.specs.Str.{bytes_eq}
use Rattle.system_world.specs.declared.words.Question.{Question}
use Rattle.system_world.specs.declared.words.Question.TheVariants.{Help, Version}

-- whether a word asks for help, as `--help` and `-h` do
abbrev pub is_help : List ℕ → Bool
is_help word = bytes_eq word (codes "--help") || bytes_eq word (codes "-h")

-- as the only word `--help` or `-h` asks for the help of a program without tools, and `--version` for its version;
-- other words ask nothing of the program itself. The program answers before its top call, so that the contract of that
-- has one meaning for all words
abbrev pub question_of : List (List ℕ) → Option Question
question_of (word ∷ []) =
    if is_help word then Some Help else (if bytes_eq word (codes "--version") then Some Version else None)
question_of words = None
