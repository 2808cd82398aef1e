-- Globs of counters (varnishstat(1), "-f"; that a star is the one byte with a meaning of its own is this project's choice).
use Rattle.std.specs.Prelude.{ℕ, ◌==◌, ◌&&◌, ◌||◌, if◌then◌else◌, Bool, true, false, List, [], ◌∷◌, length}
use Rattle.std.specs.List.{list_any}
pub use Rattle.vsl_tags.specs.Glob.{star}

-- a name, or what is left of it after some of its bytes, passes a test
abbrev pub at_some_place : (List ℕ → Bool) → List ℕ → Bool
at_some_place test [] = test []
at_some_place test (b ∷ name) = test (b ∷ name) || at_some_place test name

-- a name begins with a byte, and what follows passes a test
abbrev pub follows : ℕ → (List ℕ → Bool) → List ℕ → Bool
follows byte test [] = false
follows byte test (b ∷ name) = (byte == b) && test name

-- a name matches a glob: a star stands for any bytes, also for none, and every other byte for itself. Any text is a
-- glob, so none is refused, and an empty one matches no name
abbrev pub glob_matches : List ℕ → List ℕ → Bool
glob_matches [] [] = true
glob_matches [] (b ∷ name) = false
glob_matches (byte ∷ glob) name = if byte == star then at_some_place (glob_matches glob) name else follows byte
    (glob_matches glob) name

-- a name is selected: some glob matches it, or there are no globs
abbrev pub is_selected : List (List ℕ) → List ℕ → Bool
is_selected globs name = (length globs == 0) || list_any (λ glob. glob_matches glob name) globs
