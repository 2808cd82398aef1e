-- Words that follow one another (this project's choice).
use Rattle.std.specs.Prelude.{ℕ, ◌+◌, List, ◌++◌, length, take, drop}

-- words, with others over them from a place on
abbrev pub with_words : ℕ → List ℕ → List ℕ → List ℕ
with_words place new words = take place words ++ new ++ drop (place + length new) words
