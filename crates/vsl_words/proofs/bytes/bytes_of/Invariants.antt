-- the bytes of the words so far
use Rattle.std.proofs.Common.{◌≡◌, take}
use Rattle.vsl_words.specs.Words.{word_bytes}
use Rattle.vsl_words.proofs.bytes.bytes_of.Given as goal

abbrev pub invariant-loop-word : goal.invariant-loop-word
invariant-loop-word l = l.bytes.items ≡ word_bytes (take l.word-index l.words)
