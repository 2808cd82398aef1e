-- Words and bytes, as `vsl_words` has them.
pub use Rattle.vsl_words.proofs.WordLemmas.{four_more, length-words_in, length-word_bytes, words_in-small, word_bytes-small, words_in-take, words_in-drop, words_in-word_bytes, words_in_again, word_bytes-words_in}
