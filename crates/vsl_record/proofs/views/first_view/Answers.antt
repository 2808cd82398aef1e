use Rattle.std.proofs.Common.{◌≡◌, ℕ, ◌/◌, ◌%◌, ◌∙◌, List, ap, sym, length, arith}
use Rattle.vsl_record.proofs.ViewLemmas.{lends, starts_tag, starts_mark, made_of}
use Rattle.vsl_words.specs.declared.version.Version.TheVariants.{Two}
use Rattle.vsl_words.specs.Versions.{id_in}
use Rattle.vsl_words.specs.Words.{words_in}
use Rattle.vsl_words.proofs.WordLemmas.{words_in-drop, length-words_in}
use Rattle.vsl_record.specs.inside.UnitReading.{mark_of}
use Rattle.vsl_record.proofs.views.first_view.Goals as goal

pub id_in-requires : goal.id_in-requires
id_in-requires c =
    let l = lends c.args.bytes.now c.requires.0 c.requires.1 c.are_bytes.ensures c.requires.2 in
    omega (arith, l.long, c.split_at.ensures.back_len, length-words_in c.split_at.result.1.now)

pub split_at-requires-2 : goal.split_at-requires-2
split_at-requires-2 c =
    let l = lends c.args.bytes.now c.requires.0 c.requires.1 c.are_bytes.ensures c.requires.2 in
    omega (arith, l.long, c.split_at.ensures.back_len)

pub split_at-requires-3 : goal.split_at-requires-3
split_at-requires-3 c =
    let l = lends c.args.bytes.now c.requires.0 c.requires.1 c.are_bytes.ensures c.requires.2 in
    omega (arith, l.size, l.long, c.header_word-head.ensures, c.split_at.ensures.back_len, c.split_at-2.ensures.back_len)

pub returns-clause-record : goal.returns-clause-record
returns-clause-record c = λ rec rest s.
    let l = lends c.args.bytes.now rec rest c.are_bytes.ensures s in
    let size : c.header_word-head.result % 16777216 ≡ length rec.payload = rw c.header_word-head.ensures at l.size in
    let tag : c.in-Some.tag ≡ rec.tag = c.in-Some.ensures.number ∙ ap (λ (w : ℕ). w / 16777216) (sym c.header_word-head.ensures) ∙ starts_tag _ rest rec s in
    let mark : c.of_id-mark.result ≡ rec.mark = c.of_id-mark.ensures ∙ ap (mark_of Two) (sym c.id_in.ensures ∙ ap (λ (b : List ℕ). id_in Two (words_in b)) c.split_at.ensures.back ∙ ap (id_in Two) (words_in-drop 1 c.args.bytes.now)) ∙ starts_mark _ rest rec s in
    let payload : c.split_at-4.result.0.now ≡ rec.payload = rw (c.split_at-4.ensures.front, c.split_at-3.ensures.front, c.split_at-2.ensures.back, c.split_at.ensures.back, size) l.payload in
    c.new.ensures ∙ made_of _ _ _ _ _ _ tag mark payload

pub returns-clause-rest : goal.returns-clause-rest
returns-clause-rest c = λ rec rest s.
    let l = lends c.args.bytes.now rec rest c.are_bytes.ensures s in
    let size : c.header_word-head.result % 16777216 ≡ length rec.payload = rw c.header_word-head.ensures at l.size in
    rw (c.split_at-3.ensures.back, c.split_at-2.ensures.back, c.split_at.ensures.back, size) l.behind
