use Rattle.std.proofs.Common.{rules, ◌≡◌, ℕ, ◌+◌, ◌*◌, List, take, refl, ap, ◌∙◌, arith}
use Rattle.std.proofs.lemmas.List.{with_items_is}
use Rattle.vsl_record.specs.Words.{unit_words, words_in}
use Rattle.ring_layout.specs.Copied.{IsDueAt}
use Rattle.ring_plain.proofs.CursorLemmas.{due_as, number_low, took}
use Rattle.ring_plain.proofs.cursor.PlainCursor.take.Goals as goal

pub overflow_add-self-2 : goal.overflow_add-self-2
overflow_add-self-2 c =
    let due = c.requires.stands in
    let low = number_low c.args.ring.now due.0 due.1 due.2 due.3.due.0 in
    let number = due.3.number in
    let same = ap (λ z. z.number) c.self.view_is in
    omega arith

pub returns-clause-answers : goal.returns-clause-answers
returns-clause-answers c = λ log k of_log stands.
    let count : ℕ = c.in-Some.stretch.words in
    let copied = ap (λ (bytes : List ℕ). words_in (take (4 * count) bytes)) (with_items_is c.self.inside.bytes c.copy.new.to (search rules)) ∙ c.copy.ensures in
    let number : c.self.inside.number ≡ k = ap (λ z. z.number) c.self.view_is ∙ stands.number in
    let due : IsDueAt unit_words c.args.ring.now.seg log k c.self.inside.place = due_as log k _ _ _ _ c.requires.shape (search rules) stands.due in
    (c.requires.near, took c.args.ring.now _ log k c.in-Some.stretch.place count (search rules) (search rules) refl copied number (ap (λ (n : ℕ). n + 1) number) (c.in-Some.ensures log k of_log due))
