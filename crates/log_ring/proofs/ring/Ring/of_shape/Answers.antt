use Rattle.std.proofs.Common.{rules, ◌≡◌, sym, ◌∙◌, subst, arith}
use Rattle.log_ring.specs.inside.Steps.{AreFirstWords}
use Rattle.log_ring.proofs.OpeningLemmas.{table_opens}
use Rattle.log_ring.proofs.ring.Ring.of_shape.Goals as goal

pub of_words-requires : goal.of_words-requires
of_words-requires c =
    let seg : c.args.shape ≡ c.from.result = sym (c.from.ensures ∙ c.seg.ensures) in
    let few = c.requires.few in
    let count = c.from-2.ensures in
    let words = subst (λ z. AreFirstWords c.args.shape z) (sym c.deref.ensures.value) c.in_ok-words.ensures in
    table_opens _ _ (search rules) (omega arith) (subst (λ z. AreFirstWords z c.deref.result.now) seg words)
