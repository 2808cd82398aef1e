use Rattle.std.proofs.Common.{◌≡◌, ◌<◌, ◌≤◌, ◌+◌, ◌-◌, ◌*◌, ◌%◌, ℕ, sym, ap, ◌∙◌, subst, arith}
use Rattle.vsl_record.specs.Words.{header_mark}
use Rattle.ring_layout.specs.Places.{fewest_words, wrap_mark}
use Rattle.log_ring.specs.inside.Reading.{reader_of}
use Rattle.log_ring.proofs.ReadLemmas.{finds_nothing}
use Rattle.log_ring.proofs.ring.Ring.check_nothing.Goals as goal

pub load-requires : goal.load-requires
load-requires c =
    let wide = c.self.invariant.0 in
    let least = c.self.invariant.2.0 in
    let seg = sym (ap (λ z. z.seg) c.self.view_is) in
    let place : ℕ = (reader_of c.args.seat.now.me.0).place in
    let P : ℕ → Type 0 = λ z. (c.args.head ≡ wrap_mark → place % (8 * z) + z < 8 * z) × (header_mark + fewest_words ≤ c.args.head → c.args.head ≤ header_mark + z → place % (8 * z) + (c.args.head - header_mark) < 8 * z → ⊥) in
    let p : P c.self.inside.table.shared.key.seg = subst P seg (c.requires.no_lap, c.requires.no_unit) in
    (c.requires.reader.0 ∙ sym (ap (λ z. z.table) c.self.view_is), omega arith, finds_nothing _ _ _ _ _ _ c.requires.reader.1 (omega arith) c.requires.reader.2 c.requires.copied c.requires.no_end p.0 p.1)
