use Rattle.std.proofs.Common.{◌≡◌, ◌++◌, ◌∙◌, length, rules, sym, ap, List, ℕ}
use Rattle.vsl_record.proofs.BlockLemmas.{span, appended_block, appended_records, ok_when}
use Rattle.vsl_record.proofs.records.Records.append_packed.Goals as goal

pub invariant_of-self-2 : goal.invariant_of-self-2
invariant_of-self-2 c =
    let part : c.split_at-2.result.0.now ≡ span c.span_of-from.result.0 c.span_of-from.result.1 c.args.block.now = search rules in
    let b : c.extend_from_slice.new.self.items ≡ c.self.inside.block.items ++ c.split_at-2.result.0.now = search rules in
    let size : c.len-base.result ≡ length c.self.inside.block.items = search rules in
    c.append_moved.ensures.block _ (appended_block _ _ c.len-base.result c.args.block.now c.self.inside.block.items _ _ c.args.entries.now c.self.invariant c.requires c.span_of-from.ensures.within c.span_of-from.ensures.ends (b ∙ ap (λ (xs : List ℕ). c.self.inside.block.items ++ xs) part) size)

pub returns : goal.returns
returns c =
    let part : c.split_at-2.result.0.now ≡ span c.span_of-from.result.0 c.span_of-from.result.1 c.args.block.now = search rules in
    let b : c.extend_from_slice.new.self.items ≡ c.self.inside.block.items ++ c.split_at-2.result.0.now = search rules in
    let size : c.len-base.result ≡ length c.self.inside.block.items = search rules in
    ok_when c.append_moved.result c.append_moved.ensures.ok (λ more. appended_records _ _ c.len-base.result c.args.block.now c.self.inside.block.items _ _ _ c.args.entries.now _ c.self.invariant c.span_of-from.ensures.within c.span_of-from.ensures.ends (b ∙ ap (λ (xs : List ℕ). c.self.inside.block.items ++ xs) part) size more (sym c.self.view_is))
