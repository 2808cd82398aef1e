use Rattle.std.proofs.Common.{◌≡◌, ◌++◌, ◌∷◌, [], length, refl, sym, rules}
use Rattle.vsl_record.specs.declared.entry.Entry.{Entry}
use Rattle.vsl_record.proofs.BlockLemmas.{err_always, pushed_none, pushed_one, pushed_block}
use Rattle.vsl_record.proofs.records.Records.push.Goals as goal

pub returns-in_err-push-clause-err : goal.returns-in_err-push-clause-err
returns-in_err-push-clause-err c =
    let b : c.extend_from_slice.new.self.items ≡ c.self.inside.block.items ++ c.payload-payload.result.now = search rules in
    let e : c.push.new.self.items ≡ c.self.inside.entries.items = search rules in
    err_always _ (pushed_none _ _ _ _ _ _ c.self.invariant b e (sym c.self.view_is))

pub invariant_of-self-2 : goal.invariant_of-self-2
invariant_of-self-2 c =
    let b : c.extend_from_slice.new.self.items ≡ c.self.inside.block.items ++ c.payload-payload.result.now = search rules in
    let entry : Entry = record { tag = c.tag.result; mark = c.mark.result; size = length c.payload-payload.result.now; at = c.in-Ok.at } in
    let e : c.push.new.self.items ≡ c.self.inside.entries.items ++ entry ∷ [] = search rules in
    pushed_block _ _ _ _ _ entry c.self.invariant b e refl (rw c.payload-payload.ensures.bytes c.payload-payload.ensures.payload.short) (search rules)

pub returns-clause-ok : goal.returns-clause-ok
returns-clause-ok c =
    let b : c.extend_from_slice.new.self.items ≡ c.self.inside.block.items ++ c.payload-payload.result.now = search rules in
    let entry : Entry = record { tag = c.tag.result; mark = c.mark.result; size = length c.payload-payload.result.now; at = c.in-Ok.at } in
    let e : c.push.new.self.items ≡ c.self.inside.entries.items ++ entry ∷ [] = search rules in
    pushed_one _ c.payload-payload.result.now _ _ _ _ entry c.args.rec.now c.self.invariant b e (sym c.self.view_is) (search rules) refl (search rules)
