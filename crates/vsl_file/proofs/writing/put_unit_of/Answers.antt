use Rattle.std.proofs.Common.{◌+◌, ◌++◌, ◌∙◌, ap, sym, append_assoc, ℕ, List, arith}
use Rattle.std.specs.Int.{w32, to_le_bytes}
use Rattle.vsl_record.specs.Words.{header_mark}
use Rattle.log_model.proofs.AddingLemmas.{puts_all}
use Rattle.vsl_file.proofs.WritingLemmas.{unit_whole}
use Rattle.vsl_file.proofs.writing.put_unit_of.Goals as goal

pub returns : goal.returns
returns c = λ u words body.
    let old : List ℕ = c.args.out.now.items in
    let head : List ℕ = to_le_bytes w32 (header_mark + c.args.words) in
    puts_all (c.in_ok-extend_from_slice.ensures.items ∙ ap (λ (x : List ℕ). x ++ c.args.body.now) c.in_ok-put_head.ensures.ok ∙ append_assoc old head c.args.body.now
    ∙ ap (λ (x : List ℕ). old ++ (head ++ x)) body ∙ ap (λ (x : List ℕ). old ++ x) (sym (unit_whole c.args.words u (omega (arith, words)))))
