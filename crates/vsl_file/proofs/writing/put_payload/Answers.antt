use Rattle.std.proofs.Common.{List, ℕ, ◌++◌, ◌∷◌, [], ap, ◌∙◌, arith}
use Rattle.log_model.proofs.AddingLemmas.{puts_all}
use Rattle.vsl_file.proofs.WritingLemmas.{filled_cut}
use Rattle.vsl_file.proofs.writing.put_payload.Goals as goal

pub returns : goal.returns
returns c =
    puts_all (c.truncate.ensures.items ∙ filled_cut c.args.out.now.items c.args.payload.now _ _
    (c.in_ok-extend_from_slice-2.ensures.items ∙ ap (λ (x : List ℕ). x ++ 0 ∷ 0 ∷ 0 ∷ []) c.in_ok-extend_from_slice.ensures.items) (omega (arith, c.len.ensures, c.extend_from_slice-2.new.self.ok.0)))
