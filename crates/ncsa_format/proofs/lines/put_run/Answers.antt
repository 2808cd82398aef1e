use Rattle.std.proofs.Common.{ℕ, ◌≡◌, List, [], ◌∷◌, map, refl, ap}
use Rattle.std.specs.List.{flat_map}
use Rattle.log_model.proofs.AddingLemmas.{puts_all}
use Rattle.txn_rows.specs.declared.group.Member.{Member}
use Rattle.ncsa_format.specs.declared.formatter.Piece.TheVariants as pieces
use Rattle.ncsa_format.specs.Line.{piece_text}
use Rattle.ncsa_format.proofs.lines.put_run.Goals as goal

-- bytes of text are printed as they are
bytes_text : (m : Member) (text : List ℕ) → flat_map (piece_text m) (map pieces.Byte text) ≡ text
bytes_text m [] = refl
bytes_text m (b ∷ text) = ap (λ (x : List ℕ). b ∷ x) (bytes_text m text)

pub returns-in_ok-extend_from_slice-in-Text : goal.returns-in_ok-extend_from_slice-in-Text
returns-in_ok-extend_from_slice-in-Text c = puts_all (rw (c.in-Text.is, bytes_text c.args.member.now c.in-Text.text.items, ← c.deref.ensures.value) c.in_ok-extend_from_slice-in-Text.ensures.items)
