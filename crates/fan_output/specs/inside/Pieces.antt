-- Pieces: what is written to each sink in one go over them (this project's choice).
use Rattle.std.specs.Prelude.{◌≡◌, Bool, true, false, ℕ, List, [], ◌++◌}
use Rattle.ring_layout.specs.declared.item.Item.{Item}
use Rattle.fan_output.specs.declared.piece.Piece.{Piece}
use Rattle.fan_output.specs.declared.piece.Piece.TheVariants as pieces
use Rattle.fan_output.specs.Ends.{Due, whole}

-- whether a piece comes behind all items
abbrev pub is_end : Piece → Bool
is_end pieces.Last = true
is_end piece = false

-- whether nothing is held behind a piece
abbrev pub leaves_none : Piece → Bool
leaves_none pieces.Full = false
leaves_none piece = true

-- what was written to a sink before a piece: nothing before that which stands before all items, of which there is none yet; else the
-- text of these items
abbrev pub IsSunk : Piece → Due → List Item → List Item → List Item → List ℕ → Type 0
IsSunk pieces.Head d done last early sunk = (done ≡ []) × (last ≡ []) × (early ≡ []) × (d.text [] false ≡ []) × (sunk ≡ [])
IsSunk piece d done last early sunk = sunk ≡ whole d early false

-- bytes are a piece, of a head and a text of which some was taken: the head, with which no more is taken; or all the rest, which is then
abbrev pub IsPiece : Piece → List ℕ → (List Item → Bool → List ℕ) → (holds now : List Item → Bool → List ℕ → Type 0) → List ℕ → Type 0
IsPiece pieces.Head head text holds now bytes = (bytes ≡ head) ×
    ((met : List Item) (all : Bool) (taken : List ℕ) → holds met all taken → now met all taken)
IsPiece piece head text holds now bytes = (met : List Item) (all : Bool) (taken : List ℕ) → holds met all taken →
    (taken ++ bytes ≡ text met all) × now met all (taken ++ bytes)
