use Rattle.std.proofs.Common.{◌≡◌, ℕ, List, slice_index_or, map, Bor, sym, ◌∙◌}
use Rattle.std.proofs.Math.ListN.{get_or-map}
use Rattle.vsl_tags.specs.Tags.{tag_rank}
use Rattle.vsl_tags.proofs.NameLemmas.{columns_at}
use Rattle.vsl_tags.proofs.RankLemmas.{rank_at}
use Rattle.vsl_tags.proofs.names.row_of.Goals as goal

-- the text and the rank at a place of a table are what the tables of the texts and of the ranks have there
columns_of : (rows : List (Bor (List ℕ) × ℕ)) (i : ℕ) (none : Bor (List ℕ) × ℕ)
    → (slice_index_or rows i none).0.now ≡ slice_index_or (map (λ (row : Bor (List ℕ) × ℕ). row.0.now) rows) i none.0.now
columns_of rows i none = sym (get_or-map (λ (row : Bor (List ℕ) × ℕ). row.0.now) rows i none)

rank_of : (rows : List (Bor (List ℕ) × ℕ)) (i : ℕ) (none : Bor (List ℕ) × ℕ)
    → (slice_index_or rows i none).1 ≡ slice_index_or (map (λ (row : Bor (List ℕ) × ℕ). row.1) rows) i none.1
rank_of rows i none = sym (get_or-map (λ (row : Bor (List ℕ) × ℕ). row.1) rows i none)

pub returns-clause-columns : goal.returns-clause-columns
returns-clause-columns c =
    let tag = rw c.number.ensures.same at c.number.ensures.tag in
    let same : c.from.result ≡ c.args.tag = c.from.ensures ∙ c.number.ensures.same in
    rw (columns_of, same) (columns_at c.args.tag tag)

pub returns-clause-rank : goal.returns-clause-rank
unfolding tag_rank
returns-clause-rank c =
    let tag = rw c.number.ensures.same at c.number.ensures.tag in
    let same : c.from.result ≡ c.args.tag = c.from.ensures ∙ c.number.ensures.same in
    rw (rank_of, same) (rank_at c.args.tag tag)
