-- How many transactions are listed, and how many of them have not ended.
use Rattle.std.proofs.Common.{◌≡◌, ◌&&◌, ℕ, eqb, cond, Option, Some, None, List, [], ◌∷◌, length, refl, arith}
use Rattle.std.specs.Prelude.{count_by, slice_get}
use Rattle.std.proofs.lemmas.List.{length-append}
use Rattle.std.proofs.lemmas.List.Sums.{sum_by-cons, sum_by-append}
use Rattle.txn_rows.specs.Transaction.{Transaction}
use Rattle.txn_rows.specs.Grouping.{is_unfinished}
use Rattle.txn_rows.proofs.LineLemmas.{by_cases}
use Rattle.txn_groups.specs.declared.node.Node.{Node}
use Rattle.txn_groups.specs.declared.order.Entry.{Entry}
use Rattle.txn_groups.specs.inside.Nodes.{transaction_of_node, told_of, listed}
use Rattle.txn_groups.specs.inside.Order.{stands_for, is_live, is_open_for, is_open_at}

-- an entry tells one, where its node stands for it
live_counts : (o : Option Node) (serial : ℕ) → length (told_of o serial) ≡ cond (stands_for o serial) 1 0
live_counts None serial = refl
live_counts (Some x) serial =
    by_cases (length (told_of (Some x) serial) ≡ cond (stands_for (Some x) serial) 1 0) (x.stands && (eqb x.serial serial))
    (λ t. rw t refl)
    (λ t. rw t refl)

pub live_counted : (nodes : List Node) (order : List Entry) → count_by (is_live nodes) order ≡ length (listed nodes order)
live_counted nodes [] = refl
live_counted nodes (e ∷ order) =
    omega (
      arith,
      sum_by-cons (λ (x : Entry). cond (is_live nodes x) 1 0) e order,
      length-append (told_of (slice_get nodes e.at) e.serial) (listed nodes order),
      live_counts (slice_get nodes e.at) e.serial,
      live_counted nodes order,
    )

-- and one that has not ended, where that has not either
open_counts : (o : Option Node) (serial : ℕ) → count_by is_unfinished (told_of o serial) ≡ cond (is_open_for o serial) 1 0
open_counts None serial = refl
open_counts (Some x) serial =
    by_cases (count_by is_unfinished (told_of (Some x) serial) ≡ cond (is_open_for (Some x) serial) 1 0) (x.stands && (eqb x.serial serial))
    (λ t. rw t (omega (arith, sum_by-cons (λ (u : Transaction). cond (is_unfinished u) 1 0) (transaction_of_node x) [])))
    (λ t. rw t refl)

pub open_counted : (nodes : List Node) (order : List Entry) → count_by (is_open_at nodes) order ≡ count_by is_unfinished (listed nodes order)
open_counted nodes [] = refl
open_counted nodes (e ∷ order) =
    omega (
      arith,
      sum_by-cons (λ (x : Entry). cond (is_open_at nodes x) 1 0) e order,
      sum_by-append (λ (u : Transaction). cond (is_unfinished u) 1 0) (told_of (slice_get nodes e.at) e.serial) (listed nodes order),
      open_counts (slice_get nodes e.at) e.serial,
      open_counted nodes order,
    )
