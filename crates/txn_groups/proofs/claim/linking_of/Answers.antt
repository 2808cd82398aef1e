use Rattle.std.proofs.Common.{◌≡◌, None, Some, length, refl, ap, ◌∙◌, rules, arith}
use Rattle.std.specs.Prelude.{slice_get}
use Rattle.std.proofs.lemmas.Bool.{eq-eqb, ne_eqb}
use Rattle.std.proofs.lemmas.Option.{slice_get_read, slice_get_past}
use Rattle.txn_groups.specs.declared.node.Node.{Node}
use Rattle.txn_groups.proofs.FoundLemmas.{same_node, none_there}
use Rattle.txn_groups.proofs.ClaimLemmas.{last_read, last_there, top_is, cannot, sums_within, children_within, links_light_read, links_heavy_read}
use Rattle.txn_groups.proofs.claim.linking_of.Goals as goal

pub returns-in_default : goal.returns-in_default
returns-in_default c = λ begun order rows child parent are few.
    absurd (none_there c.args.nodes.now c.args.below child.node child.there (slice_get_past c.args.nodes.now c.args.below c.in_default.ensures.lookup.3))

pub returns-in_default-get : goal.returns-in_default-get
returns-in_default-get c = λ begun order rows child parent are few.
    absurd (none_there c.args.nodes.now c.args.above parent.node parent.there (slice_get_past c.args.nodes.now c.args.above c.in_default-get.ensures.lookup.3))

pub returns-in_default-get-2 : goal.returns-in_default-get-2
returns-in_default-get-2 c = λ begun order rows child parent are few.
    absurd (last_there c.args.nodes.now rows c.args.above c.last_of-tree.result (c.last_of-tree.ensures begun order rows parent.node are few parent.there) (slice_get_past c.args.nodes.now c.last_of-tree.result c.in_default-get-2.ensures.lookup.3))

pub returns-in_default-get-3 : goal.returns-in_default-get-3
returns-in_default-get-3 c = λ begun order rows child parent are few.
    absurd (last_there c.args.nodes.now rows c.args.below c.last_of-other.result (c.last_of-other.ensures begun order rows child.node are few child.there) (slice_get_past c.args.nodes.now c.last_of-other.result c.in_default-get-3.ensures.lookup.3))

pub returns-then-tree_node-below : goal.returns-then-tree_node-below
returns-then-tree_node-below c = λ begun order rows child parent are few.
    let nodes = c.args.nodes.now in
    let y : Node = c.in-Some-get-2.tree_node.now in
    let read : slice_get nodes c.last_of-tree.result ≡ Some y = slice_get_read nodes (length nodes) c.last_of-tree.result y refl c.in-Some-get-2.ensures.lookup.3.0 c.in-Some-get-2.ensures.lookup.1 in
    let last = last_read nodes rows c.args.above c.last_of-tree.result parent y (c.last_of-tree.ensures begun order rows parent.node are few parent.there) read in
    cannot child.node parent.row.root (top_is begun nodes order rows parent.row.root c.last_of-tree.result c.args.below y child are last ∙ eq-eqb y.top c.args.below c.if-tree_node-below.true)

pub returns-then-other_node-tree_node : goal.returns-then-other_node-tree_node
returns-then-other_node-tree_node c = λ begun order rows child parent are few.
    let nodes = c.args.nodes.now in
    let x : Node = c.in-Some.child.now in
    let q : Node = c.in-Some-get.parent.now in
    let y : Node = c.in-Some-get-2.tree_node.now in
    let z : Node = c.in-Some-get-3.other_node.now in
    let read_x : slice_get nodes c.args.below ≡ Some x = slice_get_read nodes (length nodes) c.args.below x refl c.in-Some.ensures.lookup.3.0 c.in-Some.ensures.lookup.1 in
    let read_q : slice_get nodes c.args.above ≡ Some q = slice_get_read nodes (length nodes) c.args.above q refl c.in-Some-get.ensures.lookup.3.0 c.in-Some-get.ensures.lookup.1 in
    let read_y : slice_get nodes c.last_of-tree.result ≡ Some y = slice_get_read nodes (length nodes) c.last_of-tree.result y refl c.in-Some-get-2.ensures.lookup.3.0 c.in-Some-get-2.ensures.lookup.1 in
    let read_z : slice_get nodes c.last_of-other.result ≡ Some z = slice_get_read nodes (length nodes) c.last_of-other.result z refl c.in-Some-get-3.ensures.lookup.3.0 c.in-Some-get-3.ensures.lookup.1 in
    let same_x : child.node ≡ x = same_node nodes c.args.below child.node x child.there read_x in
    let same_q : parent.node ≡ q = same_node nodes c.args.above parent.node q parent.there read_q in
    let none : x.parent ≡ None = search rules in
    let tl = last_read nodes rows c.args.above c.last_of-tree.result parent y (c.last_of-tree.ensures begun order rows parent.node are few parent.there) read_y in
    let cl = last_read nodes rows c.args.below c.last_of-other.result child z (c.last_of-other.ensures begun order rows child.node are few child.there) read_z in
    let below = children_within begun nodes order rows c.args.below c.args.above child parent are (ap (λ (n : Node). n.parent) same_x ∙ none) in
    let sums = sums_within begun nodes order rows c.args.below c.args.above c.last_of-tree.result c.last_of-other.result child parent y z are (ap (λ (n : Node). n.parent) same_x ∙ none) (ne_eqb y.top c.args.below c.if-tree_node-below.false) tl cl in
    links_light_read begun nodes order rows c.args.below c.args.above c.last_of-tree.result c.last_of-other.result child parent y z q c.saturating_add-children.result c.saturating_add-size.result c.saturating_add-unended.result are (ap (λ (n : Node). n.parent) same_x ∙ none) (ap (λ (n : Node). n.ended) same_x ∙ c.if-child.false)
    (ne_eqb y.top c.args.below c.if-tree_node-below.false) tl cl c.if-other_node-tree_node.true same_q (omega (arith, below, ap (λ (n : Node). n.children) same_q, few, c.saturating_add-children.ensures)) (omega (arith, sums.size, few, c.saturating_add-size.ensures)) (omega (arith, sums.unended, few, c.saturating_add-unended.ensures))

pub returns : goal.returns
returns c = λ begun order rows child parent are few.
    let nodes = c.args.nodes.now in
    let x : Node = c.in-Some.child.now in
    let q : Node = c.in-Some-get.parent.now in
    let y : Node = c.in-Some-get-2.tree_node.now in
    let z : Node = c.in-Some-get-3.other_node.now in
    let read_x : slice_get nodes c.args.below ≡ Some x = slice_get_read nodes (length nodes) c.args.below x refl c.in-Some.ensures.lookup.3.0 c.in-Some.ensures.lookup.1 in
    let read_q : slice_get nodes c.args.above ≡ Some q = slice_get_read nodes (length nodes) c.args.above q refl c.in-Some-get.ensures.lookup.3.0 c.in-Some-get.ensures.lookup.1 in
    let read_y : slice_get nodes c.last_of-tree.result ≡ Some y = slice_get_read nodes (length nodes) c.last_of-tree.result y refl c.in-Some-get-2.ensures.lookup.3.0 c.in-Some-get-2.ensures.lookup.1 in
    let read_z : slice_get nodes c.last_of-other.result ≡ Some z = slice_get_read nodes (length nodes) c.last_of-other.result z refl c.in-Some-get-3.ensures.lookup.3.0 c.in-Some-get-3.ensures.lookup.1 in
    let same_x : child.node ≡ x = same_node nodes c.args.below child.node x child.there read_x in
    let same_q : parent.node ≡ q = same_node nodes c.args.above parent.node q parent.there read_q in
    let none : x.parent ≡ None = search rules in
    let tl = last_read nodes rows c.args.above c.last_of-tree.result parent y (c.last_of-tree.ensures begun order rows parent.node are few parent.there) read_y in
    let cl = last_read nodes rows c.args.below c.last_of-other.result child z (c.last_of-other.ensures begun order rows child.node are few child.there) read_z in
    let below = children_within begun nodes order rows c.args.below c.args.above child parent are (ap (λ (n : Node). n.parent) same_x ∙ none) in
    let sums = sums_within begun nodes order rows c.args.below c.args.above c.last_of-tree.result c.last_of-other.result child parent y z are (ap (λ (n : Node). n.parent) same_x ∙ none) (ne_eqb y.top c.args.below c.if-tree_node-below.false) tl cl in
    links_heavy_read begun nodes order rows c.args.below c.args.above c.last_of-tree.result c.last_of-other.result child parent y z q c.saturating_add-children.result c.saturating_add-size.result c.saturating_add-unended.result are (ap (λ (n : Node). n.parent) same_x ∙ none) (ap (λ (n : Node). n.ended) same_x ∙ c.if-child.false)
    (ne_eqb y.top c.args.below c.if-tree_node-below.false) tl cl (omega (arith, c.if-other_node-tree_node.false)) same_q (omega (arith, below, ap (λ (n : Node). n.children) same_q, few, c.saturating_add-children.ensures)) (omega (arith, sums.size, few, c.saturating_add-size.ensures)) (omega (arith, sums.unended, few, c.saturating_add-unended.ensures))
