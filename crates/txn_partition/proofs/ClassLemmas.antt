-- Classes of a regular log: what a child and its parent have in common, and which classes have an End to come.
use Rattle.std.proofs.Common.{◌≡◌, ⊎_elim, ℕ, true, eqb, ◌&&◌, Some, List, [], ◌∷◌, ◌++◌, length, refl, ap, sym, ◌∙◌, subst, arith}
use Rattle.std.proofs.lemmas.Bool.{eqb-true, eq-eqb, or_cases, or_left, or_right, and_parts, and_from}
use Rattle.std.proofs.lemmas.List.Concat.{flat_map-append}
use Rattle.vsl_tags.specs.Tags.{end_tag}
use Rattle.txn_rows.specs.declared.group.Grouping.{Grouping}
use Rattle.txn_partition.specs.LogFacts.{Entry, Link, has_end, links_in, links_of, is_in, named, parent_of}
use Rattle.txn_partition.specs.Partition.{class_root, AreRegular, ends_later}
use Rattle.txn_partition.specs.inside.Parted.{open_names, class_ends}
use Rattle.txn_partition.proofs.NamedLemmas.{in_filter}
use Rattle.txn_partition.proofs.LinkedLemmas.{HasParents, KnowsSome, Joined, parent_first, top_same}
use Rattle.txn_partition.proofs.RegularLemmas.{both_named, named_more}

pub links_append : (grouping : Grouping) (xs ys : List Entry) → links_of grouping (xs ++ ys) ≡ links_of grouping xs ++ links_of grouping ys
links_append grouping xs ys = flat_map-append (links_in grouping) xs ys

-- links of a part are links of the whole
pub part_known : (grouping : Grouping) (all before rest : List Entry) → before ++ rest ≡ all → KnowsSome (links_of grouping before) (links_of grouping all)
part_known grouping all before rest whole x p e =
    subst (λ (ls : List Link). parent_of ls x ≡ Some p) (sym (links_append grouping before rest) ∙ ap (links_of grouping) whole) (parent_first (links_of grouping before) (links_of grouping rest) x p e)

pub part_named : (grouping : Grouping) (all before rest : List Entry) → before ++ rest ≡ all → (v : ℕ) → is_in v (named grouping before) ≡ true → is_in v (named grouping all) ≡ true
part_named grouping all before rest whole v here = subst (λ (es : List Entry). is_in v (named grouping es) ≡ true) whole (named_more grouping before rest v here)

-- parents are named
pub parents_named : (grouping : Grouping) (all : List Entry) → HasParents (links_of grouping all) (named grouping all)
parents_named grouping all x p here e = (both_named grouping all x p e).1

-- a child is in the class of its parent
pub class_up : (grouping : Grouping) (all : List Entry) → AreRegular grouping all → (x p : ℕ) → parent_of (links_of grouping all) x ≡ Some p → class_root grouping all x ≡ class_root grouping all p
class_up grouping all r x p e =
    top_same (links_of grouping all) r.no_return (named grouping all) (parents_named grouping all) (length (named grouping all)) x p (both_named grouping all x p e).0 (omega arith) e

-- where a VXID has an End its class has one
pub ends_class : (root : ℕ → ℕ) (v : ℕ) (xs : List Entry) → has_end v xs ≡ true → class_ends root (root v) xs ≡ true
ends_class root v [] e = absurd (cc)
ends_class root v (x ∷ xs) e = ⊎_elim
    (λ (first : (eqb x.vxid v && eqb x.rec.tag end_tag) ≡ true).
    let parts = and_parts (eqb x.vxid v) (eqb x.rec.tag end_tag) first in
    or_left (eqb (root x.vxid) (root v) && eqb x.rec.tag end_tag) (class_ends root (root v) xs)
    (and_from (eqb (root x.vxid) (root v)) (eqb x.rec.tag end_tag) (eq-eqb (root x.vxid) (root v) (ap root (eqb-true x.vxid v parts.0))) parts.1))
    (λ (later : has_end v xs ≡ true). or_right (eqb (root x.vxid) (root v) && eqb x.rec.tag end_tag) (class_ends root (root v) xs) (ends_class root v xs later))
    (or_cases (eqb x.vxid v && eqb x.rec.tag end_tag) (has_end v xs) e)

-- and where a class has one it is that of one of its VXIDs
pub record EndIn (root : ℕ → ℕ) (r : ℕ) (xs : List Entry) : Type 0 where
  pub vxid : ℕ
  pub inside : root vxid ≡ r
  pub ends : has_end vxid xs ≡ true

pub end_in_class : (root : ℕ → ℕ) (r : ℕ) (xs : List Entry) → class_ends root r xs ≡ true → EndIn root r xs
end_in_class root r [] e = absurd (cc)
end_in_class root r (x ∷ xs) e = ⊎_elim
    (λ (first : (eqb (root x.vxid) r && eqb x.rec.tag end_tag) ≡ true).
    let parts = and_parts (eqb (root x.vxid) r) (eqb x.rec.tag end_tag) first in
    record {
      vxid = x.vxid;
      inside = eqb-true (root x.vxid) r parts.0;
      ends = or_left (eqb x.vxid x.vxid && eqb x.rec.tag end_tag) (has_end x.vxid xs) (and_from (eqb x.vxid x.vxid) (eqb x.rec.tag end_tag) (eq-eqb x.vxid x.vxid refl) parts.1);
    })
    (λ (later : class_ends root r xs ≡ true).
    let i = end_in_class root r xs later in
    record { vxid = i.vxid; inside = i.inside; ends = or_right (eqb x.vxid i.vxid && eqb x.rec.tag end_tag) (has_end i.vxid xs) i.ends })
    (or_cases (eqb (root x.vxid) r && eqb x.rec.tag end_tag) (class_ends root r xs) e)

-- what is named and open
pub in_open : (grouping : Grouping) (all before rest : List Entry) (v : ℕ) → is_in v (open_names grouping all before rest) ≡ true → (is_in v (named grouping before) ≡ true) × (ends_later grouping all rest v ≡ true)
in_open grouping all before rest v here =
    and_parts (is_in v (named grouping before)) (ends_later grouping all rest v) (sym (in_filter v (ends_later grouping all rest) (named grouping before)) ∙ here)

pub open_in : (grouping : Grouping) (all before rest : List Entry) (v : ℕ) → is_in v (named grouping before) ≡ true → ends_later grouping all rest v ≡ true → is_in v (open_names grouping all before rest) ≡ true
open_in grouping all before rest v here open_here =
    in_filter v (ends_later grouping all rest) (named grouping before) ∙ and_from (is_in v (named grouping before)) (ends_later grouping all rest v) here open_here

-- a child is open where its parent is
pub open_same : (grouping : Grouping) (all rest : List Entry) → AreRegular grouping all → (x p : ℕ) → parent_of (links_of grouping all) x ≡ Some p → ends_later grouping all rest x ≡ ends_later grouping all rest p
open_same grouping all rest r x p e = ap (λ (c : ℕ). class_ends (class_root grouping all) c rest) (class_up grouping all r x p e)

-- a part of a regular log has all links of what has ended, and what is open has all that they join
pub part_joined : (grouping : Grouping) (all : List Entry) → AreRegular grouping all → (before rest to_come : List Entry) → before ++ rest ≡ all →
    Joined (links_of grouping before) (links_of grouping all) (open_names grouping all before to_come) (λ v. has_end v before)
part_joined grouping all r before rest to_come whole = record {
  never = r.no_return;
  knows = part_known grouping all before rest whole;
  child = λ x p e ended. r.linked_before before rest whole x p e (or_left (has_end x before) (has_end p before) ended);
  parent = λ x p e ended. r.linked_before before rest whole x p e (or_right (has_end x before) (has_end p before) ended);
  up = λ x p here e.
      let was = in_open grouping all before to_come x here in
      open_in grouping all before to_come p (both_named grouping before x p e).1 (sym (open_same grouping all to_come r x p (part_known grouping all before rest whole x p e)) ∙ was.1);
  down = λ x p e here.
      let was = in_open grouping all before to_come p here in
      open_in grouping all before to_come x (both_named grouping before x p e).0 (open_same grouping all to_come r x p (part_known grouping all before rest whole x p e) ∙ was.1);
}
