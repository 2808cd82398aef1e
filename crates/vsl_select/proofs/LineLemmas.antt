-- The lines of what is shown of a group.
use Rattle.std.proofs.Common.{◌≡◌, ◌==◌, ◌||◌, ◌&&◌, ◌<◌, ◌≤◌, ℕ, Bool, true, false, not, nat_le, cond, if◌then◌else◌, codes, List, [], ◌∷◌, ◌++◌, length, length-append, take, refl, sym, ap, ◌∙◌, arith}
use Rattle.std.specs.List.{filter, flat_map, list_all, list_any}
use Rattle.std.proofs.Math.Bool.{or-false, or-true}
use Rattle.std.proofs.lemmas.List.{append-nil, append_assoc}
use Rattle.std.proofs.lemmas.List.Folds.{list_all-map}
use Rattle.log_model.proofs.PrefixLemmas.{cut_back}
use Rattle.vsl_record.specs.declared.record_type.Record.{Record}
use Rattle.txn_rows.specs.declared.group.Member.{Member}
use Rattle.vsl_select.specs.Showing.{Showing}
use Rattle.vsl_select.specs.Shown.{is_shown_member, shown_member, shown_members}
use Rattle.vsl_select.specs.Lines.{is_some_of, level_field, header, record_line, member_text, transactions_text}

-- ---- whether anything was added

some_append : {A : Type 0} (xs ys : List A) → is_some_of (xs ++ ys) ≡ (is_some_of xs || is_some_of ys)
some_append [] ys = refl
some_append (x ∷ xs) ys = refl

some_left : {A : Type 0} (xs ys : List A) → is_some_of xs ≡ true → is_some_of (xs ++ ys) ≡ true
some_left xs ys some = some_append xs ys ∙ ap (λ (b : Bool). b || is_some_of ys) some

some_end : {A : Type 0} (xs : List A) (y : A) → is_some_of (xs ++ y ∷ []) ≡ true
some_end [] y = refl
some_end (x ∷ xs) y = refl

-- the lines of records are empty where there is no record, and only there
pub lines_some : (verbose : Bool) (m : Member) (records : List Record) → is_some_of (flat_map (record_line verbose m) records) ≡ is_some_of records
lines_some verbose m [] = refl
lines_some verbose m (rec ∷ records) = some_left (record_line verbose m rec) _ (some_left (level_field 45 m.level) _ (of_test (nat_le m.level 3) _ _))
  where
    of_test : (b : Bool) (low high : List ℕ) → is_some_of (if b then low ++ codes " " else 45 ∷ high) ≡ true
    of_test true low high = some_end low 32
    of_test false low high = refl

-- the texts of transactions are empty where none has a record, and only there
texts_some : (verbose : Bool) (members : List Member) → is_some_of (flat_map (member_text verbose) members) ≡ list_any (λ m. is_some_of m.records) members
texts_some verbose [] = refl
texts_some verbose (m ∷ members) = rw (some_append (member_text verbose m) (flat_map (member_text verbose) members), of_test (is_some_of m.records), texts_some verbose members) refl
  where
    of_test : (b : Bool) → is_some_of (if b then header m ++ flat_map (record_line verbose m) m.records else []) ≡ b
    of_test true = some_left (header m) _ (some_end _ 10)
    of_test false = refl

some_from_length : (out xs : List ℕ) → length out < length (out ++ xs) → is_some_of xs ≡ true
some_from_length out [] more = absurd (omega (arith, more, length-append out []))
some_from_length out (x ∷ xs) more = refl

none_from_length : (out xs : List ℕ) → length (out ++ xs) ≤ length out → is_some_of xs ≡ false
none_from_length out [] no_more = refl
none_from_length out (x ∷ xs) no_more = absurd (omega (arith, no_more, length-append out (x ∷ xs)))

-- the header of a transaction without shown records is cut off
pub header_cut : (verbose : Bool) (m : Member) (records : List Record) (out begun whole : List ℕ) → begun ≡ out ++ header m → whole ≡ begun ++ flat_map (record_line verbose m) records
    → length whole ≤ length begun → take (length out) whole ≡ out ++ member_text verbose (record m { records = records })
header_cut verbose m records out begun whole begun_is whole_is no_more =
    let none = sym (lines_some verbose m records) ∙ none_from_length begun (flat_map (record_line verbose m) records) (rw whole_is at no_more) in
    rw none (cut_back out whole (record { rest = header m ++ flat_map (record_line verbose m) records; is = whole_is ∙ ap (λ (x : List ℕ). x ++ flat_map (record_line verbose m) records) begun_is ∙ append_assoc out (header m) _ }) ∙ sym (append-nil out))

-- an empty line ends what was printed
pub line_ends : (verbose : Bool) (members : List Member) (out whole now : List ℕ) → whole ≡ out ++ flat_map (member_text verbose) members → length out < length whole → now ≡ whole ++ codes "\n"
    → now ≡ out ++ transactions_text verbose members
line_ends verbose members out whole now whole_is more now_is =
    let some = sym (texts_some verbose members) ∙ some_from_length out (flat_map (member_text verbose) members) (rw whole_is at more) in
    rw some (now_is ∙ ap (λ (x : List ℕ). x ++ codes "\n") whole_is ∙ append_assoc out (flat_map (member_text verbose) members) (codes "\n"))

-- where nothing was printed, none does
pub no_line : (verbose : Bool) (members : List Member) (out whole : List ℕ) → whole ≡ out ++ flat_map (member_text verbose) members → length whole ≤ length out
    → whole ≡ out ++ transactions_text verbose members
no_line verbose members out whole whole_is no_more =
    let none = sym (texts_some verbose members) ∙ none_from_length out (flat_map (member_text verbose) members) (rw whole_is at no_more) in
    rw none (whole_is ∙ ap (λ (x : List ℕ). out ++ x) (sym (append-nil (flat_map (member_text verbose) members))))

-- ---- groups

-- what is shown are records by themselves where each member is one, or hidden
pub raw_shown : (showing : Showing) (members : List Member) → list_all (λ m. (m.level == 0) || not (is_shown_member showing.sides m)) members ≡ list_all (λ m. m.level == 0) (shown_members showing members)
raw_shown showing members = among members ∙ sym (list_all-map (λ (m : Member). m.level == 0) (shown_member showing) (filter (is_shown_member showing.sides) members))
  where
    of_test : (b : Bool) (m : Member) (rest : List Member) → (((m.level == 0) || not b) && list_all (λ m. m.level == 0) rest) ≡ list_all (λ m. m.level == 0) (cond b (m ∷ rest) rest)
    of_test true m rest = rw or-false refl
    of_test false m rest = rw or-true refl

    among : (members : List Member) → list_all (λ m. (m.level == 0) || not (is_shown_member showing.sides m)) members ≡ list_all (λ m. m.level == 0) (filter (is_shown_member showing.sides) members)
    among [] = refl
    among (m ∷ members) = ap (λ (b : Bool). ((m.level == 0) || not (is_shown_member showing.sides m)) && b) (among members) ∙ of_test (is_shown_member showing.sides m) m _
