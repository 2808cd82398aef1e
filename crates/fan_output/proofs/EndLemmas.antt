-- Items one more, and that what an output of text gains is a prefix of what is due for all that its source has.
use Rattle.std.proofs.Common.{◌≡◌, ◌⊎◌, ℕ, Bool, true, false, List, [], ◌∷◌, ◌++◌, append_assoc, refl, sym, ap, ◌∙◌, inl, inr}
use Rattle.std.proofs.lemmas.List.{append-nil}
use Rattle.std.proofs.lemmas.Grind.{flat_map-append}
use Rattle.log_model.specs.Prefix.{IsPrefix}
use Rattle.log_model.proofs.PrefixLemmas.{prefix_append, prefix_by, prefix_equal, prefix_after, prefix_then}
use Rattle.vio.specs.Calls.{Call, written_by}
use Rattle.ring_layout.specs.declared.item.Item.{Item}
use Rattle.fan_output.specs.declared.ending.TextEnding.{TextEnding}
use Rattle.fan_output.specs.declared.ending.TextEnding.TheVariants as endings
use Rattle.fan_output.specs.Messages.{message_of, messages_of}
use Rattle.fan_output.specs.Ends.{Due, Grows, TextEnded, TextShort, TextTook, TextWritten, whole}

pub messages_append : (xs ys : List Item) → messages_of (xs ++ ys) ≡ messages_of xs ++ messages_of ys
messages_append = flat_map-append message_of

-- the messages of items are a prefix of those of items and more items
pub messages_prefix : (xs ys : List Item) → IsPrefix (messages_of xs) (messages_of (xs ++ ys))
messages_prefix xs ys = prefix_by (messages_of xs) (messages_of (xs ++ ys)) (messages_of ys) (messages_append xs ys)

-- ---- items, one more

pub no_item : (earlier : List Item) (x : Item) (later : List Item) → [] ≡ earlier ++ x ∷ later → ⊥
no_item [] x later e = absurd cc
no_item (y ∷ earlier) x later e = absurd cc

-- an item of a list is the last, or one of the others
pub last_or : (done : List Item) (item : Item) (earlier : List Item) (x : Item) (later : List Item) → done ++ item ∷ [] ≡ earlier ++ x ∷ later → ((done ≡ earlier) × (item ≡ x)) ⊎ ((rest : List Item) × (done ≡ earlier ++ x ∷ rest))
last_or [] item [] x later e = inl (refl, cc)
last_or [] item (y ∷ earlier) x later e = absurd (no_item earlier x later cc)
last_or (d ∷ done) item [] x later e = inr (done, cc)
last_or (d ∷ done) item (y ∷ earlier) x later e = elim (last_or done item earlier x later cc) [ inl last ↦ inl (cc, last.1) | inr other ↦ inr (other.0, cc) ]

-- ---- what was gained is no more than what is due

module _ (sink : ℕ) (d : Due) where
  -- of items that were taken, with more of them or their end
  pub took_prefix : Grows d → (calls : List Call) (done more : List Item) (all : Bool) → TextTook sink d calls done → IsPrefix (written_by sink calls) (whole d (done ++ more) all)
  took_prefix grows calls done more all took = rw (took.text, took.parts, append_assoc took.early took.late more) (prefix_after d.head (grows took.early (took.late ++ more) all))

  -- where none is held they were printed whole
  pub took_written : (calls : List Call) (done : List Item) (took : TextTook sink d calls done) → took.late ≡ [] → TextWritten sink d calls done
  took_written calls done took none = record {
    fewer = took.fewer;
    text = took.text ∙ ap (λ (list : List Item). whole d list false) (sym (took.parts ∙ ap (λ (list : List Item). took.early ++ list) none ∙ append-nil took.early));
    told = took.told;
    order = took.order;
  }

  -- with the items that follow, and then their end or not, where all have not come
  pub short_prefix : Grows d → (calls : List Call) (met rest : List Item) (all ended : Bool) → (all ≡ true → (rest ≡ []) × (ended ≡ true)) → TextShort sink d calls met all → TextShort sink d calls (met ++ rest) ended
  short_prefix grows calls met rest true ended none short = let so = none refl in rw (so.0, so.1, append-nil met) short
  short_prefix grows calls met rest false ended none short = record { text = prefix_then short.text (prefix_after d.head (grows met rest ended)); told = prefix_then short.told (messages_prefix met rest) }

  pub ended_short : Grows d → (ending : TextEnding) (calls : List Call) (done last : List Item) (all : Bool) → TextEnded sink d ending calls done last all → TextShort sink d calls (done ++ last) all
  ended_short grows endings.Whole calls done last all ended = let so = ended.ends in rw (so.0, so.1, append-nil done) (record { text = prefix_equal (sym so.2); told = prefix_equal (sym so.3) })
  ended_short grows endings.Kept calls done last all ended = let so = ended.ends in rw so.0 (record { text = prefix_equal (sym so.2); told = prefix_equal (sym so.3) })
  ended_short grows (endings.Unwritten name) calls done last all ended = let so = ended.ends in record {
    text = elim so.2 [ inl early ↦ prefix_then early.2.prefix (prefix_append d.head (d.text (done ++ last) all)) | inr part ↦ part.1.prefix ];
    told = prefix_equal (sym so.1);
  }
  ended_short grows endings.Unreported calls done last all ended = let so = ended.ends in record { text = rw (so.0, so.1) (prefix_after d.head (grows done last false)); told = so.3.prefix }
