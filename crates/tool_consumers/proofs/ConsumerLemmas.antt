-- What the consumer of varnishlog writes.
use Rattle.std.proofs.Common.{◌≡◌, ℕ, ◌+◌, List, [], ◌∷◌, ◌++◌, Bool, true, false, length, length-append, map, Option, None, Some, is_some, refl, sym, ap, ◌∙◌, append_assoc}
use Rattle.std.proofs.lemmas.List.{append-nil, map-append}
use Rattle.std.proofs.lemmas.List.Concat.{flat_map-append}
use Rattle.std.specs.List.{filter, flat_map}
use Rattle.txn_rows.specs.declared.group.Group.{Group}
use Rattle.txn_rows.specs.Grouping.{raw_group}
use Rattle.vsl_record.specs.Unit.{Log, LogUnit}
use Rattle.vsl_select.specs.Lines.{group_text}
use Rattle.vsl_record.specs.declared.record_type.Record.{Record}
use Rattle.vsl_select.specs.FileUnits.{file_units, units_of}
use Rattle.vsl_select.specs.Showing.{Showing}
use Rattle.vsl_select.specs.Shown.{is_shown_alone, shown}
use Rattle.vsl_select.proofs.RawLemmas.{of_shown, shown_raw_text}
use Rattle.vsl_file.specs.File.{alone_bytes, alone_unit, unit_bytes, log_bytes}
use Rattle.vsl_dispatch.specs.Groups.{raw_groups}
use Rattle.tool_consumers.specs.declared.layout.Layout.{Layout}
use Rattle.tool_consumers.specs.declared.layout.Look.{Look}
use Rattle.tool_consumers.specs.declared.layout.Layout.TheVariants.{Lines, Units}
use Rattle.vsl_dispatch.specs.Received.{HasReceived}
use Rattle.tool_consumers.specs.declared.log_consumer.LogConsumer.{LogConsumer}
use Rattle.tool_consumers.specs.Output.{laid_out, written}
use Rattle.tool_consumers.specs.inside.Consumer.{IsLog, raw_written}

-- groups are written one after another
written_append : (layout : Layout) (verbose : Bool) (gs hs : List Group) → written layout verbose (gs ++ hs) ≡ written layout verbose gs ++ written layout verbose hs
written_append Lines verbose gs hs = flat_map-append (group_text verbose) gs hs
written_append Units verbose gs hs = ap log_bytes (flat_map-append file_units gs hs) ∙ flat_map-append unit_bytes (flat_map file_units gs) (flat_map file_units hs)

pub laid_append : (l : Look) (gs hs : List Group) → laid_out l (gs ++ hs) ≡ laid_out l gs ++ laid_out l hs
laid_append l gs hs = ap (λ (all : List Group). written l.layout l.verbose all) (map-append (shown l.viewer) gs hs)
    ∙ written_append l.layout l.verbose (map (shown l.viewer) gs) (map (shown l.viewer) hs)

-- no group, no text
pub laid_nil : (l : Look) → laid_out l [] ≡ []
laid_nil l = none_written l.layout l.verbose
  where
    none_written : (layout : Layout) (verbose : Bool) → written layout verbose [] ≡ []
    none_written Lines verbose = refl
    none_written Units verbose = refl

-- more was written of more groups
pub text_more : (l : Look) (groups more : List Group) (taken old new added : List ℕ) → taken ++ old ≡ laid_out l groups → new ≡ old ++ added → added ≡ laid_out l more → taken ++ new ≡ laid_out l (groups ++ more)
text_more l groups more taken old new added before is e =
    ap (λ (x : List ℕ). taken ++ x) is ∙ sym (append_assoc taken old added) ∙ ap (λ (x : List ℕ). x ++ added) before ∙ ap (λ (x : List ℕ). laid_out l groups ++ x) e ∙ sym (laid_append l groups more)

-- records by themselves are written in units by themselves
alone_units : (vxid : ℕ) (records : List Record) → alone_bytes vxid records ≡ log_bytes (flat_map (λ rec. units_of vxid (rec ∷ [])) records)
alone_units vxid [] = refl
alone_units vxid (rec ∷ records) =
    let others : List ℕ = log_bytes (flat_map (λ r. units_of vxid (r ∷ [])) records) in
    ap (λ (x : List ℕ). unit_bytes (alone_unit vxid rec) ++ x) (alone_units vxid records)
    ∙ ap (λ (x : List ℕ). x ++ others) (sym (append-nil (unit_bytes (alone_unit vxid rec))))
    ∙ sym (flat_map-append unit_bytes (units_of vxid (rec ∷ [])) (flat_map (λ r. units_of vxid (r ∷ [])) records))

-- the units of what is shown of groups are those of the shown members
units_shown : (showing : Showing) (groups : List Group)
    → flat_map file_units (map (shown showing) groups) ≡ flat_map (λ g. flat_map (λ m. units_of m.vxid m.records) (shown showing g).members) groups
units_shown showing [] = refl
units_shown showing (group ∷ groups) = ap (λ (units : Log). file_units (shown showing group) ++ units) (units_shown showing groups)

-- what is shown of records by themselves is written as those that are shown
raw_as : (layout : Layout) (verbose : Bool) (showing : Showing) (u : LogUnit)
    → raw_written layout u.vxid (filter (is_shown_alone showing) u.records) ≡ written layout verbose (map (shown showing) (raw_groups u))
raw_as Lines verbose showing u = sym (shown_raw_text verbose showing u.vxid u.records)
raw_as Units verbose showing u =
    alone_units u.vxid (filter (is_shown_alone showing) u.records)
    ∙ ap log_bytes (sym (of_shown (λ m. units_of m.vxid m.records) showing u.vxid (λ rec. units_of u.vxid (rec ∷ [])) (λ m. refl) (λ rec. append-nil (units_of u.vxid (rec ∷ []))) u.records) ∙ sym (units_shown showing (raw_groups u)))

pub raw_laid : (l : Look) (u : LogUnit) → raw_written l.layout u.vxid (filter (is_shown_alone l.viewer) u.records) ≡ laid_out l (raw_groups u)
raw_laid l u = raw_as l.layout l.verbose l.viewer u

-- a group more was received
pub group_taken : (old new : LogConsumer) (groups : List Group) (group : Group) (taken : List ℕ) → IsLog old groups false taken → new.look ≡ old.look → HasReceived new.received (length groups + 1)
    → new.text.items ≡ old.text.items ++ laid_out old.look (group ∷ []) → IsLog new (groups ++ group ∷ []) false taken
group_taken old new groups group taken log look received text = record {
  count = rw (length-append groups (group ∷ [])) received;
  text = rw look (text_more old.look groups (group ∷ []) taken old.text.items new.text.items (laid_out old.look (group ∷ [])) log.text text refl);
}

-- records by themselves were received, where all groups are kept
pub records_taken : (old new : LogConsumer) (groups : List Group) (unit : LogUnit) (taken : List ℕ) → IsLog old groups false taken → new.look ≡ old.look → new.received.keep ≡ None
    → new.text.items ≡ old.text.items ++ laid_out old.look (raw_groups unit) → IsLog new (groups ++ raw_groups unit) false taken
records_taken old new groups unit taken log look keep text = record {
  count = λ most is. absurd (let clash = sym is ∙ keep in cc);
  text = rw look (text_more old.look groups (raw_groups unit) taken old.text.items new.text.items (laid_out old.look (raw_groups unit)) log.text text refl);
}

pub none_from : (o : Option ℕ) → is_some o ≡ false → o ≡ None
none_from None e = refl
none_from (Some n) e = absurd (cc)
