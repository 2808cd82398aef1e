-- What groups took from the beginning on, call by call.
use Rattle.std.proofs.Common.{◌≡◌, Bool, false, true, List, [], ◌∷◌, ◌++◌, map, Result, refl, ap, sym, ◌∙◌}
use Rattle.std.specs.Result.{OnOk}
use Rattle.std.proofs.lemmas.List.{append-nil, map-append}
use Rattle.std.proofs.lemmas.List.Elements.{filter-append}
use Rattle.std.proofs.lemmas.Result.{on_ok_weaker}
use Rattle.vsl_record.specs.Unit.{LogUnit, Log}
use Rattle.txn_rows.specs.declared.group.Group.{Group}
use Rattle.txn_rows.specs.declared.group.Grouping.{Grouping}
use Rattle.txn_rows.specs.declared.group.GroupOptions.{GroupOptions}
use Rattle.txn_rows.specs.Grouping.{Taken, TakenUnit, Missed, State, Leaving, all_taken, is_raw, is_reported, no_state, reported, taken_step, taken_steps, groups_of, unit_step, flush}
use Rattle.txn_rows.proofs.GroupingLemmas.{steps_append}
use Rattle.txn_rows.proofs.LimitLemmas.{overrun_leaves}
use Rattle.txn_partition.specs.Partition.{Regular, Calm, partition}
use Rattle.txn_partition.proofs.PartitionLemmas.{groups_parted}
use Rattle.query_parser.specs.declared.query.Query.{Query}
use Rattle.query_eval.specs.declared.chosen.Chosen.{Chosen}
use Rattle.txn_groups.specs.Groups.{GroupsState, GroupsStepped, HaveTaken, chosen}

-- of groups and more groups those are handed out that are of each
handed_both : {L : Type 0} (hand : Group → L) (grouping : Grouping) (first more : List Group) → map hand (reported grouping (first ++ more)) ≡ map hand (reported grouping first) ++ map hand (reported grouping more)
handed_both hand grouping first more = ap (map hand) (filter-append (is_reported grouping) first more) ∙ map-append hand (reported grouping first) (reported grouping more)

-- an item more was taken
pub taken_more : (taken : List Taken) (item : Taken) (before now : GroupsState) (out_before out_now : List Chosen) → HaveTaken taken before out_before →
    GroupsStepped (taken_step before.table.options item before.table.state) before now out_before out_now → HaveTaken (taken ++ item ∷ []) now out_now
taken_more taken item before now out_before out_now have stepped =
    let options : GroupOptions = before.table.options in
    let grouping : Grouping = options.grouping in
    let run : Leaving = taken_steps options taken no_state in
    let hand : Group → Chosen = chosen before.queries in
    let next : Leaving = taken_step options item run.state in
    let both = steps_append options taken (item ∷ []) no_state in
    let leaves : taken_step options item before.table.state ≡ next = ap (taken_step options item) have.state in
    let same : now.table.options ≡ options = ap (λ t. t.options) stepped.table.state in
    let left : run.groups ++ next.groups ≡ (taken_steps options (taken ++ item ∷ []) no_state).groups = ap (λ (gs : List Group). run.groups ++ gs) (sym (append-nil next.groups)) ∙ sym both.1 in
    record {
      state =
          ap (λ t. t.state) stepped.table.state
          ∙ ap (λ (r : Leaving). r.state) leaves
          ∙ sym both.0
          ∙ ap (λ (o : GroupOptions). (taken_steps o (taken ++ item ∷ []) no_state).state) (sym same);
      groups =
          stepped.table.groups
          ∙ ap (λ (r : Leaving). out_before ++ map hand (reported grouping r.groups)) leaves
          ∙ ap (λ (out : List Chosen). out ++ map hand (reported grouping next.groups)) have.groups
          ∙ sym (handed_both hand grouping run.groups next.groups)
          ∙ ap (λ (gs : List Group). map hand (reported grouping gs)) left
          ∙ ap (λ (queries : List Query). map (chosen queries) (groups_of options (taken ++ item ∷ []) false)) (sym stepped.queries)
          ∙ ap (λ (o : GroupOptions). map (chosen now.queries) (groups_of o (taken ++ item ∷ []) false)) (sym same);
    }

-- the groups of a regular and calm log, up to any that are handed out last
parted_of : (options : GroupOptions) (queries : List Query) (log : Log) (flushed : Bool) → is_raw options.grouping ≡ false → Regular log options.grouping → Calm log options →
    map (chosen queries) (groups_of options (all_taken log) flushed) ≡ map (chosen queries) (partition log options.grouping)
parted_of options queries log flushed trees regular calm = ap (map (chosen queries)) (groups_parted options log trees regular calm flushed)

-- a unit more is the last of such a log
pub unit_parted : (log : Log) (u : LogUnit) (before now : GroupsState) (out_before out_now : List Chosen) → is_raw before.table.options.grouping ≡ false → Regular (log ++ u ∷ []) before.table.options.grouping → Calm (log ++ u ∷ []) before.table.options →
    HaveTaken (all_taken log) before out_before → GroupsStepped (unit_step before.table.options u before.table.state) before now out_before out_now → out_now ≡ map (chosen before.queries) (partition (log ++ u ∷ []) before.table.options.grouping)
unit_parted log u before now out_before out_now trees regular calm have stepped =
    let options : GroupOptions = before.table.options in
    let whole : List Taken = all_taken log ++ TakenUnit u ∷ [] in
    let same : now.table.options ≡ options = ap (λ t. t.options) stepped.table.state in
    (taken_more (all_taken log) (TakenUnit u) before now out_before out_now have stepped).groups
    ∙ ap (λ (o : GroupOptions). map (chosen now.queries) (groups_of o whole false)) same
    ∙ ap (λ (queries : List Query). map (chosen queries) (groups_of options whole false)) stepped.queries
    ∙ ap (λ (taken : List Taken). map (chosen before.queries) (groups_of options taken false)) (sym (map-append TakenUnit log (u ∷ [])))
    ∙ parted_of options before.queries (log ++ u ∷ []) false trees regular calm

-- a flush at the end of such a log
pub flush_parted : (log : Log) (before now : GroupsState) (out_before out_now : List Chosen) → is_raw before.table.options.grouping ≡ false → Regular log before.table.options.grouping → Calm log before.table.options →
    HaveTaken (all_taken log) before out_before → GroupsStepped (flush before.table.state) before now out_before out_now → (out_now ≡ out_before) × (out_now ≡ map (chosen before.queries) (partition log before.table.options.grouping))
flush_parted log before now out_before out_now trees regular calm have stepped =
    let options : GroupOptions = before.table.options in
    let whole : List Taken = all_taken log ++ Missed ∷ [] in
    let same : now.table.options ≡ options = ap (λ t. t.options) stepped.table.state in
    let is : out_now ≡ map (chosen before.queries) (partition log options.grouping) =
    (taken_more (all_taken log) Missed before now out_before out_now have stepped).groups
    ∙ ap (λ (o : GroupOptions). map (chosen now.queries) (groups_of o whole false)) same
    ∙ ap (λ (queries : List Query). map (chosen queries) (groups_of options whole false)) stepped.queries
    ∙ ap (λ (left : List Group). map (chosen before.queries) (reported options.grouping left)) (overrun_leaves options (all_taken log))
    ∙ parted_of options before.queries log true trees regular calm in
    (is ∙ sym (have.groups ∙ parted_of options before.queries log false trees regular calm), is)
