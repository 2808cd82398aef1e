-- Taking the queries of a job, one behind the other.
use Rattle.std.proofs.Common.{◌≡◌, ◌⊎◌, ℕ, ◌+◌, ◌<◌, ◌≤◌, Bool, true, false, List, [], ◌∷◌, ◌++◌, length, map, take, drop, get_or, Option, Some, None, Result, Ok, Err, refl, sym, ap, subst, ◌∙◌, inl, inr, arith}
use Rattle.std.specs.Bool.{MatchBool}
use Rattle.std.specs.Result.{result_err, IfOk}
use Rattle.std.specs.Str.{IsUtf8}
use Rattle.std.proofs.lemmas.List.{append-nil, map-append, take_all, take_more, take-append-drop, length-take}
use Rattle.log_model.specs.Halts.{IfFault, OnShort}
use Rattle.log_model.specs.declared.fault.Halt.{Halt}
use Rattle.log_model.specs.declared.fault.Halt.TheVariants as halts
use Rattle.vio.specs.declared.fault.NamedFault.{NamedFault}
use Rattle.vio.specs.World.{Seen}
use Rattle.vio.specs.Calls.{Call, Called, none_failed}
use Rattle.vio.specs.Named.{IsReadBy, IsRefusedBy, IsLackedBy}
use Rattle.vio.specs.Steps.{PassedSo, TookSteps}
use Rattle.vio.proofs.CallLemmas.{none_failed_late}
use Rattle.vio.proofs.ReadLemmas.{refused_last_failed}
use Rattle.txn_rows.specs.declared.group.Group.{Group}
use Rattle.query_grammar.specs.Tree as tree
use Rattle.query_grammar.specs.Scanner.{Fault}
use Rattle.query_grammar.specs.Judging.{rules_of}
use Rattle.query_grammar.specs.Lines.{lines_of}
use Rattle.query_grammar.specs.Grammar.{Written}
use Rattle.query_grammar.specs.Fine.{IsFineQuery, IsFineText}
use Rattle.query_grammar.specs.QueryFault.{query_fault}
use Rattle.query_grammar.proofs.Lines.{lines_read}
use Rattle.query_grammar.proofs.Fine.{fine_lines_read}
use Rattle.query_grammar.proofs.TextFaults.{fault_is}
use Rattle.query_grammar.proofs.Postfix.{one_truth}
use Rattle.query_parser.specs.declared.query.Query.{Query}
use Rattle.query_parser.specs.declared.test.Test.{Test}
use Rattle.query_parser.specs.Parsed.{Means, HasTree, IsParsed, first_fault}
use Rattle.query_eval.specs.Meaning.{group_satisfies, is_held, tree_holds}
use Rattle.tool_words.specs.declared.job.Job.{Job}
use Rattle.tool_words.specs.declared.job.QueryText.{QueryText}
use Rattle.job_steps.specs.declared.fault.ToolFault.{ToolFault}
use Rattle.job_steps.specs.declared.fault.ToolFault.TheVariants.{BadQuery}
use Rattle.job_steps.specs.Queries.{Ask, AreAsked, HoldsAsAsked, joined}
use Rattle.job_steps.specs.Steps.{Step, TakeQuery, Found, FoundText, IsTextBy, Passes, Stops, named_answer, query_answer, most_query_bytes, queries_from, opens, opens_of, creates_of}
use Rattle.job_steps.specs.inside.Tasks.{HasAsk, QueryMeans, QueriesAsk}
use Rattle.job_steps.proofs.StepFacts.{text_opens, file_refused, file_lacked}
use Rattle.job_steps.proofs.ObjectLemmas.{took_one, halted_one, file_so}
use Rattle.job_steps.proofs.TookLemmas.{Both, called_so, passed_so, then_passed, then_halted, then_short}

-- ---- the text of a query

-- a fine text has no fault
fine_none : (is_tag is_decimal is_pattern : List ℕ → Bool) (most : ℕ) (text : List ℕ) (q : Written) → IsUtf8 text → IsFineText is_tag is_decimal is_pattern most text q → query_fault is_tag is_decimal is_pattern most text ≡ None
fine_none is_tag is_decimal is_pattern most text q u is =
    fault_is is_tag is_decimal is_pattern most text u
    ∙ ap result_err (lines_read (rules_of is_tag is_decimal is_pattern most) (IsFineQuery is_tag is_decimal is_pattern most) (fine_lines_read is_tag is_decimal is_pattern most) (lines_of text) 0 None q is)

-- a text that means something has no fault
first_none : (caseless : Bool) (text : List ℕ) (t : tree.Query Test) → Means caseless text t → first_fault caseless text ≡ None
first_none caseless text t p = let utf8 = p.1.0 in let fine = p.1.1 in search (fine_none)

text_fails : (b : Bool) (name word text : List ℕ) (calls : List Call) → MatchBool b (IsReadBy most_query_bytes name text calls) ((text ≡ word) × (calls ≡ [])) → none_failed calls ≡ true
text_fails true name word text calls p = ap none_failed p.1
text_fails false name word text calls p = ap none_failed p.1

-- by these calls a query was taken, or it ends the job
abbrev pub TookBy : Bool → ℕ → QueryText → Result Query (Halt ToolFault) → List Call → Type 0
TookBy caseless n query result calls = TookSteps Passes Stops (QueryMeans caseless) (opens (TakeQuery caseless n query)) (TakeQuery caseless n query ∷ []) result calls

abbrev pub TookQuery : Bool → ℕ → QueryText → Result Query (Halt ToolFault) → Seen → Seen → Type 0
TookQuery caseless n query result before now = Called (TookBy caseless n query result) before now

-- what a text's query is, or its fault, or that there was no memory for it
text_took : (caseless : Bool) (n : ℕ) (query : QueryText) (text : List ℕ) (result : Result Query (Halt ToolFault)) (calls : List Call) → IsTextBy query text calls → IfOk result (λ found. IsParsed caseless text found)
    → IfFault result (λ fault. (why : Fault) × (first_fault caseless text ≡ Some why) × (fault ≡ BadQuery n (query_answer why))) → TookBy caseless n query result calls
text_took caseless n query text (Ok found) calls by p q =
    took_one (QueryMeans caseless) (opens (TakeQuery caseless n query)) (TakeQuery caseless n query) (FoundText text) found calls (text, refl, by, first_none caseless text p.0 p.1)
    (record { text = text; are = refl; means = p.0; is = p.1; has_tree = p.2 }) (text_fails query.file query.text query.text text calls by)
text_took caseless n query text (Err (halts.Fault fault)) calls by p q =
    halted_one (opens (TakeQuery caseless n query)) (TakeQuery caseless n query) fault calls (inr (text, q.0, by, q.1, q.2)) (none_failed_late calls (text_fails query.file query.text query.text text calls by))
text_took caseless n query text (Err halts.NoMemory) calls by p q = text_opens query.file query.text query.text text calls by

-- the query of a word
pub word_took : (caseless : Bool) (n : ℕ) (query : QueryText) (result : Result Query (Halt ToolFault)) (s : Seen) → query.file ≡ false → IfOk result (λ found. IsParsed caseless query.text found)
    → IfFault result (λ fault. (why : Fault) × (first_fault caseless query.text ≡ Some why) × (fault ≡ BadQuery n (query_answer why))) → TookQuery caseless n query result s s
word_took caseless n query result s word p q = record {
  calls = [];
  did = refl;
  is = text_took caseless n query query.text result [] (file_so query.file _ _ word (refl, refl)) p q;
}

-- ---- the file of a query

-- the query of a file that was read
pub file_read : (caseless : Bool) (n : ℕ) (query : QueryText) (text : List ℕ) (result : Result Query (Halt ToolFault)) (s t : Seen) → query.file ≡ true → Called (IsReadBy most_query_bytes query.text text) s t → IfOk result (λ found. IsParsed caseless text found)
    → IfFault result (λ fault. (why : Fault) × (first_fault caseless text ≡ Some why) × (fault ≡ BadQuery n (query_answer why))) → TookQuery caseless n query result s t
file_read caseless n query text result s t file read p q =
    called_so (λ calls is. text_took caseless n query text result calls (rw file is) p q) read

-- how a file that isn't read is answered, or that there was no memory for the answer
file_halted : (caseless : Bool) (n : ℕ) (query : QueryText) (why : NamedFault) (answer : Halt ToolFault) (calls : List Call) → query.file ≡ true → IsRefusedBy most_query_bytes query.text why calls
    → (answer ≡ halts.Fault (named_answer most_query_bytes query.text why)) ⊎ (answer ≡ halts.NoMemory) → TookBy caseless n query (Err answer) calls
file_halted caseless n query why answer calls file p (inl e) = rw e
    (halted_one (opens (TakeQuery caseless n query)) (TakeQuery caseless n query) (named_answer most_query_bytes query.text why) calls (inl (file, (why, p, refl))) (refused_last_failed most_query_bytes query.text why calls p))
file_halted caseless n query why answer calls file p (inr e) = rw e (file_refused query.file query.text why calls file p)

file_short : (caseless : Bool) (n : ℕ) (query : QueryText) (answer : Halt ToolFault) (calls : List Call) → query.file ≡ true → IsLackedBy query.text calls → answer ≡ halts.NoMemory → TookBy caseless n query (Err answer) calls
file_short caseless n query answer calls file p e = rw e (file_lacked query.file query.text calls file p)

pub file_took : (A : Type 0) (caseless : Bool) (n : ℕ) (query : QueryText) (halt : Halt NamedFault) (answer : Halt ToolFault) (s t : Seen) → query.file ≡ true
    → IfFault {A = A} (Err halt) (λ why. Called (IsRefusedBy most_query_bytes query.text why) s t) → OnShort {A = A} (Err halt) (Called (IsLackedBy query.text) s t)
    → ((why : NamedFault) → halt ≡ halts.Fault why → (answer ≡ halts.Fault (named_answer most_query_bytes query.text why)) ⊎ (answer ≡ halts.NoMemory)) → (halt ≡ halts.NoMemory → answer ≡ halts.NoMemory)
    → TookQuery caseless n query (Err answer) s t
file_took A caseless n query (halts.Fault why) answer s t file stops lacks answers short = called_so (λ calls is. file_halted caseless n query why answer calls file is (answers why refl)) stops
file_took A caseless n query halts.NoMemory answer s t file stops lacks answers short = called_so (λ calls is. file_short caseless n query answer calls file is (short refl)) lacks

-- ---- several queries

queries_append : (caseless : Bool) (n : ℕ) (xs ys : List QueryText) → queries_from caseless n (xs ++ ys) ≡ queries_from caseless n xs ++ queries_from caseless (n + length xs) ys
queries_append caseless n [] ys = ap (λ (k : ℕ). queries_from caseless k ys) (omega arith)
queries_append caseless n (x ∷ xs) ys =
    let place : n + 1 + length xs ≡ n + length (x ∷ xs) = omega arith in
    ap (λ (steps : List Step). TakeQuery caseless n x ∷ steps) (queries_append caseless (n + 1) xs ys ∙ ap (λ (k : ℕ). queries_from caseless (n + 1) xs ++ queries_from caseless k ys) place)

-- queries create nothing
pub queries_create : (caseless : Bool) (n : ℕ) (xs : List QueryText) → creates_of (queries_from caseless n xs) ≡ []
queries_create caseless n [] = refl
queries_create caseless n (x ∷ xs) = queries_create caseless (n + 1) xs

-- the first queries and those behind them
queries_parts : (caseless : Bool) (xs : List QueryText) (n : ℕ) → queries_from caseless 0 xs ≡ queries_from caseless 0 (take n xs) ++ queries_from caseless (0 + length (take n xs)) (drop n xs)
queries_parts caseless xs n = ap (λ (qs : List QueryText). queries_from caseless 0 qs) (sym (take-append-drop n xs)) ∙ queries_append caseless 0 (take n xs) (drop n xs)

-- one query more
queries_more : (caseless : Bool) (xs : List QueryText) (n : ℕ) (query : QueryText) → n < length xs → query ≡ get_or xs n query → queries_from caseless 0 (take (n + 1) xs) ≡ queries_from caseless 0 (take n xs) ++ TakeQuery caseless n query ∷ []
queries_more caseless xs n query within is =
    let place : 0 + length (take n xs) ≡ n = omega (arith, length-take n xs, within) in
    ap (λ (qs : List QueryText). queries_from caseless 0 qs) (take_more xs n query within ∙ ap (λ (q : QueryText). take n xs ++ q ∷ []) (sym is))
    ∙ queries_append caseless 0 (take n xs) (query ∷ []) ∙ ap (λ (k : ℕ). queries_from caseless 0 (take n xs) ++ TakeQuery caseless k query ∷ []) place

-- a query, those before it and those behind it
queries_at : (caseless : Bool) (xs : List QueryText) (n : ℕ) (query : QueryText) → n < length xs → query ≡ get_or xs n query
    → queries_from caseless 0 xs ≡ queries_from caseless 0 (take n xs) ++ (TakeQuery caseless n query ∷ []) ++ queries_from caseless (0 + length (take (n + 1) xs)) (drop (n + 1) xs)
queries_at caseless xs n query within is =
    queries_parts caseless xs (n + 1) ∙ ap (λ (steps : List Step). steps ++ queries_from caseless (0 + length (take (n + 1) xs)) (drop (n + 1) xs)) (queries_more caseless xs n query within is)

-- texts were found, and what was read so far is what they ask
pub record TakenSo (caseless : Bool) (found : Option Query) (us : List Found) : Type 0 where
  pub texts : List (List ℕ)
  pub are : us ≡ map FoundText texts
  pub ask : Ask
  pub asked : AreAsked caseless None texts ask
  pub has_ask : HasAsk found ask

-- of the queries of a job the first were taken
abbrev pub TakenUntil : Job → ℕ → Option Query → Seen → Seen → Type 0
TakenUntil job n found before now = Called (PassedSo Passes Stops (TakenSo job.caseless found) (queries_from job.caseless 0 (take n job.queries))) before now

-- all were taken, or they end the job
abbrev pub TookQueries : Job → Result Query (Halt ToolFault) → Seen → Seen → Type 0
TookQueries job result before now = Called (TookSteps Passes Stops (QueriesAsk job.caseless) (opens_of (queries_from job.caseless 0 job.queries)) (queries_from job.caseless 0 job.queries) result) before now

asked_more : (caseless : Bool) (earlier : Ask) (texts : List (List ℕ)) (ask : Ask) (text : List ℕ) (t : tree.Query Test) → AreAsked caseless earlier texts ask → Means caseless text t
    → AreAsked caseless earlier (texts ++ text ∷ []) (Some (joined ask t))
asked_more caseless earlier [] ask text t p means = (t, means, ap (λ (x : Ask). Some (joined x t)) p)
asked_more caseless earlier (first ∷ texts) ask text t p means = (p.0, p.1, asked_more caseless (Some (joined earlier p.0)) texts ask text t p.2 means)

so_more : (caseless : Bool) (found : Option Query) (next all : Query) (us : List Found) → ((ask : Ask) (means : tree.Query Test) → HasAsk found ask → HasTree next means → HasTree all (joined ask means)) → Both (TakenSo caseless found) (QueryMeans caseless next) us
    → TakenSo caseless (Some all) us
so_more caseless found next all us both p = let a = p.first_so in let b = p.last_so in record {
  texts = a.texts ++ b.text ∷ [];
  are = p.are ∙ (λ k. a.are k ++ b.are k) ∙ sym (map-append FoundText a.texts (b.text ∷ []));
  ask = Some (joined a.ask b.means);
  asked = asked_more caseless None a.texts a.ask b.text b.means a.asked b.is;
  has_ask = both a.ask b.means a.has_ask b.has_tree;
}

-- one query more passed, behind the first
next_passed : (job : Job) (n : ℕ) (found : Option Query) (query : QueryText) (next : Query) (r s t : Seen) → n < length job.queries → query ≡ get_or job.queries n query → TakenUntil job n found r s → TookQuery job.caseless n query (Ok next) s t
    → Called (PassedSo Passes Stops (Both (TakenSo job.caseless found) (QueryMeans job.caseless next)) (queries_from job.caseless 0 (take (n + 1) job.queries))) r t
next_passed job n found query next r s t within is p q = rw (queries_more job.caseless job.queries n query within is)
    (then_passed (TakenSo job.caseless found) (QueryMeans job.caseless next) (queries_from job.caseless 0 (take n job.queries)) (TakeQuery job.caseless n query ∷ []) r s t p q)

-- one query more was taken
pub taken_more : (job : Job) (n : ℕ) (found : Option Query) (query : QueryText) (next all : Query) (r s t : Seen) → n < length job.queries → query ≡ get_or job.queries n query
    → ((ask : Ask) (means : tree.Query Test) → HasAsk found ask → HasTree next means → HasTree all (joined ask means)) → TakenUntil job n found r s → TookQuery job.caseless n query (Ok next) s t → TakenUntil job (n + 1) (Some all) r t
taken_more job n found query next all r s t within is both p q = passed_so (λ us so. so_more job.caseless found next all us both so) (next_passed job n found query next r s t within is p q)

-- a query ends the job
pub taken_halted : (job : Job) (n : ℕ) (found : Option Query) (query : QueryText) (halt : Halt ToolFault) (r s t : Seen) → n < length job.queries → query ≡ get_or job.queries n query → TakenUntil job n found r s → TookQuery job.caseless n query (Err halt) s t
    → TookQueries job (Err halt) r t
taken_halted job n found query halt r s t within is p q =
    then_halted (TakenSo job.caseless found) (queries_from job.caseless 0 (take n job.queries)) (TakeQuery job.caseless n query ∷ []) (queries_from job.caseless (0 + length (take (n + 1) job.queries)) (drop (n + 1) job.queries))
    (queries_from job.caseless 0 job.queries) (opens (TakeQuery job.caseless n query)) halt r s t (queries_at job.caseless job.queries n query within is) (queries_create job.caseless 0 (take n job.queries)) (append-nil (opens (TakeQuery job.caseless n query))) p q

-- there is no memory behind the first queries
pub taken_short : (job : Job) (n : ℕ) (IsFirst : List Found → Type 0) (r s : Seen) → Called (PassedSo Passes Stops IsFirst (queries_from job.caseless 0 (take n job.queries))) r s → TookQueries job (Err halts.NoMemory) r s
taken_short job n IsFirst r s p =
    then_short IsFirst (queries_from job.caseless 0 (take n job.queries)) (queries_from job.caseless (0 + length (take n job.queries)) (drop n job.queries)) (queries_from job.caseless 0 job.queries) r s
    (queries_parts job.caseless job.queries n) (queries_create job.caseless 0 (take n job.queries)) p

-- there is no memory to join a query to those before it
pub joined_short : (job : Job) (n : ℕ) (found : Option Query) (query : QueryText) (next : Query) (r s t : Seen) → n < length job.queries → query ≡ get_or job.queries n query → TakenUntil job n found r s → TookQuery job.caseless n query (Ok next) s t
    → TookQueries job (Err halts.NoMemory) r t
joined_short job n found query next r s t within is p q = taken_short job (n + 1) (Both (TakenSo job.caseless found) (QueryMeans job.caseless next)) r t (next_passed job n found query next r s t within is p q)

-- ---- the end

tree_held : (query : Query) (t : tree.Query Test) (group : Group) → HasTree query t → is_held query group ≡ tree_holds t group
tree_held query t group p = rw (p.asks, p.steps, one_truth (group_satisfies group) t) refl

pub some_held : (query : Query) (ask : Ask) → HasAsk (Some query) ask → HoldsAsAsked query ask
some_held query None p = absurd p
some_held query (Some t) p = record { each = λ group. tree_held query t group p }

-- all queries were taken
pub taken_all : (job : Job) (n : ℕ) (found : Option Query) (query : Query) (r s : Seen) → length job.queries ≤ n → ((ask : Ask) → HasAsk found ask → HoldsAsAsked query ask) → TakenUntil job n found r s → TookQueries job (Ok query) r s
taken_all job n found query r s end holds p =
    let all = subst (λ (qs : List QueryText). Called (PassedSo Passes Stops (TakenSo job.caseless found) (queries_from job.caseless 0 qs)) r s) (take_all n job.queries end) p in
    passed_so (λ us so. record { texts = so.texts; are = so.are; ask = so.ask; asked = so.asked; holds = holds so.ask so.has_ask }) all
