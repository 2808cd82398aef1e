-- Worked rows of the reports, computed from the definitions.
use Rattle.std.proofs.Common.{◌≡◌, ℕ, List, [], ◌∷◌, ◌++◌, map, refl}
use Rattle.std.specs.Prelude.{codes, replicate}
use Rattle.std.specs.List.{range_with_len}
use Rattle.std.specs.Fmt.{digits}
use Rattle.serde_json.proofs.OnLiterals.{serde_json_on_literals}
use Rattle.vsl_stat.specs.Report.{format_of, selected, stat_json, stat_list, stat_text}

-- one counter matches
misses_alone : selected (codes "MAIN.cache_m*" ∷ []) ≡ 5 ∷ []
misses_alone = refl

-- without globs all are selected
all_without_globs : selected [] ≡ range_with_len 0 21
all_without_globs = refl

-- a name and a line feed
misses_listed : stat_list (codes "MAIN.cache_m*" ∷ []) ≡ codes "MAIN.cache_miss\n"
misses_listed = refl

-- a name, a value and what is counted
miss_line : stat_text (0 ∷ 0 ∷ 0 ∷ 0 ∷ 0 ∷ 1 ∷ []) (codes "MAIN.cache_miss" ∷ []) ≡ codes "MAIN.cache_miss" ++ replicate 27 32 ++ codes "1 Cache misses\n"
unfolding digits
miss_line = refl

request_line : stat_text (0 ∷ 20000 ∷ []) (codes "MAIN.client_req" ∷ []) ≡ codes "MAIN.client_req" ++ replicate 23 32 ++ codes "20000 Good client requests received\n"
unfolding digits
request_line = refl

-- values for examples: number 2 has 3, every other 0
abbrev three_hits : List ℕ
three_hits = 0 ∷ 0 ∷ 3 ∷ []

hits_as_json : stat_json three_hits (codes "MAIN.cache_hit" ∷ []) ≡ codes "{\"counters\":{\"MAIN.cache_hit\":{\"description\":\"Cache hits\",\"flag\":\"c\",\"format\":\"i\",\"value\":3}},\"version\":1}\n"
unfolding digits serde_json_on_literals
hits_as_json = refl

-- the names stand in the order of their bytes, and not of the numbers
names_in_order : stat_json [] (codes "MAIN.client_req" ∷ codes "MAIN.backend_conn" ∷ []) ≡ codes "{\"counters\":{\"MAIN.backend_conn\":{\"description\":\"Backend conn. success\",\"flag\":\"c\",\"format\":\"i\",\"value\":0},\"MAIN.client_req\":{\"description\":\"Good client requests received\",\"flag\":\"c\",\"format\":\"i\",\"value\":0}},\"version\":1}\n"
unfolding digits serde_json_on_literals
names_in_order = refl

two_selected : selected (codes "MAIN.client_req" ∷ codes "MAIN.backend_conn" ∷ []) ≡ 1 ∷ 6 ∷ []
two_selected = refl

-- four counters count bytes
formats : map format_of (range_with_len 0 21) ≡ map (λ _. codes "i") (range_with_len 0 12) ++ map (λ _. codes "B") (range_with_len 12 4) ++ map (λ _. codes "i") (range_with_len 16 5)
formats = refl

-- nothing is selected
nothing_as_json : stat_json [] (codes "none" ∷ []) ≡ codes "{\"counters\":{},\"version\":1}\n"
unfolding digits serde_json_on_literals
nothing_as_json = refl
