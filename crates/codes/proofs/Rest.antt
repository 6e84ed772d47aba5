-- WHETHER THE DECK IS AT REST, told by the numbers of the stages alone: where every lane names one, the lanes that they say are idle exactly if every number is 0.
-- Lane by lane, by what the number of a stage tells.
use mathlib.Core.Path.{◌≡◌, refl, sym, ◌∙◌}
use mathlib.Core.Bool.{true, ◌&&◌}
use mathlib.Core.List.{List}
use Prim.Native.Nat.{ℕ, zero, suc, ◌<◌}
use native.Mathlib.Omega.{arith}
use lib.Dec.{eqb, leb}
use borrow.Author.Tests.{leb-true, lt-leb, ne_eqb}
use Rattle.stage.specs.Turn.{is_idle}
use Rattle.queries.specs.Query.{is_idle as isIdleQuery}
use Rattle.rest.specs.Rest.{all_below, updaters_idle, queries_idle, is_at_rest}
use Rattle.rest.proofs.All.{all_at}
use Rattle.codes.specs.Updaters.{stage_in, updater_in}
use Rattle.codes.specs.Queries.{scan_in, query_in}
use Rattle.codes.specs.Rest.{stages_to, scans_to, updaters_in, queries_in}
use Rattle.codes.proofs.Updaters.{lane_seen}
use Rattle.codes.proofs.Queries.{lane_seen as query-seen}

-- at most 0 is 0
leb_zero : (n : ℕ) → eqb n 0 ≡ leb n 0
leb_zero zero = refl
leb_zero (suc n) = ne_eqb (suc n) 0 (λ z. omega arith) ∙ sym (lt-leb (suc n) 0 (omega arith))

updaters_told : (ns : List ℕ) → stages_to ns 14 ≡ true → updaters_idle (updaters_in ns) ≡ stages_to ns 0
unfolding updaters_idle stages_to all_below
updaters_told ns e =
    let f : (l : ℕ) → l < 8 → is_idle (updater_in ns l).stage ≡ leb (stage_in ns l) 0 = λ l h.
    lane_seen ns l (leb-true _ 14 (all_at (λ l. leb (stage_in ns l) 14) 8 e l h)) ∙ leb_zero (stage_in ns l) in
    rw (f 0 (omega arith), f 1 (omega arith), f 2 (omega arith), f 3 (omega arith), f 4 (omega arith), f 5 (omega arith), f 6 (omega arith), f 7 (omega arith))

queries_told : (ns : List ℕ) → scans_to ns 3 ≡ true → queries_idle (queries_in ns) ≡ scans_to ns 0
unfolding queries_idle scans_to all_below
queries_told ns e =
    let f : (l : ℕ) → l < 4 → isIdleQuery (query_in ns l).stage ≡ leb (scan_in ns l) 0 = λ l h.
    query-seen ns l (leb-true _ 3 (all_at (λ l. leb (scan_in ns l) 3) 4 e l h)) ∙ leb_zero (scan_in ns l) in
    rw (f 0 (omega arith), f 1 (omega arith), f 2 (omega arith), f 3 (omega arith))

pub rest_told : (us qs : List ℕ) → stages_to us 14 ≡ true → scans_to qs 3 ≡ true → is_at_rest (updaters_in us) (queries_in qs) ≡ (stages_to us 0 && scans_to qs 0)
unfolding is_at_rest
rest_told us qs e f = rw (updaters_told us e, queries_told qs f)
