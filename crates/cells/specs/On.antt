-- What is done to chains, on all tables.
use Rattle.std.specs.Prelude.{ℕ, List, set, Option, Result}
use Rattle.base.specs.Outcome.{Outcome}
use Rattle.base.specs.Promise.{Gives}
use Rattle.base.specs.declared.Corrupt.{Corrupt}
use Rattle.base.specs.Table.{at}
use Rattle.slots.specs.Tuple.{Tuples, copy, overwrite}
use Rattle.tables.specs.Tables.{Tables, with_tuples, with_first, with_count, with_next, with_pool}
use Rattle.cells.specs.Chain.{first_bucket, last_in, Lowering, lower, give_back, Chains, chains_of, push, make_room, Writing, write}
use Rattle.cells.specs.declared.Last.{Last}
use Rattle.layout.specs.declared.place.Place.{Place}

abbrev pub first_on : Tables → ℕ → Outcome ℕ
first_on t c = first_bucket t.first c

abbrev pub last_on : Tables → ℕ → Outcome Last
last_on t c = last_in t.first t.count t.tuples.oid c

abbrev pub lower_on : Tables → ℕ → Outcome Lowering
lower_on t c = lower t.first t.count t.next c

abbrev pub with_lowering : Tables → Lowering → Tables
with_lowering t l = with_count (with_first t l.first) l.count

abbrev pub give_back_on : Tables → ℕ → Outcome (List ℕ)
give_back_on t b = give_back t.readers t.pool b

abbrev pub chains_in : Tables → Chains
chains_in t = chains_of t.first t.count t.next t.pool

abbrev pub with_chains : Tables → Chains → Tables
with_chains t d = with_pool (with_next (with_count (with_first t d.first) d.count) d.next) d.pool

-- an empty bucket put first
abbrev pub linked : Tables → ℕ → ℕ → Tables
linked t c b = with_next (with_count (with_first t (set t.first c b)) (set t.count b 0)) (set t.next b (at t.first c))

abbrev pub push_on : Tables → ℕ → Outcome Chains
push_on t c = push (chains_in t) c

abbrev pub make_room_on : Tables → ℕ → Outcome Chains
make_room_on t c = make_room (chains_in t) c

abbrev pub copy_on : Tables → ℕ → ℕ → ℕ → ℕ → Outcome Tuples
copy_on t b s b' s' = copy t.tuples b s b' s'

abbrev pub overwrite_on : Tables → ℕ → ℕ → ℕ → ℕ → ℕ → ℕ → ℕ → Outcome Tuples
overwrite_on t b s k x y m n = overwrite t.tuples b s k x y m n

abbrev pub write_on : Tables → ℕ → ℕ → ℕ → ℕ → ℕ → ℕ → Outcome Writing
write_on t c k x y m s = write t.first t.count t.tuples c k x y m s

-- ---- promises of the functions that hand back more than how they ended

abbrev pub Lowers : ℕ → Result (Option ℕ) Corrupt → Tables → Tables → Type 0
Lowers c r t t' = Gives (λ (l : Lowering). l.unlinked) (with_lowering t) t (lower_on t c) r t'

abbrev pub Writes : ℕ → ℕ → ℕ → ℕ → ℕ → ℕ → Result Place Corrupt → Tables → Tables → Type 0
Writes c k x y m n r t t' = Gives (λ (w : Writing). w.place) (λ (w : Writing). with_tuples t w.tuples) t (write_on t c k x y m n) r t'
