-- What each operation on chains comes to on all tables: one law for each of its ends, by what stands in the tables.
use mathlib.Core.Path.{◌≡◌, sym, ap, ◌∙◌}
use mathlib.Core.Logic.{◌≢◌, ◌⊎◌, inl, inr}
use Rattle.std.specs.Prelude.{Option, None, Some}
use mathlib.Core.List.{List, []}
use Prim.Native.Nat.{ℕ, ◌+◌, ◌-◌, ◌*◌, ◌<◌, ◌≤◌}
use borrow.Author.Tests.{eq-eqb, le-leb, lt-leb, lt-ltb, ne_eqb}
use native.Mathlib.Omega.{arith}
use lib.ListN.{set}
use Rattle.base.specs.Outcome.{Told, says, Outcome, corrupt, done, need, awaits, pick, and_then, outcome_map, leaves, ended, nothing}
use Rattle.base.specs.Table.{at}
use Rattle.layout.specs.declared.place.Place.{Place}
use Rattle.pool.specs.Pool.{Took, take_top, give}
use Rattle.slots.specs.Tuple.{Tuples, overwrite}
use Rattle.tables.specs.Tables.{Tables, with_first, with_count, with_pool, with_tuples}
use Rattle.cells.specs.Chain.{need_some, Lowering, lower, give_back, chains_of, push, Writing, write}
use Rattle.cells.specs.On.{first_on, lower_on, with_lowering, give_back_on, linked, with_chains, push_on, write_on}
use Rattle.base.proofs.Ends.{refuses, comes, within}
use Rattle.base.proofs.Answer.{gives, gives_none}

pub lt_last : {b n : ℕ} → b < 512 → n ≢ 0 → n ≤ 4 → 4 * b + (n - 1) < 2048
lt_last h z f = omega arith

-- a count that is not from 1 to 4
pub no_count : {A : Type 0} (n : ℕ) (k : Outcome A) → (n ≡ 0) ⊎ ((n ≡ 0 → ⊥) × (4 < n)) → need_some n k ≡ corrupt
unfolding need_some need
no_count n k (inl e) = rw (eq-eqb n 0 e)
no_count n k (inr h) = rw (ne_eqb n 0 h.0, lt-leb n 4 h.1)

-- b: the first bucket of cell c, as first_bucket answers; n: its count
module _ (t : Tables) (c b n : ℕ) (fb : first_on t c ≡ done b) (nb : at t.count b ≡ n) where
  abbrev lowers : Outcome (Option ℕ) → Tables → Type 0
  lowers o t' = ◌≡◌ {A = Outcome (Option ℕ) × Tables} (outcome_map (λ (l : Lowering). l.unlinked) (lower_on t c), leaves (with_lowering t) t (lower_on t c)) (o, t')

  pub kept : n ≢ 0 → n ≤ 4 → n ≢ 1 → (t' : Tables) → t' ≡ with_count t (set t.count b (n - 1)) → lowers (done None) t'
  unfolding lower need_some need pick and_then
  kept z f o t' p =
      gives (λ (l : Lowering). l.unlinked) (with_lowering t) t (lower_on t c) t' (record { unlinked = None; first = t.first; count = set t.count b (n - 1) })
      (rw (fb, nb, ne_eqb n 0 z, le-leb n 4 f, ne_eqb n 1 o)) p

  pub unlinked : n ≢ 0 → n ≤ 4 → n ≡ 1 → (m : ℕ) → at t.next b ≡ m → m ≤ 512 → (t' : Tables) → t' ≡ with_count (with_first t (set t.first c m)) (set t.count b 0) → lowers (done (Some b)) t'
  unfolding lower need_some need pick and_then
  unlinked z f o m q k t' p =
      gives (λ (l : Lowering). l.unlinked) (with_lowering t) t (lower_on t c) t' (record { unlinked = Some b; first = set t.first c m; count = set t.count b 0 })
      (rw (fb, nb, ne_eqb n 0 z, le-leb n 4 f, eq-eqb n 1 o, q, le-leb m 512 k)) p

  -- a tuple is written, as overwrite_tuple answers
  module _ (k x y m s : ℕ) (n< : n < 4) where
    abbrev writes : Outcome Place → Tables → Type 0
    writes o t' = ◌≡◌ {A = Outcome Place × Tables} (outcome_map (λ (w : Writing). w.place) (write_on t c k x y m s), leaves (λ (w : Writing). with_tuples t w.tuples) t (write_on t c k x y m s)) (o, t')

    pub written : (d : Tuples) → overwrite t.tuples b n k x y m s ≡ done d → (t' : Tables) → with_tuples t d ≡ t' → writes (done (record { cell = c; bucket = b; slot = n })) t'
    unfolding write need and_then
    written d e t' p =
        gives (λ (w : Writing). w.place) (λ (w : Writing). with_tuples t w.tuples) t (write_on t c k x y m s) t' (record { place = record { cell = c; bucket = b; slot = n }; tuples = d })
        (rw (fb, nb, lt-ltb n 4 n<, e)) (sym p)

    pub unwritten : overwrite t.tuples b n k x y m s ≡ corrupt → (t' : Tables) → t' ≡ t → writes corrupt t'
    unfolding write need and_then
    unwritten e t' p =
        gives_none (λ (w : Writing). w.place) (λ (w : Writing). with_tuples t w.tuples) t (write_on t c k x y m s) t'
        (rw (fb, nb, lt-ltb n 4 n<, e)) p

-- a bucket without readers is given back, as give_bucket answers
pub returned : (t : Tables) (b n : ℕ) → b < 512 → at t.readers b ≡ n → n ≤ 4 → n ≡ 0 → (s : Told) (p : List ℕ) → ended nothing (λ (q : List ℕ). q) t.pool (give t.pool b) ≡ (s, p) → (t' : Tables) → t' ≡ with_pool t p → ended nothing (with_pool t) t (give_back_on t b) ≡ (s, t')
unfolding give_back need awaits
returned t b n b< r f z s p e t' q = rw (lt-ltb b 512 b<, r, le-leb n 4 f, eq-eqb n 0 z) (within nothing (with_pool t) t.pool (give t.pool b) s p t' e q)

-- what take_bucket handed back, and the pool then
pub took : {o : Outcome Took} {b : ℕ} {p : List ℕ} → (a : Took) × (o ≡ done a) × (a.bucket ≡ b) × (a.pool ≡ p) → o ≡ done (record { bucket = b; pool = p })
took (a, e, x, y) = e ∙ ap done (λ i. record { bucket = x i; pool = y i })

-- a bucket from the pool is put first
pub pushed : (t : Tables) (c b : ℕ) (p : List ℕ) → c < 256 → take_top t.pool ≡ done (record { bucket = b; pool = p }) → (t' : Tables) → t' ≡ linked (with_pool t p) c b → ended nothing (with_chains t) t (push_on t c) ≡ (says 0 [], t')
unfolding push need and_then
pushed t c b p c< e t' q =
    comes nothing (with_chains t) t (push_on t c) t' (chains_of (set t.first c b) (set t.count b 0) (set t.next b (at t.first c)) p)
    (rw (lt-ltb c 256 c<, e)) q

pub dry : (t : Tables) (c : ℕ) → c < 256 → take_top t.pool ≡ corrupt → (t' : Tables) → t' ≡ t → ended nothing (with_chains t) t (push_on t c) ≡ (says 12 [], t')
unfolding push need and_then
dry t c c< e t' p = refuses nothing (with_chains t) t (push_on t c) (rw (lt-ltb c 256 c<, e)) ∙ ap (λ (u : Tables). (says 12 [], u)) (sym p)
