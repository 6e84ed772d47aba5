-- The words as the fillings leave them, one after the other, and that they are the empty grid: a closed run, so it computes.
use mathlib.Core.Path.{◌≡◌, refl, ap, sym, ◌∙◌}
use mathlib.Core.Bool.{true, false}
use mathlib.Core.List.{List}
use Prim.Native.Nat.{ℕ}
use native.Mathlib.Omega.{arith}
use lib.IntN.{ℤ, pos}
use lib.ListN.{length, replicate}
use Rattle.base.specs.Lists.{numbers_from}
use Rattle.std.specs.Prelude.{Result, Ok, Err, IsOk, ⊤}
use Rattle.base.specs.Outcome.{Told, tells, leaves}
use Rattle.base.specs.Promise.{Changes}
use Rattle.base.specs.declared.Corrupt.{Corrupt}
use Rattle.words.specs.Map.{FIRST, NEXT, POOL, WORDS, TIMES, CURRENT}
use Rattle.words.specs.Part.{part, put}
use Rattle.index.specs.Index.{empty}
use Rattle.pool.specs.Pool.{fresh, refill}
use Rattle.pool.proofs.Laws.{refill_some}
use Rattle.tables.specs.Tables.{Tables, right_lengths, with_times, empty_tables}
use Rattle.tables.specs.Grid.{grid}
use Rattle.calls.specs.Call.{after, after_of, unless}
use Rattle.grid.specs.Grid.{Lanes, lanes_of, reset_grid}
use Rattle.grid.specs.Promise.{Empties}

-- ---- the words after each filling

abbrev pub zeros : List ℕ
zeros = replicate WORDS 0

abbrev pub firsts : List ℕ
firsts = put FIRST 256 (replicate 256 512) zeros

abbrev pub nexts : List ℕ
nexts = put NEXT 512 (replicate 512 512) firsts

abbrev pub places : List ℕ
places = put CURRENT 1024 (replicate 1024 524288) nexts

abbrev pub pools : List ℕ
pools = put POOL 513 fresh places

pub emptied : (ts : List ℤ) → grid pools ts ≡ with_times empty_tables ts
unfolding grid empty_tables empty fresh numbers_from
emptied ts = refl

module _ (w₀ w : List ℕ) (w# : length w₀ ≡ WORDS) (e : w ≡ replicate (length w₀) 0) where
  pub to_zeros : w ≡ zeros
  to_zeros = e ∙ ap (λ (n : ℕ). replicate n 0) w#

  module _ (f : List ℕ) (ef : f ≡ replicate (length (part FIRST 256 w)) 512) where
    pub to_firsts : put FIRST 256 f w ≡ firsts
    to_firsts =
        let h : f ≡ replicate 256 512 = ef ∙ ap (λ (l : List ℕ). replicate (length (part FIRST 256 l)) 512) to_zeros in
        λ j. put FIRST 256 (h j) (to_zeros j)

    module _ (n : List ℕ) (en : n ≡ replicate (length (part NEXT 512 (put FIRST 256 f w))) 512) where
      pub to_nexts : put NEXT 512 n (put FIRST 256 f w) ≡ nexts
      to_nexts =
          let h : n ≡ replicate 512 512 = en ∙ ap (λ (l : List ℕ). replicate (length (part NEXT 512 l)) 512) to_firsts in
          λ j. put NEXT 512 (h j) (to_firsts j)

      module _ (p : List ℕ) (ep : p ≡ replicate (length (part CURRENT 1024 (put NEXT 512 n (put FIRST 256 f w)))) 524288) where
        pub to_places : put CURRENT 1024 p (put NEXT 512 n (put FIRST 256 f w)) ≡ places
        to_places =
            let h : p ≡ replicate 1024 524288 = ep ∙ ap (λ (l : List ℕ). replicate (length (part CURRENT 1024 l)) 524288) to_nexts in
            λ j. put CURRENT 1024 (h j) (to_nexts j)

        module _ (q : List ℕ) (eq : q ≡ fresh) where
          pub to_pools : put POOL 513 q (put CURRENT 1024 p (put NEXT 512 n (put FIRST 256 f w))) ≡ pools
          to_pools = λ j. put POOL 513 (eq j) (to_places j)

          pub to_empty : (ts : List ℤ)
              → grid (put POOL 513 q (put CURRENT 1024 p (put NEXT 512 n (put FIRST 256 f w)))) ts ≡ with_times empty_tables ts
          to_empty ts = ap (λ (l : List ℕ). grid l ts) to_pools ∙ emptied ts

-- the pool is not refused
pub refilled : (p p' : List ℕ) (r : Result ⊤ Corrupt) → length p ≡ 513 → Changes p refill r p' → IsOk r × (p' ≡ fresh)
unfolding tells leaves
refilled p p' (Ok x) h e = let w = rw (refill_some p h) at e in (refl, sym (ap (λ (t : Told × List ℕ). t.1) w))
refilled p p' (Err x) h e =
    let w = rw (refill_some p h) at e in absurd (omega (arith, ap (λ (t : Told × List ℕ). t.0.number) w))

-- ---- the calls

-- every word and every stamp filled
pub grid_emptied : (w : List ℕ) (ts₀ ts : List ℤ) → length ts₀ ≡ TIMES →
    ((zs : List ℤ) → grid w zs ≡ with_times empty_tables zs) → ts ≡ replicate (length ts₀) (pos 0) → grid w ts ≡ empty_tables
unfolding empty_tables
grid_emptied w ts₀ ts t# g h =
    let z : ts ≡ replicate 2048 (pos 0) = h ∙ ap (λ (m : ℕ). replicate m (pos 0)) t# in
    rw (g ts, z)

-- the tables emptied, every lane idle
pub reset_emptied : (t t' : Tables) (f : Lanes) → right_lengths t ≡ true → Empties f t t' → (ls : Lanes) →
    after t ls (reset_grid t) ≡ after_of 0 t' (lanes_of f.updaters f.queries)
unfolding reset_grid unless after
reset_emptied t t' f s e ls = rw (s, e.0, e.1, e.2)

-- a wrong length
pub reset_refuses : (t : Tables) → right_lengths t ≡ false → (ls : Lanes) →
    after t ls (reset_grid t) ≡ after_of 12 t ls
unfolding reset_grid unless after
reset_refuses t s ls = rw s
