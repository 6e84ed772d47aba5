-- The words as the fillings leave them keep their length, and the pool is not refused.
use mathlib.Core.Path.{◌≡◌, ap, sym, ◌∙◌}
use mathlib.Core.List.{List}
use Prim.Native.Nat.{ℕ}
use lib.ListN.{length, replicate}
use Rattle.base.specs.Lists.{numbers_from}
use Rattle.base.specs.Outcome.{corrupt, done}
use Rattle.base.proofs.Table.{clash}
use Rattle.words.specs.Map.{FIRST, NEXT, POOL, WORDS, CURRENT}
use Rattle.words.specs.Part.{part, put}
use Rattle.pool.specs.Pool.{fresh, refill}
use Rattle.pool.proofs.Laws.{refill_some, refill_fresh}
use Rattle.grid.proofs.Emptied.{to_zeros, to_firsts, to_nexts, to_places, to_pools}

module _ (w₀ w : List ℕ) (w# : length w₀ ≡ WORDS) (e : w ≡ replicate (length w₀) 0) where
  pub zeros_length : length w ≡ WORDS
  zeros_length = ap length (to_zeros w₀ w w# e)

  module _ (f : List ℕ) (ef : f ≡ replicate (length (part FIRST 256 w)) 512) where
    abbrev after_firsts : List ℕ
    after_firsts = put FIRST 256 f w

    pub firsts_length : length after_firsts ≡ WORDS
    firsts_length = ap length (to_firsts w₀ w w# e f ef)

    module _ (n : List ℕ) (en : n ≡ replicate (length (part NEXT 512 after_firsts)) 512) where
      abbrev after_nexts : List ℕ
      after_nexts = put NEXT 512 n after_firsts

      pub nexts_length : length after_nexts ≡ WORDS
      nexts_length = ap length (to_nexts w₀ w w# e f ef n en)

      module _ (p : List ℕ) (ep : p ≡ replicate (length (part CURRENT 1024 after_nexts)) 524288) where
        abbrev after_places : List ℕ
        after_places = put CURRENT 1024 p after_nexts

        pub places-length : length after_places ≡ WORDS
        places-length = ap length (to_places w₀ w w# e f ef n en p ep)

        pub pool_length : length (part POOL 513 after_places) ≡ 513
        pool_length = ap (λ (l : List ℕ). length (part POOL 513 l)) (to_places w₀ w w# e f ef n en p ep)

        -- the pool is not refused
        pub pool_refused : refill (part POOL 513 after_places) ≡ corrupt → ⊥
        pool_refused r = let s = refill_some (part POOL 513 after_places) pool_length in clash (cc)

        pub pools_length : (q : List ℕ) → refill (part POOL 513 after_places) ≡ done q
            → length (put POOL 513 q after_places) ≡ length w₀
        unfolding fresh numbers_from
        pools_length q eq = ap length (to_pools w₀ w w# e f ef n en p ep q (refill_fresh _ q eq)) ∙ sym w#
