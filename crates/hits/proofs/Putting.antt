-- An entry written over, column by column, in the one list of the four.
use mathlib.Core.Path.{◌≡◌, sym}
use mathlib.Core.List.{List}
use Prim.Native.Nat.{ℕ, ◌+◌, ◌<◌}
use native.Mathlib.Omega.{arith}
use lib.ListN.{length, set}
use Rattle.words.specs.Map.{HIT-XS, HIT-YS, HIT-TAGS, HITS-SIZE}
use Rattle.words.proofs.Columns.{quarter_0, quarter_1, quarter_2, quarter_3}
use Rattle.slots.specs.declared.tuple.Seen.{Seen}
use Rattle.hits.specs.Hits.{hits_of, hits_at, put_hit}

module _ (l : List ℕ) (l# : length l ≡ HITS-SIZE) (i : ℕ) (h : i < 1024) (t : Seen) where
  pub put_all : put_hit (hits_at l) i t ≡ hits_at (set (set (set (set l i t.oid) (HIT-XS + i) t.x) (HIT-YS + i) t.y) (HIT-TAGS + i) t.tag)
  put_all =
      let o = quarter_0 l 1024 i h t.oid t.x t.y t.tag (omega arith) in
      let x = quarter_1 l 1024 i h t.oid t.x t.y t.tag (omega arith) in
      let y = quarter_2 l 1024 i h t.oid t.x t.y t.tag (omega arith) in
      let m = quarter_3 l 1024 i h t.oid t.x t.y t.tag (omega arith) in
      sym (λ j. hits_of (o j) (x j) (y j) (m j))
