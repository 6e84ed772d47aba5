-- What the tests of the steps say of the definitions: one step more, an empty cell and one that is not, the last bucket and another.
use mathlib.Core.Path.{◌≡◌, ◌∙◌}
use mathlib.Core.Logic.{◌≢◌}
use Prim.Native.Nat.{ℕ, ◌+◌, ◌-◌, ◌<◌}
use native.Mathlib.Omega.{arith}
use Rattle.std.specs.Prelude.{Some}
use Rattle.std.proofs.lemmas.Bool.Decides.{nat_tests}
use Rattle.base.specs.Outcome.{Outcome, corrupt, done, need, pick, and_then}
use Rattle.base.specs.Step.{said, turn_tells, turn_leaves, lift}
use Rattle.base.specs.Table.{at}
use Rattle.readers.specs.Reader.{add_reader, leave_for}
use Rattle.readers.specs.declared.Standing.{Standing}
use Rattle.regions.specs.Region.{proper}
use Rattle.slots.specs.Tuple.{Tuples, read}
use Rattle.slots.specs.declared.tuple.Seen.{Seen}
use Rattle.hits.specs.Hits.{Hits}
use borrow.Author.Tests.{ne_eqb}
use mathlib.Core.Bool.{true, false}
use Rattle.tables.specs.Tables.{Tables}
use Rattle.query.specs.Scan.{scan_number, moved, goes, counted, after_cell, standing_of, enter_free, leave_last, leave_step, consider, read_step}
use Rattle.query.specs.declared.Query.{Query}
use Rattle.query.specs.declared.Scan.{Scan}
use Rattle.query.specs.declared.Scan.TheVariants.{Read}
use Rattle.query.proofs.Landing.{on_readers}

-- the query has one step more
module _ (q n : Query) (e : done n ≡ counted q (done (moved q q.hits q.stage))) where
  pub more : n ≡ moved q q.hits q.stage
  unfolding counted need
  more = grind (arith, nat_tests)

  -- which can be counted on
  pub counts : {A : Type 0} (k : Outcome A) → counted q k ≡ k
  unfolding counted need
  counts k = grind (arith, nat_tests)

  -- a cell to be entered, empty or not
  module _ (t : Tables) (c : ℕ) (c< : c < 256) where
    pub enter_empty : at t.first c ≡ 512 → enter_free t.first t.count t.readers q c ≡ and_then (after_cell q.question c) (λ s. goes q q.hits s t.readers)
    unfolding enter_free need pick
    enter_empty z = counts _ ∙ grind (arith, nat_tests)

    pub enter_there : at t.first c ≢ 512 → enter_free t.first t.count t.readers q c ≡ and_then (add_reader t.count t.readers (at t.first c)) (λ d. goes q q.hits (Read c d.standing) d.readers)
    unfolding enter_free need pick
    enter_there z = counts _ ∙ grind (arith, nat_tests)

  -- a bucket to be left, the last one or not
  module _ (t : Tables) (c b : ℕ) (b< : b < 512) where
    pub leave_end : at t.next b ≡ 512 → leave_step t.next t.count t.readers q c b ≡ leave_last t.readers q c b
    unfolding leave_step need pick
    leave_end z = counts _ ∙ grind (arith, nat_tests)

    pub leave_there : at t.next b ≢ 512 → leave_step t.next t.count t.readers q c b ≡ and_then (leave_for t.count t.readers b (at t.next b)) (λ d. goes q q.hits (Read c d.standing) d.readers)
    unfolding leave_step need pick
    leave_there z = counts _ ∙ grind (arith, nat_tests)

  -- a slot to be read
  module _ (d : Tuples) (h : Hits) (l c : ℕ) (s : Standing) where
    pub read_stray : proper q.question ≡ false → read_step d h l q c s ≡ corrupt
    unfolding read_step need
    read_stray z = counts _ ∙ rw z

    module _ (j : ℕ) (z : proper q.question ≡ true) (m : s.left ≡ j + 1) where
      below : read_step d h l q c s ≡ and_then (read d s.bucket j) (λ t. and_then (consider h l q t) (λ k. goes q k.size (Read c (standing_of s.bucket j)) k.hits))
      unfolding read_step need
      below =
          let k : s.left - 1 ≡ j = omega arith in
          counts _ ∙ rw (z, ne_eqb s.left 0 (λ i. omega arith), k)

      pub read_none : corrupt ≡ read d s.bucket j → read_step d h l q c s ≡ corrupt
      unfolding and_then
      read_none r = below ∙ rw (← r)

      pub read_there : (t : Seen) → done t ≡ read d s.bucket j → read_step d h l q c s ≡ and_then (consider h l q t) (λ k. goes q k.size (Read c (standing_of s.bucket j)) k.hits)
      unfolding and_then
      read_there t r = below ∙ rw (← r)

-- the cell is done at once
pub passes : (t : Tables) (q : Query) (c : ℕ) (s : Scan) → done s ≡ after_cell q.question c
    → on_readers t (and_then (after_cell q.question c) (λ s. goes q q.hits s t.readers)) ≡ (said (scan_number s) (Some (moved q q.hits s)), t)
unfolding and_then turn_tells turn_leaves lift
passes t q c s e = rw (← e)
