-- make_room does what `make_room` says: by the tests that led to each return, then as push_bucket answers.
use mathlib.Core.Path.{refl}
use mathlib.Core.Logic.{◌≢◌}
use Prim.Native.Nat.{ℕ, ◌+◌, ◌<◌, ◌≤◌}
use native.Mathlib.Omega.{arith}
use borrow.Author.Tests.{eq-eqb, le-leb, le-ltb, lt-leb, lt-ltb, ne_eqb}
use Rattle.base.specs.Outcome.{need, pick, tells}
use Rattle.base.specs.Table.{at}
use Rattle.words.specs.Map.{FIRST}
use Rattle.tables.proofs.Grid.{first_at, count_at}
use Rattle.cells.specs.Chain.{make_room}
use Rattle.base.proofs.Ends.{refuses, comes}
use Rattle.cells.proofs.make_room.Goals as goal

short : {b : ℕ} → b ≤ 512 → b ≢ 512 → b < 512
short h k = omega arith

pub returns-then-cell-ge-CELL_COUNT : goal.returns-then-cell-ge-CELL_COUNT
unfolding make_room need pick tells
returns-then-cell-ge-CELL_COUNT c ts = refuses _ _ _ _ (rw (le-ltb _ _ c.if-cell-ge-CELL_COUNT.true))

pub returns-then-bucket-gt-NO_BUCKET : goal.returns-then-bucket-gt-NO_BUCKET
unfolding make_room need pick tells
returns-then-bucket-gt-NO_BUCKET c ts =
    refuses _ _ _ _ (rw (
      lt-ltb _ _ c.if-cell-ge-CELL_COUNT.false,
      first_at c.args.words.now ts c.args.cell
          c.if-cell-ge-CELL_COUNT.false,
      lt-leb _ _ c.if-bucket-gt-NO_BUCKET.true,
    ))

pub returns-then-bucket-eq-NO_BUCKET : goal.returns-then-bucket-eq-NO_BUCKET
unfolding make_room need pick tells
returns-then-bucket-eq-NO_BUCKET c ts =
    rw (
      lt-ltb _ _ c.if-cell-ge-CELL_COUNT.false,
      first_at c.args.words.now ts c.args.cell c.if-cell-ge-CELL_COUNT.false,
      le-leb
          _ _ c.if-bucket-gt-NO_BUCKET.false,
      eq-eqb _ _ c.if-bucket-eq-NO_BUCKET.true,
    ) (c.push_bucket.ensures ts)

pub returns-then-n-gt-BUCKET_SLOTS : goal.returns-then-n-gt-BUCKET_SLOTS
unfolding make_room need pick tells
returns-then-n-gt-BUCKET_SLOTS c ts =
    refuses _ _ _ _ (rw (
      lt-ltb _ _ c.if-cell-ge-CELL_COUNT.false,
      first_at c.args.words.now ts c.args.cell
          c.if-cell-ge-CELL_COUNT.false,
      le-leb _ _ c.if-bucket-gt-NO_BUCKET.false,
      ne_eqb _ _ c.if-bucket-eq-NO_BUCKET.false,
      count_at
          c.args.words.now ts (at c.args.words.now (FIRST + c.args.cell))
          (short c.if-bucket-gt-NO_BUCKET.false c.if-bucket-eq-NO_BUCKET.false),
      lt-leb _ _ c.if-n-gt-BUCKET_SLOTS.true,
    ))

pub returns-then-n-eq-BUCKET_SLOTS : goal.returns-then-n-eq-BUCKET_SLOTS
unfolding make_room need pick tells
returns-then-n-eq-BUCKET_SLOTS c ts =
    rw (
      lt-ltb _ _ c.if-cell-ge-CELL_COUNT.false,
      first_at c.args.words.now ts c.args.cell c.if-cell-ge-CELL_COUNT.false,
      le-leb
          _ _ c.if-bucket-gt-NO_BUCKET.false,
      ne_eqb _ _ c.if-bucket-eq-NO_BUCKET.false,
      count_at c.args.words.now ts
          (at c.args.words.now (FIRST + c.args.cell)) (short c.if-bucket-gt-NO_BUCKET.false c.if-bucket-eq-NO_BUCKET.false),
      le-leb _ _ c.if-n-gt-BUCKET_SLOTS.false,
      eq-eqb _ _ c.if-n-eq-BUCKET_SLOTS.true,
    )
    (c.push_bucket-then-n-eq-BUCKET_SLOTS.ensures ts)

pub returns : goal.returns
unfolding make_room need pick tells
returns c ts =
    comes _ _ _ _ _ _ (rw (
      lt-ltb _ _ c.if-cell-ge-CELL_COUNT.false,
      first_at c.args.words.now ts c.args.cell
          c.if-cell-ge-CELL_COUNT.false,
      le-leb _ _ c.if-bucket-gt-NO_BUCKET.false,
      ne_eqb _ _ c.if-bucket-eq-NO_BUCKET.false,
      count_at
          c.args.words.now ts (at c.args.words.now (FIRST + c.args.cell))
          (short c.if-bucket-gt-NO_BUCKET.false c.if-bucket-eq-NO_BUCKET.false),
      le-leb _ _ c.if-n-gt-BUCKET_SLOTS.false,
      ne_eqb _ _
          c.if-n-eq-BUCKET_SLOTS.false,
    )) refl
