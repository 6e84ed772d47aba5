-- shift_place does what `shift` says of the index: one case for each return, by the test of the entry and by what decode_place and encode_place ensure of their answers.
use mathlib.Core.Path.{sym}
use Prim.Native.Nat.{◌+◌}
use native.Mathlib.Omega.{arith}
use borrow.Author.Tests.{le-ltb, lt-ltb}
use Rattle.std.proofs.lemmas.Result.{err_from_is_err_and}
use Rattle.base.specs.Outcome.{need, outcome_map, leaves, and_then}
use Rattle.base.specs.Table.{at}
use Rattle.words.specs.Map.{INDEX-CURRENT, INDEX-PREVIOUS}
use Rattle.words.proofs.Parts.{part_length, part_at}
use Rattle.index.specs.Places.{shift}
use Rattle.index.proofs.Room.{put_places_lem}
use Rattle.index.proofs.place.shift_place.Goals as goal

pub returns-then-at-ge-ENTRY_COUNT : goal.returns-then-at-ge-ENTRY_COUNT
unfolding shift need outcome_map leaves and_then
returns-then-at-ge-ENTRY_COUNT c =
    rw (part_length c.args.index.now INDEX-CURRENT 512 (omega (arith, c.requires)), le-ltb _ _ c.if-at-ge-ENTRY_COUNT.true)

pub returns-in_err-old : goal.returns-in_err-old
unfolding shift need outcome_map leaves and_then
returns-in_err-old c =
    rw (
      (err_from_is_err_and c.from_residual.result c.from_residual.ensures.1).1,
      part_length c.args.index.now INDEX-CURRENT 512 (omega (arith, c.requires)),
      part_length c.args.index.now INDEX-PREVIOUS 512 (omega (arith, c.requires)),
      lt-ltb _ _ c.if-at-ge-ENTRY_COUNT.false,
      part_at c.args.index.now INDEX-CURRENT 512 c.args.at 0 c.if-at-ge-ENTRY_COUNT.false,
      sym c.in_err-old.ensures,
    )

pub returns-in_err-new : goal.returns-in_err-new
unfolding shift need outcome_map leaves and_then
returns-in_err-new c =
    rw (
      (err_from_is_err_and c.from_residual-in_err-new.result c.from_residual-in_err-new.ensures.1).1,
      part_length c.args.index.now INDEX-CURRENT 512 (omega (arith, c.requires)),
      part_length c.args.index.now INDEX-PREVIOUS 512 (omega (arith, c.requires)),
      lt-ltb _ _ c.if-at-ge-ENTRY_COUNT.false,
      part_at c.args.index.now INDEX-CURRENT 512 c.args.at 0 c.if-at-ge-ENTRY_COUNT.false,
      sym c.in_ok-old.ensures,
      sym c.in_err-new.ensures,
    )

pub returns : goal.returns
unfolding shift need outcome_map leaves and_then
returns c =
    rw (
      part_length c.args.index.now INDEX-CURRENT 512 (omega (arith, c.requires)),
      part_length c.args.index.now INDEX-PREVIOUS 512 (omega (arith, c.requires)),
      lt-ltb _ _ c.if-at-ge-ENTRY_COUNT.false,
      part_at c.args.index.now INDEX-CURRENT 512 c.args.at 0 c.if-at-ge-ENTRY_COUNT.false,
      sym c.in_ok-old.ensures,
      sym c.in_ok-new.ensures,
      put_places_lem c.args.index.now c.requires c.args.at
          c.if-at-ge-ENTRY_COUNT.false (at c.args.index.now (INDEX-CURRENT + c.args.at)) c.in_ok-new.new,
    )
