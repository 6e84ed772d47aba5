-- read_stamp tells what `stamp_of` says: one case for each return, by the magnitude and the sign.
use mathlib.Core.Path.{◌≡◌, sym, ap, ◌∙◌}
use lib.IntN.{nat_abs}
use mir.Syntax.{w32}
use mir.ValLaws.{to_z-of_z}
use Rattle.slots.proofs.Signs as signs
use Rattle.slots.proofs.stamp.read_stamp.Goals as goal

pub returns-then-not-in_range : goal.returns-then-not-in_range
returns-then-not-in_range c =
    let t : c.unsigned_abs-time.result ≡ nat_abs c.args.s = c.unsigned_abs-time.ensures.value ∙ ap nat_abs (to_z-of_z w32 _ c.ranges.s) in
    signs.no_stamp _ c.ranges.s (rw t at (sym c.if-not-in_range.ensures))

pub returns-then-s-gt0 : goal.returns-then-s-gt0
returns-then-s-gt0 c =
    let t : c.unsigned_abs-time.result ≡ nat_abs c.args.s = c.unsigned_abs-time.ensures.value ∙ ap nat_abs (to_z-of_z w32 _ c.ranges.s) in
    rw t (signs.above _ (rw (to_z-of_z w32 _ c.ranges.s) at c.if-s-gt0.true))

pub returns : goal.returns
returns c =
    let t : c.unsigned_abs-time.result ≡ nat_abs c.args.s = c.unsigned_abs-time.ensures.value ∙ ap nat_abs (to_z-of_z w32 _ c.ranges.s) in
    rw t (signs.below _ (rw t at (sym c.if-not-in_range.ensures)) (rw (to_z-of_z w32 _ c.ranges.s) at c.if-s-gt0.false))
