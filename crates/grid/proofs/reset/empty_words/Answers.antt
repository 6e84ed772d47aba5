-- empty_words leaves the words of an empty grid: by the laws of Emptied.antt, from what each filling ensures.
use Rattle.std.proofs.Common.{arith}
use Rattle.grid.proofs.Emptied.{refilled, to_empty}
use Rattle.grid.proofs.reset.empty_words.Goals as goal

pub unwrap-requires : goal.unwrap-requires
unwrap-requires c = (refilled _ _ _ (omega arith) c.refill_pool.ensures).0

pub returns : goal.returns
returns c =
    to_empty c.args.words.now _ (omega arith) c.fill_table.ensures _ c.fill_table-2.ensures _ c.fill_table-3.ensures _
    c.fill_table-4.ensures _ (refilled _ _ _ (omega arith) c.refill_pool.ensures).1
