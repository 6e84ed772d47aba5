-- empty_grid makes the empty grid: its words and its stamps are those of the fillings.
use Rattle.std.proofs.Common.{arith}
use Rattle.grid.proofs.Emptied.{grid_emptied}
use Rattle.grid.proofs.reset.empty_grid.Goals as goal

pub returns : goal.returns
returns c = (
  grid_emptied c.empty_words.new.words c.args.times.now _ (omega arith) c.empty_words.ensures c.fill_table.ensures,
  c.idle_updaters.ensures,
  c.idle_queries.ensures,
)
