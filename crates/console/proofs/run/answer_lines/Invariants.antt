-- The invariant has the lengths, what the block has, and how the output so far stands (`Before`, of Sofar.antt).
use Rattle.tables.specs.Grid.{grid}
use Rattle.grid.specs.Run.{grid_of}
use Rattle.streams.specs.Next.{Ready}
use Rattle.console.proofs.Sizes.{Sizes}
use Rattle.console.proofs.Sofar.{Before}
use Rattle.console.proofs.run.answer_lines.Given as goal

abbrev pub invariant-loop-number : goal.invariant-loop-number
invariant-loop-number g l =
    record {
      sizes : Sizes l.words l.times l.list l.block;
      ready : Ready l.block l.p;
      sofar : Before l.initial.out.items l.number l.block l.p l.out.items
          (grid_of (grid l.words l.times) l.lanes.updaters l.lanes.queries) l.list;
    }
