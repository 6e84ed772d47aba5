-- reset makes the empty grid: one law of Emptied.antt for each return.
use Rattle.tables.specs.Grid.{grid}
use Rattle.tables.proofs.Grid.{wrong_words, wrong_times, right_words_lem}
use Rattle.grid.proofs.Emptied.{reset_emptied, reset_refuses}
use Rattle.grid.proofs.reset.reset.Goals as goal

pub returns-in_default : goal.returns-in_default
returns-in_default c =
    reset_refuses (grid c.args.words.now c.args.times.now) (wrong_words _ _ c.in_default.ensures.cases)

pub returns-in_default-as_mut_array : goal.returns-in_default-as_mut_array
returns-in_default-as_mut_array c =
    rw c.in-Some.ensures.cases.same
    (reset_refuses (grid c.args.words.now c.args.times.now) (wrong_times _ _ c.in_default-as_mut_array.ensures.cases))

pub returns : goal.returns
returns c =
    reset_emptied (grid c.args.words.now c.args.times.now) _ c.empty_grid.result
    (right_words_lem _ _ c.in-Some.ensures.cases.long c.in-Some-as_mut_array.ensures.cases.long) c.empty_grid.ensures
