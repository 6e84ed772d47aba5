-- answer_lines stays in its tables and buffers, and keeps `Answered`. Each step of the loop is a law of Sofar.antt.
use Rattle.std.proofs.Common.{rules, ◌≡◌, refl, sym, ap, ◌∙◌, Ok}
use Rattle.streams.specs.declared.input.Fetched.TheVariants.{Line, End}
use Rattle.tables.specs.Grid.{grid}
use Rattle.console.proofs.Sizes.{at_start_is, started, answer_asked}
use Rattle.console.proofs.Sofar.{emptied, sofar_start, sofar_next, sofar_turn, answered_whole, answered_failed}
use Rattle.console.proofs.Leaving.{answered_over}
use Rattle.console.proofs.run.answer_lines.Goals as goal

pub loop-number-init : goal.loop-number-init
loop-number-init g c =
    let begun = c.default.ensures in
    let fresh = c.empty_grid-lanes in
    record {
      sizes = record { words = sym c.type_inv.words; times = sym c.type_inv.times; list = refl; block = refl };
      ready = started _ begun;
      sofar = sofar_start _ _ (at_start_is _ begun) (emptied (grid fresh.new.words fresh.new.times) _ _ fresh.ensures.0 fresh.ensures.1 fresh.ensures.2);
    }

pub returns-in-Ended : goal.returns-in-Ended
returns-in-Ended g c = answered_over _ _ _ c.loop-number.invariant.sofar c.in-Ended.is

pub returns-in_err-next_line : goal.returns-in_err-next_line
returns-in_err-next_line g c =
    answered_failed _ (sofar_next c.loop-number.invariant.sofar c.next_line.ensures) c.from_residual.ensures.0

pub returns-in-End : goal.returns-in-End
returns-in-End g c =
    answered_whole _ _ _ _ (sofar_next c.loop-number.invariant.sofar c.next_line.ensures) (c.in_ok-next_line.was ∙ ap Ok c.in-End.is)

pub answer_line-requires : goal.answer_line-requires
answer_line-requires g c =
    let is : c.next_line.result ≡ Ok Line = c.in_ok-next_line.was ∙ ap Ok c.in-Line.is in
    (search rules, answer_asked c.next_line.ensures.small c.loop-number.invariant.sizes.list)

pub loop-number-preserved : goal.loop-number-preserved
loop-number-preserved g c =
    let inv = c.loop-number.invariant in
    let read = c.next_line in
    let told = c.answer_line in
    record {
      sizes = record {
        words = inv.sizes.words ∙ sym told.auto.words;
        times = inv.sizes.times ∙ sym told.auto.times;
        list = inv.sizes.list ∙ sym told.auto.list;
        block = inv.sizes.block ∙ sym read.auto.block;
      };
      ready = read.ensures.ready;
      sofar =
          sofar_turn read.new.block read.new.p (sofar_next inv.sofar read.ensures) (c.in_ok-next_line.was ∙ ap Ok c.in-Line.is)
          c.as_slice.ensures.value told.ensures;
    }

pub returns : goal.returns
returns g c = answered_failed _ c.loop-number.invariant.sofar refl
