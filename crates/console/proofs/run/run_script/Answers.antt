-- run_script keeps `Ran`: what answer_lines left on the page is handed over.
use Rattle.std.proofs.Common.{ap, is_ok, ◌≡◌}
use Rattle.console.proofs.Sofar.{ran}
use Rattle.console.specs.declared.run.Reads.TheVariants.{Whole, Stopped, Failed}
use Rattle.console.proofs.run.run_script.Goals as goal

pub returns-in-Ok : goal.returns-in-Ok
returns-in-Ok g c = ran _ _ c.answer_lines-lines.ensures c.new-out.ensures (λ w. ap is_ok c.in-Ok.is)

pub returns-in-Err-Reading : goal.returns-in-Err-Reading
returns-in-Err-Reading g c = ran _ _ c.answer_lines-lines.ensures c.new-out.ensures (λ (w : Failed _ ≡ Whole). cc)

pub returns-in-Err-Writing : goal.returns-in-Err-Writing
returns-in-Err-Writing g c = ran _ _ c.answer_lines-lines.ensures c.new-out.ensures (λ (w : Stopped ≡ Whole). cc)

pub returns-in-Err-TooLong : goal.returns-in-Err-TooLong
returns-in-Err-TooLong g c = ran _ _ c.answer_lines-lines.ensures c.new-out.ensures (λ (w : Stopped ≡ Whole). cc)
