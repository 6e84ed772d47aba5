-- answer_line makes a `Turn`: what line_step ensures, and what is printed, are its two parts.
use Rattle.std.proofs.Common.{rules, ap, ◌∙◌, ◌++◌, List, ℕ}
use Rattle.answers.specs.Answer.{answer_line}
use Rattle.calls.proofs.Runs.{no_step}
use Rattle.console.proofs.Texts.{told_refused}
use Rattle.console.proofs.Turns.{print_asked, turn_made}
use Rattle.console.proofs.turn.answer_line.Goals as goal

pub print_step-requires : goal.print_step-requires
print_step-requires g c =
    (search rules, print_asked _ _ _ _ _ _ _ _ c.in-Ok.ensures.answers _ c.requires.0 c.line_step.auto.out c.requires.1)

pub returns-in-Ok : goal.returns-in-Ok
returns-in-Ok g c =
    turn_made _ _ _ _ _ _ _ _ c.in-Ok.ensures.answers _ _ _ (c.print_step.ensures _ c.in-Ok.ensures.lists)

pub returns-in-Err : goal.returns-in-Err
returns-in-Err g c =
    turn_made _ _ _ _ _ _ _ _ c.in-Err.ensures.answers _ _ _
    (c.print_answer.ensures
    ∙ ap (λ (l : List ℕ). c.args.out.now.items ++ l)
    (ap (answer_line c.args.number) c.from.ensures ∙ told_refused _ _ _ _ _ _ (no_step c.in-Err.refusal).0))
