-- Who is told what was read knows it: the answers of the reading functions carry it.
use mathlib.Core.Path.{◌≡◌, refl, sym, ap, ◌∙◌}
use Rattle.std.specs.Prelude.{Option, None, Some}
use Rattle.base.specs.Step.{Said}
use Rattle.script.specs.Parse.{read_tells}

read_next : {A : Type 0} (o : Option A) → (read_tells o).next ≡ o
read_next None = refl
read_next (Some a) = refl

pub read_of : {A : Type 0} (o : Option A) {s : Said A} → read_tells o ≡ s → o ≡ s.next
read_of {A} o e = sym (read_next o) ∙ ap (λ (s : Said A). s.next) e
