-- What touching means, said without the nearest point: some point of the rectangle lies at most the radius away.
use Rattle.std.specs.Prelude.{◌≡◌, true, ℕ, ◌+◌, ◌≤◌}
use Rattle.layout.specs.Question.{inside}
use Rattle.layout.specs.declared.question.Question.{Question as Rectangle}
use Rattle.regions.specs.Region.{square, apart}

-- (px, py) is a point of the rectangle, and its squared distance from (x, y) is at most the radius squared
pub record Near (a : Rectangle) (r x y : ℕ) : Type 0 where
  pub px : ℕ
  pub py : ℕ
  pub there : inside a px py ≡ true
  pub close : square (apart x px) + square (apart y py) ≤ square r
