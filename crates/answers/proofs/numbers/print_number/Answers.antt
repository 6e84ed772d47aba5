-- print_number has room for each digit of a short number: it has one, two or three.
use native.Mathlib.Omega.{arith}
use Rattle.answers.proofs.Parts.{one-length, two_length, three_length}
use Rattle.answers.proofs.numbers.print_number.Goals as goal

pub push-requires : goal.push-requires
push-requires g c = omega (arith, c.requires, one-length c.args.n (omega arith))

pub push-requires-then-n-lt100 : goal.push-requires-then-n-lt100
push-requires-then-n-lt100 g c = omega (arith, c.requires, two_length c.args.n (omega arith) (omega arith))

pub push-requires-then-n-lt100-2 : goal.push-requires-then-n-lt100-2
push-requires-then-n-lt100-2 g c =
    omega (arith, c.requires, two_length c.args.n (omega arith) (omega arith), c.push-then-n-lt100.ensures.len)

pub push-requires-then-n-lt1000 : goal.push-requires-then-n-lt1000
push-requires-then-n-lt1000 g c = omega (arith, c.requires, three_length c.args.n (omega arith) (omega arith))

pub push-requires-then-n-lt1000-2 : goal.push-requires-then-n-lt1000-2
push-requires-then-n-lt1000-2 g c =
    omega (arith, c.requires, three_length c.args.n (omega arith) (omega arith), c.push-then-n-lt1000.ensures.len)

pub push-requires-then-n-lt1000-3 : goal.push-requires-then-n-lt1000-3
push-requires-then-n-lt1000-3 g c =
    omega (
      arith,
      c.requires,
      three_length c.args.n (omega arith) (omega arith),
      c.push-then-n-lt1000.ensures.len,
      c.push-then-n-lt1000-2.ensures.len,
    )
