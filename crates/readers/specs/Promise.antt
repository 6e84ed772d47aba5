-- What the functions that put a reader into a bucket promise: r is where the query stands then, and nothing but the readers has changed.
use Rattle.std.specs.Prelude.{Result, List, ℕ}
use Rattle.base.specs.Lent.{Lent}
use Rattle.base.specs.Outcome.{Outcome}
use Rattle.base.specs.Promise.{Gives}
use Rattle.base.specs.declared.Corrupt.{Corrupt}
use Rattle.words.specs.Words.{put_readers}
use Rattle.readers.specs.Reader.{Reading}
use Rattle.readers.specs.declared.Standing.{Standing}

abbrev pub Stands : Lent (List ℕ) → Outcome Reading → Result Standing Corrupt → Type 0
Stands words o r = Gives (λ (d : Reading). d.standing) (λ (d : Reading). put_readers words.old d.readers) words.old o r words.new
