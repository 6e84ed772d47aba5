-- Whether a line's call hands a list back, by the line that was read; which text a line prints, by the number; and a
-- run that ended, where its progress is another's.
use mathlib.Core.Path.{◌≡◌, refl, sym, subst}
use mathlib.Core.Logic.{◌≢◌}
use mathlib.Core.Bool.{Bool, true, false, not}
use Rattle.std.specs.Prelude.{Option, None, Some}
use mathlib.Core.List.{List}
use Prim.Native.Nat.{ℕ, ◌/◌}
use borrow.Author.Tests.{eq-eqb, ne_eqb, not-true, not-false}
use Rattle.base.specs.Outcome.{pick}
use Rattle.script.specs.Grammar.{Command}
use Rattle.script.specs.Parse.{list_says, read_tells, line_says}
use Rattle.script.proofs.Told.{read_of}
use Rattle.script.specs.declared.line.Line.{Line}
use Rattle.script.specs.declared.line.Line.TheVariants.{Update, Query, OnList}
use Rattle.script.specs.declared.line.UpdateLine.TheVariants.{Start, Step}
use Rattle.script.specs.declared.line.QueryLine.TheVariants.{Start as StartQuery, Step as StepQuery}
use Rattle.script.specs.declared.line.ListLine.{ListLine}
use Rattle.script.specs.declared.line.Wish.{Wish}
use Rattle.script.specs.declared.line.Wish.TheVariants.{Both, Read as ReadList, Clear}
use Rattle.answers.specs.Answer.{answer_line, collection}
use Rattle.streams.specs.declared.progress.Progress.{Progress}
use Rattle.lines.specs.Line.{lists}
use Rattle.console.specs.Text.{text_of}
use Rattle.console.specs.Run.{Ran}
use Rattle.console.specs.declared.run.Ended.{Ended}

-- ---- whether a line's call hands a list back

pub no_list : (s : Option Line) → ((w : ListLine) → s ≡ Some (OnList w) → ⊥) → lists (line_says s).next ≡ false
unfolding lists
no_list None o = refl
no_list (Some (Update (Start u))) o = refl
no_list (Some (Update (Step l))) o = refl
no_list (Some (Query (StartQuery q))) o = refl
no_list (Some (Query (StepQuery l))) o = refl
no_list (Some (OnList w)) o = absurd (o w refl)

pub wish_listed : (w : Wish) (l : ℕ) → (w ≡ Clear → ⊥) → lists (Some (list_says w l)) ≡ true
unfolding lists
wish_listed Both l o = refl
wish_listed ReadList l o = refl
wish_listed Clear l o = absurd (o refl)

pub listed : (s : Option Line) (w : ListLine) → s ≡ Some (OnList w) → (w.wish ≡ Clear → ⊥)
    → lists (line_says s).next ≡ true
listed s w e o = rw e (wish_listed w.wish w.lane o)

pub unlisted : (s : Option Line) (w : ListLine) → s ≡ Some (OnList w) → w.wish ≡ Clear
    → lists (line_says s).next ≡ false
unfolding lists
unlisted s w e c = rw (e, c)

-- ---- the text

module _ (i : ℕ) (c : Option Command) (n k f : ℕ) (list : List ℕ) (s : Option Line) (e : read_tells c ≡ line_says s)
    (b : Bool) (l : lists (line_says s).next ≡ b) where
  -- no list
  pub text_other : not b ≡ true → answer_line i n ≡ text_of i c n k f list
  unfolding text_of pick
  text_other o = rw (read_of c e, l, not-true b o)

  -- a refused collection or reading
  pub text_refused : not b ≡ false → n ≢ 0 → answer_line i n ≡ text_of i c n k f list
  unfolding text_of pick
  text_refused o h = rw (read_of c e, l, not-false b o, ne_eqb n 0 h)

  -- an accepted one
  pub text_listed : not b ≡ false → n ≡ 0 → collection i k list (f / 4) ≡ text_of i c n k f list
  unfolding text_of pick
  text_listed o h = rw (read_of c e, l, not-false b o, eq-eqb n 0 h)

-- ---- the end of a run

pub ran_as : {p q : Progress} (f : Progress → Ended) → p ≡ q → Ran (f q) → Ran (f p)
ran_as f e r = subst (λ (x : Progress). Ran (f x)) (sym e) r
