-- THE NEXT LINE from its parts: the room that was made and the line that was read make a `NextLine`. Where the input
-- has ended, the last line is what is kept, if that is not empty.
use mathlib.Core.Path.{◌≡◌, refl, sym, ap, subst, ◌∙◌}
use mathlib.Core.Logic.{◌⊎◌, inl, inr}
use mathlib.Core.Bool.{true, false}
use mathlib.Core.List.{List, [], ◌∷◌, ◌++◌}
use Rattle.std.specs.Prelude.{Option, None, Some, Result, Ok, Err}
use Prim.Native.Nat.{ℕ, ◌≤◌}
use native.Mathlib.Omega.{arith}
use lib.Dec.{eqb}
use lib.ListN.{length}
use borrow.Author.Tests.{eqb-true, eqb-false}
use Rattle.streams.specs.Lines.{joined, last_line, kept_lines}
use Rattle.streams.specs.Reading.{coming, has_ended, unread, Fetches}
use Rattle.streams.specs.Writing.{Room}
use Rattle.streams.specs.Next.{due, NextLine}
use Rattle.streams.specs.declared.input.Fetched.{Fetched}
use Rattle.streams.specs.declared.input.Fetched.TheVariants.{End}
use Rattle.streams.specs.declared.input.Input.{Input}
use Rattle.streams.specs.declared.output.Handed.{Handed}
use Rattle.streams.specs.declared.progress.Failed.{Failed}
use Rattle.streams.specs.declared.progress.Progress.{Progress}
use Rattle.streams.specs.declared.progress.Progress.TheVariants.{Open, Ended}
use Rattle.streams.proofs.Fetching.{unread_none}

-- ---- room

room_either : {out out' : List ℕ} (o : Option Handed) → Room out out' o → (out' ≡ out) ⊎ (out' ≡ [])
room_either None r = inl r.1
room_either (Some h) r = inr r.1

room_small : (out out' : List ℕ) (o : Option Handed) → Room out out' o → length out' ≤ 5056
room_small out out' None r = omega (arith, ap length r.1)
room_small out out' (Some h) r = omega (arith, ap length r.1)

-- ---- the input had ended before

pub next_over : (block line out out' : List ℕ) (o : Option Handed) → Room out out' o → line ≡ []
    → NextLine block Ended out block line Ended out' (Ok End)
unfolding joined kept_lines last_line
next_over block line out out' o w e =
    record {
      ready = tt;
      few = omega (arith, ap length e);
      room = room_either o w;
      small = room_small out out' o w;
      blocks = [];
      allowed = λ later k. k;
      lines = λ later k. rw k;
    }

-- ---- nothing was read: reading stays where it is

pub next_unread : (block line out out' : List ℕ) (i : Input) (o : Option Handed) (f : Failed)
    → Room out out' o → line ≡ [] → i.filled ≤ length block → NextLine block (Open i) out block line (Open i) out' (Err f)
unfolding joined
next_unread block line out out' i o f w e h =
    record {
      ready = h;
      few = omega (arith, ap length e);
      room = room_either o w;
      small = room_small out out' o w;
      blocks = [];
      allowed = λ later k. tt;
      lines = λ later k. rw e;
    }

-- the input had ended, and a write failed
pub next_unwritten : (block line out out' : List ℕ) (o : Option Handed) (f : Failed) → Room out out' o → line ≡ []
    → NextLine block Ended out block line Ended out' (Err f)
unfolding joined kept_lines last_line
next_unwritten block line out out' o f w e =
    record {
      ready = tt;
      few = omega (arith, ap length e);
      room = room_either o w;
      small = room_small out out' o w;
      blocks = [];
      allowed = λ later k. k;
      lines = λ later k. rw (e, k);
    }

-- ---- a line was read, or begun

module _ {E : Type 0} {block line block' line' : List ℕ} {i i' : Input} {q : Result (Option Fetched) E} (out out' : List ℕ)
    (o : Option Handed) (w : Room out out' o) (e : line ≡ []) (f : Fetches block line i block' line' i' q) where
  first : (later : List ℕ) → kept_lines [] (unread block i.next i.filled ++ (joined f.blocks ++ later)) ≡ coming q line' (unread block' i'.next i'.filled ++ later)
  first later = ap (λ (l : List ℕ). kept_lines l (unread block i.next i.filled ++ (joined f.blocks ++ later))) (sym e) ∙ f.lines later

  -- the input has ended: the last line is what is kept, if there is something
  pub next_ended : {p : Progress} (r : Result Fetched Failed) → p ≡ Open i → q ≡ Ok (Some End) → last_line line' ≡ due r line' []
      → NextLine block p out block' line' Ended out' r
  unfolding kept_lines
  next_ended r start end last =
      subst (λ (p : Progress). NextLine block p out block' line' Ended out' r) (sym start)
      (
      let over : i'.filled ≡ 0 = f.ended (ap has_ended end) in
      let gone : unread block' i'.next i'.filled ≡ [] = unread_none block' i'.next i'.filled (omega arith) in
      record {
        ready = tt;
        few = f.within.few;
        room = room_either o w;
        small = room_small out out' o w;
        blocks = f.blocks;
        allowed = λ later k. tt;
        lines =
            λ later k.
            first later
            ∙ ap (λ (s : Result (Option Fetched) E). coming s line' (unread block' i'.next i'.filled ++ later)) end
            ∙ ap (λ (x : List ℕ). kept_lines line' (x ++ later)) gone
            ∙ ap (kept_lines line') k
            ∙ last
            ∙ ap (due r line') (sym k);
      })

-- whether something is kept
pub last_none : (line : List ℕ) → eqb (length line) 0 ≡ true → last_line line ≡ []
unfolding last_line
last_none [] e = refl
last_none (b ∷ line) e = absurd (omega (arith, eqb-true _ 0 e))

pub last_some : (line : List ℕ) → eqb (length line) 0 ≡ false → last_line line ≡ line ∷ kept_lines [] []
unfolding last_line kept_lines
last_some [] e = absurd (eqb-false 0 0 e refl)
last_some (b ∷ line) e = refl
