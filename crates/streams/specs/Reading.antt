-- WHAT READING PROMISES. The kit cannot say which bytes `read` gives; a promise speaks of the blocks that it handed
-- over, and says which lines are to come of them, whatever bytes come later.
use Rattle.std.specs.Prelude.{◌≡◌, Bool, true, false, List, [], ◌∷◌, ◌++◌, ℕ, ◌<◌, ◌≤◌, length, take, drop}
use Rattle.std.specs.Prelude.{Option, None, Some, Result, Ok, Err}
use Rattle.script.specs.Split.{Kept}
use Rattle.streams.specs.Lines.{joined, kept_lines}
use Rattle.streams.specs.declared.input.Fetched.{Fetched}
use Rattle.streams.specs.declared.input.Fetched.TheVariants.{Line, End}
use Rattle.streams.specs.declared.input.Input.{Input}

-- ---- what each outcome of reading means; none where the line goes on

module _ {E : Type 0} where
  -- whether the input has ended
  abbrev pub has_ended : Result (Option Fetched) E → Bool
  has_ended (Ok None) = false
  has_ended (Ok (Some Line)) = false
  has_ended (Ok (Some End)) = true
  has_ended (Err e) = false

  -- the lines that are to come, with what is kept of a line and the bytes behind it: that line and those of the bytes
  -- where it is all there, else those of the bytes, which go on with it
  abbrev pub coming : Result (Option Fetched) E → List ℕ → List ℕ → List (List ℕ)
  coming (Ok None) kept bytes = kept_lines kept bytes
  coming (Ok (Some Line)) kept bytes = kept ∷ kept_lines [] bytes
  coming (Ok (Some End)) kept bytes = kept_lines kept bytes
  coming (Err e) kept bytes = kept_lines kept bytes

  -- how many bytes a read gave: some, or none where the input has ended or the read failed
  abbrev pub Gives : Result (Option Fetched) E → ℕ → Type 0
  Gives (Ok None) n = 0 < n
  Gives (Ok (Some Line)) n = ⊥
  Gives (Ok (Some End)) n = n ≡ 0
  Gives (Err e) n = n ≡ 0

-- ---- what the functions promise

-- the bytes of a block that are still to be read
abbrev pub unread : List ℕ → ℕ → ℕ → List ℕ
unread block next filled = drop next (take filled block)

-- a place in a block, and as many bytes of a line as are kept at most
pub record Within (block line : List ℕ) (p : Input) : Type 0 where
  pub filled : p.filled ≤ length block
  pub few : length line ≤ 61

module _ {E : Type 0} where
  -- ANOTHER BLOCK was read, and none of it is used yet.
  pub record NewBlock (block : List ℕ) (p : Input) (r : Result (Option Fetched) E) : Type 0 where
    pub start : p.next ≡ 0
    pub within : p.filled ≤ length block
    pub gives : Gives r p.filled

  -- ONE TURN. Where nothing is left of the block another one was read, and the line is as it was. Else the block is as
  -- it was, and the line goes on in it as `Kept` says: its line feed was met, or the rest of the block belongs to it.
  pub data Turned (block line : List ℕ) (p : Input) (block' line' : List ℕ) (p' : Input)
      (r : Result (Option Fetched) E) : Type 0 where
    another : p.filled ≤ p.next → line' ≡ line → NewBlock block' p' r → Turned block line p block' line' p' r
    met : p.next < p.filled → block' ≡ block → p'.filled ≡ p.filled → r ≡ Ok (Some Line)
        → Kept (take p.filled block) p.next line line' (Some p'.next)
        → Turned block line p block' line' p' r
    onward : p.next < p.filled → block' ≡ block → p'.filled ≡ p.filled → p'.next ≡ p.filled → r ≡ Ok None
        → Kept (take p.filled block) p.next line line' None
        → Turned block line p block' line' p' r

  -- A LINE WAS READ: there are blocks, those that `read` gave meanwhile, such that the lines to come are those of the
  -- bytes that were unread, of these blocks, and of what comes later.
  pub record Fetches (block line : List ℕ) (p : Input) (block' line' : List ℕ) (p' : Input)
      (r : Result (Option Fetched) E) : Type 0 where
    pub within : Within block' line' p'
    pub ended : has_ended r ≡ true → p'.filled ≡ 0
    pub blocks : List (List ℕ)
    pub lines : (later : List ℕ)
        → kept_lines line (unread block p.next p.filled ++ (joined blocks ++ later))
        ≡ coming r line' (unread block' p'.next p'.filled ++ later)
