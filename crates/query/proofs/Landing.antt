-- A step on its own tables, seen on all of them in the words, by what the functions that it calls answered.
use mathlib.Core.Path.{◌≡◌, sym, ap, ◌∙◌}
use mathlib.Core.List.{List}
use Prim.Native.Nat.{ℕ}
use native.Mathlib.Omega.{arith}
use lib.IntN.{ℤ}
use lib.ListN.{length}
use Rattle.std.specs.Prelude.{Result, Ok, Err, None, Some, ⊤}
use Rattle.base.specs.Answer.{attempt_of}
use Rattle.base.specs.Outcome.{Outcome, corrupt, done, and_then, tells, nothing}
use Rattle.base.specs.Promise.{ChangesIn, Gives}
use Rattle.base.specs.Step.{Said, said, Step, turned, turn_tells, turn_leaves, lift}
use Rattle.base.specs.declared.Corrupt.{Corrupt as Broken}
use Rattle.base.specs.declared.Stop.{Stop}
use Rattle.base.specs.declared.Stop.TheVariants.{Corrupt, Blocked}
use Rattle.base.proofs.Outcome.{told_corrupt, told_blocked}
use Rattle.base.proofs.Step.{lifted}
use Rattle.words.specs.Map.{READERS, HITS-SIZE, WORDS}
use Rattle.words.specs.Words.{readers_in, hits_in, put_readers, put_hits}
use Rattle.words.proofs.Parts.{part_length}
use Rattle.hits.specs.Hits.{Hits, Listing, hits_at}
use Rattle.hits.proofs.Answers.{noted_corrupt, noted_size}
use Rattle.readers.specs.Reader.{Reading, take_reader}
use Rattle.readers.specs.declared.Standing.{Standing}
use Rattle.readers.proofs.Answers.{stood_corrupt, stood_in, took_corrupt, took_done, take_or}
use Rattle.tables.specs.Tables.{Tables, with_readers, with_hits}
use Rattle.tables.specs.Grid.{grid}
use Rattle.tables.proofs.Grid.{put_readers_lem, put_hits_lem}
use Rattle.query.specs.Scan.{progress_says, scan_number, moved, goes, after_cell, leave_last}
use Rattle.query.specs.declared.Query.{Query}
use Rattle.query.specs.declared.Scan.{Scan}
use Rattle.query.specs.declared.Scan.TheVariants.{Read}

-- what a step over the readers gives on all tables
abbrev pub on_readers : Tables → Outcome (Step Query (List ℕ)) → Said Query × Tables
on_readers t o = turned t (lift (with_readers t) o)

-- and one over the hits
abbrev pub on_hits : Tables → Outcome (Step Query Hits) → Said Query × Tables
on_hits t o = turned t (lift (with_hits t) o)

module _ (w : List ℕ) (ts : List ℤ) where
  -- nothing changed
  pub stays : (o : Outcome (Step Query (List ℕ))) (s : Said Query) (w' : List ℕ) → w' ≡ w → turned (readers_in w) o ≡ (s, readers_in w) → on_readers (grid w ts) o ≡ (s, grid w' ts)
  unfolding grid
  stays o s w' p e = lifted (with_readers (grid w ts)) (readers_in w) o s (readers_in w) e ∙ ap (λ (l : List ℕ). (s, grid l ts)) (sym p)

  -- the readers changed
  pub reads : (o : Outcome (Step Query (List ℕ))) (s : Said Query) → length w ≡ WORDS → (w' rs : List ℕ) → put_readers w rs ≡ w' → length rs ≡ 512 → turned (readers_in w) o ≡ (s, rs) → on_readers (grid w ts) o ≡ (s, grid w' ts)
  unfolding grid
  reads o s w# w' rs p r# e =
      lifted (with_readers (grid w ts)) (readers_in w) o s rs e
      ∙ ap (λ (t : Tables). (s, t)) (sym (put_readers_lem w ts w# rs r#) ∙ ap (λ (l : List ℕ). grid l ts) p)

  -- the readers are those in the words afterwards
  pub reads_there : (o : Outcome (Step Query (List ℕ))) (s : Said Query) → length w ≡ WORDS → (w' : List ℕ) → length w' ≡ length w → put_readers w (readers_in w') ≡ w' → turned (readers_in w) o ≡ (s, readers_in w')
      → turned (grid w ts) (lift (with_readers (grid w ts)) o) ≡ (s, grid w' ts)
  reads_there o s w# w' k p e = reads o s w# w' (readers_in w') p (part_length w' READERS 512 (omega arith)) e

  module _ (o : Outcome (Step Query Hits)) (s : Said Query) where
    -- the hits stay as they are
    pub keeps : turned (hits_at (hits_in w)) o ≡ (s, hits_at (hits_in w)) → on_hits (grid w ts) o ≡ (s, grid w ts)
    unfolding grid
    keeps e = lifted (with_hits (grid w ts)) (hits_at (hits_in w)) o s (hits_at (hits_in w)) e

    -- the hits changed
    pub notes : length w ≡ WORDS → (l : List ℕ) → length l ≡ HITS-SIZE → turned (hits_at (hits_in w)) o ≡ (s, hits_at l) → on_hits (grid w ts) o ≡ (s, grid (put_hits w l) ts)
    unfolding grid
    notes w# l l# e = lifted (with_hits (grid w ts)) (hits_at (hits_in w)) o s (hits_at l) e ∙ ap (λ (t : Tables). (s, t)) (sym (put_hits_lem w ts w# l l#))

  -- a step that goes on as the query comes to stand
  module _ (w# : length w ≡ WORDS) (w' : List ℕ) (w'# : length w' ≡ WORDS) (q : Query) (c : ℕ) (o : Outcome Reading) where
    abbrev stands : Outcome (Step Query (List ℕ))
    stands = and_then o (λ d. goes q q.hits (Read c d.standing) d.readers)

    module _ {r : Result Standing Broken} (e : Gives (λ (d : Reading). d.standing) (λ (d : Reading). put_readers w d.readers) w o r w') where
      pub stands_off : {x : Broken} → r ≡ Err x → on_readers (grid w ts) stands ≡ (said 12 None, grid w' ts)
      unfolding and_then turn_tells turn_leaves
      stands_off p = let s = stood_corrupt w w' o e p in stays stands (said 12 None) w' s.1 (rw s.0)

      pub stands_on : (s : Standing) → r ≡ Ok s → on_readers (grid w ts) stands ≡ (said 0 (Some (moved q q.hits (Read c s))), grid w' ts)
      unfolding and_then turn_tells turn_leaves
      stands_on s p =
          let d = stood_in w w' o e w# (w'# ∙ sym w#) s p in
          reads_there stands (said 0 (Some (moved q q.hits (Read c s)))) w# w' (w'# ∙ sym w#) d.1 (rw d.0)

  -- a step that leaves the last bucket of a chain
  module _ (w# : length w ≡ WORDS) (w' : List ℕ) (w'# : length w' ≡ WORDS) (q : Query) (c b : ℕ) {r : Result ⊤ Broken} (e : ChangesIn put_readers (λ u. take_reader (readers_in u) b) r w w') where
    pub taken_off : {x : Broken} → r ≡ Err x → on_readers (grid w ts) (leave_last (readers_in w) q c b) ≡ (said 12 None, grid w' ts)
    unfolding leave_last and_then turn_tells turn_leaves
    taken_off p =
        let d = took_corrupt w w' (take_reader (readers_in w) b) e p in
        stays (leave_last (readers_in w) q c b) (said 12 None) w' d.1 (rw d.0)

    pub taken_on : {x : ⊤} → r ≡ Ok x → (s : Scan) → done s ≡ after_cell q.question c → on_readers (grid w ts) (leave_last (readers_in w) q c b) ≡ (said (scan_number s) (Some (moved q q.hits s)), grid w' ts)
    unfolding leave_last and_then turn_tells turn_leaves
    taken_on p s a =
        let d = took_done w w' (take_reader (readers_in w) b) e w# (w'# ∙ sym w#) p in
        reads_there (leave_last (readers_in w) q c b) (said (scan_number s) (Some (moved q q.hits s))) w# w' (w'# ∙ sym w#) d.1 (rw (d.0, ← a))

  -- a step that goes on with what is noted of a tuple
  module _ (w# : length w ≡ WORDS) (l : List ℕ) (l# : length l ≡ HITS-SIZE) (q : Query) (c : ℕ) (s : Standing) (o : Outcome Listing) where
    abbrev noting : Outcome (Step Query Hits)
    noting = and_then o (λ n. goes q n.size (Read c s) n.hits)

    module _ {r : Result ℕ Broken} (e : Gives (λ (n : Listing). n.size) (λ (n : Listing). n.hits) (hits_at (hits_in w)) o r (hits_at l)) where
      pub notes_off : {x : Broken} → r ≡ Err x → on_hits (grid w ts) noting ≡ (said 12 None, grid (put_hits w l) ts)
      unfolding and_then turn_tells turn_leaves
      notes_off p =
          let d = noted_corrupt (hits_at (hits_in w)) (hits_at l) o e p in
          notes noting (said 12 None) w# l l# (rw (d.0, d.1))

      pub notes_on : {n : ℕ} → r ≡ Ok n → on_hits (grid w ts) noting ≡ (said 0 (Some (moved q n (Read c s))), grid (put_hits w l) ts)
      unfolding and_then turn_tells turn_leaves
      notes_on {n = n} p =
          notes noting (said 0 (Some (moved q n (Read c s)))) w# l l# (rw (noted_size (hits_at (hits_in w)) (hits_at l) o e n p))

-- a cell after which there is no way on refuses it, whatever becomes of the reader
pub leave_lost : (l : List ℕ) (q : Query) (c b : ℕ) → corrupt ≡ after_cell q.question c → leave_last l q c b ≡ corrupt
unfolding leave_last and_then
leave_lost l q c b e = take_or l b (λ t. rw t) (λ r t. rw (t, ← e))

-- a step that looks at a lock first
module _ {A : Type 0} (t : Tables) (o : Outcome A) (k : A → Outcome (Step Query (List ℕ))) where
  pub lock_off : (x : Stop) → tells nothing o ≡ tells nothing (attempt_of {A = ⊤} (Err x)) → on_readers t (and_then o k) ≡ (progress_says (Err x), t)
  unfolding tells and_then lift turn_tells turn_leaves
  lock_off Corrupt e = rw (told_corrupt nothing o e)
  lock_off Blocked e = rw (told_blocked nothing o e)
