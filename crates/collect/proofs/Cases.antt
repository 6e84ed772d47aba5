-- HOW A READING, A CLEARING AND A COLLECTION END: by one of their tests, or past all of them. What holds of each end holds of the call, and an accepted one tells
-- what it has passed. The clearing repeats the first four tests of the reading, so after an accepted reading it is accepted: a collection ends as its reading does,
-- with the lane idled.
use mathlib.Core.Path.{◌≡◌, refl, ap, sym, subst}
use mathlib.Core.Bool.{Bool, true, false, not}
use mathlib.Core.List.{List}
use Prim.Native.Nat.{ℕ, ◌*◌}
use lib.Dec.{ltb, leb}
use lib.ListN.{get_or, set}
use Rattle.query.specs.declared.Query.{Query}
use Rattle.tables.specs.Tables.{Tables, right_lengths}
use Rattle.calls.specs.Call.{Result, refused, answered, unless}
use Rattle.queries.specs.Query.{idle_query, is_idle, is_finished}
use Rattle.collect.specs.Collect.{Handed, handed_of, idled, entries_from, read_query, clear_query, cleared, then_clear, collect_query}

-- what holds of a refusal and past a test holds of the test
pub by_unless : {L : Type 0} (P : Result L → Type 0) (b : Bool) (n : ℕ) (k : Result L) → P (refused n) → (b ≡ true → P k) → P (unless b n k)
unfolding unless
by_unless P true n k r f = f refl
by_unless P false n k r f = r

-- an answer has one content
answer_one : {L : Type 0} {n m : ℕ} {t u : Tables} {ls ms : L} → ◌≡◌ {A = Result L} (answered n t ls) (answered m u ms) → (m ≡ n) × (u ≡ t) × (ms ≡ ls)
answer_one e = (cc, cc, cc)

-- the tests that a reading and a clearing share
pub record Finished (t : Tables) (qs : List Query) (l : ℕ) : Type 0 where
  pub lengths : right_lengths t ≡ true
  pub lane : ltb l 4 ≡ true
  pub busy : not (is_idle (get_or qs l idle_query).stage) ≡ true
  pub over : is_finished (get_or qs l idle_query).stage ≡ true

-- those of the list besides
pub record Ready (t : Tables) (qs : List Query) (l n : ℕ) : Type 0 where
  pub query : Finished t qs l
  pub room : leb (4 * (get_or qs l idle_query).hits) n ≡ true
  pub few : leb (get_or qs l idle_query).hits 256 ≡ true

module _ (t : Tables) (qs : List Query) (l : ℕ) where
  -- the lane idled
  abbrev pub idled_lane : List Query
  idled_lane = set qs l (idled (get_or qs l idle_query))

  -- ---- a clearing

  pub clear_cases : (P : Result (List Query) → Type 0) → P (refused 12) → P (refused 1) → P (refused 3) → P (refused 10)
      → (Finished t qs l → P (answered 0 t idled_lane)) → P (clear_query t qs l)
  unfolding clear_query
  clear_cases P w1 w2 w3 w4 f =
      by_unless P _ _ _ w1 (λ a. by_unless P _ _ _ w2 (λ b. by_unless P _ _ _ w3 (λ c. by_unless P _ _ _ w4 (λ d.
      f (record { lengths = a; lane = b; busy = c; over = d })))))

  pub clear_passes : Finished t qs l → clear_query t qs l ≡ answered 0 t idled_lane
  unfolding clear_query unless
  clear_passes F = rw (F.lengths, F.lane, F.busy, F.over)

  pub record ClearDone (k : ℕ) (t' : Tables) (qs' : List Query) : Type 0 where
    pub passed : Finished t qs l
    pub number : k ≡ 0
    pub tables : t' ≡ t
    pub lanes : qs' ≡ idled_lane

  pub clear_answered : {k : ℕ} {t' : Tables} {qs' : List Query} → clear_query t qs l ≡ answered k t' qs' → ClearDone k t' qs'
  clear_answered {k} {t'} {qs'} =
      clear_cases (λ r. r ≡ answered k t' qs' → ClearDone k t' qs') (λ e. cc) (λ e. cc) (λ e. cc) (λ e. cc)
      (λ F e. let w = answer_one e in record { passed = F; number = w.0; tables = w.1; lanes = w.2 })

  module _ (n : ℕ) where
    abbrev entries : List ℕ
    entries = entries_from t.hits (256 * l) (get_or qs l idle_query).hits

    -- what a reading hands back, and what a collection does
    abbrev pub read_out : Handed
    read_out = handed_of qs (get_or qs l idle_query).steps entries

    abbrev pub taken_out : Handed
    taken_out = handed_of idled_lane (get_or qs l idle_query).steps entries

    -- ---- a reading

    pub read_cases : (P : Result Handed → Type 0) → P (refused 12) → P (refused 1) → P (refused 3) → P (refused 10) → P (refused 11)
        → (Ready t qs l n → P (answered 0 t read_out)) → P (read_query t qs l n)
    unfolding read_query
    read_cases P w1 w2 w3 w4 w5 f =
        by_unless P _ _ _ w1 (λ a. by_unless P _ _ _ w2 (λ b. by_unless P _ _ _ w3 (λ c. by_unless P _ _ _ w4 (λ d. by_unless P _ _ _ w5 (λ m. by_unless P _ _ _ w1 (λ h.
        f (record { query = record { lengths = a; lane = b; busy = c; over = d }; room = m; few = h })))))))

    pub record ReadDone (k : ℕ) (t' : Tables) (h : Handed) : Type 0 where
      pub passed : Ready t qs l n
      pub number : k ≡ 0
      pub tables : t' ≡ t
      pub handed : h ≡ read_out

    pub read_answered : {k : ℕ} {t' : Tables} {h : Handed} → read_query t qs l n ≡ answered k t' h → ReadDone k t' h
    read_answered {k} {t'} {h} =
        read_cases (λ r. r ≡ answered k t' h → ReadDone k t' h) (λ e. cc) (λ e. cc) (λ e. cc) (λ e. cc) (λ e. cc)
        (λ R e. let w = answer_one e in record { passed = R; number = w.0; tables = w.1; handed = w.2 })

    -- ---- a collection

    -- after an accepted reading the clearing is accepted
    clear_after : Ready t qs l n → then_clear l (answered 0 t read_out) ≡ answered 0 t taken_out
    unfolding then_clear cleared
    clear_after R = ap (cleared read_out) (clear_passes R.query)

    -- so a collection makes the tests of its reading
    pub collect_cases : (P : Result Handed → Type 0) → P (refused 12) → P (refused 1) → P (refused 3) → P (refused 10) → P (refused 11)
        → (Ready t qs l n → P (answered 0 t taken_out)) → P (collect_query t qs l n)
    unfolding collect_query then_clear
    collect_cases P w1 w2 w3 w4 w5 f =
        read_cases (λ r. P (then_clear l r)) w1 w2 w3 w4 w5 (λ R. subst P (sym (clear_after R)) (f R))

    pub record CollectDone (k : ℕ) (t' : Tables) (h : Handed) : Type 0 where
      pub passed : Ready t qs l n
      pub number : k ≡ 0
      pub tables : t' ≡ t
      pub handed : h ≡ taken_out

    pub collect_answered : {k : ℕ} {t' : Tables} {h : Handed} → collect_query t qs l n ≡ answered k t' h → CollectDone k t' h
    collect_answered {k} {t'} {h} =
        collect_cases (λ r. r ≡ answered k t' h → CollectDone k t' h) (λ e. cc) (λ e. cc) (λ e. cc) (λ e. cc) (λ e. cc)
        (λ R e. let w = answer_one e in record { passed = R; number = w.0; tables = w.1; handed = w.2 })
