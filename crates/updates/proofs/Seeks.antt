-- The object index in the words, as a start uses it: whether there is room, and the object entered.
use mathlib.Core.Path.{◌≡◌, refl, sym, ap, ◌∙◌}
use mathlib.Core.Bool.{true}
use mathlib.Core.List.{List, []}
use Prim.Native.Nat.{ℕ}
use lib.Dec.{ltb}
use lib.IntN.{ℤ}
use lib.ListN.{length}
use Rattle.base.specs.Outcome.{Told, Outcome, corrupt, blocked, done, tells, leaves, ended, nothing}
use Rattle.words.specs.Map.{INDEX, WORDS}
use Rattle.words.specs.Part.{part}
use Rattle.words.specs.Words.{index_in, put_index}
use Rattle.index.specs.Search.{search as sought, known}
use Rattle.index.specs.Index.{Index, index_at, enter}
use Rattle.index.specs.declared.search.Search.{Search}
use Rattle.index.specs.declared.search.Search.TheVariants.{Found, Empty}
use Rattle.tables.specs.Tables.{Tables, with_index}
use Rattle.tables.specs.Grid.{grid}
use Rattle.tables.proofs.Grid.{put_index_lem}
use Rattle.tables.proofs.Entries.{oids_lent}
use Rattle.updates.specs.Update.{search_has_room}

leaves_index : (t : Tables) (o : Outcome Index) → leaves (with_index t) t o ≡ with_index t (leaves (λ (d : Index). d) t.index o)
unfolding leaves
leaves_index t corrupt = refl
leaves_index t blocked = refl
leaves_index t (done d) = refl

-- a known object
pub room_known : (s : Search) (l : List ℕ) {i : ℕ} → s ≡ Found i → search_has_room s l ≡ true
unfolding search_has_room
room_known s l q = rw q

module _ (w : List ℕ) (ts : List ℤ) (w# : length w ≡ WORDS) where
  -- a new one
  pub room_new : (s : Search) {i n : ℕ} → s ≡ Empty i → n ≡ known (part INDEX 512 w) → search_has_room s (grid w ts).index.oid ≡ ltb n 256
  unfolding search_has_room
  room_new s q e = rw (q, e) (ap (λ (l : List ℕ). ltb (known l) 256) (oids_lent w ts w#))

  pub enters : (k : ℕ) (s : Told) (v : List ℕ) → length v ≡ 2048 → ended nothing (λ (d : Index). d) (index_at (index_in w)) (enter (index_at (index_in w)) k) ≡ (s, index_at v)
      → ended nothing (with_index (grid w ts)) (grid w ts) (enter (grid w ts).index k) ≡ (s, grid (put_index w v) ts)
  unfolding grid
  enters k s v v# e =
      let o = enter (index_at (index_in w)) k in
      ap (λ (t : Tables). (tells nothing o, t)) (leaves_index (grid w ts) o)
      ∙ ap (λ (p : Told × Index). (p.0, with_index (grid w ts) p.1)) e
      ∙ ap (λ (t : Tables). (s, t)) (sym (put_index_lem w ts w# v v#))

-- where it is entered
pub there : (w : List ℕ) (k : ℕ) (s : Search) → ((ts : List ℤ) → sought (grid w ts).index.oid k ≡ s) → s ≡ sought (part 0 512 (index_in w)) k
unfolding grid
there w k s h = sym (h [])
