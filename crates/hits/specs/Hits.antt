-- The results of range queries (document 01: the lists of the sweeps): object, x, y and tag of each hit. The list of query l begins at entry 256 × l.
-- Crates above use the laws of proofs/Look.antt and do not unfold `look_from`.
use Rattle.std.specs.Prelude.{◌≡◌, List, Option, None, Some, Result, ℕ, zero, suc, ◌+◌, ◌*◌, ◌-◌, eqb, ltb, leb, set}
use Rattle.base.specs.Outcome.{Outcome, done, need, pick}
use Rattle.base.specs.Promise.{Gives}
use Rattle.base.specs.Table.{at}
use Rattle.base.specs.declared.Corrupt.{Corrupt}
use Rattle.words.specs.Map.{HIT-XS, HIT-YS, HIT-TAGS}
use Rattle.words.specs.Part.{part}
use Rattle.slots.specs.declared.tuple.Seen.{Seen}
use Rattle.hits.specs.declared.Lookup.{Lookup}

pub record Hits : Type 0 where
  pub oid : List ℕ
  pub x : List ℕ
  pub y : List ℕ
  pub tag : List ℕ

abbrev pub hits_of : List ℕ → List ℕ → List ℕ → List ℕ → Hits
hits_of o x y m = record { oid = o; x = x; y = y; tag = m }

-- the four tables in one list of 4,096 numbers
abbrev pub hits_at : List ℕ → Hits
hits_at l = hits_of (part 0 1024 l) (part HIT-XS 1024 l) (part HIT-YS 1024 l) (part HIT-TAGS 1024 l)

-- a tuple's object, place and tag at an entry
abbrev pub put_hit : Hits → ℕ → Seen → Hits
put_hit h i t = hits_of (set h.oid i t.oid) (set h.x i t.x) (set h.y i t.y) (set h.tag i t.tag)

-- Look object k up in n entries from i on: the first that matches is meant.
unfoldable pub look_from : List ℕ → ℕ → ℕ → ℕ → Option ℕ
look_from l k zero i = None
look_from l k (suc n) i = pick (eqb (at l i) k) (Some i) (look_from l k n (suc i))

-- How many of n entries from i on a look-up looks at, by what it finds:
-- up to and with the match, or all if there is none.
unfoldable pub looked_at : Option ℕ → ℕ → ℕ → ℕ
looked_at (Some j) n i = j - i + 1
looked_at None n i = n

-- the promise of a look-up in n entries from i on that finds o: the entry, and how many it looked at
abbrev pub Finds : Option ℕ → ℕ → ℕ → Lookup → Type 0
Finds o n i r = (r.listed ≡ o) × (r.looked ≡ looked_at o n i)

-- the lists, and the size of the query's own
pub record Listing : Type 0 where
  pub hits : Hits
  pub size : ℕ

abbrev pub listing_of : Hits → ℕ → Listing
listing_of h n = record { hits = h; size = n }

-- A tuple whose object is listed replaces its entry in its place if it is current; one whose object is not listed is added at the end.
unfoldable pub enlist : Hits → ℕ → ℕ → Seen → Option ℕ → Outcome Listing
enlist h l n t (Some i) = pick t.deleted (done (listing_of h n)) (done (listing_of (put_hit h i t) n))
enlist h l n t None = need (ltb n 256) (done (listing_of (put_hit h (256 * l + n) t) (n + 1)))

-- Note a tuple in the list of query l, which has n entries.
unfoldable pub note : Hits → ℕ → ℕ → Seen → Outcome Listing
note h l n t = need (leb n 256) (enlist h l n t (look_from h.oid t.oid n (256 * l)))

-- the promise of noting a tuple: r is the size of the list afterwards
abbrev pub Notes : (Hits → Outcome Listing) → Result ℕ Corrupt → Hits → Hits → Type 0
Notes f r h h' = Gives (λ (d : Listing). d.size) (λ (d : Listing). d.hits) h (f h) r h'
