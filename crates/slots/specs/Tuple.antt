-- Tuples: five tables, slot s of bucket b at 4b + s. A tuple is read, copied and written whole.
-- The tag is the object's load mark (document 02), as it was reported with the place; no operation here looks at it.
use Rattle.std.specs.Prelude.{Bool, true, false, not, ◌||◌, List, ℕ, ◌+◌, ◌*◌, ltb, ℤ, pos, get_or, set}
use Rattle.words.specs.Map.{TUPLE-XS, TUPLE-YS, TUPLE-TAGS}
use Rattle.words.specs.Part.{part}
use Rattle.base.specs.Outcome.{Outcome, corrupt, done, need}
use Rattle.base.specs.Table.{at}
use Rattle.slots.specs.Stamp.{stamp_of, current, deleted, stamp_range}
use Rattle.slots.specs.declared.stamp.Stamp.{Stamp}
use Rattle.slots.specs.declared.stamp.Stamp.TheVariants.{Never, Current, Deleted}
use Rattle.slots.specs.declared.tuple.Seen.{Seen}

pub record Tuples : Type 0 where
  pub oid : List ℕ
  pub x : List ℕ
  pub y : List ℕ
  pub tag : List ℕ
  pub time : List ℤ

abbrev pub tuples_of : List ℕ → List ℕ → List ℕ → List ℕ → List ℤ → Tuples
tuples_of o x y m t = record { oid = o; x = x; y = y; tag = m; time = t }

-- objects, x, y and tags one after the other in one list, and the stamps
abbrev pub tuples_at : List ℕ → List ℤ → Tuples
tuples_at l ts = tuples_of (part 0 2048 l) (part TUPLE-XS 2048 l) (part TUPLE-YS 2048 l) (part TUPLE-TAGS 2048 l) ts

pub record Tuple : Type 0 where
  pub oid : ℕ
  pub x : ℕ
  pub y : ℕ
  pub tag : ℕ
  pub time : ℤ

abbrev pub slot_at : ℕ → ℕ → ℕ
slot_at b s = 4 * b + s

abbrev pub tuple_in : Tuples → ℕ → Tuple
tuple_in d i = record { oid = at d.oid i; x = at d.x i; y = at d.y i; tag = at d.tag i; time = get_or d.time i (pos 0) }

abbrev pub put_tuple : Tuples → ℕ → Tuple → Tuples
put_tuple d i t = tuples_of (set d.oid i t.oid) (set d.x i t.x) (set d.y i t.y) (set d.tag i t.tag) (set d.time i t.time)

-- all of it but the stamp
abbrev pub put_words : Tuples → ℕ → ℕ → ℕ → ℕ → ℕ → Tuples
put_words d i k x y m = tuples_of (set d.oid i k) (set d.x i x) (set d.y i y) (set d.tag i m) d.time

-- a bucket and a slot in range
unfoldable pub need_slot : {A : Type 0} → ℕ → ℕ → Outcome A → Outcome A
need_slot b s k = need (ltb b 512) (need (ltb s 4) k)

-- Copy a tuple over another.
unfoldable pub copy : Tuples → ℕ → ℕ → ℕ → ℕ → Outcome Tuples
copy d b s b' s' = need_slot b s (need_slot b' s' (done (put_tuple d (slot_at b' s') (tuple_in d (slot_at b s)))))

-- Write a current tuple over the one at a slot.
unfoldable pub overwrite : Tuples → ℕ → ℕ → ℕ → ℕ → ℕ → ℕ → ℕ → Outcome Tuples
overwrite d b s k x y m t = need_slot b s (need (stamp_range t) (done (put_tuple d (slot_at b s) (record { oid = k; x = x; y = y; tag = m; time = current t }))))

-- Give a tuple the negative of a stamp.
unfoldable pub delete : List ℤ → ℕ → ℕ → ℕ → Outcome (List ℤ)
delete times b s t = need_slot b s (need (stamp_range t) (done (set times (slot_at b s) (deleted t))))

-- a tuple with the sign and the magnitude of its stamp
abbrev pub seen_as : Tuple → Bool → ℕ → Seen
seen_as t d n = record { oid = t.oid; x = t.x; y = t.y; tag = t.tag; deleted = d; time = n }

-- a tuple with its stamp read; corrupt where that is none
unfoldable pub seen : Tuple → Stamp → Outcome Seen
seen t Never = corrupt
seen t (Current n) = done (seen_as t false n)
seen t (Deleted n) = done (seen_as t true n)

-- Read the tuple at a slot.
unfoldable pub read : Tuples → ℕ → ℕ → Outcome Seen
read d b s = need_slot b s (seen (tuple_in d (slot_at b s)) (stamp_of (tuple_in d (slot_at b s)).time))

-- What a query with stamp t may list: a tuple that is current, or was deleted with a stamp above t.
unfoldable pub seen_by : ℕ → Seen → Bool
seen_by t s = not s.deleted || ltb t s.time

-- Whether the tuple at a slot is deleted, by its stamp's sign; corrupt where that is none.
unfoldable pub sign_of : Stamp → Outcome Bool
sign_of Never = corrupt
sign_of (Current n) = done false
sign_of (Deleted n) = done true

unfoldable pub sign : List ℤ → ℕ → ℕ → Outcome Bool
sign times b s = need_slot b s (sign_of (stamp_of (get_or times (slot_at b s) (pos 0))))
