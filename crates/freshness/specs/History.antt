-- THE HISTORY OF A RUN, read off calls and answers alone: no table and no lane's record is mentioned here.
-- An update (document 01: a report) is under way from its accepted start to the step that gives 22. An object (a carrier) stands at the place of its last ended update.
-- An update is during a query (a sweep) if it is under way at any moment from the query's accepted start on. Such an update has ended since that start, or is under way now: these two kinds are listed below.
-- Its places are the one reported and the one standing just before it ends, or now if it is still under way; a first update has none before.
use Rattle.std.specs.Prelude.{◌≡◌, Bool, true, false, not, ◌&&◌, List, [], ◌∷◌, ◌++◌, ℕ, zero, suc, ◌<◌, eqb}
use Rattle.std.specs.Prelude.{Option, None, Some}
use Rattle.base.specs.Numbers.{FINISHED}
use Rattle.base.specs.Outcome.{pick}
use Rattle.regions.specs.declared.region.Region.{Region}
use Rattle.calls.specs.Call.{accepted_number}
use Rattle.grid.specs.Run.{Call, start_update, step_update, start_query, step_query, collect, read, clear, rewind, Answer, answers, empty_grid}
use Rattle.base.specs.Spot.{Spot, Hit, hit}

-- ---- events

-- every number that is not that of an accepted call
unfoldable pub refused : ℕ → Bool
refused n = not (accepted_number n)

-- What can happen: an update of an object to a place begins in a lane, the update of a lane ends, a query begins in a lane; or
-- everything is settled: every update under way has ended, every query is abandoned, and each object stands where it is said, or
-- nowhere. No call of today settles anything; a list that is made on another grid than the empty one begins so.
pub data Event : Type 0 where
  settles : (ℕ → Option Spot) → Event
  begins : ℕ → Hit → Event
  ends : ℕ → Event
  asks : ℕ → Region → Event

-- what a call and the number that it gives tell, if anything: an accepted start, or a step of an update that gives 22
unfoldable pub event_of : Call → ℕ → Option Event
event_of (start_update l k x y m) n = pick (refused n) None (Some (begins l (hit k (record { x = x; y = y; tag = m }))))
event_of (step_update l) n = pick (eqb n FINISHED) (Some (ends l)) None
event_of (start_query q u) n = pick (refused n) None (Some (asks q u))
event_of (step_query q) n = None
event_of (collect q m) n = None
event_of (read q m) n = None
event_of (clear q) n = None
event_of rewind n = None

-- one event more, if there is one; the last stands first
unfoldable pub recall : Option Event → List Event → List Event
recall None es = es
recall (Some e) es = e ∷ es

-- the events of calls with their answers, after those of es
unfoldable pub events : List Call → List Answer → List Event → List Event
events [] ans es = es
events (c ∷ cs) [] es = es
events (c ∷ cs) (a ∷ ans) es = events cs ans (recall (event_of c a.number) es)

-- THE PAST of a list of calls, made from the empty grid
unfoldable pub past : List Call → List Event
past cs = events cs (answers cs empty_grid) []

-- ---- objects

-- the update under way in a lane: its object and the place reported
unfoldable pub under_way : ℕ → List Event → Option Hit
under_way l [] = None
under_way l (settles f ∷ es) = None
under_way l (begins j h ∷ es) = pick (eqb j l) (Some h) (under_way l es)
under_way l (ends j ∷ es) = pick (eqb j l) None (under_way l es)
under_way l (asks j u ∷ es) = under_way l es

-- where object k stands once an update has ended, s being where it stood
unfoldable pub settled : ℕ → Option Hit → Option Spot → Option Spot
settled k None s = s
settled k (Some h) s = pick (eqb h.oid k) (Some h.spot) s

-- where an object stands: the place of its last ended update
unfoldable pub standing : ℕ → List Event → Option Spot
standing k [] = None
standing k (settles f ∷ es) = f k
standing k (begins j h ∷ es) = standing k es
standing k (ends j ∷ es) = settled k (under_way j es) (standing k es)
standing k (asks j u ∷ es) = standing k es

-- no update is under way
abbrev pub NoneUnderWay : List Event → Type 0
NoneUnderWay es = (l : ℕ) → l < 8 → under_way l es ≡ None

-- ---- queries

-- the question of the query of lane q, by its last accepted start
unfoldable pub question : ℕ → List Event → Option Region
question q [] = None
question q (settles f ∷ es) = None
question q (begins j h ∷ es) = question q es
question q (ends j ∷ es) = question q es
question q (asks j u ∷ es) = pick (eqb j q) (Some u) (question q es)

-- an update with its two places: the one reported, and the one before
pub record Update : Type 0 where
  pub place : Spot
  pub before : Option Spot

abbrev pub update_of : Spot → Option Spot → Update
update_of s b = record { place = s; before = b }

-- one update more, if there is one and it is of object k, which stands at s
unfoldable pub and_update : ℕ → Option Hit → Option Spot → List Update → List Update
and_update k None s rs = rs
and_update k (Some h) s rs = pick (eqb h.oid k) (update_of h.spot s ∷ rs) rs

-- the updates of object k that have ended since the query of lane q began, the last first
unfoldable pub ended : ℕ → ℕ → List Event → List Update
ended q k [] = []
ended q k (settles f ∷ es) = []
ended q k (begins j h ∷ es) = ended q k es
ended q k (ends j ∷ es) = and_update k (under_way j es) (standing k es) (ended q k es)
ended q k (asks j u ∷ es) = pick (eqb j q) [] (ended q k es)

-- the updates of object k that are under way in the lanes below n
unfoldable pub going : ℕ → ℕ → List Event → List Update
going k zero es = []
going k (suc n) es = and_update k (under_way n es) (standing k es) (going k n es)

-- THE UPDATES of object k during the query of lane q
unfoldable pub updates : ℕ → ℕ → List Event → List Update
updates q k es = going k 8 es ++ ended q k es

unfoldable pub and_place : Option Spot → List Spot → List Spot
and_place None ss = ss
and_place (Some s) ss = s ∷ ss

unfoldable pub places_of : List Update → List Spot
places_of [] = []
places_of (r ∷ rs) = r.place ∷ and_place r.before (places_of rs)

-- the places of an object that stands at s: those of its updates, or with no update the one where it stands
unfoldable pub places_by : Option Spot → List Update → List Spot
places_by s [] = and_place s []
places_by s (r ∷ rs) = places_of (r ∷ rs)

-- THE PLACES of object k during the query of lane q
unfoldable pub places : ℕ → ℕ → List Event → List Spot
places q k es = places_by (standing k es) (updates q k es)

-- ---- clearings

-- an accepted clearing of lane q, by itself or in a collection
unfoldable pub takes : ℕ → Call → ℕ → Bool
takes q (start_update l k x y m) n = false
takes q (step_update l) n = false
takes q (start_query j u) n = false
takes q (step_query j) n = false
takes q (collect j m) n = eqb j q && accepted_number n
takes q (read j m) n = false
takes q (clear j) n = eqb j q && accepted_number n
takes q rewind n = false

-- none of the calls, with their answers, is one
unfoldable pub uncleared : ℕ → List Call → List Answer → Bool
uncleared q [] ans = true
uncleared q (c ∷ cs) [] = true
uncleared q (c ∷ cs) (a ∷ ans) = not (takes q c a.number) && uncleared q cs ans
