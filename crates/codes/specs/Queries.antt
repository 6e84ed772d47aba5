-- A LANE OF A QUERY IN THIRTEEN NUMBERS: kind of question (0 touching, 1 within, 2 centre), x0, y0, x1, y1, radius,
-- stamp, hits, steps, number of what comes next (0 idle, 1 enter a cell, 2 read, 3 finished), cell, bucket, slots left.
-- What does not come next is 0.
-- That coding and decoding are inverse is proofs/Queries.antt.
use Rattle.std.specs.Prelude.{Bool, ◌&&◌, List, [], ◌∷◌, ℕ, ◌+◌, ◌*◌, eqb, leb}
use Rattle.base.specs.Outcome.{pick}
use Rattle.base.specs.Table.{at}
use Rattle.std.proofs.lemmas.List.Edits.{sets}
use Rattle.words.specs.Part.{part}
use Rattle.layout.specs.declared.question.Question.{Question as Rectangle}
use Rattle.readers.specs.declared.Standing.{Standing}
use Rattle.regions.specs.declared.region.Kind.{Kind}
use Rattle.regions.specs.declared.region.Kind.TheVariants.{Touching, Within, Centre}
use Rattle.regions.specs.declared.region.Region.{Region}
use Rattle.query.specs.Scan.{query_of}
use Rattle.query.specs.declared.Scan.{Scan}
use Rattle.query.specs.declared.Scan.TheVariants.{Idle, Enter, Read, Finished}
use Rattle.query.specs.declared.Query.{Query}
use Rattle.codes.specs.declared.query_lane.ScanCode.{ScanCode}

-- how many numbers a lane is, where the number of what comes next is, and the last such number
abbrev pub QUERY-NUMBERS : ℕ
QUERY-NUMBERS = 13

abbrev pub SCAN-AT : ℕ
SCAN-AT = 9

abbrev pub LAST-SCAN : ℕ
LAST-SCAN = 3

abbrev pub standing_of : ℕ → ℕ → Standing
standing_of b n = record { bucket = b; left = n }

abbrev pub scan_code : ℕ → ℕ → Standing → ScanCode
scan_code n c s = record { stage = n; cell = c; at = s }

-- the numbers of what comes next
unfoldable pub code_scan : Scan → ScanCode
code_scan Idle = scan_code 0 0 (standing_of 0 0)
code_scan (Enter c) = scan_code 1 c (standing_of 0 0)
code_scan (Read c s) = scan_code 2 c s
code_scan Finished = scan_code 3 0 (standing_of 0 0)

-- what comes next by its number; a number that names nothing is refused before it is decoded
unfoldable pub scan_of : ℕ → ℕ → Standing → Scan
scan_of n c s = pick (eqb n 1) (Enter c) (pick (eqb n 2) (Read c s) (pick (eqb n 3) Finished Idle))

-- the number of a kind of question, and the kind by its number; a number that names none is refused before that
unfoldable pub code_kind : Kind → ℕ
code_kind Touching = 0
code_kind Within = 1
code_kind Centre = 2

unfoldable pub kind_of : ℕ → Kind
kind_of n = pick (eqb n 1) Within (pick (eqb n 2) Centre Touching)

abbrev pub names_kind : ℕ → Bool
names_kind n = leb n 2

-- a rectangle by its corners, and a question of it by the number of its kind and by its radius
abbrev pub rectangle_of : ℕ → ℕ → ℕ → ℕ → Rectangle
rectangle_of x0 y0 x1 y1 = record { x0 = x0; y0 = y0; x1 = x1; y1 = y1 }

abbrev pub asked_by : ℕ → Rectangle → ℕ → Region
asked_by k a r = record { kind = kind_of k; area = a; radius = r }

unfoldable pub code_query : Query → List ℕ
code_query q =
    let u = q.question in
    let c = code_scan q.stage in
    code_kind u.kind ∷ u.area.x0 ∷ u.area.y0 ∷ u.area.x1 ∷ u.area.y1 ∷ u.radius
    ∷ q.stamp ∷ q.hits ∷ q.steps ∷ c.stage ∷ c.cell ∷ c.at.bucket ∷ c.at.left ∷ []

unfoldable pub decode_query : List ℕ → Query
decode_query v =
    query_of (asked_by (at v 0) (rectangle_of (at v 1) (at v 2) (at v 3) (at v 4)) (at v 5)) (at v 6) (at v 7) (at v 8)
    (scan_of (at v 9) (at v 10) (standing_of (at v 11) (at v 12)))

-- ---- four lanes, one behind the other

-- the number of what comes next in lane l and that of the kind of its question, and whether each names anything
abbrev pub scan_in : List ℕ → ℕ → ℕ
scan_in ns l = at ns (QUERY-NUMBERS * l + SCAN-AT)

abbrev pub kind_in : List ℕ → ℕ → ℕ
kind_in ns l = at ns (QUERY-NUMBERS * l)

abbrev pub names_query : List ℕ → ℕ → Bool
names_query ns l = leb (scan_in ns l) LAST-SCAN && names_kind (kind_in ns l)

-- the query in lane l, and the lanes with another one there
abbrev pub query_in : List ℕ → ℕ → Query
query_in ns l = decode_query (part (QUERY-NUMBERS * l) QUERY-NUMBERS ns)

abbrev pub with_query : List ℕ → ℕ → Query → List ℕ
with_query ns l q = sets ns (QUERY-NUMBERS * l) (code_query q)
