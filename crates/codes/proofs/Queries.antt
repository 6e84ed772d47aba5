-- CODING AND DECODING OF QUERY LANES ARE INVERSE: as Updaters.antt says it of update lanes.
use mathlib.Core.Path.{◌≡◌, refl, sym, ap, ◌∙◌}
use mathlib.Core.Logic.{◌≢◌}
use mathlib.Core.Bool.{true, and-eq-true_iff}
use mathlib.Core.List.{List, [], ◌∷◌}
use Prim.Native.Nat.{ℕ, zero, suc, ◌+◌, ◌*◌, ◌-◌, ◌<◌, ◌≤◌}
use native.Mathlib.Omega.{arith}
use Rattle.std.proofs.lemmas.Bool.Decides.{nat_tests}
use Rattle.std.proofs.lemmas.List.{take-replicate, drop-replicate}
use lib.Dec.{eqb, leb}
use lib.ListN.{length, set, take, replicate}
use lib.Seq.{sets, set-get_or}
use borrow.Author.Tests.{ne_eqb, leb-true}
use Rattle.base.specs.Outcome.{pick}
use Rattle.base.specs.Table.{at}
use Rattle.words.specs.Part.{part, put}
use Rattle.words.proofs.Parts.{part_same, part_before, part_after, part_at}
use Rattle.readers.specs.declared.Standing.{Standing}
use Rattle.query.specs.Scan.{query_of}
use Rattle.query.specs.declared.Scan.{Scan}
use Rattle.query.specs.declared.Scan.TheVariants.{Idle, Enter, Read, Finished}
use Rattle.query.specs.declared.Query.{Query}
use Rattle.regions.specs.declared.region.Kind.{Kind}
use Rattle.regions.specs.declared.region.Kind.TheVariants.{Touching, Within, Centre}
use Rattle.regions.specs.declared.region.Region.{Region}
use Rattle.queries.specs.Query.{is_idle, idle_query, question_of}
use Rattle.codes.specs.Queries.{code_kind, kind_of, names_kind, rectangle_of, asked_by, standing_of, code_scan, scan_of, code_query, decode_query, scan_in, kind_in, names_query, query_in, with_query}
use Rattle.codes.specs.declared.query_lane.ScanCode.{ScanCode}
use Rattle.codes.proofs.Stores.{sets_put, thirteen}

pub scan_back : (s : Scan) → scan_of (code_scan s).stage (code_scan s).cell (code_scan s).at ≡ s
unfolding code_scan scan_of pick
scan_back Idle = refl
scan_back (Enter c) = refl
scan_back (Read c s) = refl
scan_back Finished = refl

pub scan_named : (s : Scan) → leb (code_scan s).stage 3 ≡ true
unfolding code_scan
scan_named Idle = refl
scan_named (Enter c) = refl
scan_named (Read c s) = refl
scan_named Finished = refl

-- kinds of questions by their numbers, and the numbers that name one by their kinds
pub kind_back : (k : Kind) → kind_of (code_kind k) ≡ k
unfolding code_kind kind_of pick
kind_back Touching = refl
kind_back Within = refl
kind_back Centre = refl

pub kind_named : (k : Kind) → names_kind (code_kind k) ≡ true
unfolding code_kind
kind_named Touching = refl
kind_named Within = refl
kind_named Centre = refl

-- a number that names a kind is its code
pub code_kind_lem : (n : ℕ) → n ≤ 2 → code_kind (kind_of n) ≡ n
unfolding code_kind kind_of pick
code_kind_lem zero h = refl
code_kind_lem (suc zero) h = refl
code_kind_lem (suc (suc zero)) h = refl
code_kind_lem (suc (suc (suc n))) h = absurd (omega arith)

-- any other is touching's
pub kind_else : (n : ℕ) → n ≢ 1 → n ≢ 2 → kind_of n ≡ Touching
unfolding kind_of pick
kind_else n h1 h2 = rw (ne_eqb n 1 h1, ne_eqb n 2 h2)

pub decode_code : (q : Query) → decode_query (code_query q) ≡ q
unfolding decode_query code_query
decode_code q =
    let u = q.question in
    let k = kind_back u.kind in
    let s = scan_back q.stage in
    λ i. query_of (record { kind = k i; area = u.area; radius = u.radius }) q.stamp q.hits q.steps (s i)

pub code_decode : (q : Query) (v : List ℕ) → v ≡ code_query q → code_query (decode_query v) ≡ v
code_decode q v e = ap code_query (ap decode_query e ∙ decode_code q) ∙ sym e

thirteen_long : (q : Query) → length (code_query q) ≡ 13
unfolding code_query
thirteen_long q = refl

-- a number that names nothing
pub scan_else : (n c : ℕ) (s : Standing) → n ≢ 1 → n ≢ 2 → n ≢ 3 → scan_of n c s ≡ Idle
unfolding scan_of pick
scan_else n c s h1 h2 h3 = rw (ne_eqb n 1 h1, ne_eqb n 2 h2, ne_eqb n 3 h3)

-- ---- numbers read and stored

-- the numbers of a lane that begin at a, read one by one
pub load_lane : (ns : List ℕ) (a : ℕ) (k : Kind) (s : Scan) → k ≡ kind_of (at ns a)
    → s ≡ scan_of (at ns (a + 9)) (at ns (a + 10)) (standing_of (at ns (a + 11)) (at ns (a + 12)))
    → query_of (question_of k (at ns (a + 1)) (at ns (a + 2)) (at ns (a + 3)) (at ns (a + 4)) (at ns (a + 5))) (at ns (a + 6)) (at ns (a + 7)) (at ns (a + 8)) s
    ≡ decode_query (part a 13 ns)
unfolding decode_query
load_lane ns a k s ek e =
    let p0 : at (part a 13 ns) 0 ≡ at ns a = part_at ns a 13 0 0 (omega arith) ∙ ap (at ns) (omega arith) in
    let p1 : at (part a 13 ns) 1 ≡ at ns (a + 1) = part_at ns a 13 1 0 (omega arith) in
    let p2 : at (part a 13 ns) 2 ≡ at ns (a + 2) = part_at ns a 13 2 0 (omega arith) in
    let p3 : at (part a 13 ns) 3 ≡ at ns (a + 3) = part_at ns a 13 3 0 (omega arith) in
    let p4 : at (part a 13 ns) 4 ≡ at ns (a + 4) = part_at ns a 13 4 0 (omega arith) in
    let p5 : at (part a 13 ns) 5 ≡ at ns (a + 5) = part_at ns a 13 5 0 (omega arith) in
    let p6 : at (part a 13 ns) 6 ≡ at ns (a + 6) = part_at ns a 13 6 0 (omega arith) in
    let p7 : at (part a 13 ns) 7 ≡ at ns (a + 7) = part_at ns a 13 7 0 (omega arith) in
    let p8 : at (part a 13 ns) 8 ≡ at ns (a + 8) = part_at ns a 13 8 0 (omega arith) in
    let p9 : at (part a 13 ns) 9 ≡ at ns (a + 9) = part_at ns a 13 9 0 (omega arith) in
    let p10 : at (part a 13 ns) 10 ≡ at ns (a + 10) = part_at ns a 13 10 0 (omega arith) in
    let p11 : at (part a 13 ns) 11 ≡ at ns (a + 11) = part_at ns a 13 11 0 (omega arith) in
    let p12 : at (part a 13 ns) 12 ≡ at ns (a + 12) = part_at ns a 13 12 0 (omega arith) in
    (λ j. query_of (question_of (ek j) (at ns (a + 1)) (at ns (a + 2)) (at ns (a + 3)) (at ns (a + 4)) (at ns (a + 5))) (at ns (a + 6)) (at ns (a + 7)) (at ns (a + 8)) (e j))
    ∙ sym (λ j. query_of (asked_by (p0 j) (rectangle_of (p1 j) (p2 j) (p3 j) (p4 j)) (p5 j)) (p6 j) (p7 j) (p8 j) (scan_of (p9 j) (p10 j) (standing_of (p11 j) (p12 j))))

-- a query that is over
abbrev pub over : Query → Query
over q = query_of q.question q.stamp q.hits q.steps Idle

module _ (ns : List ℕ) (a : ℕ) where
  -- stored one behind the other
  pub store_lane : (q : Query) (k : ℕ) (c : ScanCode) → k ≡ code_kind q.question.kind → c ≡ code_scan q.stage
      → set (set (set (set (set (set (set (set (set (set (set (set (set ns a k) (a + 1) q.question.area.x0) (a + 2) q.question.area.y0) (a + 3) q.question.area.x1) (a + 4) q.question.area.y1) (a + 5) q.question.radius) (a + 6) q.stamp) (a + 7) q.hits) (a + 8) q.steps) (a + 9) c.stage) (a + 10) c.cell) (a + 11) c.at.bucket) (a + 12) c.at.left
      ≡ sets ns a (code_query q)
  unfolding code_query
  store_lane q k c ek e =
      thirteen ns a _ _ _ _ _ _ _ _ _ _ _ _ _
      ∙ (λ j. let d = e j in sets ns a (ek j ∷ q.question.area.x0 ∷ q.question.area.y0 ∷ q.question.area.x1 ∷ q.question.area.y1 ∷ q.question.radius ∷ q.stamp ∷ q.hits ∷ q.steps ∷ d.stage ∷ d.cell ∷ d.at.bucket ∷ d.at.left ∷ []))

  -- a query that begins
  pub store_first : (u : Region) (k t c : ℕ) → k ≡ code_kind u.kind
      → set (set (set (set (set (set (set (set (set (set (set (set (set ns a k) (a + 1) u.area.x0) (a + 2) u.area.y0) (a + 3) u.area.x1) (a + 4) u.area.y1) (a + 5) u.radius) (a + 6) t) (a + 7) 0) (a + 8) 0) (a + 9) 1) (a + 10) c) (a + 11) 0) (a + 12) 0
      ≡ sets ns a (code_query (query_of u t 0 0 (Enter c)))
  unfolding code_query code_scan
  store_first u k t c ek =
      thirteen ns a _ _ _ _ _ _ _ _ _ _ _ _ _
      ∙ ap (λ (n : ℕ). sets ns a (n ∷ u.area.x0 ∷ u.area.y0 ∷ u.area.x1 ∷ u.area.y1 ∷ u.radius ∷ t ∷ 0 ∷ 0 ∷ 1 ∷ c ∷ 0 ∷ 0 ∷ [])) ek

  -- a query that is over
  pub store_over : names_kind (at ns a) ≡ true
      → set (set (set (set ns (a + 9) 0) (a + 10) 0) (a + 11) 0) (a + 12) 0 ≡ sets ns a (code_query (over (decode_query (part a 13 ns))))
  unfolding code_query code_scan decode_query
  store_over h =
      let p0 : at (part a 13 ns) 0 ≡ at ns a = part_at ns a 13 0 0 (omega arith) ∙ ap (at ns) (omega arith) in
      let p1 : at (part a 13 ns) 1 ≡ at ns (a + 1) = part_at ns a 13 1 0 (omega arith) in
      let p2 : at (part a 13 ns) 2 ≡ at ns (a + 2) = part_at ns a 13 2 0 (omega arith) in
      let p3 : at (part a 13 ns) 3 ≡ at ns (a + 3) = part_at ns a 13 3 0 (omega arith) in
      let p4 : at (part a 13 ns) 4 ≡ at ns (a + 4) = part_at ns a 13 4 0 (omega arith) in
      let p5 : at (part a 13 ns) 5 ≡ at ns (a + 5) = part_at ns a 13 5 0 (omega arith) in
      let p6 : at (part a 13 ns) 6 ≡ at ns (a + 6) = part_at ns a 13 6 0 (omega arith) in
      let p7 : at (part a 13 ns) 7 ≡ at ns (a + 7) = part_at ns a 13 7 0 (omega arith) in
      let p8 : at (part a 13 ns) 8 ≡ at ns (a + 8) = part_at ns a 13 8 0 (omega arith) in
      let k0 : code_kind (kind_of (at ns a)) ≡ at ns a = code_kind_lem (at ns a) (leb-true (at ns a) 2 h) in
      let same : set (set (set (set (set (set (set (set (set ns a (at ns a)) (a + 1) (at ns (a + 1))) (a + 2) (at ns (a + 2))) (a + 3) (at ns (a + 3))) (a + 4) (at ns (a + 4))) (a + 5) (at ns (a + 5))) (a + 6) (at ns (a + 6))) (a + 7) (at ns (a + 7))) (a + 8) (at ns (a + 8)) ≡ ns =
      simp set-get_or in
      ap (λ (l : List ℕ). set (set (set (set l (a + 9) 0) (a + 10) 0) (a + 11) 0) (a + 12) 0) (sym same)
      ∙ thirteen ns a _ _ _ _ _ _ _ _ _ _ _ _ _
      ∙ sym (ap (λ (n : ℕ). sets ns a (n ∷ at (part a 13 ns) 1 ∷ at (part a 13 ns) 2 ∷ at (part a 13 ns) 3 ∷ at (part a 13 ns) 4 ∷ at (part a 13 ns) 5 ∷ at (part a 13 ns) 6 ∷ at (part a 13 ns) 7 ∷ at (part a 13 ns) 8 ∷ 0 ∷ 0 ∷ 0 ∷ 0 ∷ [])) (ap (λ (m : ℕ). code_kind (kind_of m)) p0 ∙ k0)
      ∙ (λ j. sets ns a (at ns a ∷ p1 j ∷ p2 j ∷ p3 j ∷ p4 j ∷ p5 j ∷ p6 j ∷ p7 j ∷ p8 j ∷ 0 ∷ 0 ∷ 0 ∷ 0 ∷ [])))

-- ---- in a lane

module _ (ns : List ℕ) (l : ℕ) (ns# : length ns ≡ 52) (l< : l < 4) (q : Query) where
  replaced : with_query ns l q ≡ put (13 * l) 13 (code_query q) ns
  replaced = sets_put (code_query q) ns (13 * l) 13 (thirteen_long q) (omega arith)

  -- what is stored there is read there
  pub query_same : query_in (with_query ns l q) l ≡ q
  query_same =
      ap (λ (ms : List ℕ). query_in ms l) replaced
      ∙ ap decode_query (part_same ns (13 * l) 13 (omega arith) (code_query q) (thirteen_long q)) ∙ decode_code q

  -- and every other lane is as it was
  pub query_below : (m : ℕ) → m < l → query_in (with_query ns l q) m ≡ query_in ns m
  query_below m h =
      ap (λ (ms : List ℕ). query_in ms m) replaced ∙ ap decode_query (part_before ns (13 * l) 13 (omega arith) (code_query q) (13 * m) 13 (omega arith))

  pub query_above : (m : ℕ) → l < m → query_in (with_query ns l q) m ≡ query_in ns m
  query_above m h =
      ap (λ (ms : List ℕ). query_in ms m) replaced
      ∙ ap decode_query (part_after ns (13 * l) 13 (omega arith) (code_query q) (thirteen_long q) (13 * m) 13 (omega arith))

-- ---- what the number tells

seen : (n c : ℕ) (s : Standing) → n ≤ 3 → is_idle (scan_of n c s) ≡ eqb n 0
unfolding is_idle scan_of pick
seen n c s h = grind (arith, nat_tests)

-- numbers of a lane that name something: that of what comes next, and that of the kind
pub named_parts : (ns : List ℕ) (l : ℕ) → names_query ns l ≡ true → (scan_in ns l ≤ 3) × (names_kind (kind_in ns l) ≡ true)
named_parts ns l h =
    let s = (and-eq-true_iff (leb (scan_in ns l) 3) (names_kind (kind_in ns l))).0 h in
    (leb-true (scan_in ns l) 3 s.0, s.1)

module _ (ns : List ℕ) (l : ℕ) where
  pub scan_read : at (part (13 * l) 13 ns) 9 ≡ scan_in ns l
  scan_read = part_at ns (13 * l) 13 9 0 (omega arith)

  pub kind_read : at (part (13 * l) 13 ns) 0 ≡ kind_in ns l
  kind_read =
      let first : 13 * l + 0 ≡ 13 * l = omega arith in
      part_at ns (13 * l) 13 0 0 (omega arith) ∙ ap (at ns) first

  -- the number tells whether the lane is idle
  pub lane_seen : scan_in ns l ≤ 3 → is_idle (query_in ns l).stage ≡ eqb (scan_in ns l) 0
  unfolding decode_query
  lane_seen h =
      let v = part (13 * l) 13 ns in
      let s = standing_of (at v 11) (at v 12) in
      ap (λ (n : ℕ). is_idle (scan_of n (at v 10) s)) scan_read ∙ seen (scan_in ns l) (at v 10) s h

-- ---- every number 0

fresh_part : (l : ℕ) → l < 4 → part (13 * l) 13 (replicate {A = ℕ} 52 0) ≡ replicate {A = ℕ} 13 0
fresh_part l h = ap (take 13) (drop-replicate (13 * l) 52 0) ∙ take-replicate 13 (52 - 13 * l) 0 (omega arith)

-- is the code of an idle lane
pub query_fresh : (l : ℕ) → l < 4 → query_in (replicate 52 0) l ≡ idle_query
unfolding decode_query kind_of scan_of pick
query_fresh l h = ap decode_query (fresh_part l h)
