-- CODING AND DECODING OF UPDATE LANES ARE INVERSE: what is stored in a lane is what is read there, the other lanes are as they were, and numbers that are the
-- code of an update are the code of what they decode to. Each stage by itself; a lane by the laws of a replaced part.
use mathlib.Core.Path.{◌≡◌, refl, sym, ap, ◌∙◌}
use mathlib.Core.Logic.{◌≢◌}
use mathlib.Core.Bool.{true}
use mathlib.Core.List.{List, [], ◌∷◌}
use Prim.Native.Nat.{ℕ, ◌+◌, ◌*◌, ◌-◌, ◌<◌, ◌≤◌}
use native.Mathlib.Omega.{arith}
use Rattle.std.proofs.lemmas.Bool.Decides.{nat_tests}
use Rattle.std.proofs.lemmas.List.{take-replicate, drop-replicate}
use lib.Dec.{eqb, leb}
use lib.ListN.{length, set, take, replicate}
use lib.Seq.{sets}
use borrow.Author.Tests.{ne_eqb}
use Rattle.base.specs.Outcome.{pick}
use Rattle.base.specs.Table.{at}
use Rattle.words.specs.Part.{part, put}
use Rattle.words.proofs.Parts.{part_same, part_before, part_after, part_at}
use Rattle.layout.specs.declared.place.Place.{Place}
use Rattle.stage.specs.Turn.{is_idle}
use Rattle.stage.specs.declared.Stage.{Stage}
use Rattle.stage.specs.declared.Stage.TheVariants.{Idle, TakeObject, LockCell, LookLast, CopyLast, LowerCount, ReturnBucket, ErasePlace, ChooseCell, MakeRoom, WriteTuple, RaiseCount, SwitchPlace, DeleteOld, ReleaseObject}
use Rattle.stage.specs.declared.Updater.{Updater}
use Rattle.updates.specs.Update.{idle_updater, with_stage}
use Rattle.codes.specs.Updaters.{place_of, code_stage, stage_of, code_updater, decode_updater, started_updater, stage_in, updater_in, with_updater}
use Rattle.codes.specs.declared.update_lane.StageCode.{StageCode}
use Rattle.codes.proofs.Stores.{sets_put, ten}

pub stage_back : (s : Stage) → stage_of (code_stage s).stage (code_stage s).place (code_stage s).moved (code_stage s).bucket ≡ s
unfolding code_stage stage_of pick
stage_back Idle = refl
stage_back TakeObject = refl
stage_back (LockCell p) = refl
stage_back (LookLast p) = refl
stage_back (CopyLast p m) = refl
stage_back (LowerCount p m) = refl
stage_back (ReturnBucket p m b) = refl
stage_back (ErasePlace p m) = refl
stage_back ChooseCell = refl
stage_back MakeRoom = refl
stage_back WriteTuple = refl
stage_back (RaiseCount p) = refl
stage_back (SwitchPlace p) = refl
stage_back (DeleteOld p) = refl
stage_back ReleaseObject = refl

pub stage_named : (s : Stage) → leb (code_stage s).stage 14 ≡ true
unfolding code_stage
stage_named Idle = refl
stage_named TakeObject = refl
stage_named (LockCell p) = refl
stage_named (LookLast p) = refl
stage_named (CopyLast p m) = refl
stage_named (LowerCount p m) = refl
stage_named (ReturnBucket p m b) = refl
stage_named (ErasePlace p m) = refl
stage_named ChooseCell = refl
stage_named MakeRoom = refl
stage_named WriteTuple = refl
stage_named (RaiseCount p) = refl
stage_named (SwitchPlace p) = refl
stage_named (DeleteOld p) = refl
stage_named ReleaseObject = refl

pub decode_code : (u : Updater) → decode_updater (code_updater u) ≡ u
unfolding decode_updater code_updater
decode_code u = ap (with_stage u) (stage_back u.stage)

pub code_decode : (u : Updater) (v : List ℕ) → v ≡ code_updater u → code_updater (decode_updater v) ≡ v
code_decode u v e = ap code_updater (ap decode_updater e ∙ decode_code u) ∙ sym e

ten_long : (u : Updater) → length (code_updater u) ≡ 10
unfolding code_updater
ten_long u = refl

-- a number that names no stage
pub stage_else : (n : ℕ) (p : Place) (m b : ℕ) → n ≢ 1 → n ≢ 2 → n ≢ 3 → n ≢ 4 → n ≢ 5 → n ≢ 6 → n ≢ 7 → n ≢ 8 → n ≢ 9 → n ≢ 10 → n ≢ 11 → n ≢ 12 → n ≢ 13 → n ≢ 14 → stage_of n p m b ≡ Idle
unfolding stage_of pick
stage_else n p m b h1 h2 h3 h4 h5 h6 h7 h8 h9 h10 h11 h12 h13 h14 =
    rw (ne_eqb n 1 h1, ne_eqb n 2 h2, ne_eqb n 3 h3, ne_eqb n 4 h4, ne_eqb n 5 h5, ne_eqb n 6 h6, ne_eqb n 7 h7, ne_eqb n 8 h8, ne_eqb n 9 h9, ne_eqb n 10 h10, ne_eqb n 11 h11, ne_eqb n 12 h12, ne_eqb n 13 h13, ne_eqb n 14 h14)

-- ---- numbers read and stored

abbrev pub updater_of : ℕ → ℕ → ℕ → ℕ → Stage → Updater
updater_of k x y m s = record { oid = k; x = x; y = y; tag = m; stage = s }

-- the numbers of a lane that begin at a, read one by one
pub load_lane : (ns : List ℕ) (a : ℕ) (s : Stage)
    → s ≡ stage_of (at ns (a + 4)) (place_of (at ns (a + 5)) (at ns (a + 6)) (at ns (a + 7))) (at ns (a + 8)) (at ns (a + 9))
    → updater_of (at ns a) (at ns (a + 1)) (at ns (a + 2)) (at ns (a + 3)) s ≡ decode_updater (part a 10 ns)
unfolding decode_updater
load_lane ns a s e =
    let p0 : at (part a 10 ns) 0 ≡ at ns a = part_at ns a 10 0 0 (omega arith) ∙ ap (at ns) (omega arith) in
    let p1 : at (part a 10 ns) 1 ≡ at ns (a + 1) = part_at ns a 10 1 0 (omega arith) in
    let p2 : at (part a 10 ns) 2 ≡ at ns (a + 2) = part_at ns a 10 2 0 (omega arith) in
    let p3 : at (part a 10 ns) 3 ≡ at ns (a + 3) = part_at ns a 10 3 0 (omega arith) in
    let p4 : at (part a 10 ns) 4 ≡ at ns (a + 4) = part_at ns a 10 4 0 (omega arith) in
    let p5 : at (part a 10 ns) 5 ≡ at ns (a + 5) = part_at ns a 10 5 0 (omega arith) in
    let p6 : at (part a 10 ns) 6 ≡ at ns (a + 6) = part_at ns a 10 6 0 (omega arith) in
    let p7 : at (part a 10 ns) 7 ≡ at ns (a + 7) = part_at ns a 10 7 0 (omega arith) in
    let p8 : at (part a 10 ns) 8 ≡ at ns (a + 8) = part_at ns a 10 8 0 (omega arith) in
    let p9 : at (part a 10 ns) 9 ≡ at ns (a + 9) = part_at ns a 10 9 0 (omega arith) in
    ap (updater_of (at ns a) (at ns (a + 1)) (at ns (a + 2)) (at ns (a + 3))) e
    ∙ sym (λ j. updater_of (p0 j) (p1 j) (p2 j) (p3 j) (stage_of (p4 j) (place_of (p5 j) (p6 j) (p7 j)) (p8 j) (p9 j)))

module _ (ns : List ℕ) (a : ℕ) where
  -- stored one behind the other
  pub store_lane : (u : Updater) (c : StageCode) → c ≡ code_stage u.stage
      → set (set (set (set (set (set (set (set (set (set ns a u.oid) (a + 1) u.x) (a + 2) u.y) (a + 3) u.tag) (a + 4) c.stage) (a + 5) c.place.cell) (a + 6) c.place.bucket) (a + 7) c.place.slot) (a + 8) c.moved) (a + 9) c.bucket
      ≡ sets ns a (code_updater u)
  unfolding code_updater
  store_lane u c e =
      ten ns a _ _ _ _ _ _ _ _ _ _
      ∙ ap (λ (d : StageCode). sets ns a (u.oid ∷ u.x ∷ u.y ∷ u.tag ∷ d.stage ∷ d.place.cell ∷ d.place.bucket ∷ d.place.slot ∷ d.moved ∷ d.bucket ∷ [])) e

  -- an update that begins
  pub store_first : (k x y m : ℕ)
      → set (set (set (set (set (set (set (set (set (set ns a k) (a + 1) x) (a + 2) y) (a + 3) m) (a + 4) 1) (a + 5) 0) (a + 6) 0) (a + 7) 0) (a + 8) 0) (a + 9) 0
      ≡ sets ns a (code_updater (started_updater k x y m))
  unfolding code_updater code_stage
  store_first k x y m = ten ns a _ _ _ _ _ _ _ _ _ _

-- ---- in a lane

module _ (ns : List ℕ) (l : ℕ) (ns# : length ns ≡ 80) (l< : l < 8) (u : Updater) where
  replaced : with_updater ns l u ≡ put (10 * l) 10 (code_updater u) ns
  replaced = sets_put (code_updater u) ns (10 * l) 10 (ten_long u) (omega arith)

  -- what is stored there is read there
  pub updater_same : updater_in (with_updater ns l u) l ≡ u
  updater_same =
      ap (λ (ms : List ℕ). updater_in ms l) replaced
      ∙ ap decode_updater (part_same ns (10 * l) 10 (omega arith) (code_updater u) (ten_long u)) ∙ decode_code u

  -- and every other lane is as it was
  pub updater_below : (m : ℕ) → m < l → updater_in (with_updater ns l u) m ≡ updater_in ns m
  updater_below m h =
      ap (λ (ms : List ℕ). updater_in ms m) replaced ∙ ap decode_updater (part_before ns (10 * l) 10 (omega arith) (code_updater u) (10 * m) 10 (omega arith))

  pub updater_above : (m : ℕ) → l < m → updater_in (with_updater ns l u) m ≡ updater_in ns m
  updater_above m h =
      ap (λ (ms : List ℕ). updater_in ms m) replaced
      ∙ ap decode_updater (part_after ns (10 * l) 10 (omega arith) (code_updater u) (ten_long u) (10 * m) 10 (omega arith))

-- ---- what the number of a stage tells

seen : (n : ℕ) (p : Place) (m b : ℕ) → n ≤ 14 → is_idle (stage_of n p m b) ≡ eqb n 0
unfolding is_idle stage_of pick
seen n p m b h = grind (arith, nat_tests)

module _ (ns : List ℕ) (l : ℕ) where
  pub stage_read : at (part (10 * l) 10 ns) 4 ≡ stage_in ns l
  stage_read = part_at ns (10 * l) 10 4 0 (omega arith)

  -- the number tells whether the lane is idle
  pub lane_seen : stage_in ns l ≤ 14 → is_idle (updater_in ns l).stage ≡ eqb (stage_in ns l) 0
  unfolding decode_updater
  lane_seen h =
      let v = part (10 * l) 10 ns in
      let p = place_of (at v 5) (at v 6) (at v 7) in
      ap (λ (n : ℕ). is_idle (stage_of n p (at v 8) (at v 9))) stage_read ∙ seen (stage_in ns l) p (at v 8) (at v 9) h

-- ---- every number 0

fresh_part : (l : ℕ) → l < 8 → part (10 * l) 10 (replicate {A = ℕ} 80 0) ≡ replicate {A = ℕ} 10 0
fresh_part l h = ap (take 10) (drop-replicate (10 * l) 80 0) ∙ take-replicate 10 (80 - 10 * l) 0 (omega arith)

-- is the code of an idle lane
pub updater_fresh : (l : ℕ) → l < 8 → updater_in (replicate 80 0) l ≡ idle_updater
unfolding decode_updater stage_of pick
updater_fresh l h = ap decode_updater (fresh_part l h)
