-- A LANE OF AN UPDATE IN TEN NUMBERS: object, x, y, tag, number of the stage (0 idle, 1 to 14 as document 01 counts them), cell, bucket and slot of the place,
-- the object that moves, the unlinked bucket. What a stage does not carry is 0. That coding and decoding are inverse is proofs/Updaters.antt.
use Rattle.std.specs.Prelude.{Bool, List, [], ◌∷◌, ℕ, ◌+◌, ◌*◌, eqb, leb}
use Rattle.base.specs.Outcome.{pick}
use Rattle.base.specs.Table.{at}
use Rattle.layout.specs.declared.place.Place.{Place}
use Rattle.std.proofs.lemmas.List.Edits.{sets}
use Rattle.words.specs.Part.{part}
use Rattle.stage.specs.declared.Stage.{Stage}
use Rattle.stage.specs.declared.Stage.TheVariants.{Idle, TakeObject, LockCell, LookLast, CopyLast, LowerCount, ReturnBucket, ErasePlace, ChooseCell, MakeRoom, WriteTuple, RaiseCount, SwitchPlace, DeleteOld, ReleaseObject}
use Rattle.stage.specs.declared.Updater.{Updater}
use Rattle.codes.specs.declared.update_lane.StageCode.{StageCode}

-- how many numbers a lane is, where its stage is, and the number of the last stage
abbrev pub UPDATER-NUMBERS : ℕ
UPDATER-NUMBERS = 10

abbrev pub STAGE-AT : ℕ
STAGE-AT = 4

abbrev pub LAST-STAGE : ℕ
LAST-STAGE = 14

abbrev pub place_of : ℕ → ℕ → ℕ → Place
place_of c b s = record { cell = c; bucket = b; slot = s }

abbrev pub stage_code : ℕ → Place → ℕ → ℕ → StageCode
stage_code n p m b = record { stage = n; place = p; moved = m; bucket = b }

abbrev pub no_place : Place
no_place = place_of 0 0 0

-- the numbers of a stage
unfoldable pub code_stage : Stage → StageCode
code_stage Idle = stage_code 0 no_place 0 0
code_stage TakeObject = stage_code 1 no_place 0 0
code_stage (LockCell p) = stage_code 2 p 0 0
code_stage (LookLast p) = stage_code 3 p 0 0
code_stage (CopyLast p m) = stage_code 4 p m 0
code_stage (LowerCount p m) = stage_code 5 p m 0
code_stage (ReturnBucket p m b) = stage_code 6 p m b
code_stage (ErasePlace p m) = stage_code 7 p m 0
code_stage ChooseCell = stage_code 8 no_place 0 0
code_stage MakeRoom = stage_code 9 no_place 0 0
code_stage WriteTuple = stage_code 10 no_place 0 0
code_stage (RaiseCount p) = stage_code 11 p 0 0
code_stage (SwitchPlace p) = stage_code 12 p 0 0
code_stage (DeleteOld p) = stage_code 13 p 0 0
code_stage ReleaseObject = stage_code 14 no_place 0 0

-- the stage of a number, with what it carries; a number that names no stage is refused before it is decoded
unfoldable pub stage_of : ℕ → Place → ℕ → ℕ → Stage
stage_of n p m b =
    pick (eqb n 1) TakeObject
    (pick (eqb n 2) (LockCell p)
    (pick (eqb n 3) (LookLast p)
    (pick (eqb n 4) (CopyLast p m)
    (pick (eqb n 5) (LowerCount p m)
    (pick (eqb n 6) (ReturnBucket p m b)
    (pick (eqb n 7) (ErasePlace p m)
    (pick (eqb n 8) ChooseCell
    (pick (eqb n 9) MakeRoom
    (pick (eqb n 10) WriteTuple
    (pick (eqb n 11) (RaiseCount p)
    (pick (eqb n 12) (SwitchPlace p)
    (pick (eqb n 13) (DeleteOld p)
    (pick (eqb n 14) ReleaseObject Idle)))))))))))))

unfoldable pub code_updater : Updater → List ℕ
code_updater u =
    let c = code_stage u.stage in
    u.oid ∷ u.x ∷ u.y ∷ u.tag ∷ c.stage ∷ c.place.cell ∷ c.place.bucket ∷ c.place.slot ∷ c.moved ∷ c.bucket ∷ []

unfoldable pub decode_updater : List ℕ → Updater
decode_updater v =
    record {
      oid = at v 0;
      x = at v 1;
      y = at v 2;
      tag = at v 3;
      stage = stage_of (at v 4) (place_of (at v 5) (at v 6) (at v 7)) (at v 8) (at v 9);
    }

-- an update that was just started: object k, to stand at (x, y) with tag m
abbrev pub started_updater : ℕ → ℕ → ℕ → ℕ → Updater
started_updater k x y m = record { oid = k; x = x; y = y; tag = m; stage = TakeObject }

-- ---- eight lanes, one behind the other

-- the number of the stage of lane l, and whether it names one
abbrev pub stage_in : List ℕ → ℕ → ℕ
stage_in ns l = at ns (UPDATER-NUMBERS * l + STAGE-AT)

abbrev pub names_stage : List ℕ → ℕ → Bool
names_stage ns l = leb (stage_in ns l) LAST-STAGE

-- the update in lane l, and the lanes with another one there
abbrev pub updater_in : List ℕ → ℕ → Updater
updater_in ns l = decode_updater (part (UPDATER-NUMBERS * l) UPDATER-NUMBERS ns)

abbrev pub with_updater : List ℕ → ℕ → Updater → List ℕ
with_updater ns l u = sets ns (UPDATER-NUMBERS * l) (code_updater u)
