-- What 'at rest' says of each lane, both ways.
use mathlib.Core.Path.{◌≡◌, refl}
use mathlib.Core.Bool.{true}
use mathlib.Core.List.{List}
use lib.ListN.{length, get_or}
use Rattle.std.specs.List.{list_all}
use Rattle.std.proofs.lemmas.Bool.{and_parts}
use Rattle.stage.specs.Turn.{is_idle}
use Rattle.stage.specs.declared.Stage.{Stage}
use Rattle.stage.specs.declared.Stage.TheVariants.{Idle, TakeObject, LockCell, LookLast, CopyLast, LowerCount}
use Rattle.stage.specs.declared.Stage.TheVariants.{ReturnBucket, ErasePlace, ChooseCell, MakeRoom, WriteTuple}
use Rattle.stage.specs.declared.Stage.TheVariants.{RaiseCount, SwitchPlace, DeleteOld, ReleaseObject}
use Rattle.stage.specs.declared.Updater.{Updater}
use Rattle.query.specs.declared.Scan.{Scan}
use Rattle.query.specs.declared.Scan.TheVariants.{Idle as IdleQuery, Enter, Read, Finished}
use Rattle.query.specs.declared.Query.{Query}
use Rattle.updates.specs.Update.{idle_updater}
use Rattle.queries.specs.Query.{idle_query, is_idle as isIdleQuery}
use Rattle.rest.specs.Rest.{updaters_idle, queries_idle, is_at_rest, AllIdle}
use Rattle.rest.proofs.All.{all_at, all_from, all_of_array}

idle_stage : (s : Stage) → is_idle s ≡ true → s ≡ Idle
unfolding is_idle
idle_stage Idle e = refl
idle_stage TakeObject e = cc
idle_stage (LockCell p) e = cc
idle_stage (LookLast p) e = cc
idle_stage (CopyLast p m) e = cc
idle_stage (LowerCount p m) e = cc
idle_stage (ReturnBucket p m b) e = cc
idle_stage (ErasePlace p m) e = cc
idle_stage ChooseCell e = cc
idle_stage MakeRoom e = cc
idle_stage WriteTuple e = cc
idle_stage (RaiseCount p) e = cc
idle_stage (SwitchPlace p) e = cc
idle_stage (DeleteOld p) e = cc
idle_stage ReleaseObject e = cc

idle_scan : (s : Scan) → isIdleQuery s ≡ true → s ≡ IdleQuery
unfolding isIdleQuery
idle_scan IdleQuery e = refl
idle_scan (Enter c) e = cc
idle_scan (Read c w) e = cc
idle_scan Finished e = cc

module _ (us : List Updater) (qs : List Query) where
  pub at_rest_facts : is_at_rest us qs ≡ true → AllIdle us qs
  unfolding is_at_rest updaters_idle queries_idle
  at_rest_facts e =
      let w = and_parts (updaters_idle us) (queries_idle qs) e in
      record {
        updates = λ l l<. idle_stage (get_or us l idle_updater).stage
            (all_at (λ l. is_idle (get_or us l idle_updater).stage) 8 w.0 l l<);
        queries = λ q q<. idle_scan (get_or qs q idle_query).stage
            (all_at (λ q. isIdleQuery (get_or qs q idle_query).stage) 4 w.1 q q<);
      }

  pub facts_at_rest : AllIdle us qs → is_at_rest us qs ≡ true
  unfolding is_at_rest updaters_idle queries_idle is_idle isIdleQuery
  facts_at_rest R = rw (
    all_from (λ l. is_idle (get_or us l idle_updater).stage) 8 (λ l l<. rw (R.updates l l<)),
    all_from (λ q. isIdleQuery (get_or qs q idle_query).stage) 4 (λ q q<. rw (R.queries q q<)),
  )

-- the library's test of every lane
pub updaters_all : (us : List Updater) → length us ≡ 8 → list_all (λ (u : Updater). is_idle u.stage) us ≡ updaters_idle us
unfolding updaters_idle
updaters_all us h = all_of_array (λ (u : Updater). is_idle u.stage) idle_updater 8 us h

pub queries_all : (qs : List Query) → length qs ≡ 4 → list_all (λ (q : Query). isIdleQuery q.stage) qs ≡ queries_idle qs
unfolding queries_idle
queries_all qs h = all_of_array (λ (q : Query). isIdleQuery q.stage) idle_query 4 qs h
