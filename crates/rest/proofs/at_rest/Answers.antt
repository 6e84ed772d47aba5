-- at_rest answers `is_at_rest`: what each chain gives is the library's test of every element.
use Rattle.std.proofs.Common.{◌≡◌, sym, ◌∙◌, rules, tests, arith}
use Rattle.std.proofs.lemmas.Iterator.{YieldsList-from_slice}
use Rattle.std.proofs.lemmas.Iterator.Search.{all_from_yields_List}
use Rattle.stage.specs.Turn.{is_idle}
use Rattle.stage.specs.declared.Updater.{Updater}
use Rattle.query.specs.declared.Query.{Query}
use Rattle.queries.specs.Query.{is_idle as isIdleQuery}
use Rattle.rest.specs.Rest.{is_at_rest, updaters_idle}
use Rattle.rest.proofs.Facts.{updaters_all, queries_all}
use Rattle.rest.proofs.at_rest.Goals as goal

pub returns-else-all : goal.returns-else-all
unfolding is_at_rest is_idle
returns-else-all c =
    let us = all_from_yields_List (λ (u : Updater). is_idle u.stage) _ _ c.all.result c.all.ensures.ran
    (YieldsList-from_slice c.args.lanes.updaters cc) (λ x b q k. search (rules, tests)) in
    let no : updaters_idle c.args.lanes.updaters ≡ c.all.result = sym (us ∙ updaters_all c.args.lanes.updaters (omega arith)) in
    rw (no, c.if-all.false)

pub returns-then-all : goal.returns-then-all
unfolding is_at_rest is_idle isIdleQuery
returns-then-all c =
    let us = all_from_yields_List (λ (u : Updater). is_idle u.stage) _ _ c.all.result c.all.ensures.ran
    (YieldsList-from_slice c.args.lanes.updaters cc) (λ x b q k. search (rules, tests)) in
    let qs = all_from_yields_List (λ (q : Query). isIdleQuery q.stage) _ _ c.all-then-all.result c.all-then-all.ensures.ran
    (YieldsList-from_slice c.args.lanes.queries cc) (λ x b q k. search (rules, tests)) in
    let yes : updaters_idle c.args.lanes.updaters ≡ c.all.result = sym (us ∙ updaters_all c.args.lanes.updaters (omega arith)) in
    rw (yes, c.if-all.true) (qs ∙ queries_all c.args.lanes.queries (omega arith))
