-- idle_queries makes `idle_queries`, four idle lanes: the default of each field is that of an idle lane.
use mathlib.Core.Path.{◌≡◌, ap}
use mathlib.Core.List.{[], ◌∷◌}
use Rattle.regions.specs.declared.region.Kind.TheVariants.{Touching}
use Rattle.query.specs.Scan.{query_of}
use Rattle.query.specs.declared.Scan.TheVariants.{Idle}
use Rattle.query.specs.declared.Query.{Query}
use Rattle.queries.specs.Query.{idle_queries, question_of}
use Rattle.queries.proofs.lanes.idle_queries.Goals as goal

pub returns : goal.returns
unfolding idle_queries
returns c =
    let d = c.default.result in
    let u = d.question in
    let question : (u.kind ≡ Touching) × (((u.area.x0 ≡ 0) × ((u.area.y0 ≡ 0) × ((u.area.x1 ≡ 0) × (u.area.y1 ≡ 0)))) × (u.radius ≡ 0)) = c.default.ensures.0 in
    let area = question.1.0 in
    let rest : (d.stamp ≡ 0) × ((d.hits ≡ 0) × ((d.steps ≡ 0) × (d.stage ≡ Idle))) = c.default.ensures.1 in
    ap (λ (q : Query). q ∷ q ∷ q ∷ q ∷ [])
    (λ j. query_of (question_of (question.0 j) (area.0 j) (area.1.0 j) (area.1.1.0 j) (area.1.1.1 j) (question.1.1 j)) (rest.0 j) (rest.1.0 j) (rest.1.1.0 j) (rest.1.1.1 j))
