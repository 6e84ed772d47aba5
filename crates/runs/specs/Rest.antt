-- A GRID AT REST: no update is under way, and every query lane is idle. A query that has finished and is not
-- collected is not at rest.
use Rattle.rest.specs.Rest.{AllIdle}
use Rattle.grid.specs.Run.{Grid}

abbrev pub AtRest : Grid → Type 0
AtRest g = AllIdle g.updaters g.queries
