-- THE CAUSES OF EACH NUMBER that a rewind gives, in document 02's order. They are written without its definition.
use Rattle.std.specs.Prelude.{not, List, [], ◌∷◌}
use Rattle.base.specs.Numbers.{BUSY}
use Rattle.stage.specs.declared.Updater.{Updater}
use Rattle.query.specs.declared.Query.{Query}
use Rattle.tables.specs.Tables.{Tables, right_lengths}
use Rattle.calls.specs.Causes.{Cause, cause, broken}
use Rattle.rest.specs.Rest.{is_at_rest}

-- a wrong length; an update under way, or a query lane that is not idle
unfoldable pub rewind_causes : Tables → List Updater → List Query → List Cause
rewind_causes t us qs = broken (not (right_lengths t)) ∷ cause BUSY (not (is_at_rest us qs)) ∷ []
