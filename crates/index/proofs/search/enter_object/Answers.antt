-- enter_object does what enter_at does at the end of its search.
use Rattle.index.proofs.search.enter_object.Goals as goal

pub enter_at-requires : goal.enter_at-requires
enter_at-requires c = (c.requires, c.find_object-s.ensures)
