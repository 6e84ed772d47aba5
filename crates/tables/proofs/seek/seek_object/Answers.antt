-- seek_object searches the objects of the index.
use Rattle.std.proofs.Common.{rules}
use Rattle.tables.proofs.Entries.{seeks}
use Rattle.tables.proofs.seek.seek_object.Goals as goal

pub returns : goal.returns
returns c ts =
    seeks c.args.words.now ts (search rules) _ _ c.find_object.ensures
