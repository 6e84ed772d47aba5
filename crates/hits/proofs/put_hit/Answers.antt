-- put_hit writes over the four columns of the list: the law of Putting.antt.
use Rattle.hits.proofs.Putting.{put_all}
use Rattle.hits.proofs.put_hit.Goals as goal

pub returns : goal.returns
returns c = put_all c.args.list.now c.requires.0 c.args.at c.requires.1 c.args.t
