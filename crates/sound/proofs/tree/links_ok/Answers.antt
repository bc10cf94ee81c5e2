use Rattle.sound.proofs.TreeLaws.{links_by}
use Rattle.sound.proofs.tree.links_ok.Goals as goal

pub returns : goal.returns
returns c = links_by _ _ _ c.children_ok.ensures c.parent_ok.ensures
