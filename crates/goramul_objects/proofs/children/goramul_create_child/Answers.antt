use Rattle.outcome.proofs.Laws.{gives_frameless}
use Rattle.child.proofs.Laws.{create_frameless}
use Rattle.goramul_objects.proofs.children.goramul_create_child.Goals as goal

pub returns : goal.returns
returns c =
    gives_frameless _ _ _ _ c.create_child-reply.ensures c.code.ensures c.value.ensures (create_frameless 4096 _ _ _ _ _)
