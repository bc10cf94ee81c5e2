use borrow.Author.Rules.{rules}
use Rattle.outcome.proofs.Laws.{gives_frameless, of_parts}
use Rattle.commit.proofs.Laws.{commit_frameless}
use Rattle.goramul_contents.proofs.goramul_commit_page.Goals as goal

pub returns : goal.returns
returns c =
    of_parts (gives_frameless _ _ _ _ c.commit_page-reply.ensures.value c.code.ensures c.value.ensures (commit_frameless 4096 _ _ _ _ _))
    (search rules) (search rules) (search rules)
