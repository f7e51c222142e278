use Rattle.frame.specs.Read.{start}
use Rattle.frame.proofs.Chains.{page_by}
use Rattle.frame.proofs.page_in.Goals as goal

pub returns : goal.returns
returns c =
    let a = c.args in
    page_by a.rest.now start c.skip_changes-changes.ensures c.skip_next_page.ensures
