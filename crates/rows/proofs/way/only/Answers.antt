-- `rows::way::only` meets its contract.
use Rattle.rows.proofs.Ways.{of_one}
use Rattle.rows.proofs.way.only.Goals as goal

pub returns-clause-leads : goal.returns-clause-leads
returns-clause-leads g c = λ row from o. of_one _ _ row _ _ _ _ _ _ _ _ c.start.ensures.0 o c.weigh-held.ensures c.settle.ensures
