-- `rows::way::of_two` meets its contract.
use Rattle.rows.proofs.Ways.{of_two}
use Rattle.rows.proofs.way.of_two.Goals as goal

pub returns-clause-leads : goal.returns-clause-leads
returns-clause-leads g c = λ row f o. of_two _ _ row _ _ _ _ _ _ _ _ _ _ _ c.start.ensures.0 o c.weigh-one.ensures c.weigh-both.ensures c.settle.ensures
