use mathlib.Core.Path.{refl}
use Rattle.risk_class.specs.ClassTable.{class_at}
use Rattle.risk_class.proofs.class_table.Column.floor.Goals as goal

-- `Column::floor` meets its contract.

pub returns : goal.returns
unfolding class_at
returns c = refl
